use Rattle.objtool_run.proofs.Endings.{ends_told}
use Rattle.objtool_run.proofs.program.run.Goals as goal

pub returns-in-Err-clause-ends : goal.returns-in-Err-clause-ends
returns-in-Err-clause-ends g c =
    rw c.code.ensures (ends_told _ (g.H.Host.outside c.args.host.now) (g.H.Host.outside c.work.new.host) (g.H.Host.outside c.write_fault_text.new.host) _ c.in-Err.ensures.ends c.write_fault_text.ensures.others)
