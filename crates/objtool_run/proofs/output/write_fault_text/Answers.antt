use Rattle.std.proofs.Common.{arith}
use Rattle.std.proofs.lemmas.Grind.{common_steps}
use Rattle.objtool_run.proofs.Taking.{appends_further, changes_errors_again}
use Rattle.objtool_run.proofs.output.write_fault_text.Goals as goal

pub loop-done-preserved : goal.loop-done-preserved
loop-done-preserved g c = record {
  written = appends_further _ _ _ _ _ _ c.loop-done.invariant.written c.in_ok-n.ensures.taken;
  others = changes_errors_again _ _ _ c.loop-done.invariant.others c.write_err.ensures.others;
  bound = grind (arith, common_steps, c.in_ok-n.ensures.count);
}

pub returns-clause-ok : goal.returns-clause-ok
returns-clause-ok g c = grind (arith, common_steps)
