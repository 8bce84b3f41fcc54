use Rattle.fat_macho.proofs.LaysLaws.{gap_puts, gap_fails, gap_front}
use Rattle.fat_macho.proofs.PutLaws.{on_err}
use Rattle.fat_macho.proofs.filing.write_next.Goals as goal

pub returns-in_err-write_zeros-clause-front : goal.returns-in_err-write_zeros-clause-front
returns-in_err-write_zeros-clause-front g c = on_err _ _ (gap_fails _ c.args.align c.args.end c.step_behind-step.result.offset _ _ c.step_behind-step.ensures.offset c.in_err-write_zeros.ensures.front)

pub returns-in_err-write_slice-clause-front : goal.returns-in_err-write_slice-clause-front
returns-in_err-write_slice-clause-front g c =
    on_err _ _ (gap_front _ c.args.align c.args.end c.step_behind-step.result.offset _ _ _ c.step_behind-step.ensures.offset c.in_ok-write_zeros.ensures.ok c.in_err-write_slice.ensures.front)

pub returns-clause-ok : goal.returns-clause-ok
returns-clause-ok g c = gap_puts _ c.args.align c.args.end c.step_behind-step.result.offset _ _ _ c.step_behind-step.ensures.offset c.in_ok-write_zeros.ensures.ok c.in_ok-write_slice.ensures.ok
