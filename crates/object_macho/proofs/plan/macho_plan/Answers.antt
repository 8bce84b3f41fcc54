use Rattle.std.proofs.Common.{ap, ◌∙◌, Err}
use Rattle.std.proofs.lemmas.Result.{err_from_is_err_and}
use Rattle.object_macho.specs.PlainCounts.{plain_counts}
use Rattle.object_core.proofs.Judged.{judged_err, judged_memory, judged_ok}
use Rattle.object_macho.proofs.Judging.{within_limits, judged_as}
use Rattle.object_macho.proofs.Counting.{counts_are}
use Rattle.object_macho.proofs.plan.macho_plan.Goals as goal

pub counted_plan-requires : goal.counted_plan-requires
counted_plan-requires c = within_limits (plain_counts c.args.object.now) c.in_ok-check_limits.ensures.judged.ok

pub returns-in_err-check_limits-clause-cause : goal.returns-in_err-check_limits-clause-cause
returns-in_err-check_limits-clause-cause c =
    let p = err_from_is_err_and c.from_residual.result c.from_residual.ensures.1 in
    judged_as _ c.args.object.now (judged_err _ c.in_err-check_limits.field-0.0 _ (p.1 ∙ ap (λ e. Err e) p.2) c.in_err-check_limits.ensures.judged)

pub returns-in_err-plan-clause-cause : goal.returns-in_err-plan-clause-cause
returns-in_err-plan-clause-cause c =
    let p = err_from_is_err_and c.from_residual-in_err-plan.result c.from_residual-in_err-plan.ensures.1 in
    judged_as _ c.args.object.now (judged_memory _ p.0 _ p.1 p.2 c.in_ok-check_limits.ensures.judged.ok)

pub returns-clause-ok : goal.returns-clause-ok
returns-clause-ok c =
    let limits = within_limits (plain_counts c.args.object.now) c.in_ok-check_limits.ensures.judged.ok in
    record { limits = rw (counts_are c.args.object.now) at limits; numbers = c.in_ok-plan.ensures }

pub returns-clause-cause : goal.returns-clause-cause
returns-clause-cause c = judged_as _ c.args.object.now (judged_ok _ _ c.in_ok-check_limits.ensures.judged.ok)
