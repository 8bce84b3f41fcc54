use Rattle.std.proofs.Common.{ap, ◌∙◌, Err}
use Rattle.std.proofs.lemmas.Result.{err_from_is_err_and}
use Rattle.object_core.proofs.Judged.{judged_err, judged_memory, judged_ok}
use Rattle.object_macho.proofs.emit.emit_macho.Goals as goal

pub returns-in_err-plan-clause-cause : goal.returns-in_err-plan-clause-cause
returns-in_err-plan-clause-cause c =
    let p = err_from_is_err_and c.from_residual.result c.from_residual.ensures.1 in
    judged_err _ c.in_err-plan.field-0.0 _ (p.1 ∙ ap (λ e. Err e) p.2) c.in_err-plan.ensures.cause

pub returns-in_err-file-clause-cause : goal.returns-in_err-file-clause-cause
returns-in_err-file-clause-cause c =
    let p = err_from_is_err_and c.from_residual-in_err-file.result c.from_residual-in_err-file.ensures.1 in
    judged_memory _ p.0 _ p.1 p.2 c.in_ok-plan.ensures.cause.ok

pub returns-clause-cause : goal.returns-clause-cause
returns-clause-cause c = judged_ok _ _ c.in_ok-plan.ensures.cause.ok
