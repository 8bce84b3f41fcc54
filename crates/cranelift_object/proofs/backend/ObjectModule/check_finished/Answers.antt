use Rattle.std.proofs.Common.{◌∙◌}
use Rattle.cranelift_object.proofs.CallLaws.{tells_first, option_or_first}
use Rattle.cranelift_object.proofs.FinishLaws.{end_parts}
use Rattle.cranelift_object.proofs.backend.ObjectModule.check_finished.Goals as goal

pub returns-in-Err-clause-cause : goal.returns-in-Err-clause-cause
returns-in-Err-clause-cause c = rw (end_parts c.args.self.now.state) (tells_first c.in-Err.error _ _ c.in-Err.ensures.cause)

pub returns-in-Err-check_objects-clause-cause : goal.returns-in-Err-check_objects-clause-cause
returns-in-Err-check_objects-clause-cause c =
    rw (end_parts c.args.self.now.state ∙ option_or_first _ _ c.in_default.ensures.none) (tells_first c.in-Err-check_objects.error _ _ c.in-Err-check_objects.ensures.cause)

pub returns-clause-none : goal.returns-clause-none
returns-clause-none c = rw (end_parts c.args.self.now.state ∙ option_or_first _ _ c.in_default.ensures.none ∙ option_or_first _ _ c.in_default-check_objects.ensures.none) c.check_references.ensures.none

pub returns-clause-cause : goal.returns-clause-cause
returns-clause-cause c = rw (end_parts c.args.self.now.state ∙ option_or_first _ _ c.in_default.ensures.none ∙ option_or_first _ _ c.in_default-check_objects.ensures.none) c.check_references.ensures.cause
