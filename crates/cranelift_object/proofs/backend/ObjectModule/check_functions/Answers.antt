use Rattle.std.proofs.Common.{◌<◌, length, ap, ◌∙◌, arith}
use Rattle.cranelift_object.specs.Opened.{OpenModule}
use Rattle.cranelift_object.specs.EndCause.{missing_function, function_missing}
use Rattle.cranelift_object.proofs.CallLaws.{tells_first, option_or_first}
use Rattle.cranelift_object.proofs.FinishLaws.{missing_step}
use Rattle.cranelift_object.proofs.backend.ObjectModule.check_functions.Goals as goal

pub returns-in-Err-clause-cause : goal.returns-in-Err-clause-cause
returns-in-Err-clause-cause c =
    let count = ap (λ (o : OpenModule). length o.state.functions) c.self.view_is in
    let below : c.loop-number.number < length c.args.self.now.state.functions = omega (arith, c.loop-number-test.true, c.len-number-end.ensures, c.self.inside.defined.ok.0, c.self.invariant.marked, count) in
    rw (c.loop-number.invariant ∙ missing_step (missing_function c.args.self.now.state) c.args.self.now.state.functions c.loop-number.number below) (tells_first c.in-Err.error (function_missing c.args.self.now.state c.loop-number.number) _ (rw (← c.from_u32.ensures) c.in-Err.ensures.cause))

pub loop-number-preserved : goal.loop-number-preserved
loop-number-preserved c =
    let count = ap (λ (o : OpenModule). length o.state.functions) c.self.view_is in
    let below : c.loop-number.number < length c.args.self.now.state.functions = omega (arith, c.loop-number-test.true, c.len-number-end.ensures, c.self.inside.defined.ok.0, c.self.invariant.marked, count) in
    c.loop-number.invariant ∙ missing_step (missing_function c.args.self.now.state) c.args.self.now.state.functions c.loop-number.number below ∙ option_or_first (function_missing c.args.self.now.state c.loop-number.number) _ (rw (← c.from_u32.ensures) c.in_default.ensures.none)
