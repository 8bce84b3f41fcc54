use Rattle.std.proofs.Common.{◌≡◌, ◌<◌, get_or, length, ap, sym, ◌∙◌, arith}
use Rattle.cranelift_module.specs.Definitions.{Definition}
use Rattle.cranelift_object.specs.Opened.{OpenModule}
use Rattle.cranelift_object.specs.EndCause.{first_bad_target}
use Rattle.cranelift_object.proofs.CallLaws.{tells_first, option_or_first}
use Rattle.cranelift_object.proofs.FinishLaws.{references_step}
use Rattle.cranelift_object.proofs.backend.ObjectModule.check_references.Goals as goal

pub loop-number-preserved : goal.loop-number-preserved
loop-number-preserved c =
    let d : Definition = c.index.result.now in
    let count = ap (λ (o : OpenModule). length o.state.definitions) c.self.view_is in
    let below : c.loop-number.number < length c.args.self.now.state.definitions = omega (arith, c.loop-number-test.true, c.len-number-end.ensures, c.self.inside.definitions.ok.0, count) in
    let at : d ≡ get_or c.args.self.now.state.definitions c.loop-number.number d = c.index.ensures ∙ ap (λ (o : OpenModule). get_or o.state.definitions c.loop-number.number d) c.self.view_is in
    let none = ap (first_bad_target c.args.self.now.state) c.relocs.ensures in
    c.loop-number.invariant ∙ references_step c.args.self.now.state c.args.self.now.state.definitions c.loop-number.number d below at ∙ option_or_first _ _ (sym none ∙ c.in_default.ensures.none)

pub returns-in-Err-clause-cause : goal.returns-in-Err-clause-cause
returns-in-Err-clause-cause c =
    let d : Definition = c.index.result.now in
    let count = ap (λ (o : OpenModule). length o.state.definitions) c.self.view_is in
    let below : c.loop-number.number < length c.args.self.now.state.definitions = omega (arith, c.loop-number-test.true, c.len-number-end.ensures, c.self.inside.definitions.ok.0, count) in
    let at : d ≡ get_or c.args.self.now.state.definitions c.loop-number.number d = c.index.ensures ∙ ap (λ (o : OpenModule). get_or o.state.definitions c.loop-number.number d) c.self.view_is in
    rw (c.loop-number.invariant ∙ references_step c.args.self.now.state c.args.self.now.state.definitions c.loop-number.number d below at) (tells_first c.in-Err.error (first_bad_target c.args.self.now.state d.relocs) _ (rw (← c.relocs.ensures) c.in-Err.ensures.cause))
