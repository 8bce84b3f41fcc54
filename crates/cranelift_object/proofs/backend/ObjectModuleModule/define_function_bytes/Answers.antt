use Rattle.std.proofs.Common.{◌≡◌, ◌<◌, ◌++◌, ◌∷◌, [], false, length, get_or, Some, None, ap, sym, subst, ◌∙◌, refl, arith}
use Rattle.ir_core.specs.Target.{Target}
use Rattle.cranelift_module.specs.Refusal.{bad_reloc_from, is_defined}
use Rattle.cranelift_module.specs.declared.identifiers.FuncOrDataId.TheVariants.{Func}
use Rattle.cranelift_object.specs.Opened.{OpenModule}
use Rattle.cranelift_object.proofs.KeptLaws.{kept_body}
use Rattle.cranelift_object.proofs.CallLaws.{refused_call, accepted_call, function_cause, tells_first, tells_second, both_none, step_function, function_body, definable_declared, definable_free, definable_aligned}
use Rattle.cranelift_object.proofs.backend.ObjectModuleModule.define_function_bytes.Goals as goal

pub returns-in-Err-clause-call : goal.returns-in-Err-clause-call
returns-in-Err-clause-call c =
    let functions = ap (λ (o : OpenModule). o.state.functions) c.self.view_is in
    let cause = function_cause c.args.self.now.state c.args.func_id c.args.alignment c.args.bytes.now c.args.relocs.now c.is_defined-defined.result c.self.inside.declarations.functions c.args.self.now.state.target c.is_defined-defined.ensures functions refl in
    refused_call c.in-Err.error _ _ _ (rw cause (tells_first c.in-Err.error _ _ c.in-Err.ensures.refused)) refl

pub returns-in-Err-check_relocs-clause-call : goal.returns-in-Err-check_relocs-clause-call
returns-in-Err-check_relocs-clause-call c =
    let functions = ap (λ (o : OpenModule). o.state.functions) c.self.view_is in
    let target : c.isa.result.now ≡ c.args.self.now.state.target = c.isa.ensures ∙ ap (λ (o : OpenModule). o.state.target) c.self.view_is in
    let cause = function_cause c.args.self.now.state c.args.func_id c.args.alignment c.args.bytes.now c.args.relocs.now c.is_defined-defined.result c.self.inside.declarations.functions c.isa.result.now c.is_defined-defined.ensures functions target in
    refused_call c.in-Err-check_relocs.error _ _ _ (rw cause (tells_second c.in-Err-check_relocs.error _ _ c.in_default.ensures.accepted c.in-Err-check_relocs.ensures.refused)) refl

pub index_mut-requires : goal.index_mut-requires
index_mut-requires c =
    let below : c.args.func_id < length c.self.inside.declarations.functions = definable_declared _ _ _ _ c.in_default.ensures.accepted in
    let marked : length c.self.inside.defined.items ≡ length c.self.inside.declarations.functions = c.self.invariant.marked in
    omega (arith, c.as_u32.ensures, below, marked, c.self.inside.defined.ok.0)

pub invariant_of-self-2 : goal.invariant_of-self-2
invariant_of-self-2 c =
    let accepted = c.in_default.ensures.accepted in
    let below = definable_declared c.is_defined-defined.result c.args.func_id c.args.alignment c.self.inside.declarations.functions accepted in
    let free = definable_free c.is_defined-defined.result c.args.func_id c.args.alignment c.self.inside.declarations.functions accepted in
    let good = definable_aligned c.is_defined-defined.result c.args.func_id c.args.alignment c.self.inside.declarations.functions accepted in
    let marks : get_or c.self.inside.defined.items c.args.func_id false ≡ false =
    c.self.invariant.marking c.args.func_id ∙ ap (λ (o : OpenModule). is_defined o.state (Func c.args.func_id)) c.self.view_is ∙ sym c.is_defined-defined.ensures ∙ free
    in
    let judged = subst (λ (t : Target). bad_reloc_from t (Some (length c.args.bytes.now)) [] c.args.relocs.now ≡ None) c.isa.ensures c.in_default-check_relocs.ensures.accepted in
    let body =
    function_body c.self.inside.builder.target (length c.self.inside.declarations.functions) (length c.self.inside.declarations.objects) c.args.func_id c.args.alignment c.args.bytes.now c.args.relocs.now [] c.in_ok-definition.definition (c.in_ok-definition.ensures.value [])
    below good judged c.in_ok-definition.ensures.sized
    in
    kept_body _ _ c.in_ok-definition.definition c.push.new.self.items c.args.func_id c.as_u32.result c.self.invariant body.0 body.1 below marks c.in_ok-push.ensures.items c.as_u32.ensures

pub returns-clause-call : goal.returns-clause-call
returns-clause-call c =
    let functions = ap (λ (o : OpenModule). o.state.functions) c.self.view_is in
    let target = ap (λ (o : OpenModule). o.state.target) c.self.view_is in
    let cause =
    function_cause c.args.self.now.state c.args.func_id c.args.alignment c.args.bytes.now c.args.relocs.now c.is_defined-defined.result c.self.inside.declarations.functions c.isa.result.now c.is_defined-defined.ensures functions (c.isa.ensures ∙ target)
    in
    let made = c.in_ok-push.ensures.items ∙ ap (λ (o : OpenModule). o.state.definitions ++ c.in_ok-definition.definition ∷ []) c.self.view_is in
    accepted_call _ _ _ _ (cause ∙ both_none _ _ c.in_default.ensures.accepted c.in_default-check_relocs.ensures.accepted)
    (step_function c.args.self.now.state c.args.func_id c.args.alignment c.args.bytes.now c.args.relocs.now c.in_ok-definition.definition c.push.new.self.items c.self.inside.builder.target c.self.inside.declarations.functions c.self.inside.declarations.objects c.self.inside.created.items
    (c.in_ok-definition.ensures.value c.args.self.now.state.objects) made target functions (ap (λ (o : OpenModule). o.state.objects) c.self.view_is) (ap (λ (o : OpenModule). o.state.created) c.self.view_is))
