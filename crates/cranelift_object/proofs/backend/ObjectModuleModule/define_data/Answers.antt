use Rattle.std.proofs.Common.{◌≡◌, ◌<◌, ◌++◌, ◌∷◌, [], false, length, get_or, Option, None, ap, sym, subst, ◌∙◌, refl, arith}
use Rattle.std.specs.Prelude.{unwrap_or}
use Rattle.ir_core.specs.Target.{Target}
use Rattle.ir_core.specs.declared.target.Triple.{Triple}
use Rattle.cranelift_module.specs.Call.{Contents, bytes}
use Rattle.cranelift_module.specs.Refusal.{bad_reloc_from, bytes_in, is_defined}
use Rattle.cranelift_module.specs.declared.identifiers.FuncOrDataId.TheVariants.{Data}
use Rattle.cranelift_object.specs.Opened.{OpenModule}
use Rattle.cranelift_object.specs.Kept.{HasPlaceIn}
use Rattle.cranelift_object.proofs.KeptLaws.{kept_body_data}
use Rattle.cranelift_object.proofs.CallLaws.{refused_call, accepted_call, data_cause, tells_first, tells_second, both_none, step_data, data_body, data_declared, data_free, described_range, described_placed, judged_in_hand}
use Rattle.cranelift_object.proofs.backend.ObjectModuleModule.define_data.Goals as goal

pub returns-in-Err-clause-call : goal.returns-in-Err-clause-call
returns-in-Err-clause-call c =
    let format = ap (λ (t : Triple). t.binary_format) c.triple.ensures ∙ ap (λ (t : Target). t.triple.binary_format) (c.isa.ensures ∙ ap (λ (o : OpenModule). o.state.target) c.self.view_is) in
    let objects = ap (λ (o : OpenModule). o.state.objects) c.self.view_is in
    let cause = data_cause c.args.self.now.state c.args.data_id c.args.desc.now c.is_object_defined-defined.result c.self.inside.declarations.objects c.args.self.now.state.target c.triple.result.now.binary_format c.is_object_defined-defined.ensures objects refl format in
    refused_call c.in-Err.error _ _ _ (rw cause (tells_first c.in-Err.error _ _ c.in-Err.ensures.refused)) refl

pub pointers_of-requires : goal.pointers_of-requires
pointers_of-requires c = described_range c.triple.result.now.binary_format c.is_object_defined-defined.result c.args.data_id c.args.desc.now c.self.inside.declarations.objects c.in_default.ensures.accepted

pub returns-in-Err-check_relocs-clause-call : goal.returns-in-Err-check_relocs-clause-call
returns-in-Err-check_relocs-clause-call c =
    let format = ap (λ (t : Triple). t.binary_format) c.triple.ensures ∙ ap (λ (t : Target). t.triple.binary_format) (c.isa.ensures ∙ ap (λ (o : OpenModule). o.state.target) c.self.view_is) in
    let objects = ap (λ (o : OpenModule). o.state.objects) c.self.view_is in
    let target : c.isa-2.result.now ≡ c.args.self.now.state.target = c.isa-2.ensures ∙ ap (λ (o : OpenModule). o.state.target) c.self.view_is in
    let cause = data_cause c.args.self.now.state c.args.data_id c.args.desc.now c.is_object_defined-defined.result c.self.inside.declarations.objects c.isa-2.result.now c.triple.result.now.binary_format c.is_object_defined-defined.ensures objects target format in
    let hand = judged_in_hand c.isa-2.result.now c.args.desc.now c.bytes_in.result c.deref.result.now (c.bytes_in.ensures ∙ ap (λ (o : Option Contents). bytes_in (unwrap_or o (bytes []))) c.init.ensures) (c.deref.ensures.value ∙ c.in_ok-relocs.ensures) in
    refused_call c.in-Err-check_relocs.error _ _ _ (rw (cause, ← hand) (tells_second c.in-Err-check_relocs.error _ _ c.in_default.ensures.accepted c.in-Err-check_relocs.ensures.refused)) refl

pub index_mut-requires : goal.index_mut-requires
index_mut-requires c =
    let below : c.args.data_id < length c.self.inside.declarations.objects = data_declared c.triple.result.now.binary_format c.is_object_defined-defined.result c.args.data_id c.args.desc.now c.self.inside.declarations.objects c.in_default.ensures.accepted in
    let marked : length c.self.inside.defined_objects.items ≡ length c.self.inside.declarations.objects = c.self.invariant.marked_objects in
    omega (arith, c.as_u32.ensures, below, marked, c.self.inside.defined_objects.ok.0)

pub invariant_of-self-2 : goal.invariant_of-self-2
invariant_of-self-2 c =
    let accepted = c.in_default.ensures.accepted in
    let below = data_declared c.triple.result.now.binary_format c.is_object_defined-defined.result c.args.data_id c.args.desc.now c.self.inside.declarations.objects accepted in
    let free = data_free c.triple.result.now.binary_format c.is_object_defined-defined.result c.args.data_id c.args.desc.now c.self.inside.declarations.objects accepted in
    let marks : get_or c.self.inside.defined_objects.items c.args.data_id false ≡ false =
    c.self.invariant.marking_objects c.args.data_id ∙ ap (λ (o : OpenModule). is_defined o.state (Data c.args.data_id)) c.self.view_is ∙ sym c.is_object_defined-defined.ensures ∙ free
    in
    let hand = judged_in_hand c.self.inside.builder.target c.args.desc.now c.bytes_in.result c.deref.result.now (c.bytes_in.ensures ∙ ap (λ (o : Option Contents). bytes_in (unwrap_or o (bytes []))) c.init.ensures) (c.deref.ensures.value ∙ c.in_ok-relocs.ensures) in
    let judged = sym hand ∙ subst (λ (t : Target). bad_reloc_from t c.bytes_in.result [] c.deref.result.now ≡ None) c.isa-2.ensures c.in_default-check_relocs.ensures.accepted in
    let format : c.triple.result.now.binary_format ≡ c.self.inside.builder.target.triple.binary_format = ap (λ (t : Triple). t.binary_format) c.triple.ensures ∙ ap (λ (t : Target). t.triple.binary_format) c.isa.ensures in
    let place = subst (λ f. HasPlaceIn f c.self.inside.declarations.objects (Data c.args.data_id)) format (described_placed c.triple.result.now.binary_format c.is_object_defined-defined.result c.args.data_id c.args.desc.now c.self.inside.declarations.objects accepted) in
    let body =
    data_body c.self.inside.builder.target (length c.self.inside.declarations.functions) (length c.self.inside.declarations.objects) c.args.data_id c.args.desc.now c.triple.result.now.binary_format c.is_object_defined-defined.result c.self.inside.declarations.objects c.args.self.now.state.objects c.in_ok-definition.definition format
    (c.in_ok-definition.ensures.value c.args.self.now.state.objects (sym c.is_writable-writable.ensures)) accepted below judged c.in_ok-definition.ensures.sized
    in
    kept_body_data _ _ c.in_ok-definition.definition c.push.new.self.items c.args.data_id c.as_u32.result c.self.invariant body.0 place body.1 below marks c.in_ok-push.ensures.items c.as_u32.ensures

pub returns-clause-call : goal.returns-clause-call
returns-clause-call c =
    let format = ap (λ (t : Triple). t.binary_format) c.triple.ensures ∙ ap (λ (t : Target). t.triple.binary_format) (c.isa.ensures ∙ ap (λ (o : OpenModule). o.state.target) c.self.view_is) in
    let objects = ap (λ (o : OpenModule). o.state.objects) c.self.view_is in
    let target = ap (λ (o : OpenModule). o.state.target) c.self.view_is in
    let cause = data_cause c.args.self.now.state c.args.data_id c.args.desc.now c.is_object_defined-defined.result c.self.inside.declarations.objects c.isa-2.result.now c.triple.result.now.binary_format c.is_object_defined-defined.ensures objects (c.isa-2.ensures ∙ target) format in
    let hand = judged_in_hand c.isa-2.result.now c.args.desc.now c.bytes_in.result c.deref.result.now (c.bytes_in.ensures ∙ ap (λ (o : Option Contents). bytes_in (unwrap_or o (bytes []))) c.init.ensures) (c.deref.ensures.value ∙ c.in_ok-relocs.ensures) in
    let made = c.in_ok-push.ensures.items ∙ ap (λ (o : OpenModule). o.state.definitions ++ c.in_ok-definition.definition ∷ []) c.self.view_is in
    accepted_call _ _ _ _ (cause ∙ both_none _ _ c.in_default.ensures.accepted (sym hand ∙ c.in_default-check_relocs.ensures.accepted))
    (step_data c.args.self.now.state c.args.data_id c.args.desc.now c.in_ok-definition.definition c.push.new.self.items c.self.inside.builder.target c.self.inside.declarations.functions c.self.inside.declarations.objects c.self.inside.created.items
    (c.in_ok-definition.ensures.value c.args.self.now.state.objects (sym c.is_writable-writable.ensures)) made target (ap (λ (o : OpenModule). o.state.functions) c.self.view_is) objects (ap (λ (o : OpenModule). o.state.created) c.self.view_is))
