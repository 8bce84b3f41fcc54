use Rattle.std.proofs.Common.{◌≡◌, ◌<◌, None, length, ap, subst, sym, ◌∙◌, refl}
use Rattle.cranelift_module.specs.Refusal.{zero_byte}
use Rattle.cranelift_object.specs.Opened.{OpenModule}
use Rattle.cranelift_object.specs.contracts.backend.ObjectModule.{the_view}
use Rattle.cranelift_object.proofs.CallLaws.{refused_call, accepted_call, refusal_name, refusal_declared}
use Rattle.cranelift_object.proofs.DeclareLaws.{declare_noted, step_noted}
use Rattle.cranelift_object.proofs.backend.ObjectModuleModule.declare_function.Goals as goal

pub returns-in-Err-clause-call : goal.returns-in-Err-clause-call
returns-in-Err-clause-call c =
    refused_call c.in-Err.error _ _ _ (refusal_name c.args.self.now.state c.args.name.now c.args.linkage c.args.signature.now c.in-Err.error (rw (← c.as_bytes.ensures.value) c.in-Err.ensures.refused)) refl

pub invariant_of-self-2 : goal.invariant_of-self-2
invariant_of-self-2 c =
    let few = subst (λ (o : OpenModule). length o.state.functions < 4294967295) (sym c.self.view_is) c.requires in
    let free : zero_byte c.args.name.now ≡ None = rw (← c.as_bytes.ensures.value) c.in_default.ensures.accepted in
    declare_noted _ _ _ _ _ c.args.name.now c.args.linkage c.args.signature.now c.in-Ok.declared.0 c.self.invariant free few c.in-Ok.ensures.declared c.in-Ok.ensures.id (rw (← c.reserve.ensures.items, ← c.reserve-2.ensures.items) (λ e. c.note_new.ensures.new (c.as_u32.ensures ∙ e)))
    (rw (← c.reserve.ensures.items, ← c.reserve-2.ensures.items) (λ n. c.note_new.ensures.known (λ e. n (sym c.as_u32.ensures ∙ e))))

pub returns-clause-call : goal.returns-clause-call
returns-clause-call c =
    let free : zero_byte c.args.name.now ≡ None = rw (← c.as_bytes.ensures.value) c.in_default.ensures.accepted in
    let same = ap (λ (o : OpenModule). o.state) c.self.view_is in
    accepted_call c.in-Ok.declared.0 _ _ _
    (refusal_declared c.args.self.now.state c.args.name.now c.args.linkage c.args.signature.now c.self.inside.declarations.functions c.self.inside.declarations.objects free (ap (λ (o : OpenModule). o.state.functions) c.self.view_is) (ap (λ (o : OpenModule). o.state.objects) c.self.view_is) ∙ c.in-Ok.ensures.accepted)
    (step_noted (the_view c.self.inside) c.self.inside.defined.items c.note_new.new.defined.items c.args.self.now.state c.declare_function.new.self c.note_new.new.created.items c.args.name.now c.args.linkage c.args.signature.now c.in-Ok.declared.0 same c.self.invariant.marked c.in-Ok.ensures.declared c.in-Ok.ensures.id
    (rw (← c.reserve.ensures.items, ← c.reserve-2.ensures.items) (λ e. c.note_new.ensures.new (c.as_u32.ensures ∙ e))) (rw (← c.reserve.ensures.items, ← c.reserve-2.ensures.items) (λ n. c.note_new.ensures.known (λ e. n (sym c.as_u32.ensures ∙ e)))))
