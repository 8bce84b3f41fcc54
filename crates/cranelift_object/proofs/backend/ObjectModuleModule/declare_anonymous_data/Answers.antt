use Rattle.std.proofs.Common.{◌<◌, None, length, subst, sym}
use Rattle.cranelift_module.specs.declared.linkage.Linkage.TheVariants.{Local}
use Rattle.cranelift_object.specs.Opened.{OpenModule}
use Rattle.cranelift_object.proofs.KeptLaws.{kept_more_data}
use Rattle.cranelift_object.proofs.backend.ObjectModuleModule.declare_anonymous_data.Goals as goal

pub invariant_of-self-2 : goal.invariant_of-self-2
invariant_of-self-2 c =
    let few = subst (λ (o : OpenModule). length o.state.objects < 4294967295) (sym c.self.view_is) c.requires in
    kept_more_data _ _ _ (record { name = None; linkage = Local; writable = c.args.writable; tls = c.args.tls }) _ _ _ c.self.invariant tt few c.in_ok-id.ensures.declared c.in_ok-id.ensures.id (rw (← c.reserve.ensures.items) c.note.ensures.created) (rw (← c.reserve-2.ensures.items) c.note.ensures.defined)
