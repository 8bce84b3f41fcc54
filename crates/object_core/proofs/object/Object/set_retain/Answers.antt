use Rattle.std.proofs.Common.{ap, refl, arith}
use Rattle.object_core.specs.Object.{ObjectData}
use Rattle.object_core.specs.Appending.{retained}
use Rattle.object_core.specs.contracts.object.Object.{the_view}
use Rattle.object_core.proofs.ObjectNames.{section_here, found_is, set_section, names_set_section}
use Rattle.object_core.proofs.Sections.{sound_retained, changed_section}
use Rattle.object_core.proofs.Standards.{kept_set}
use Rattle.object_core.proofs.object.Object.set_retain.Goals as goal

pub index_mut-requires : goal.index_mut-requires
index_mut-requires c = omega (arith, (section_here _ _ _ _ _ c.self.invariant.names _ _ _ (ap (λ (o : ObjectData). o.sections) c.self.view_is) c.as_number.ensures c.requires), c.self.inside.sections.ok.0)

pub returns : goal.returns
returns c =
    let below = (section_here _ _ _ _ _ c.self.invariant.names _ _ _ (ap (λ (o : ObjectData). o.sections) c.self.view_is) c.as_number.ensures c.requires) in
    let at = found_is _ _ _ _ _ c.self.invariant.names _ _ below c.index_mut.ensures.value in
    rw (set_section _ _ _ _ _ c.self.invariant.names retained _ _ _ (λ segment name b. refl) below c.index_mut.ensures.value c.set_retain.ensures) (changed_section (the_view c.self.inside) _ retained _ _ _ _ c.self.view_is c.as_number.ensures refl at)

pub invariant_of-self : goal.invariant_of-self
invariant_of-self c =
    let below = (section_here _ _ _ _ _ c.self.invariant.names _ _ _ (ap (λ (o : ObjectData). o.sections) c.self.view_is) c.as_number.ensures c.requires) in
    let at = found_is _ _ _ _ _ c.self.invariant.names _ _ below c.index_mut.ensures.value in
    record {
      kept = rw (set_section _ _ _ _ _ c.self.invariant.names retained _ _ _ (λ segment name b. refl) below c.index_mut.ensures.value c.set_retain.ensures) (record {
        sound = sound_retained (the_view c.self.inside) _ _ _ _ _ c.self.invariant.kept.sound c.self.view_is c.as_number.ensures c.requires at refl;
        standards = kept_set _ (the_view c.self.inside).sections _ _ _ c.self.invariant.kept.standards at refl;
      });
      names = names_set_section _ _ _ _ _ c.self.invariant.names _ _;
    }
