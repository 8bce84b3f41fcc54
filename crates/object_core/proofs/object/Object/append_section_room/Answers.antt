use Rattle.std.proofs.Common.{ap, refl, sym, ◌∙◌, ◌+◌, ℕ, arith}
use Rattle.object_core.specs.Object.{ObjectData}
use Rattle.object_core.specs.Appending.{with_room}
use Rattle.object_core.specs.contracts.object.Object.{the_view}
use Rattle.object_core.proofs.ObjectNames.{section_here, found_is, set_section, names_set_section}
use Rattle.object_core.proofs.Sections.{mapped_within, size_below, offset_below, sound_room, added_room}
use Rattle.object_core.proofs.Standards.{kept_set}
use Rattle.object_core.proofs.object.Object.append_section_room.Goals as goal

pub index_mut-requires : goal.index_mut-requires
index_mut-requires c = omega (arith, (section_here _ _ _ _ _ c.self.invariant.names _ _ _ (ap (λ (o : ObjectData). o.sections) c.self.view_is) c.as_number.ensures (mapped_within _ _ _ _ c.requires.section)), c.self.inside.sections.ok.0)

pub append_room-offset-requires-clause-size : goal.append_room-offset-requires-clause-size
append_room-offset-requires-clause-size c = size_below (the_view c.self.inside) _ _ _ _ _ _ c.self.invariant.kept.sound c.self.view_is c.as_number.ensures c.requires.section c.requires.sum (found_is _ _ _ _ _ c.self.invariant.names _ _ (section_here _ _ _ _ _ c.self.invariant.names _ _ _ (ap (λ (o : ObjectData). o.sections) c.self.view_is) c.as_number.ensures (mapped_within _ _ _ _ c.requires.section)) c.index_mut.ensures.value)

pub invariant_of-self : goal.invariant_of-self
invariant_of-self c =
    let below = (section_here _ _ _ _ _ c.self.invariant.names _ _ _ (ap (λ (o : ObjectData). o.sections) c.self.view_is) c.as_number.ensures (mapped_within _ _ _ _ c.requires.section)) in
    let at = found_is _ _ _ _ _ c.self.invariant.names _ _ below c.index_mut.ensures.value in
    record {
      kept = rw (set_section _ _ _ _ _ c.self.invariant.names (with_room c.room_in-room.result c.args.align) _ _ _ (λ segment name b. refl) below c.index_mut.ensures.value c.append_room-offset.ensures.room) (record {
        sound = sound_room (the_view c.self.inside) _ _ _ _ _ _ c.args.align _ c.self.invariant.kept.sound c.self.view_is c.as_number.ensures c.requires.section at c.requires.power refl (c.amount_of.ensures ∙ ap (λ (n : ℕ). n + c.args.align) (sym c.room_in-room.ensures));
        standards = kept_set _ (the_view c.self.inside).sections _ _ _ c.self.invariant.kept.standards at refl;
      });
      names = names_set_section _ _ _ _ _ c.self.invariant.names _ _;
    }

pub returns-clause-offset : goal.returns-clause-offset
returns-clause-offset c = offset_below (the_view c.self.inside) _ _ _ _ _ _ _ c.self.view_is c.as_number.ensures c.requires.section (found_is _ _ _ _ _ c.self.invariant.names _ _ (section_here _ _ _ _ _ c.self.invariant.names _ _ _ (ap (λ (o : ObjectData). o.sections) c.self.view_is) c.as_number.ensures (mapped_within _ _ _ _ c.requires.section)) c.index_mut.ensures.value) c.append_room-offset.ensures.offset

pub returns-clause-room : goal.returns-clause-room
returns-clause-room c =
    let below = (section_here _ _ _ _ _ c.self.invariant.names _ _ _ (ap (λ (o : ObjectData). o.sections) c.self.view_is) c.as_number.ensures (mapped_within _ _ _ _ c.requires.section)) in
    let at = found_is _ _ _ _ _ c.self.invariant.names _ _ below c.index_mut.ensures.value in
    rw (set_section _ _ _ _ _ c.self.invariant.names (with_room c.room_in-room.result c.args.align) _ _ _ (λ segment name b. refl) below c.index_mut.ensures.value c.append_room-offset.ensures.room) (added_room (the_view c.self.inside) _ _ _ _ _ _ _ _ _ c.self.view_is c.as_number.ensures at refl c.room_in-room.ensures c.amount_of.ensures)
