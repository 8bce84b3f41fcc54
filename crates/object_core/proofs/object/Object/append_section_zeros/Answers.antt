use Rattle.std.proofs.Common.{ap, refl, sym, ◌∙◌, ◌+◌, ℕ, replicate, arith}
use Rattle.std.proofs.lemmas.List.{length-replicate}
use Rattle.object_core.specs.Object.{ObjectData}
use Rattle.object_core.specs.Appending.{with_contents, room_in}
use Rattle.object_core.specs.contracts.object.Object.{the_view}
use Rattle.object_core.proofs.ObjectNames.{section_here, found_is, set_section, names_set_section}
use Rattle.object_core.proofs.Sections.{mapped_within, bytes_here, size_below, offset_below, sound_contents, added_data, stored_in-replicate}
use Rattle.object_core.proofs.Standards.{kept_set}
use Rattle.object_core.proofs.object.Object.append_section_zeros.Goals as goal

pub index_mut-requires : goal.index_mut-requires
index_mut-requires c = omega (arith, (section_here _ _ _ _ _ c.self.invariant.names _ _ _ (ap (λ (o : ObjectData). o.sections) c.self.view_is) c.as_number.ensures (mapped_within _ _ _ _ c.requires.section)), c.self.inside.sections.ok.0)

pub append_zeros-requires-clause-bytes : goal.append_zeros-requires-clause-bytes
append_zeros-requires-clause-bytes c = bytes_here (the_view c.self.inside) _ _ _ _ c.self.invariant.kept.sound c.self.view_is c.as_number.ensures c.requires.section (found_is _ _ _ _ _ c.self.invariant.names _ _ (section_here _ _ _ _ _ c.self.invariant.names _ _ _ (ap (λ (o : ObjectData). o.sections) c.self.view_is) c.as_number.ensures (mapped_within _ _ _ _ c.requires.section)) c.index_mut.ensures.value)

pub append_zeros-requires-clause-size : goal.append_zeros-requires-clause-size
append_zeros-requires-clause-size c = size_below (the_view c.self.inside) _ _ _ _ _ _ c.self.invariant.kept.sound c.self.view_is c.as_number.ensures c.requires.section c.requires.sum (found_is _ _ _ _ _ c.self.invariant.names _ _ (section_here _ _ _ _ _ c.self.invariant.names _ _ _ (ap (λ (o : ObjectData). o.sections) c.self.view_is) c.as_number.ensures (mapped_within _ _ _ _ c.requires.section)) c.index_mut.ensures.value)

pub invariant_of-self-2 : goal.invariant_of-self-2
invariant_of-self-2 c =
    let below = (section_here _ _ _ _ _ c.self.invariant.names _ _ _ (ap (λ (o : ObjectData). o.sections) c.self.view_is) c.as_number.ensures (mapped_within _ _ _ _ c.requires.section)) in
    let at = found_is _ _ _ _ _ c.self.invariant.names _ _ below c.index_mut.ensures.value in
    let nothing : ℕ = 0 in
    let size = length-replicate c.room_in-stored.result nothing ∙ c.room_in-stored.ensures in
    record {
      kept = rw (set_section _ _ _ _ _ c.self.invariant.names (with_contents (replicate c.room_in-stored.result 0) c.args.align) _ _ _ (λ segment name b. refl) below c.index_mut.ensures.value c.in_ok-offset.ensures.ok) (record {
        sound = sound_contents (the_view c.self.inside) _ _ _ _ _ _ c.args.align _ c.self.invariant.kept.sound c.self.view_is c.as_number.ensures c.requires.section at c.requires.power refl (c.amount_of.ensures ∙ ap (λ (n : ℕ). n + c.args.align) (sym size));
        standards = kept_set _ (the_view c.self.inside).sections _ _ _ c.self.invariant.kept.standards at refl;
      });
      names = names_set_section _ _ _ _ _ c.self.invariant.names _ _;
    }

pub returns-clause-offset : goal.returns-clause-offset
returns-clause-offset c = offset_below (the_view c.self.inside) _ _ _ _ _ _ _ c.self.view_is c.as_number.ensures c.requires.section (found_is _ _ _ _ _ c.self.invariant.names _ _ (section_here _ _ _ _ _ c.self.invariant.names _ _ _ (ap (λ (o : ObjectData). o.sections) c.self.view_is) c.as_number.ensures (mapped_within _ _ _ _ c.requires.section)) c.index_mut.ensures.value) c.in_ok-offset.ensures.offset

pub returns-clause-ok : goal.returns-clause-ok
returns-clause-ok c =
    let below = (section_here _ _ _ _ _ c.self.invariant.names _ _ _ (ap (λ (o : ObjectData). o.sections) c.self.view_is) c.as_number.ensures (mapped_within _ _ _ _ c.requires.section)) in
    let at = found_is _ _ _ _ _ c.self.invariant.names _ _ below c.index_mut.ensures.value in
    let nothing : ℕ = 0 in
    let stores = ap (λ (n : ℕ). replicate n nothing) c.room_in-stored.ensures ∙ sym (stored_in-replicate c.self.inside.format c.args.size) in
    let size = sym (length-replicate c.args.size nothing) in
    rw (set_section _ _ _ _ _ c.self.invariant.names (with_contents (replicate c.room_in-stored.result 0) c.args.align) _ _ _ (λ segment name b. refl) below c.index_mut.ensures.value c.in_ok-offset.ensures.ok) (added_data (the_view c.self.inside) _ _ _ _ _ _ _ _ _ c.self.view_is c.as_number.ensures at refl stores (c.amount_of.ensures ∙ ap (λ (n : ℕ). room_in c.self.inside.format n + c.args.align) size))
