use Rattle.std.proofs.lemmas.List.{length-map}
use Rattle.std.proofs.Common.{◌*◌, ◌+◌, ◌∷◌, [], arith, ap, sym, ◌∙◌, length, take, length-append}
use Rattle.object_core.specs.Object.{body_of}
use Rattle.object_elf.proofs.Items.{item_of, own_relocations}
use Rattle.object_elf.proofs.SectionLoops.{has_none, has_some}
use Rattle.object_elf.proofs.PartLoops.{from_next, from_passed, from_split, rows_none, rows_more, room_next}
use Rattle.object_elf.specs.PartView.{relocation_parts_from, relocation_part_of}
use Rattle.object_elf.proofs.section_rows.place_relocation_rows.Goals as goal

pub loop-k-init : goal.loop-k-init
loop-k-init c = record { rows = rows_none _ _ _ _; number = omega (arith, ap length c.sections-sections.ensures.value, length-map c.args.object.now.sections body_of) }

pub loop-k-preserved-then-is_empty : goal.loop-k-preserved-then-is_empty
loop-k-preserved-then-is_empty c =
    let o = c.args.object.now in
    let item = item_of body_of o.sections _ c.loop-k.k c.index-sections-k.result c.sections-sections.ensures.value c.loop-k-test.true c.index-sections-k.is in
    let s = item.whole in
    let e = item.found in
    let none = has_none s c.is_empty.result (length c.relocations.result.now) (ap length (own_relocations s _ _ item.same c.relocations.ensures)) c.is_empty.ensures c.if-is_empty.true in
    let same = from_passed c.args.link o.sections c.loop-k.k s e none in
    record {
      rows = rw same c.loop-k.invariant.rows;
      number = c.loop-k.invariant.number ∙ ap (λ l. length o.sections + 1 + length l) (sym same);
    }

pub place_part_rows-row-requires : goal.place_part_rows-row-requires
place_part_rows-row-requires c =
    let o = c.args.object.now in
    let item = item_of body_of o.sections _ c.loop-k.k c.index-sections-k.result c.sections-sections.ensures.value c.loop-k-test.true c.index-sections-k.is in
    let s = item.whole in
    let e = item.found in
    let some = has_some s c.is_empty.result (length c.relocations.result.now) (ap length (own_relocations s _ _ item.same c.relocations.ensures)) c.is_empty.ensures c.if-is_empty.false in
    let size = ap (λ l. 24 * length l) (own_relocations s _ _ item.same c.relocations-in-loop-k.ensures) in
    let part = c.relocation_part-part.ensures s (c.section_name.ensures s e) size in
    rw part (room_next _ _ _ _ _ _ _ _ _ _ _ c.requires.room c.loop-k.invariant.rows c.loop-k.invariant.number (from_split c.args.link o.sections c.loop-k.k s e some))

pub loop-k-preserved : goal.loop-k-preserved
loop-k-preserved c =
    let o = c.args.object.now in
    let item = item_of body_of o.sections _ c.loop-k.k c.index-sections-k.result c.sections-sections.ensures.value c.loop-k-test.true c.index-sections-k.is in
    let s = item.whole in
    let e = item.found in
    let some = has_some s c.is_empty.result (length c.relocations.result.now) (ap length (own_relocations s _ _ item.same c.relocations.ensures)) c.is_empty.ensures c.if-is_empty.false in
    let size = ap (λ l. 24 * length l) (own_relocations s _ _ item.same c.relocations-in-loop-k.ensures) in
    let part = c.relocation_part-part.ensures s (c.section_name.ensures s e) size in
    let next = from_next c.args.link o.sections c.loop-k.k s e some in
    record {
      rows = rows_more _ _ _ _ _ _ _ _ _ _ _ _ c.loop-k.invariant.rows (rw part at c.place_part_rows-row.ensures) c.loop-k.invariant.number next;
      number = omega (arith, c.loop-k.invariant.number, ap length next ∙ length-append (relocation_parts_from c.args.link 1 (take c.loop-k.k o.sections)) (relocation_part_of c.args.link (c.loop-k.k + 1, s) ∷ []));
    }
