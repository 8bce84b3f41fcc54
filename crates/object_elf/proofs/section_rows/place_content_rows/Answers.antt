use Rattle.std.proofs.Common.{◌∙◌, ◌≡◌, ◌+◌, arith, length, map, take}
use Rattle.object_core.specs.Object.{body_of}
use Rattle.object_elf.specs.PartView.{content_part_of}
use Rattle.object_elf.proofs.Items.{item_of, size_within, content_same}
use Rattle.object_elf.proofs.PartLoops.{length-map_take, map_next, map_split, rows_none, rows_more, room_next}
use Rattle.object_elf.proofs.section_rows.place_content_rows.Goals as goal

pub loop-k-init : goal.loop-k-init
loop-k-init c = rows_none _ _ _ _

pub content_part-part-requires : goal.content_part-part-requires
content_part-part-requires c =
    let o = c.args.object.now in
    let item = item_of body_of o.sections _ c.loop-k.k c.index-sections-k.result c.sections-sections.ensures.value c.loop-k-test.true c.index-sections-k.is in
    size_within o c.loop-k.k item.whole _ c.sections-sections.ensures.sound c.requires.contents item.found item.same

pub place_part_rows-row-requires : goal.place_part_rows-row-requires
place_part_rows-row-requires c =
    let o = c.args.object.now in
    let item = item_of body_of o.sections _ c.loop-k.k c.index-sections-k.result c.sections-sections.ensures.value c.loop-k-test.true c.index-sections-k.is in
    let s = item.whole in
    let e = item.found in
    let part = c.content_part-part.ensures ∙ content_same s _ _ item.same (c.section_name.ensures s e) in
    let count : c.loop-k.k ≡ 0 + length (map content_part_of (take c.loop-k.k o.sections)) = omega (arith, length-map_take content_part_of o.sections c.loop-k.k (omega (arith, item.within))) in
    rw part (room_next _ _ _ _ _ _ _ _ _ _ _ c.requires.room c.loop-k.invariant count (map_split content_part_of o.sections c.loop-k.k s e))

pub loop-k-preserved : goal.loop-k-preserved
loop-k-preserved c =
    let o = c.args.object.now in
    let item = item_of body_of o.sections _ c.loop-k.k c.index-sections-k.result c.sections-sections.ensures.value c.loop-k-test.true c.index-sections-k.is in
    let s = item.whole in
    let e = item.found in
    let part = c.content_part-part.ensures ∙ content_same s _ _ item.same (c.section_name.ensures s e) in
    let count : c.loop-k.k ≡ 0 + length (map content_part_of (take c.loop-k.k o.sections)) = omega (arith, length-map_take content_part_of o.sections c.loop-k.k (omega (arith, item.within))) in
    rows_more _ _ _ _ _ _ _ _ _ _ _ _ c.loop-k.invariant (rw part at c.place_part_rows-row.ensures) count (map_next content_part_of o.sections c.loop-k.k s e)
