use Rattle.std.proofs.Common.{◌≡◌, ◌+◌, [], arith, length, map, take, get_or, refl}
use Rattle.object_elf.specs.declared.layout.PartHeader.{PartHeader}
use Rattle.object_elf.specs.PartView.{part_view}
use Rattle.object_elf.proofs.PartLoops.{length-map_take, view_next, view_split, rows_none, rows_one, rows_more, room_next}
use Rattle.object_elf.proofs.section_rows.place_part_rows.Goals as goal

-- the header that the loop's item has past the end
abbrev no_part : PartHeader
no_part = record { prefix = record { ref_ptr = (0, 0); now = [] }; name = record { ref_ptr = (0, 0); now = [] }; sh_type = 0; flags = 0; size = 0; link = 0; info = 0; align = 0; entsize = 0 }

pub loop-k-init : goal.loop-k-init
loop-k-init c = rows_none _ _ _ _

pub name_size-name-requires : goal.name_size-name-requires
name_size-name-requires c =
    let count : c.args.number + c.loop-k.k ≡ c.args.number + length (map part_view (take c.loop-k.k c.args.parts.now)) = omega (arith, length-map_take part_view c.args.parts.now c.loop-k.k (omega (arith, c.loop-k-test.true))) in
    let room = room_next _ _ _ _ _ _ _ _ _ _ _ c.requires c.loop-k.invariant count (view_split c.args.parts.now c.loop-k.k no_part c.loop-k-test.true) in
    omega (arith, room.name)

pub overflow_add-name : goal.overflow_add-name
overflow_add-name c =
    let count : c.args.number + c.loop-k.k ≡ c.args.number + length (map part_view (take c.loop-k.k c.args.parts.now)) = omega (arith, length-map_take part_view c.args.parts.now c.loop-k.k (omega (arith, c.loop-k-test.true))) in
    let room = room_next _ _ _ _ _ _ _ _ _ _ _ c.requires c.loop-k.invariant count (view_split c.args.parts.now c.loop-k.k no_part c.loop-k-test.true) in
    omega (arith, room.name, c.name_size-name.ensures)

pub loop-k-preserved : goal.loop-k-preserved
loop-k-preserved c =
    let count : c.args.number + c.loop-k.k ≡ c.args.number + length (map part_view (take c.loop-k.k c.args.parts.now)) = omega (arith, length-map_take part_view c.args.parts.now c.loop-k.k (omega (arith, c.loop-k-test.true))) in
    let row = rows_one c.args.places.now (c.args.number + c.loop-k.k) _ _ c.loop-k.at c.loop-k.name _ _ (part_view (get_or c.args.parts.now c.loop-k.k no_part)) refl c.place_section_row-at.ensures.bytes c.place_section_row-at.ensures.end c.place_section_row-at.ensures.len in
    rw c.name_size-name.ensures (rows_more _ _ _ _ _ _ _ _ _ _ _ _ c.loop-k.invariant row count (view_next c.args.parts.now c.loop-k.k no_part c.loop-k-test.true))
