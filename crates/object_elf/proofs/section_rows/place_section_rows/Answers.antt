use Rattle.std.proofs.Common.{ap, ◌≡◌, ◌+◌, ◌-◌, arith, sym, refl, ◌∙◌, length, map}
use Rattle.std.proofs.lemmas.List.{length-map}
use Rattle.object_core.specs.ElfRows.{elf_table_of}
use Rattle.object_core.specs.Object.{body_of}
use Rattle.object_elf.specs.Layout.{note_part, symbol_table_row, table_parts}
use Rattle.object_elf.specs.PartView.{content_part_of, relocation_parts_from}
use Rattle.object_elf.proofs.Tables.{parts_are, table_row_is, section_names_size_is}
use Rattle.object_elf.proofs.Emitting.{part_count_is}
use Rattle.object_elf.proofs.PartLoops.{parts_count, room_whole, room_contents, room_note, room_relocations, room_tables, rows_joined, rows_whole}
use Rattle.object_elf.proofs.section_rows.place_section_rows.Goals as goal

pub place_content_rows-note-requires-clause-room : goal.place_content_rows-note-requires-clause-room
place_content_rows-note-requires-clause-room c =
    let o = c.args.object.now in
    let row : symbol_table_row (elf_table_of o) ≡ c.row_of_symbol_table-table.result = table_row_is o ∙ sym c.row_of_symbol_table-table.ensures in
    let whole = room_whole c.args.places.now c.place_section_row-at.new.out c.place_section_row-at.result (elf_table_of o) c.requires.places (omega (arith, c.requires.room, c.place_section_row-at.ensures.end, c.place_section_row-at.ensures.len)) (omega (arith, section_names_size_is o, c.requires.limits.names)) in
    room_contents _ _ _ _ _ _ _ _ whole (parts_are o c.row_of_symbol_table-table.result row)

pub place_part_rows-records-requires : goal.place_part_rows-records-requires
place_part_rows-records-requires c =
    let o = c.args.object.now in
    let size : length c.sections-count.result.now ≡ length o.sections = ap length c.sections-count.ensures.value ∙ length-map o.sections body_of in
    let row : symbol_table_row (elf_table_of o) ≡ c.row_of_symbol_table-table.result = table_row_is o ∙ sym c.row_of_symbol_table-table.ensures in
    let whole = room_whole c.args.places.now c.place_section_row-at.new.out c.place_section_row-at.result (elf_table_of o) c.requires.places (omega (arith, c.requires.room, c.place_section_row-at.ensures.end, c.place_section_row-at.ensures.len)) (omega (arith, section_names_size_is o, c.requires.limits.names)) in
    rw (size, c.stack_note.ensures)
    (room_note _ _ _ _ _ _ _ _ _ _ _ whole (parts_are o c.row_of_symbol_table-table.result row) c.place_content_rows-note.ensures (sym (length-map o.sections content_part_of)))

pub place_relocation_rows-tables-requires-clause-room : goal.place_relocation_rows-tables-requires-clause-room
place_relocation_rows-tables-requires-clause-room c =
    let o = c.args.object.now in
    let size : length c.sections-count.result.now ≡ length o.sections = ap length c.sections-count.ensures.value ∙ length-map o.sections body_of in
    let row : symbol_table_row (elf_table_of o) ≡ c.row_of_symbol_table-table.result = table_row_is o ∙ sym c.row_of_symbol_table-table.ensures in
    let whole = room_whole c.args.places.now c.place_section_row-at.new.out c.place_section_row-at.result (elf_table_of o) c.requires.places (omega (arith, c.requires.room, c.place_section_row-at.ensures.end, c.place_section_row-at.ensures.len)) (omega (arith, section_names_size_is o, c.requires.limits.names)) in
    let note = rw (size, c.stack_note.ensures) at c.place_part_rows-records.ensures in
    room_relocations _ _ _ _ _ _ _ _ _ _ _ _ _ _ whole (parts_are o c.row_of_symbol_table-table.result row) c.place_content_rows-note.ensures (sym (length-map o.sections content_part_of)) note refl

pub table_parts-parts-requires-clause-table : goal.table_parts-parts-requires-clause-table
table_parts-parts-requires-clause-table c = c.row_of_symbol_table-table.ensures ∙ sym (table_row_is c.args.object.now)

pub place_part_rows-end-requires : goal.place_part_rows-end-requires
place_part_rows-end-requires c =
    let o = c.args.object.now in
    let link = c.row_of_symbol_table-table.result in
    let size : length c.sections-count.result.now ≡ length o.sections = ap length c.sections-count.ensures.value ∙ length-map o.sections body_of in
    let row : symbol_table_row (elf_table_of o) ≡ link = table_row_is o ∙ sym c.row_of_symbol_table-table.ensures in
    let whole = room_whole c.args.places.now c.place_section_row-at.new.out c.place_section_row-at.result (elf_table_of o) c.requires.places (omega (arith, c.requires.room, c.place_section_row-at.ensures.end, c.place_section_row-at.ensures.len)) (omega (arith, section_names_size_is o, c.requires.limits.names)) in
    let note = rw (size, c.stack_note.ensures) at c.place_part_rows-records.ensures in
    let parts = parts_are o link row in
    let count = parts_count note_part (map content_part_of o.sections) (relocation_parts_from link 1 o.sections) (table_parts (elf_table_of o)) _ parts in
    let number : link - 1 ≡ length o.sections + 1 + length (relocation_parts_from link 1 o.sections) = omega (arith, row, table_row_is o, part_count_is o, count, length-map o.sections content_part_of) in
    rw c.table_parts-parts.ensures
    (room_tables _ _ _ _ _ _ _ _ _ _ _ _ _ _ _ _ _ whole parts c.place_content_rows-note.ensures (sym (length-map o.sections content_part_of)) note refl c.place_relocation_rows-tables.ensures number)

pub returns-clause-rows : goal.returns-clause-rows
returns-clause-rows c =
    let o = c.args.object.now in
    let link = c.row_of_symbol_table-table.result in
    let size : length c.sections-count.result.now ≡ length o.sections = ap length c.sections-count.ensures.value ∙ length-map o.sections body_of in
    let row : symbol_table_row (elf_table_of o) ≡ link = table_row_is o ∙ sym c.row_of_symbol_table-table.ensures in
    let note = rw (size, c.stack_note.ensures) at c.place_part_rows-records.ensures in
    let parts = parts_are o link row in
    let count = parts_count note_part (map content_part_of o.sections) (relocation_parts_from link 1 o.sections) (table_parts (elf_table_of o)) _ parts in
    let number : link - 1 ≡ length o.sections + 1 + length (relocation_parts_from link 1 o.sections) = omega (arith, row, table_row_is o, part_count_is o, count, length-map o.sections content_part_of) in
    let tables = rw c.table_parts-parts.ensures at c.place_part_rows-end.ensures in
    let rows = rows_joined _ _ _ _ _ _ _ _ _ _ _ _ _ _ _ _ _ _ _ c.place_content_rows-note.ensures note c.place_relocation_rows-tables.ensures tables (sym (length-map o.sections content_part_of)) refl number parts in
    rows_whole _ _ _ _ _ _ _ _ c.requires.places refl c.place_section_row-at.ensures.bytes rows

pub returns-clause-end : goal.returns-clause-end
returns-clause-end c =
    let o = c.args.object.now in
    let link = c.row_of_symbol_table-table.result in
    let size : length c.sections-count.result.now ≡ length o.sections = ap length c.sections-count.ensures.value ∙ length-map o.sections body_of in
    let row : symbol_table_row (elf_table_of o) ≡ link = table_row_is o ∙ sym c.row_of_symbol_table-table.ensures in
    let note = rw (size, c.stack_note.ensures) at c.place_part_rows-records.ensures in
    let parts = parts_are o link row in
    let count = parts_count note_part (map content_part_of o.sections) (relocation_parts_from link 1 o.sections) (table_parts (elf_table_of o)) _ parts in
    let number : link - 1 ≡ length o.sections + 1 + length (relocation_parts_from link 1 o.sections) = omega (arith, row, table_row_is o, part_count_is o, count, length-map o.sections content_part_of) in
    let tables = rw c.table_parts-parts.ensures at c.place_part_rows-end.ensures in
    let rows = rows_joined _ _ _ _ _ _ _ _ _ _ _ _ _ _ _ _ _ _ _ c.place_content_rows-note.ensures note c.place_relocation_rows-tables.ensures tables (sym (length-map o.sections content_part_of)) refl number parts in
    omega (arith, rows.at, c.place_section_row-at.ensures.end)
