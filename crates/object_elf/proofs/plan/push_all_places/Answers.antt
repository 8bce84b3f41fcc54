use Rattle.std.proofs.Common.{◌≡◌, sym, ◌∙◌}
use Rattle.object_core.specs.ElfRows.{elf_table_of}
use Rattle.object_elf.specs.Layout.{symbol_table_row}
use Rattle.object_elf.proofs.Tables.{parts_are, table_row_is}
use Rattle.object_elf.proofs.PartLoops.{pushes_joined}
use Rattle.object_elf.proofs.plan.push_all_places.Goals as goal

pub table_parts-parts-requires-clause-table : goal.table_parts-parts-requires-clause-table
table_parts-parts-requires-clause-table c = c.row_of_symbol_table-table.ensures ∙ sym (table_row_is c.args.object.now)

pub returns : goal.returns
returns c =
    let o = c.args.object.now in
    let row : symbol_table_row (elf_table_of o) ≡ c.row_of_symbol_table-table.result = table_row_is o ∙ sym c.row_of_symbol_table-table.ensures in
    let note = rw c.stack_note.ensures at c.in_ok-end-2.ensures in
    let tables = rw c.table_parts-parts.ensures at c.in_ok-end-4.ensures in
    pushes_joined _ _ _ _ _ _ _ _ _ _ _ _ _ _ _ c.in_ok-end.ensures note c.in_ok-end-3.ensures tables (parts_are o c.row_of_symbol_table-table.result row)
