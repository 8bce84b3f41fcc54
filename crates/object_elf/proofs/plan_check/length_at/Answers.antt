use Rattle.std.proofs.Common.{◌≡◌, arith, ap, sym, refl, ◌∙◌, length}
use Rattle.object_core.specs.ElfRows.{elf_table_of}
use Rattle.object_elf.specs.Layout.{parts_of}
use Rattle.object_elf.proofs.Tables.{table_row_is}
use Rattle.object_elf.proofs.Emitting.{part_count_is}
use Rattle.object_elf.proofs.Planning.{length-places_of}
use Rattle.object_elf.proofs.PartLoops.{places_held, over_length, length_found}
use Rattle.object_elf.proofs.plan_check.length_at.Goals as goal

pub returns-then-places-table : goal.returns-then-places-table
returns-then-places-table c = λ e.
    let o = c.args.object.now in
    absurd (omega (arith, c.if-places-table.true, c.row_of_symbol_table-table.ensures, ap length e, length-places_of (parts_of (elf_table_of o)), part_count_is o))

pub end_of_all-requires-clause-table : goal.end_of_all-requires-clause-table
end_of_all-requires-clause-table c = c.row_of_symbol_table-table.ensures ∙ sym (table_row_is c.args.object.now)

pub returns-in_err-end : goal.returns-in_err-end
returns-in_err-end c =
    let t = elf_table_of c.args.object.now in
    rw c.from_residual.ensures (λ e. over_length t (c.in_err-end.ensures (places_held c.args.places.now (parts_of t) e)))

pub returns : goal.returns
returns c =
    let o = c.args.object.now in
    let count : length c.args.places.now ≡ length (parts_of (elf_table_of o)) = omega (arith, c.if-places-table.false, c.row_of_symbol_table-table.ensures, part_count_is o) in
    length_found _ c.args.places.now c.in_ok-end.end _ (elf_table_of o) c.in_ok-end.ensures refl count c.file_length.ensures
