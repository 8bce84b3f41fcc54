use Rattle.std.proofs.Common.{ap, sym, ◌∙◌, arith, codes, refl}
use Rattle.object_elf.specs.Layout.{string_part}
use Rattle.object_elf.proofs.Tables.{table_row_is, symbol_names_size_is, section_names_size_is, symbol_part_is}
use Rattle.object_elf.proofs.layout.table_parts.Goals as goal

pub symbol_part-requires-clause-table : goal.symbol_part-requires-clause-table
symbol_part-requires-clause-table c = omega (arith, c.requires.table, table_row_is c.args.object.now, c.requires.limits.sections)

pub returns : goal.returns
returns c =
    let o = c.args.object.now in
    let table = c.symbol_part.ensures ∙ sym (symbol_part_is o c.args.table (sym c.requires.table)) in
    let names = c.string_part.ensures ∙ ap (string_part (codes ".strtab")) (c.symbol_names_size.ensures.value ∙ sym (symbol_names_size_is o)) in
    let texts = c.string_part-2.ensures ∙ ap (string_part (codes ".shstrtab")) (c.section_names_size.ensures.value ∙ sym (section_names_size_is o)) in
    rw (table, names, texts) refl
