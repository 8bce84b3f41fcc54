use Rattle.std.proofs.Common.{◌≡◌, ◌+◌, take, length, ap, sym, ◌∙◌, arith}
use Rattle.std.specs.Int.{next_multiple_of}
use Rattle.object_core.specs.MachRows.{macho_table_of}
use Rattle.object_macho.specs.Layout.{end_of_sections, contents_size, version_size, data_start, relocations_start}
use Rattle.object_macho.proofs.Behind.{take_all}
use Rattle.object_macho.proofs.CommandPieces.{table_version}
use Rattle.object_macho.proofs.Filling.{stored_end, count_symbols}
use Rattle.object_macho.proofs.Reading.{inside}
use Rattle.object_macho.proofs.SectionLoops.{length-table_sections, count_order, few_stored}
use Rattle.object_macho.proofs.fill.starts_of.Goals as goal

pub end_of-contents-requires-clause-n : goal.end_of-contents-requires-clause-n
end_of-contents-requires-clause-n c = omega (arith, c.requires.count, few_stored c.args.object.now, count_order c.args.object.now, ap length c.requires.plan.sections, ap length c.sections-order.ensures)

pub start_of_data-start-requires-clause-sections : goal.start_of_data-start-requires-clause-sections
start_of_data-start-requires-clause-sections c = omega (arith, c.requires.fits.section_count, length-table_sections c.args.object.now, ap length c.requires.plan.sections, ap length c.sections-order.ensures)

pub overflow_add-start : goal.overflow_add-start
overflow_add-start c =
    let o = c.args.object.now in
    let i = inside (macho_table_of o) in
    let end = c.end_of-contents.ensures ∙ stored_end o c.args.count c.requires.fits c.requires.count in
    let count = length-table_sections o in
    let version = ap version_size (c.macho_build_version.ensures ∙ sym (table_version o)) in
    omega (arith, c.start_of_data-start.ensures, c.version_size.ensures.value, version, end, count, ap length c.requires.plan.sections, ap length c.sections-order.ensures, i.contents, i.records, i.symbols, i.strings, c.requires.fits.file)

pub next_multiple_of-relocations-requires-clause-fits : goal.next_multiple_of-relocations-requires-clause-fits
next_multiple_of-relocations-requires-clause-fits c =
    let o = c.args.object.now in
    let i = inside (macho_table_of o) in
    let end = c.end_of-contents.ensures ∙ stored_end o c.args.count c.requires.fits c.requires.count in
    let count = length-table_sections o in
    let version = ap version_size (c.macho_build_version.ensures ∙ sym (table_version o)) in
    let start : c.start_of_data-start.result ≡ data_start (macho_table_of o) = omega (arith, c.start_of_data-start.ensures, c.version_size.ensures.value, version, count, ap length c.requires.plan.sections, ap length c.sections-order.ensures) in
    let whole : c.start_of_data-start.result + c.end_of-contents.result ≡ data_start (macho_table_of o) + contents_size (macho_table_of o) = omega (arith, start, end) in
    omega (arith, ap (λ n. next_multiple_of n 8) whole, i.records, i.symbols, i.strings, c.requires.fits.file)

pub overflow_add-symbols : goal.overflow_add-symbols
overflow_add-symbols c =
    let o = c.args.object.now in
    let i = inside (macho_table_of o) in
    let end = c.end_of-contents.ensures ∙ stored_end o c.args.count c.requires.fits c.requires.count in
    let count = length-table_sections o in
    let version = ap version_size (c.macho_build_version.ensures ∙ sym (table_version o)) in
    let start : c.start_of_data-start.result ≡ data_start (macho_table_of o) = omega (arith, c.start_of_data-start.ensures, c.version_size.ensures.value, version, count, ap length c.requires.plan.sections, ap length c.sections-order.ensures) in
    let whole : c.start_of_data-start.result + c.end_of-contents.result ≡ data_start (macho_table_of o) + contents_size (macho_table_of o) = omega (arith, start, end) in
    omega (arith, c.next_multiple_of-relocations.ensures.value, ap (λ n. next_multiple_of n 8) whole, c.records.ensures, c.requires.plan.records, i.records, i.symbols, i.strings, c.requires.fits.file)

pub overflow_add-strings : goal.overflow_add-strings
overflow_add-strings c =
    let o = c.args.object.now in
    let i = inside (macho_table_of o) in
    let end = c.end_of-contents.ensures ∙ stored_end o c.args.count c.requires.fits c.requires.count in
    let count = length-table_sections o in
    let version = ap version_size (c.macho_build_version.ensures ∙ sym (table_version o)) in
    let start : c.start_of_data-start.result ≡ data_start (macho_table_of o) = omega (arith, c.start_of_data-start.ensures, c.version_size.ensures.value, version, count, ap length c.requires.plan.sections, ap length c.sections-order.ensures) in
    let whole : c.start_of_data-start.result + c.end_of-contents.result ≡ data_start (macho_table_of o) + contents_size (macho_table_of o) = omega (arith, start, end) in
    let symbols : length c.symbols.result.now ≡ length (macho_table_of o).symbols = ap length (c.symbols.ensures ∙ c.requires.plan.symbols) ∙ count_symbols o in
    omega (arith, c.next_multiple_of-relocations.ensures.value, ap (λ n. next_multiple_of n 8) whole, c.records.ensures, c.requires.plan.records, symbols, i.records, i.symbols, i.strings, c.requires.fits.file)

pub returns : goal.returns
returns c =
    let o = c.args.object.now in
    let t = macho_table_of o in
    let i = inside t in
    let end = c.end_of-contents.ensures ∙ stored_end o c.args.count c.requires.fits c.requires.count in
    let count = length-table_sections o in
    let version = ap version_size (c.macho_build_version.ensures ∙ sym (table_version o)) in
    let start : c.start_of_data-start.result ≡ data_start t = omega (arith, c.start_of_data-start.ensures, c.version_size.ensures.value, version, count, ap length c.requires.plan.sections, ap length c.sections-order.ensures) in
    let whole : c.start_of_data-start.result + c.end_of-contents.result ≡ data_start t + contents_size t = omega (arith, start, end) in
    let symbols : length c.symbols.result.now ≡ length t.symbols = ap length (c.symbols.ensures ∙ c.requires.plan.symbols) ∙ count_symbols o in
    let all : length c.sections-order.result.now ≡ length t.sections = omega (arith, count, ap length c.requires.plan.sections, ap length c.sections-order.ensures) in
    let relocations : c.next_multiple_of-relocations.result ≡ relocations_start t = c.next_multiple_of-relocations.ensures.value ∙ ap (λ n. next_multiple_of n 8) whole in
    record {
      memory = c.end_of-memory.ensures ∙ ap (λ k. end_of_sections (take k t.sections)) all ∙ ap end_of_sections (take_all t.sections);
      contents = end;
      start = start;
      relocations = relocations;
      symbols = omega (arith, relocations, c.records.ensures, c.requires.plan.records, i.records);
      strings = omega (arith, relocations, c.records.ensures, c.requires.plan.records, symbols, i.records, i.symbols);
      length = c.len.ensures ∙ c.requires.plan.length;
    }
