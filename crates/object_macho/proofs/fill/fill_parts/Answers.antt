use Rattle.std.proofs.Common.{◌≡◌, ◌+◌, ◌-◌, ◌++◌, take, length, replicate, ap, sym, ◌∙◌, arith}
use Rattle.ir_core.specs.MachO.{mach_cputype}
use Rattle.object_core.specs.MachRows.{macho_table_of}
use Rattle.object_macho.specs.Layout.{contents_size, record_count, records_of}
use Rattle.object_macho.specs.File.{mach_record_bytes}
use Rattle.std.specs.Prelude.{flat_map}
use Rattle.std.specs.Int.{next_multiple_of}
use Rattle.object_macho.proofs.Behind.{take_all}
use Rattle.object_macho.proofs.Filling.{count_symbols, join_parts}
use Rattle.object_macho.proofs.Reading.{inside}
use Rattle.object_macho.proofs.SectionLoops.{table_cputype}
use Rattle.object_macho.proofs.fill.fill_parts.Goals as goal

pub few-symbols-requires : goal.few-symbols-requires
few-symbols-requires c = omega (arith, ap length (c.symbols.ensures ∙ c.requires.plan.symbols) ∙ count_symbols c.args.object.now, c.requires.fits.symbol_count)

pub place_commands-at-requires-clause-symbols : goal.place_commands-at-requires-clause-symbols
place_commands-at-requires-clause-symbols c = c.few-symbols.ensures ∙ ap length (c.symbols.ensures ∙ c.requires.plan.symbols) ∙ count_symbols c.args.object.now

pub place_all_records-at-requires-clause-room : goal.place_all_records-at-requires-clause-room
place_all_records-at-requires-clause-room c =
    let o = c.args.object.now in
    let t = macho_table_of o in
    let i = inside t in
    let cpu = c.mach_cputype-cputype.ensures ∙ ap mach_cputype c.architecture.ensures ∙ sym (table_cputype o) in
    let padded = c.place_padding-at.ensures.end ∙ ap (λ n. next_multiple_of n 8) (c.place_all_contents-at.ensures.end ∙ ap (λ n. n + contents_size t) c.place_commands-at.ensures.end) in
    omega (
      arith,
      padded,
      ap (λ k. record_count k t.sections) cpu,
      i.records,
      i.symbols,
      i.strings,
      c.requires.room,
      c.requires.plan.length,
      c.place_commands-at.ensures.len,
      c.place_all_contents-at.ensures.len,
      c.place_padding-at.ensures.len,
    )

pub place_symbols-at-requires-clause-room : goal.place_symbols-at-requires-clause-room
place_symbols-at-requires-clause-room c =
    let o = c.args.object.now in
    let t = macho_table_of o in
    let i = inside t in
    let cpu = c.mach_cputype-cputype.ensures ∙ ap mach_cputype c.architecture.ensures ∙ sym (table_cputype o) in
    let padded = c.place_padding-at.ensures.end ∙ ap (λ n. next_multiple_of n 8) (c.place_all_contents-at.ensures.end ∙ ap (λ n. n + contents_size t) c.place_commands-at.ensures.end) in
    omega (
      arith,
      padded,
      ap (λ k. record_count k t.sections) cpu,
      c.place_all_records-at.ensures.end,
      ap length (c.symbols-2.ensures ∙ c.requires.plan.symbols) ∙ count_symbols o,
      i.records,
      i.symbols,
      i.strings,
      c.requires.room,
      c.requires.plan.length,
      c.place_commands-at.ensures.len,
      c.place_all_contents-at.ensures.len,
      c.place_padding-at.ensures.len,
      c.place_all_records-at.ensures.len,
    )

pub place_strings-requires-clause-room : goal.place_strings-requires-clause-room
place_strings-requires-clause-room c =
    let o = c.args.object.now in
    let t = macho_table_of o in
    let i = inside t in
    let cpu = c.mach_cputype-cputype.ensures ∙ ap mach_cputype c.architecture.ensures ∙ sym (table_cputype o) in
    let padded = c.place_padding-at.ensures.end ∙ ap (λ n. next_multiple_of n 8) (c.place_all_contents-at.ensures.end ∙ ap (λ n. n + contents_size t) c.place_commands-at.ensures.end) in
    omega (
      arith,
      padded,
      ap (λ k. record_count k t.sections) cpu,
      c.place_all_records-at.ensures.end,
      c.place_symbols-at.ensures.end,
      ap length (c.symbols-2.ensures ∙ c.requires.plan.symbols) ∙ count_symbols o,
      i.records,
      i.symbols,
      i.strings,
      c.requires.room,
      c.requires.plan.length,
      c.place_commands-at.ensures.len,
      c.place_all_contents-at.ensures.len,
      c.place_padding-at.ensures.len,
      c.place_all_records-at.ensures.len,
      c.place_symbols-at.ensures.len,
    )

pub returns : goal.returns
returns c =
    let o = c.args.object.now in
    let t = macho_table_of o in
    let i = inside t in
    let cpu = c.mach_cputype-cputype.ensures ∙ ap mach_cputype c.architecture.ensures ∙ sym (table_cputype o) in
    let start = c.place_all_contents-at.ensures.end ∙ ap (λ n. n + contents_size t) c.place_commands-at.ensures.end in
    let padded = c.place_padding-at.ensures.end ∙ ap (λ n. next_multiple_of n 8) start in
    let gap = c.place_padding-at.ensures.bytes ∙ ap (λ n. take c.place_all_contents-at.result c.place_all_contents-at.new.out ++ replicate (next_multiple_of n 8 - n) 0) start in
    let records = c.place_all_records-at.ensures.bytes ∙ ap (λ k. take c.place_padding-at.result c.place_padding-at.new.out ++ flat_map mach_record_bytes (flat_map (records_of k) t.sections)) cpu in
    let whole : c.place_strings.result ≡ length c.place_strings.new.out =
    omega (
      arith,
      padded,
      ap (λ k. record_count k t.sections) cpu,
      c.place_all_records-at.ensures.end,
      c.place_symbols-at.ensures.end,
      c.place_strings.ensures.end,
      ap length (c.symbols-2.ensures ∙ c.requires.plan.symbols) ∙ count_symbols o,
      i.records,
      i.symbols,
      i.strings,
      c.requires.room,
      c.requires.plan.length,
      c.place_commands-at.ensures.len,
      c.place_all_contents-at.ensures.len,
      c.place_padding-at.ensures.len,
      c.place_all_records-at.ensures.len,
      c.place_symbols-at.ensures.len,
      c.place_strings.ensures.len,
    ) in
    sym (take_all c.place_strings.new.out)
    ∙ ap (λ k. take k c.place_strings.new.out) (sym whole)
    ∙ join_parts t (take c.place_commands-at.result c.place_commands-at.new.out) (take c.place_all_contents-at.result c.place_all_contents-at.new.out) (take c.place_padding-at.result c.place_padding-at.new.out) (take c.place_all_records-at.result c.place_all_records-at.new.out)
    (take c.place_symbols-at.result c.place_symbols-at.new.out) (take c.place_strings.result c.place_strings.new.out) c.place_commands-at.ensures.bytes c.place_all_contents-at.ensures.bytes gap records c.place_symbols-at.ensures.bytes c.place_strings.ensures.bytes
