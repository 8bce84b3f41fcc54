use Rattle.std.proofs.Common.{◌+◌, ◌++◌, drop, take, length, get_or, refl, ap, sym, ◌∙◌, subst, arith}
use Rattle.std.specs.Prelude.{flat_map}
use Rattle.std.proofs.lemmas.List.{drop_all}
use Rattle.byte_core.proofs.Lists.{flat_more, flat_all, get_within}
use Rattle.object_core.specs.Object.{SectionBody, body_of}
use Rattle.object_core.specs.LinkTable.{MachTableSection}
use Rattle.object_core.specs.MachRows.{macho_table_of}
use Rattle.object_macho.specs.Layout.{records_of, record_count}
use Rattle.object_macho.specs.File.{mach_record_bytes}
use Rattle.object_macho.specs.Orders.{record_bytes_by, record_counts, FitRelocationsBy}
use Rattle.object_macho.proofs.Formed.{records_fit, section_bytes, section_counts}
use Rattle.object_macho.proofs.OrderLoops.{drop_get, sum_next, section_at}
use Rattle.object_macho.proofs.SectionLoops.{section_row, table_section_at, length-table_sections, few_rows, small_contents, flat_twice}
use Rattle.object_macho.proofs.SymbolLoops.{told}
use Rattle.object_macho.proofs.sections.place_all_records.Goals as goal

pub section-section-requires : goal.section-section-requires
section-section-requires c =
    let o = c.args.object.now in
    let s = section_at o c.args.order.now c.loop-n.n c.requires.order c.loop-n-test.true in
    omega (arith, get_within o.sections (get_or c.args.order.now c.loop-n.n 0) s.item s.at, c.from_number.ensures)

pub place_section_records-end-requires-clause-fits : goal.place_section_records-end-requires-clause-fits
place_section_records-end-requires-clause-fits c =
    let o = c.args.object.now in
    let n = c.loop-n.n in
    let id = get_or c.args.order.now n 0 in
    let s = section_at o c.args.order.now n c.requires.order c.loop-n-test.true in
    let same = told body_of o.sections id c.from_number.result s.item c.section-section.result.now s.at c.from_number.ensures c.section-section.ensures in
    let small = small_contents (macho_table_of o) c.requires.fits n (section_row o n s.item) (table_section_at o n s.item s.place) in
    let fits = records_fit o s.item c.args.rows.now (c.requires.formed.sections id s.item s.at) small (few_rows o c.requires.fits) c.requires.rows in
    subst (λ (b : SectionBody). FitRelocationsBy c.args.cputype c.args.rows.now b.relocations) same (subst (λ cpu. FitRelocationsBy cpu c.args.rows.now s.item.relocations) (sym c.requires.cputype) fits)

pub place_section_records-end-requires-clause-room : goal.place_section_records-end-requires-clause-room
place_section_records-end-requires-clause-room c =
    let o = c.args.object.now in
    let n = c.loop-n.n in
    let id = get_or c.args.order.now n 0 in
    let s = section_at o c.args.order.now n c.requires.order c.loop-n-test.true in
    let same = told body_of o.sections id c.from_number.result s.item c.section-section.result.now s.at c.from_number.ensures c.section-section.ensures in
    let rows = (macho_table_of o).sections in
    let row = section_row o n s.item in
    let next = drop_get rows n row (table_section_at o n s.item s.place) in
    let own = section_counts o c.args.cputype s.item row refl in
    omega (
      arith,
      ap (λ (b : SectionBody). record_counts c.args.cputype b.relocations) same,
      own,
      sum_next (λ (x : MachTableSection). length (records_of c.args.cputype x)) (drop n rows) (drop (n + 1) rows) row next,
      c.loop-n.invariant.end,
      c.loop-n.invariant.len,
      c.requires.room,
    )

pub loop-n-preserved : goal.loop-n-preserved
loop-n-preserved c =
    let o = c.args.object.now in
    let n = c.loop-n.n in
    let id = get_or c.args.order.now n 0 in
    let s = section_at o c.args.order.now n c.requires.order c.loop-n-test.true in
    let same = told body_of o.sections id c.from_number.result s.item c.section-section.result.now s.at c.from_number.ensures c.section-section.ensures in
    let rows = (macho_table_of o).sections in
    let row = section_row o n s.item in
    let next = drop_get rows n row (table_section_at o n s.item s.place) in
    let own = section_counts o c.args.cputype s.item row refl in
    let bytes = section_bytes o c.args.cputype s.item c.args.rows.now row (c.requires.formed.sections id s.item s.at) c.requires.rows refl in
    let told_bytes = ap (λ (b : SectionBody). flat_map (record_bytes_by c.args.cputype c.args.rows.now) b.relocations) (sym same) ∙ bytes in
    record {
      bytes = flat_more (λ (x : MachTableSection). flat_map mach_record_bytes (records_of c.args.cputype x)) row (drop n rows) (drop (n + 1) rows) _ _ _ next (c.place_section_records-end.ensures.bytes ∙ ap (λ xs. take c.loop-n.end c.loop-n.out ++ xs) told_bytes) c.loop-n.invariant.bytes;
      end = omega (
        arith,
        c.place_section_records-end.ensures.end,
        ap (λ (b : SectionBody). record_counts c.args.cputype b.relocations) same,
        own,
        sum_next (λ (x : MachTableSection). length (records_of c.args.cputype x)) (drop n rows) (drop (n + 1) rows) row next,
        c.loop-n.invariant.end,
      );
      len = c.place_section_records-end.ensures.len ∙ c.loop-n.invariant.len;
    }

pub returns-clause-bytes : goal.returns-clause-bytes
returns-clause-bytes c =
    let rows = (macho_table_of c.args.object.now).sections in
    let g = λ (x : MachTableSection). flat_map mach_record_bytes (records_of c.args.cputype x) in
    flat_all g rows c.loop-n.n _ _ (omega (arith, length-table_sections c.args.object.now, ap length c.requires.order, c.loop-n-test.false)) c.loop-n.invariant.bytes
    ∙ ap (λ xs. take c.args.at c.args.out.now ++ xs) (flat_twice mach_record_bytes (records_of c.args.cputype) rows)

pub returns-clause-end : goal.returns-clause-end
returns-clause-end c =
    let rows = (macho_table_of c.args.object.now).sections in
    let none = drop_all c.loop-n.n rows (omega (arith, length-table_sections c.args.object.now, ap length c.requires.order, c.loop-n-test.false)) in
    omega (arith, ap (record_count c.args.cputype) none, c.loop-n.invariant.end)
