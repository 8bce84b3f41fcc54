use Rattle.std.proofs.Common.{◌+◌, ◌++◌, ◌==◌, not, cond, drop, take, length, get_or, refl, ap, sym, ◌∙◌, arith}
use Rattle.std.proofs.lemmas.List.{length-map}
use Rattle.byte_core.proofs.Lists.{flat_more, flat_all, get_within}
use Rattle.ir_core.specs.MachO.{is_zero_fill_type, mach_cputype}
use Rattle.object_core.specs.Object.{SectionData, SectionBody, body_of}
use Rattle.object_core.specs.MachRows.{mach_relocation, macho_table_of}
use Rattle.object_macho.specs.Layout.{data_start}
use Rattle.object_macho.specs.MachHolds.{section_for}
use Rattle.object_macho.specs.File.{mach_section_bytes, section_headers_from}
use Rattle.object_macho.specs.Orders.{record_counts}
use Rattle.object_macho.proofs.Formed.{section_counts}
use Rattle.object_macho.proofs.OrderLoops.{drop_get, section_at}
use Rattle.object_macho.proofs.SectionLoops.{Same, section_row, table_section_at, length-table_sections, header_at, length-headers, header_same, address_at, records_next, records_within, offset_fits, size_fits, table_cputype, count_order}
use Rattle.object_macho.proofs.SymbolLoops.{told, length-addresses}
use Rattle.object_macho.proofs.sections.place_section_rows.Goals as goal

pub section-section-requires : goal.section-section-requires
section-section-requires c =
    let o = c.args.object.now in
    let s = section_at o c.args.order.now c.loop-n.n c.requires.order c.loop-n-test.true in
    omega (arith, get_within o.sections (get_or c.args.order.now c.loop-n.n 0) s.item s.at, c.from_number-id.ensures)

pub section_segment-segment-requires : goal.section_segment-segment-requires
section_segment-segment-requires c =
    let o = c.args.object.now in
    let s = section_at o c.args.order.now c.loop-n.n c.requires.order c.loop-n-test.true in
    omega (arith, get_within o.sections (get_or c.args.order.now c.loop-n.n 0) s.item s.at, c.from_number-id.ensures)

pub section_name-requires : goal.section_name-requires
section_name-requires c =
    let o = c.args.object.now in
    let s = section_at o c.args.order.now c.loop-n.n c.requires.order c.loop-n-test.true in
    omega (arith, get_within o.sections (get_or c.args.order.now c.loop-n.n 0) s.item s.at, c.from_number-id.ensures)

pub count_records-nreloc-requires : goal.count_records-nreloc-requires
count_records-nreloc-requires c =
    let o = c.args.object.now in
    let n = c.loop-n.n in
    let id = get_or c.args.order.now n 0 in
    let s = section_at o c.args.order.now n c.requires.order c.loop-n-test.true in
    let same = told body_of o.sections id c.from_number-id.result s.item c.section-section.result.now s.at c.from_number-id.ensures c.section-section.ensures in
    let row = section_row o n s.item in
    let cpu = c.mach_cputype-cputype.ensures ∙ ap mach_cputype c.architecture.ensures ∙ sym (table_cputype o) in
    omega (
      arith,
      ap (record_counts c.mach_cputype-cputype.result) (c.relocations.ensures ∙ ap (λ (b : SectionBody). b.relocations) (sym same)),
      ap (λ cpu. record_counts cpu s.item.relocations) cpu,
      section_counts o (macho_table_of o).cputype s.item row refl,
      records_within (macho_table_of o) c.requires.fits n row (table_section_at o n s.item s.place),
    )

pub bounds-addresses-n : goal.bounds-addresses-n
bounds-addresses-n c =
    let o = c.args.object.now in
    let s = section_at o c.args.order.now c.loop-n.n c.requires.order c.loop-n-test.true in
    omega (arith, get_within (macho_table_of o).sections c.loop-n.n _ (table_section_at o c.loop-n.n s.item s.place), length-table_sections o, count_order o, length-addresses o.sections, ap length c.requires.addresses)

pub places_of-places-requires-clause-offset : goal.places_of-places-requires-clause-offset
places_of-places-requires-clause-offset c = λ stored.
    let o = c.args.object.now in
    let n = c.loop-n.n in
    let id = get_or c.args.order.now n 0 in
    let s = section_at o c.args.order.now n c.requires.order c.loop-n-test.true in
    let same = told body_of o.sections id c.from_number-id.result s.item c.section-section.result.now s.at c.from_number-id.ensures c.section-section.ensures in
    let row = section_row o n s.item in
    let told_stored = ap (λ (b : SectionBody). not (is_zero_fill_type b.macho_flags)) same ∙ stored in
    omega (arith, offset_fits (macho_table_of o) c.requires.fits n row (table_section_at o n s.item s.place) told_stored, c.requires.start, address_at o c.args.addresses.now n s.item c.requires.addresses s.place)

pub place_section_row-end-requires-clause-segment : goal.place_section_row-end-requires-clause-segment
place_section_row-end-requires-clause-segment c =
    let o = c.args.object.now in
    let n = c.loop-n.n in
    let id = get_or c.args.order.now n 0 in
    let s = section_at o c.args.order.now n c.requires.order c.loop-n-test.true in
    let text = told (λ (x : SectionData). x.segment) o.sections id c.from_number-id.result s.item c.section_segment-segment.result.now s.at c.from_number-id.ensures c.section_segment-segment.ensures in
    omega (arith, ap length text, (c.requires.formed.sections id s.item s.at).segment_room)

pub place_section_row-end-requires-clause-name : goal.place_section_row-end-requires-clause-name
place_section_row-end-requires-clause-name c =
    let o = c.args.object.now in
    let n = c.loop-n.n in
    let id = get_or c.args.order.now n 0 in
    let s = section_at o c.args.order.now n c.requires.order c.loop-n-test.true in
    let text = told (λ (x : SectionData). x.name) o.sections id c.from_number-id.result s.item c.section_name.result.now s.at c.from_number-id.ensures c.section_name.ensures in
    omega (arith, ap length text, (c.requires.formed.sections id s.item s.at).name_room)

pub place_section_row-end-requires-clause-size : goal.place_section_row-end-requires-clause-size
place_section_row-end-requires-clause-size c =
    let o = c.args.object.now in
    let n = c.loop-n.n in
    let id = get_or c.args.order.now n 0 in
    let s = section_at o c.args.order.now n c.requires.order c.loop-n-test.true in
    let same = told body_of o.sections id c.from_number-id.result s.item c.section-section.result.now s.at c.from_number-id.ensures c.section-section.ensures in
    omega (arith, ap (λ (b : SectionBody). b.size) same, size_fits (macho_table_of o) c.requires.fits n (section_row o n s.item) (table_section_at o n s.item s.place))

pub loop-n-preserved : goal.loop-n-preserved
loop-n-preserved c =
    let o = c.args.object.now in
    let t = macho_table_of o in
    let n = c.loop-n.n in
    let id = get_or c.args.order.now n 0 in
    let s = section_at o c.args.order.now n c.requires.order c.loop-n-test.true in
    let same = told body_of o.sections id c.from_number-id.result s.item c.section-section.result.now s.at c.from_number-id.ensures c.section-section.ensures in
    let segment = told (λ (x : SectionData). x.segment) o.sections id c.from_number-id.result s.item c.section_segment-segment.result.now s.at c.from_number-id.ensures c.section_segment-segment.ensures in
    let name = told (λ (x : SectionData). x.name) o.sections id c.from_number-id.result s.item c.section_name.result.now s.at c.from_number-id.ensures c.section_name.ensures in
    let row = section_row o n s.item in
    let at = table_section_at o n s.item s.place in
    let headers = section_headers_from t 0 t.sections in
    let next = drop_get headers n (section_for t n row) (header_at t n row at) in
    let cpu = c.mach_cputype-cputype.ensures ∙ ap mach_cputype c.architecture.ensures ∙ sym (table_cputype o) in
    let address = address_at o c.args.addresses.now n s.item c.requires.addresses s.place in
    let count =
    c.count_records-nreloc.ensures
    ∙ ap (record_counts c.mach_cputype-cputype.result) (c.relocations.ensures ∙ ap (λ (b : SectionBody). b.relocations) (sym same))
    ∙ ap (λ cpu. record_counts cpu s.item.relocations) cpu
    ∙ section_counts o t.cputype s.item row refl in
    let flags = ap (λ (b : SectionBody). not (is_zero_fill_type b.macho_flags)) (sym same) in
    let offset = c.places_of-places.ensures.offset ∙ ap (λ b. cond b (c.args.start + get_or c.args.addresses.now n 0) 0) flags ∙ ap (λ x. cond (not (is_zero_fill_type s.item.macho_flags)) (x + get_or c.args.addresses.now n 0) 0) c.requires.start ∙ ap (λ x. cond (not (is_zero_fill_type s.item.macho_flags)) (data_start t + x) 0) address in
    let none = ap (λ (b : SectionBody). length b.relocations == 0) (sym same) ∙ ap (λ k. k == 0) (sym (length-map s.item.relocations (mach_relocation o.symbols))) in
    let reloff = c.places_of-places.ensures.reloff ∙ ap (λ b. cond b 0 c.loop-n.reloff) none ∙ ap (λ x. cond (length row.relocations == 0) 0 x) c.loop-n.invariant.reloff in
    let all : Same t n row c.section_segment-segment.result.now c.section_name.result.now c.section-section.result.now c.places_of-places.result =
    record {
      name_is = sym name;
      segment_is = sym segment;
      size = ap (λ (b : SectionBody). b.size) (sym same);
      align = ap (λ (b : SectionBody). b.align) (sym same);
      flags = ap (λ (b : SectionBody). b.macho_flags) (sym same);
      address = c.places_of-places.ensures.address ∙ address;
      offset = offset;
      reloff = reloff;
      nreloc = c.places_of-places.ensures.nreloc ∙ count;
    } in
    record {
      bytes = flat_more mach_section_bytes (section_for t n row) (drop n headers) (drop (n + 1) headers) _ _ _ next (c.place_section_row-end.ensures.bytes ∙ ap (λ r. take c.loop-n.end c.loop-n.out ++ mach_section_bytes r) (header_same t n row _ _ _ _ all)) c.loop-n.invariant.bytes;
      end = omega (arith, c.place_section_row-end.ensures.end, c.loop-n.invariant.end);
      reloff = omega (arith, records_next t n row at, count, c.loop-n.invariant.reloff, c.from.ensures);
      len = c.place_section_row-end.ensures.len ∙ c.loop-n.invariant.len;
    }

pub returns-clause-bytes : goal.returns-clause-bytes
returns-clause-bytes c =
    let t = macho_table_of c.args.object.now in
    flat_all mach_section_bytes (section_headers_from t 0 t.sections) c.loop-n.n _ _ (omega (arith, length-headers c.args.object.now, ap length c.requires.order, c.loop-n-test.false)) c.loop-n.invariant.bytes
