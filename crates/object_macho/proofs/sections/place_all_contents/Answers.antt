use Rattle.std.proofs.Common.{◌≡◌, ◌+◌, ◌-◌, ◌++◌, take, length, map, get_or, refl, ap, sym, ◌∙◌, subst, arith, append-nil}
use Rattle.std.specs.Prelude.{filter}
use Rattle.std.specs.Int.{next_multiple_of}
use Rattle.byte_core.specs.LaidOut.{laid_out, end_of_aligned}
use Rattle.byte_core.proofs.Lists.{get_within}
use Rattle.ir_core.specs.MachO.{mach_cputype}
use Rattle.object_core.specs.Object.{SectionBody, body_of}
use Rattle.object_core.specs.MachRows.{macho_table_of}
use Rattle.object_macho.specs.Layout.{stored_contents, is_stored}
use Rattle.object_macho.specs.File.{aligned_contents}
use Rattle.object_macho.specs.Rows.{FitFields, FieldsApart, IsRowOf}
use Rattle.object_macho.proofs.Behind.{take_all}
use Rattle.object_macho.proofs.ContentLoops.{stored_at, stored_count, contents_before, laid_next, contents_end}
use Rattle.object_macho.proofs.Formed.{fields_fit}
use Rattle.object_macho.proofs.SectionLoops.{section_row, table_cputype, count_order, few_stored}
use Rattle.object_macho.proofs.SymbolLoops.{told, length-addresses}
use Rattle.object_macho.proofs.sections.place_all_contents.Goals as goal

pub loop-n-init : goal.loop-n-init
unfolding laid_out end_of_aligned
loop-n-init c = record { bytes = sym (append-nil (take c.args.at c.args.out.now)); end = omega arith; len = refl }

pub number_at-requires : goal.number_at-requires
number_at-requires c = omega (arith, c.loop-n-test.true, c.requires.count, few_stored c.args.object.now, count_order c.args.object.now, ap length c.requires.order)

pub section-section-requires : goal.section-section-requires
section-section-requires c =
    let s = stored_at c.args.object.now c.args.order.now c.args.addresses.now c.loop-n.n c.args.count c.requires.fits c.requires.order c.requires.addresses c.requires.count c.loop-n-test.true in
    omega (arith, get_within c.args.object.now.sections (get_or c.args.order.now c.loop-n.n 0) s.item s.at, c.from_number.ensures, c.number_at.ensures)

pub address_at-requires : goal.address_at-requires
address_at-requires c = omega (arith, c.loop-n-test.true, c.requires.count, few_stored c.args.object.now, length-addresses c.args.object.now.sections, ap length c.requires.addresses)

pub place_gap-end-requires-clause-behind : goal.place_gap-end-requires-clause-behind
place_gap-end-requires-clause-behind c =
    let s = stored_at c.args.object.now c.args.order.now c.args.addresses.now c.loop-n.n c.args.count c.requires.fits c.requires.order c.requires.addresses c.requires.count c.loop-n-test.true in
    omega (arith, s.address, c.address_at.ensures, c.loop-n.invariant.end)

pub place_gap-end-requires-clause-room : goal.place_gap-end-requires-clause-room
place_gap-end-requires-clause-room c =
    let s = stored_at c.args.object.now c.args.order.now c.args.addresses.now c.loop-n.n c.args.count c.requires.fits c.requires.order c.requires.addresses c.requires.count c.loop-n-test.true in
    omega (arith, s.room, c.address_at.ensures, c.loop-n.invariant.len, c.requires.room)

pub place_contents-end-requires-clause-fields : goal.place_contents-end-requires-clause-fields
place_contents-end-requires-clause-fields c =
    let o = c.args.object.now in
    let s = stored_at c.args.object.now c.args.order.now c.args.addresses.now c.loop-n.n c.args.count c.requires.fits c.requires.order c.requires.addresses c.requires.count c.loop-n-test.true in
    let same = told body_of c.args.object.now.sections (get_or c.args.order.now c.loop-n.n 0) c.from_number.result s.item c.section-section.result.now s.at (c.from_number.ensures ∙ c.number_at.ensures) c.section-section.ensures in
    let fits = fields_fit o s.item (c.requires.formed.sections (get_or c.args.order.now c.loop-n.n 0) s.item s.at) in
    let cpu = c.mach_cputype-cputype.ensures ∙ ap mach_cputype c.architecture.ensures in
    subst (λ (b : SectionBody). FitFields c.mach_cputype-cputype.result (length b.contents) b.relocations) same (subst (λ k. FitFields k (length s.item.contents) s.item.relocations) (sym cpu) fits)

pub place_contents-end-requires-clause-apart : goal.place_contents-end-requires-clause-apart
place_contents-end-requires-clause-apart c =
    let s = stored_at c.args.object.now c.args.order.now c.args.addresses.now c.loop-n.n c.args.count c.requires.fits c.requires.order c.requires.addresses c.requires.count c.loop-n-test.true in
    let same = told body_of c.args.object.now.sections (get_or c.args.order.now c.loop-n.n 0) c.from_number.result s.item c.section-section.result.now s.at (c.from_number.ensures ∙ c.number_at.ensures) c.section-section.ensures in
    subst (λ (b : SectionBody). FieldsApart b.relocations) same (c.requires.formed.sections (get_or c.args.order.now c.loop-n.n 0) s.item s.at).apart

pub place_contents-end-requires-clause-room : goal.place_contents-end-requires-clause-room
place_contents-end-requires-clause-room c =
    let s = stored_at c.args.object.now c.args.order.now c.args.addresses.now c.loop-n.n c.args.count c.requires.fits c.requires.order c.requires.addresses c.requires.count c.loop-n-test.true in
    let same = told body_of c.args.object.now.sections (get_or c.args.order.now c.loop-n.n 0) c.from_number.result s.item c.section-section.result.now s.at (c.from_number.ensures ∙ c.number_at.ensures) c.section-section.ensures in
    omega (arith, s.room, s.address, c.address_at.ensures, c.place_gap-end.ensures.end, c.place_gap-end.ensures.len, c.loop-n.invariant.end, c.loop-n.invariant.len, c.requires.room, ap (λ (b : SectionBody). length b.contents) same)

pub loop-n-preserved : goal.loop-n-preserved
loop-n-preserved c =
    let o = c.args.object.now in
    let t = macho_table_of o in
    let n = c.loop-n.n in
    let s = stored_at c.args.object.now c.args.order.now c.args.addresses.now c.loop-n.n c.args.count c.requires.fits c.requires.order c.requires.addresses c.requires.count c.loop-n-test.true in
    let same = told body_of c.args.object.now.sections (get_or c.args.order.now c.loop-n.n 0) c.from_number.result s.item c.section-section.result.now s.at (c.from_number.ensures ∙ c.number_at.ensures) c.section-section.ensures in
    let row = section_row o n s.item in
    let cpu = c.mach_cputype-cputype.ensures ∙ ap mach_cputype c.architecture.ensures ∙ sym (table_cputype o) in
    let body : IsRowOf c.section-section.result.now.contents c.section-section.result.now.relocations o.symbols row = subst (λ (b : SectionBody). IsRowOf b.contents b.relocations o.symbols row) same (record { bytes = refl; records = refl }) in
    let written = c.place_contents-end.ensures.bytes o.symbols row body ∙ ap (λ k. take c.place_gap-end.result c.place_gap-end.new.out ++ stored_contents k row) cpu in
    let gap : c.args.at + c.address_at.result - c.loop-n.end ≡ next_multiple_of (end_of_aligned 0 (contents_before t n)) row.align - end_of_aligned 0 (contents_before t n) = omega (arith, s.address, c.address_at.ensures, c.loop-n.invariant.end) in
    record {
      bytes = laid_next t n (c.args.at + c.address_at.result - c.loop-n.end) row (take c.loop-n.end c.loop-n.out) (take c.place_gap-end.result c.place_gap-end.new.out) _ (take c.args.at c.args.out.now) s.front c.loop-n.invariant.bytes c.place_gap-end.ensures.bytes gap written;
      end = omega (arith, s.end, s.address, c.address_at.ensures, c.place_gap-end.ensures.end, c.place_contents-end.ensures.end, c.loop-n.invariant.end, ap (λ (b : SectionBody). length b.contents) same);
      len = c.place_contents-end.ensures.len ∙ c.place_gap-end.ensures.len ∙ c.loop-n.invariant.len;
    }

pub returns-clause-bytes : goal.returns-clause-bytes
returns-clause-bytes c =
    let t = macho_table_of c.args.object.now in
    let ss = filter is_stored t.sections in
    let whole : c.loop-n.n ≡ length ss = omega (arith, c.loop-n-test.false, c.loop-n.auto.n-end, c.requires.count, stored_count c.args.object.now) in
    c.loop-n.invariant.bytes ∙ ap (λ k. take c.args.at c.args.out.now ++ laid_out 0 (contents_before t k)) whole ∙ ap (λ xs. take c.args.at c.args.out.now ++ laid_out 0 (map (aligned_contents t.cputype) xs)) (take_all ss)

pub returns-clause-end : goal.returns-clause-end
returns-clause-end c =
    let t = macho_table_of c.args.object.now in
    let ss = filter is_stored t.sections in
    let whole : c.loop-n.n ≡ length ss = omega (arith, c.loop-n-test.false, c.loop-n.auto.n-end, c.requires.count, stored_count c.args.object.now) in
    omega (arith, c.loop-n.invariant.end, ap (λ k. end_of_aligned 0 (contents_before t k)) whole, contents_end t c.requires.fits)
