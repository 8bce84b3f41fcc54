use Rattle.std.proofs.Common.{◌≡◌, ◌+◌, ◌++◌, ◌∷◌, map, take, drop, ap, sym, ◌∙◌, arith, length}
use Rattle.std.specs.Int.{next_multiple_of}
use Rattle.std.specs.Prelude.{slice_index}
use Rattle.std.proofs.lemmas.List.{drop_all}
use Rattle.byte_core.proofs.Lists.{get_within}
use Rattle.object_core.specs.Object.{SectionBody, body_of}
use Rattle.object_core.specs.Places.{end_of}
use Rattle.object_core.specs.MachRows.{header_order, section_extent, addresses_in}
use Rattle.object_macho.proofs.Items.{bounded, none_stored}
use Rattle.object_macho.proofs.Numbering.{address_next, end_next}
use Rattle.object_macho.proofs.OrderLoops.{section_at}
use Rattle.object_macho.proofs.Pushing.{more, whole}
use Rattle.object_macho.proofs.SectionLoops.{count_order}
use Rattle.object_macho.proofs.SymbolLoops.{told, length-addresses}
use Rattle.object_macho.proofs.counted.addresses_of.Goals as goal

pub loop-n-init : goal.loop-n-init
loop-n-init c = record { end = sym none_stored; bound = omega arith; addresses = ap (λ xs. xs ++ addresses_in c.args.object.now.sections) c.in_ok-addresses.ensures.items }

pub section-section-requires : goal.section-section-requires
section-section-requires c =
    let o = c.args.object.now in
    let s = section_at o c.args.order.now c.loop-n.n c.requires.order c.loop-n-test.true in
    omega (arith, get_within o.sections _ s.item s.at, c.from_number.ensures, c.number_at.ensures)

pub address_behind-address-requires-clause-end : goal.address_behind-address-requires-clause-end
address_behind-address-requires-clause-end c = omega (arith, c.loop-n.invariant.bound, c.loop-n-test.true, ap length c.requires.order, count_order c.args.object.now, c.requires.sections)

pub address_behind-address-requires-clause-some : goal.address_behind-address-requires-clause-some
address_behind-address-requires-clause-some c =
    let o = c.args.object.now in
    let s = section_at o c.args.order.now c.loop-n.n c.requires.order c.loop-n-test.true in
    let same = told body_of o.sections (slice_index c.args.order.now c.loop-n.n) c.from_number.result s.item c.section-section.result.now s.at (c.from_number.ensures ∙ c.number_at.ensures) c.section-section.ensures in
    omega (arith, (bounded o _ s.item c.sections.ensures.sound s.at).some, ap (λ (b : SectionBody). b.align) same)

pub address_behind-address-requires-clause-align : goal.address_behind-address-requires-clause-align
address_behind-address-requires-clause-align c =
    let o = c.args.object.now in
    let s = section_at o c.args.order.now c.loop-n.n c.requires.order c.loop-n-test.true in
    let same = told body_of o.sections (slice_index c.args.order.now c.loop-n.n) c.from_number.result s.item c.section-section.result.now s.at (c.from_number.ensures ∙ c.number_at.ensures) c.section-section.ensures in
    omega (arith, (bounded o _ s.item c.sections.ensures.sound s.at).align, ap (λ (b : SectionBody). b.align) same, c.requires.contents, c.requires.sections)

pub end_of_section-end-requires-clause-address : goal.end_of_section-end-requires-clause-address
end_of_section-end-requires-clause-address c =
    omega (arith, c.address_behind-address.ensures.bound, c.loop-n.invariant.bound, c.loop-n-test.true, ap length c.requires.order, count_order c.args.object.now, c.requires.sections)

pub end_of_section-end-requires-clause-size : goal.end_of_section-end-requires-clause-size
end_of_section-end-requires-clause-size c =
    let o = c.args.object.now in
    let s = section_at o c.args.order.now c.loop-n.n c.requires.order c.loop-n-test.true in
    let same = told body_of o.sections (slice_index c.args.order.now c.loop-n.n) c.from_number.result s.item c.section-section.result.now s.at (c.from_number.ensures ∙ c.number_at.ensures) c.section-section.ensures in
    omega (arith, (bounded o _ s.item c.sections.ensures.sound s.at).size, ap (λ (b : SectionBody). b.size) same, c.requires.contents)

pub loop-n-preserved : goal.loop-n-preserved
loop-n-preserved c =
    let o = c.args.object.now in
    let ss = o.sections in
    let n = c.loop-n.n in
    let s = section_at o c.args.order.now n c.requires.order c.loop-n-test.true in
    let same = told body_of ss (slice_index c.args.order.now n) c.from_number.result s.item c.section-section.result.now s.at (c.from_number.ensures ∙ c.number_at.ensures) c.section-section.ensures in
    let before = end_of (map section_extent (take n (header_order ss))) in
    let address : c.address_behind-address.result ≡ next_multiple_of before s.item.align =
    c.address_behind-address.ensures.value ∙ ap (λ (b : SectionBody). next_multiple_of c.loop-n.end b.align) (sym same) ∙ ap (λ e. next_multiple_of e s.item.align) c.loop-n.invariant.end in
    let size : s.item.size ≡ c.section-section.result.now.size = ap (λ (b : SectionBody). b.size) same in
    record {
      end = omega (arith, c.end_of_section-end.ensures, address, size, end_next ss n s.item s.place);
      bound = omega (arith, c.end_of_section-end.ensures, c.address_behind-address.ensures.bound, size, (bounded o _ s.item c.sections.ensures.sound s.at).size, c.requires.contents, c.loop-n.invariant.bound);
      addresses = more _ _ _ _ _ c.address_behind-address.result c.loop-n.invariant.addresses (address_next ss n s.item s.place ∙ ap (λ a. a ∷ drop (n + 1) (addresses_in ss)) (sym address)) c.in_ok-push.ensures.items;
    }

pub returns : goal.returns
returns c =
    let o = c.args.object.now in
    let end = drop_all c.loop-n.n (addresses_in o.sections) (omega (arith, length-addresses o.sections, count_order o, ap length c.requires.order, c.loop-n-test.false)) in
    whole _ _ _ c.loop-n.invariant.addresses end
