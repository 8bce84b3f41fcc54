use Rattle.std.proofs.Common.{◌≡◌, map, take, ap, sym, ◌∙◌, arith, length, refl}
use Rattle.std.specs.Int.{next_multiple_of}
use Rattle.std.specs.Prelude.{slice_index}
use Rattle.std.proofs.lemmas.List.{drop_all, length-map}
use Rattle.byte_core.proofs.Lists.{get_within}
use Rattle.object_core.specs.Object.{SectionBody, body_of}
use Rattle.object_core.specs.Places.{end_of}
use Rattle.object_core.specs.MachRows.{header_order, section_extent, addresses_in}
use Rattle.object_macho.proofs.Comparing.{next_kept, given_whole, room_for}
use Rattle.object_macho.proofs.Items.{bounded, none_stored}
use Rattle.object_macho.proofs.Numbering.{address_next, end_next}
use Rattle.object_macho.proofs.OrderLoops.{section_at}
use Rattle.object_macho.proofs.Pushing.{more_given}
use Rattle.object_macho.proofs.SectionLoops.{count_order}
use Rattle.object_macho.proofs.SymbolLoops.{told, length-addresses}
use Rattle.object_macho.proofs.plan_check.has_addresses.Goals as goal

pub returns-then-addresses-sections-clause-all : goal.returns-then-addresses-sections-clause-all
returns-then-addresses-sections-clause-all c = λ e.
    let ss = c.args.object.now.sections in
    absurd (omega (arith, c.if-addresses-sections.true, ap length e, length-addresses ss, ap length c.sections.ensures.value, length-map ss body_of))

pub loop-n-init : goal.loop-n-init
loop-n-init c = record { end = sym none_stored; bound = omega arith; addresses = refl }

pub section-section-requires : goal.section-section-requires
section-section-requires c =
    let o = c.args.object.now in
    let s = section_at o c.args.order.now c.loop-n.n c.requires.order c.loop-n-test.true in
    omega (arith, get_within o.sections _ s.item s.at, c.from_number.ensures, c.number_at.ensures)

pub address_behind-address-requires-clause-end : goal.address_behind-address-requires-clause-end
address_behind-address-requires-clause-end c = omega (arith, c.loop-n.invariant.bound, c.loop-n-test.true, ap length c.requires.order, count_order c.args.object.now, c.requires.sections)

pub address_behind-address-requires-clause-some : goal.address_behind-address-requires-clause-some
address_behind-address-requires-clause-some c =
    let o = c.args.object.now in
    let s = section_at o c.args.order.now c.loop-n.n c.requires.order c.loop-n-test.true in
    let same = told body_of o.sections (slice_index c.args.order.now c.loop-n.n) c.from_number.result s.item c.section-section.result.now s.at (c.from_number.ensures ∙ c.number_at.ensures) c.section-section.ensures in
    omega (arith, (bounded o _ s.item c.sections.ensures.sound s.at).some, ap (λ (b : SectionBody). b.align) same)

pub address_behind-address-requires-clause-align : goal.address_behind-address-requires-clause-align
address_behind-address-requires-clause-align c =
    let o = c.args.object.now in
    let s = section_at o c.args.order.now c.loop-n.n c.requires.order c.loop-n-test.true in
    let same = told body_of o.sections (slice_index c.args.order.now c.loop-n.n) c.from_number.result s.item c.section-section.result.now s.at (c.from_number.ensures ∙ c.number_at.ensures) c.section-section.ensures in
    omega (arith, (bounded o _ s.item c.sections.ensures.sound s.at).align, ap (λ (b : SectionBody). b.align) same, c.requires.contents, c.requires.sections)

pub end_of_section-end-requires-clause-address : goal.end_of_section-end-requires-clause-address
end_of_section-end-requires-clause-address c =
    omega (arith, c.address_behind-address.ensures.bound, c.loop-n.invariant.bound, c.loop-n-test.true, ap length c.requires.order, count_order c.args.object.now, c.requires.sections)

pub end_of_section-end-requires-clause-size : goal.end_of_section-end-requires-clause-size
end_of_section-end-requires-clause-size c =
    let o = c.args.object.now in
    let s = section_at o c.args.order.now c.loop-n.n c.requires.order c.loop-n-test.true in
    let same = told body_of o.sections (slice_index c.args.order.now c.loop-n.n) c.from_number.result s.item c.section-section.result.now s.at (c.from_number.ensures ∙ c.number_at.ensures) c.section-section.ensures in
    omega (arith, (bounded o _ s.item c.sections.ensures.sound s.at).size, ap (λ (b : SectionBody). b.size) same, c.requires.contents)

pub bounds-addresses-n : goal.bounds-addresses-n
bounds-addresses-n c = room_for c.args.addresses.now c.args.order.now _ c.args.object.now c.loop-n.n c.sections.ensures.value c.if-addresses-sections.false c.requires.order c.loop-n-test.true

pub returns-then-addresses-n-clause-all : goal.returns-then-addresses-n-clause-all
returns-then-addresses-n-clause-all c = λ e.
    let o = c.args.object.now in
    let ss = o.sections in
    let n = c.loop-n.n in
    let s = section_at o c.args.order.now n c.requires.order c.loop-n-test.true in
    let same = told body_of ss (slice_index c.args.order.now n) c.from_number.result s.item c.section-section.result.now s.at (c.from_number.ensures ∙ c.number_at.ensures) c.section-section.ensures in
    let before = end_of (map section_extent (take n (header_order ss))) in
    let address : c.address_behind-address.result ≡ next_multiple_of before s.item.align =
    c.address_behind-address.ensures.value ∙ ap (λ (b : SectionBody). next_multiple_of c.loop-n.end b.align) (sym same) ∙ ap (λ e. next_multiple_of e s.item.align) c.loop-n.invariant.end in
    let kept = next_kept c.args.addresses.now _ _ _ n _ c.loop-n.invariant.addresses (address_next ss n s.item s.place) (omega (arith, room_for c.args.addresses.now c.args.order.now _ o n c.sections.ensures.value c.if-addresses-sections.false c.requires.order c.loop-n-test.true)) e in
    absurd (omega (arith, c.if-addresses-n.true, kept, address))

pub loop-n-preserved : goal.loop-n-preserved
loop-n-preserved c =
    let o = c.args.object.now in
    let ss = o.sections in
    let n = c.loop-n.n in
    let s = section_at o c.args.order.now n c.requires.order c.loop-n-test.true in
    let same = told body_of ss (slice_index c.args.order.now n) c.from_number.result s.item c.section-section.result.now s.at (c.from_number.ensures ∙ c.number_at.ensures) c.section-section.ensures in
    let before = end_of (map section_extent (take n (header_order ss))) in
    let address : c.address_behind-address.result ≡ next_multiple_of before s.item.align =
    c.address_behind-address.ensures.value ∙ ap (λ (b : SectionBody). next_multiple_of c.loop-n.end b.align) (sym same) ∙ ap (λ e. next_multiple_of e s.item.align) c.loop-n.invariant.end in
    let size : s.item.size ≡ c.section-section.result.now.size = ap (λ (b : SectionBody). b.size) same in
    record {
      end = omega (arith, c.end_of_section-end.ensures, address, size, end_next ss n s.item s.place);
      bound = omega (arith, c.end_of_section-end.ensures, c.address_behind-address.ensures.bound, size, (bounded o _ s.item c.sections.ensures.sound s.at).size, c.requires.contents, c.loop-n.invariant.bound);
      addresses = more_given c.args.addresses.now _ _ _ n _ c.loop-n.invariant.addresses (address_next ss n s.item s.place) (room_for c.args.addresses.now c.args.order.now _ o n c.sections.ensures.value c.if-addresses-sections.false c.requires.order c.loop-n-test.true) (omega (arith, c.if-addresses-n.false, address));
    }

pub returns-clause-yes : goal.returns-clause-yes
returns-clause-yes c = λ h.
    let o = c.args.object.now in
    let end = drop_all c.loop-n.n (addresses_in o.sections) (omega (arith, length-addresses o.sections, count_order o, ap length c.requires.order, c.loop-n-test.false)) in
    given_whole c.args.addresses.now _ _ c.loop-n.n c.loop-n.invariant.addresses end (omega (arith, c.if-addresses-sections.false, c.loop-n-test.false, ap length c.sections.ensures.value, length-map o.sections body_of, count_order o, ap length c.requires.order))
