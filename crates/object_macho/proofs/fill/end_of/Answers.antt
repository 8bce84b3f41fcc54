use Rattle.std.proofs.Common.{◌≡◌, ◌+◌, ◌-◌, ◌<◌, take, length, ap, sym, ◌∙◌, arith}
use Rattle.byte_core.proofs.Lists.{get_within}
use Rattle.object_core.specs.Object.{SectionBody, body_of}
use Rattle.object_core.specs.MachRows.{macho_table_of}
use Rattle.object_macho.specs.Layout.{end_of_sections}
use Rattle.std.specs.Prelude.{slice_index}
use Rattle.object_macho.proofs.Filling.{last_at, none_end}
use Rattle.object_macho.proofs.SectionLoops.{count_order}
use Rattle.object_macho.proofs.SymbolLoops.{told, length-addresses}
use Rattle.object_macho.proofs.fill.end_of.Goals as goal

pub returns-then-n-eq0 : goal.returns-then-n-eq0
returns-then-n-eq0 c = sym (ap (λ k. end_of_sections (take k (macho_table_of c.args.object.now).sections)) c.if-n-eq0.true ∙ none_end (macho_table_of c.args.object.now))

pub section-section-requires : goal.section-section-requires
section-section-requires c =
    let below : c.args.n - 1 < length c.args.order.now = omega (arith, c.requires.n, c.if-n-eq0.false) in
    let s = last_at c.args.object.now c.args.order.now c.args.addresses.now (c.args.n - 1) c.requires.fits c.requires.order c.requires.addresses below in
    omega (arith, get_within c.args.object.now.sections (slice_index c.args.order.now (c.args.n - 1)) s.item s.at, c.from_number.ensures, c.number_at.ensures)

pub address_at-requires : goal.address_at-requires
address_at-requires c = omega (arith, c.requires.n, c.if-n-eq0.false, ap length c.requires.order, ap length c.requires.addresses, count_order c.args.object.now, length-addresses c.args.object.now.sections)

pub overflow_cast-result : goal.overflow_cast-result
overflow_cast-result c =
    let below : c.args.n - 1 < length c.args.order.now = omega (arith, c.requires.n, c.if-n-eq0.false) in
    let s = last_at c.args.object.now c.args.order.now c.args.addresses.now (c.args.n - 1) c.requires.fits c.requires.order c.requires.addresses below in
    let same = told body_of c.args.object.now.sections (slice_index c.args.order.now (c.args.n - 1)) c.from_number.result s.item c.section-section.result.now s.at (c.from_number.ensures ∙ c.number_at.ensures) c.section-section.ensures in
    omega (arith, s.room, c.size.ensures, ap (λ (b : SectionBody). b.size) same)

pub overflow_add-result : goal.overflow_add-result
overflow_add-result c =
    let below : c.args.n - 1 < length c.args.order.now = omega (arith, c.requires.n, c.if-n-eq0.false) in
    let s = last_at c.args.object.now c.args.order.now c.args.addresses.now (c.args.n - 1) c.requires.fits c.requires.order c.requires.addresses below in
    let same = told body_of c.args.object.now.sections (slice_index c.args.order.now (c.args.n - 1)) c.from_number.result s.item c.section-section.result.now s.at (c.from_number.ensures ∙ c.number_at.ensures) c.section-section.ensures in
    omega (arith, s.room, c.size.ensures, c.address_at.ensures, ap (λ (b : SectionBody). b.size) same)

pub returns : goal.returns
returns c =
    let below : c.args.n - 1 < length c.args.order.now = omega (arith, c.requires.n, c.if-n-eq0.false) in
    let s = last_at c.args.object.now c.args.order.now c.args.addresses.now (c.args.n - 1) c.requires.fits c.requires.order c.requires.addresses below in
    let same = told body_of c.args.object.now.sections (slice_index c.args.order.now (c.args.n - 1)) c.from_number.result s.item c.section-section.result.now s.at (c.from_number.ensures ∙ c.number_at.ensures) c.section-section.ensures in
    let back : c.args.n - 1 + 1 ≡ c.args.n = omega (arith, c.if-n-eq0.false) in
    omega (arith, s.end, c.size.ensures, c.address_at.ensures, ap (λ (b : SectionBody). b.size) same, ap (λ k. end_of_sections (take k (macho_table_of c.args.object.now).sections)) back)
