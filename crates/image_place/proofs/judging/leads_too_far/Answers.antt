use Rattle.std.proofs.Common.{◌≡◌, ◌+◌, ◌-◌, length, sym, ◌∙◌, subst, arith}
use Rattle.image_place.specs.Fixups.{fix_width}
use Rattle.image_place.specs.Holders.{IsDone}
use Rattle.image_place.specs.Indexed.{line_place}
use Rattle.image_place.proofs.HolderLaws.{done_first, done_more, done_all, held_here, number_within}
use Rattle.image_place.proofs.JudgingLaws.{FitsIn, far_here, none_far, fits_here, same_holder}
use Rattle.image_place.proofs.judging.leads_too_far.Goals as goal

pub loop-place-init : goal.loop-place-init
loop-place-init c =
    let ps = c.spans-spans.result.now in
    let at = line_place c.args.k (c.args.start + c.args.r.offset) in
    done_first ps at (fix_width c.args.kind) c.last_holder-place.result (FitsIn c.args.definitions.now c.args.start c.args.r c.args.kind c.args.address)
    (same_holder ps c.args.k c.args.start c.args.r.offset c.args.kind (length ps) c.last_holder-place.result _ _ _ _ c.from.ensures c.from-2.ensures c.line_place-at.ensures.place c.width_of-width.ensures.width c.last_holder-place.ensures)

pub number-requires : goal.number-requires
number-requires c = record { more = c.loop-place-test.true; inside = c.loop-place.invariant.inside }

pub row-definition-requires : goal.row-definition-requires
row-definition-requires c =
    number_within c.args.definitions.now c.args.k (c.args.start + c.args.r.offset) (fix_width c.args.kind) c.number.result
    (held_here c.args.definitions.now c.spans-spans.result.now c.args.k (c.args.start + c.args.r.offset) (fix_width c.args.kind) c.loop-place.place c.number.result (FitsIn c.args.definitions.now c.args.start c.args.r c.args.kind c.args.address) c.spans-spans.ensures (omega arith) c.loop-place-test.true
    c.loop-place.invariant c.number.ensures)

pub loop-place-preserved : goal.loop-place-preserved
loop-place-preserved c =
    let ds = c.args.definitions.now in
    let ps = c.spans-spans.result.now in
    let at = line_place c.args.k (c.args.start + c.args.r.offset) in
    let width = fix_width c.args.kind in
    let place = c.loop-place.place in
    let number = c.number.result in
    let P = FitsIn ds c.args.start c.args.r c.args.kind c.args.address in
    let here = c.row-definition.ensures in
    done_more ps at width place c.holder_before-place.result number P c.loop-place-test.true c.loop-place.invariant c.number.ensures (fits_here ds c.args.start number c.args.r c.args.kind c.args.address _ here (sym c.is_far.ensures ∙ c.if-is_far.false))
    (same_holder ps c.args.k c.args.start c.args.r.offset c.args.kind (place - 1) c.holder_before-place.result _ _ _ _ c.from.ensures c.from-2.ensures c.line_place-at.ensures.place c.width_of-width.ensures.width c.holder_before-place.ensures)

pub holder_before-place-requires : goal.holder_before-place-requires
holder_before-place-requires c = record { near = c.line_place-at.ensures.near; inside = omega (arith, c.loop-place.invariant.inside) }

pub returns-then-is_far : goal.returns-then-is_far
returns-then-is_far c =
    let ds = c.args.definitions.now in
    let ps = c.spans-spans.result.now in
    let width = fix_width c.args.kind in
    let place = c.loop-place.place in
    let number = c.number.result in
    let P = FitsIn ds c.args.start c.args.r c.args.kind c.args.address in
    let held = held_here ds ps c.args.k (c.args.start + c.args.r.offset) width place number P c.spans-spans.ensures (omega arith) c.loop-place-test.true c.loop-place.invariant c.number.ensures in
    let here = c.row-definition.ensures in
    sym (far_here ds c.args.k c.args.start number c.args.r c.args.kind c.args.address _ held here (sym c.is_far.ensures ∙ c.if-is_far.true))

pub returns : goal.returns
returns c =
    let ds = c.args.definitions.now in
    let ps = c.spans-spans.result.now in
    let at = line_place c.args.k (c.args.start + c.args.r.offset) in
    let width = fix_width c.args.kind in
    let P = FitsIn ds c.args.start c.args.r c.args.kind c.args.address in
    let none : c.loop-place.place ≡ 0 = omega (arith, c.loop-place-test.false) in
    let done : IsDone ps at width 0 P = subst (λ n. IsDone ps at width n P) none c.loop-place.invariant in
    sym (none_far ds c.args.k c.args.start c.args.r c.args.kind c.args.address (done_all ds ps c.args.k (c.args.start + c.args.r.offset) width P c.spans-spans.ensures (omega arith) done))
