use Rattle.std.proofs.Common.{◌≡◌, ◌-◌, ◌≤◌, length, ap, ◌∙◌, subst, arith}
use Rattle.std.proofs.lemmas.Option.{slice_get_within}
use Rattle.image_place.specs.Spanning.{IsHolder}
use Rattle.image_place.specs.Holders.{IsDone}
use Rattle.image_place.specs.Indexed.{line_place}
use Rattle.image_place.specs.RangeRows.{definition_seen}
use Rattle.image_place.proofs.DefinitionLaws.{long_map}
use Rattle.image_place.proofs.HolderLaws.{done_first, done_weaker, done_more, done_all, held_here, first_here}
use Rattle.image_place.proofs.holding.first_number.Goals as goal

pub loop-place-init : goal.loop-place-init
loop-place-init c =
    let ds = c.args.definitions.now in
    let ps = c.spans-spans.result.now in
    let target : c.line_place-target.result ≡ line_place c.args.section c.args.at = c.line_place-target.ensures.place ∙ ap (line_place c.args.section) c.from.ensures in
    let holder : IsHolder ps (line_place c.args.section c.args.at) 1 (length ps) c.last_holder-place.result = subst (λ t. IsHolder ps t 1 (length ps) c.last_holder-place.result) target c.last_holder-place.ensures in
    record {
      done = done_first ps (line_place c.args.section c.args.at) 1 c.last_holder-place.result (λ i. length c.rows-first.result.now ≤ i) holder;
      here = λ d at_d. absurd (omega (arith, slice_get_within ds (length c.rows-first.result.now) d at_d, ap length c.rows-first.ensures, long_map definition_seen c.rows-first.result.now));
    }

pub loop-place-preserved : goal.loop-place-preserved
loop-place-preserved c =
    let ds = c.args.definitions.now in
    let ps = c.spans-spans.result.now in
    let at = line_place c.args.section c.args.at in
    let target : c.line_place-target.result ≡ at = c.line_place-target.ensures.place ∙ ap (line_place c.args.section) c.from.ensures in
    let place = c.loop-place.place in
    let first = c.loop-place.first in
    let best = c.min-first.result in
    let number = c.number.result in
    let holder : IsHolder ps at 1 (place - 1) c.holder_before-place.result = subst (λ t. IsHolder ps t 1 (place - 1) c.holder_before-place.result) target c.holder_before-place.ensures in
    let weaker = done_weaker ps at 1 place (λ i. first ≤ i) (λ i. best ≤ i) (λ i h. omega (arith, h, c.min-first.ensures)) c.loop-place.invariant.done in
    let held = held_here ds ps c.args.section c.args.at 1 place number (λ i. best ≤ i) c.spans-spans.ensures (omega (arith, c.ranges.at.fits)) c.loop-place-test.true weaker c.number.ensures in
    record {
      done = done_more ps at 1 place c.holder_before-place.result number (λ i. best ≤ i) c.loop-place-test.true weaker c.number.ensures (omega (arith, c.min-first.ensures)) holder;
      here = first_here ds c.args.section c.args.at 1 first number best c.min-first.ensures c.loop-place.invariant.here held;
    }

pub returns : goal.returns
returns c =
    let ds = c.args.definitions.now in
    let ps = c.spans-spans.result.now in
    let at = line_place c.args.section c.args.at in
    let first = c.loop-place.first in
    let none : c.loop-place.place ≡ 0 = omega (arith, c.loop-place-test.false) in
    let done : IsDone ps at 1 0 (λ i. first ≤ i) = subst (λ n. IsDone ps at 1 n (λ i. first ≤ i)) none c.loop-place.invariant.done in
    record {
      before = done_all ds ps c.args.section c.args.at 1 (λ i. first ≤ i) c.spans-spans.ensures (omega (arith, c.ranges.at.fits)) done;
      here = c.loop-place.invariant.here;
    }

pub number-requires : goal.number-requires
number-requires c = record { more = c.loop-place-test.true; inside = c.loop-place.invariant.done.inside }

pub holder_before-place-requires : goal.holder_before-place-requires
holder_before-place-requires c = record { near = c.line_place-target.ensures.near; inside = omega (arith, c.loop-place.invariant.done.inside) }
