use Rattle.std.proofs.Common.{◌≡◌, Some, slice_get, get_or, sym, ◌∙◌, arith}
use Rattle.std.proofs.lemmas.Option.{slice_get-get_or}
use Rattle.image_place.specs.Placed.{AddressRow}
use Rattle.image_place.proofs.FindingLaws.{row_found, row_none}
use Rattle.image_place.proofs.addresses.ordered_row.Goals as goal

pub returns-then-is_row_of : goal.returns-then-is_row_of
returns-then-is_row_of c =
    let rows = c.args.rows.now in
    let place = c.probe-place.result in
    let z : AddressRow = record { image = 0; symbol = 0; address = 0; size = 0 } in
    let here : slice_get rows place ≡ Some (get_or rows place z) = slice_get-get_or rows place z (omega (arith, c.probe-place.ensures.end, c.loop-first.invariant.bound)) in
    sym (row_found rows c.args.image c.args.symbol place (get_or rows place z) c.requires.order here (sym c.is_row_of.ensures ∙ c.if-is_row_of.true))

pub returns : goal.returns
returns c =
    let rows = c.args.rows.now in
    let same : c.loop-first.end ≡ c.loop-first.first = omega (arith, c.loop-first-test.false, c.loop-first.invariant.order) in
    sym (row_none rows c.args.image c.args.symbol c.loop-first.first c.loop-first.invariant.below (λ m a low at_a. c.loop-first.invariant.above m a (omega (arith, same, low)) at_a))
