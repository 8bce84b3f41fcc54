use Rattle.std.proofs.Common.{◌+◌, ◌-◌, ◌/◌, ◌≤◌, arith}
use Rattle.std.proofs.lemmas.Option.{slice_get-get_or}
use Rattle.image_place.proofs.SpanLaws.{later_begins}
use Rattle.image_place.proofs.spans.count_to.Goals as goal

pub loop-first-preserved : goal.loop-first-preserved
loop-first-preserved c =
    let middle = c.loop-first.first + (c.loop-first.end - c.loop-first.first) / 2 in
    let order : c.loop-first.first ≤ middle = omega arith in
    record { order = order; bound = omega arith; later = later_begins c.args.rows.now middle c.args.at _ c.requires.order (slice_get-get_or c.args.rows.now middle _ (omega arith)) c.if-rows-middle.false }
