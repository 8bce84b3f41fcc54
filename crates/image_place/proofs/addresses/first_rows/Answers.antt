use Rattle.std.proofs.Common.{take}
use Rattle.std.proofs.lemmas.List.{take_more}
use Rattle.image_place.proofs.FindingLaws.{notes_next}
use Rattle.image_place.proofs.addresses.first_rows.Goals as goal

pub loop-row-preserved : goal.loop-row-preserved
loop-row-preserved c =
    rw (take_more c.args.rows.now c.loop-row.row-index (record { image = 0; symbol = 0; address = 0; size = 0 }) c.loop-row-test.true)
    (notes_next c.loop-row.first c.note.new.first (take c.loop-row.row-index c.args.rows.now) _ c.loop-row.invariant c.in_ok-note.ensures)
