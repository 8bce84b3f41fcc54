use Rattle.image_place.proofs.NamingLaws.{outsides_step}
use Rattle.image_place.proofs.names.outsides.Goals as goal

pub loop-row-preserved : goal.loop-row-preserved
loop-row-preserved c =
    outsides_step c.loop-row.names c.note_outside.new.names c.args.externs.now c.loop-row.row-index c.row-item.result c.loop-row-test.true c.row-item.is c.loop-row.invariant (rw c.deref.ensures.value at c.in_ok-note_outside.ensures)
