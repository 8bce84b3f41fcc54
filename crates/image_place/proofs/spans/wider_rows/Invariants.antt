use Rattle.image_place.specs.Spanning.{AreWider}
use Rattle.image_place.proofs.spans.wider_rows.Given as goal

abbrev pub invariant-loop-place : goal.invariant-loop-place
invariant-loop-place l = AreWider l.rows l.wider.items l.place
