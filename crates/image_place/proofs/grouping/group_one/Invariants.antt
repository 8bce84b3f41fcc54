use Rattle.std.proofs.Common.{◌+◌, map}
use Rattle.image_place.specs.Indexed.{line_place}
use Rattle.image_place.proofs.GroupLaws.{WritesFrom, items_of}
use Rattle.image_place.proofs.grouping.group_one.Given as goal

abbrev pub invariant-loop-place : goal.invariant-loop-place
invariant-loop-place l =
    WritesFrom l.spans (line_place l.k (l.start + l.r.offset)) l.width l.place l.r (map items_of l.fn.fields.items) (map items_of l.fields.items)

abbrev pub decreases-loop-place : goal.decreases-loop-place
decreases-loop-place l = l.place
