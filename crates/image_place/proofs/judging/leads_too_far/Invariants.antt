use Rattle.std.proofs.Common.{◌+◌}
use Rattle.image_place.specs.Fixups.{fix_width}
use Rattle.image_place.specs.Holders.{IsDone}
use Rattle.image_place.specs.Indexed.{line_place}
use Rattle.image_place.proofs.JudgingLaws.{FitsIn}
use Rattle.image_place.proofs.judging.leads_too_far.Given as goal

abbrev pub invariant-loop-place : goal.invariant-loop-place
invariant-loop-place l =
    IsDone l.spans (line_place l.k (l.start + l.r.offset)) (fix_width l.kind) l.place (FitsIn l.definitions l.start l.r l.kind l.address)

abbrev pub decreases-loop-place : goal.decreases-loop-place
decreases-loop-place l = l.place
