use Rattle.std.proofs.Common.{◌≡◌, ◌≤◌, slice_get, Some, true}
use Rattle.image_place.specs.Placed.{Definition, holds}
use Rattle.image_place.specs.Holders.{IsDone}
use Rattle.image_place.specs.Indexed.{line_place}
use Rattle.image_place.proofs.holding.first_number.Given as goal

abbrev pub invariant-loop-place : goal.invariant-loop-place
invariant-loop-place l =
    record {
      done : IsDone l.spans (line_place l.section l.at) 1 l.place (λ i. l.first ≤ i);
      here : (d : Definition) → slice_get l.definitions l.first ≡ Some d → holds l.section l.at 1 d ≡ true;
    }

abbrev pub decreases-loop-place : goal.decreases-loop-place
decreases-loop-place l = l.place
