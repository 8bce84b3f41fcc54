use Rattle.std.proofs.Common.{◌≡◌, ◌<◌, ◌≤◌, ℕ, slice_get, Some, false}
use Rattle.image_place.specs.Spanning.{Span, covers}
use Rattle.image_place.proofs.spans.holder_below.Given as goal

abbrev pub invariant-loop-place : goal.invariant-loop-place
invariant-loop-place l =
    record {
      bound : l.place ≤ l.below;
      later : (m : ℕ) (p : Span) → l.place ≤ m → m < l.below → slice_get l.rows m ≡ Some p → covers l.at l.width p ≡ false;
    }

abbrev pub decreases-loop-place : goal.decreases-loop-place
decreases-loop-place l = l.place
