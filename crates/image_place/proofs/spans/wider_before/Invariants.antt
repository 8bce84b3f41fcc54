use Rattle.std.proofs.Common.{◌≡◌, ◌<◌, ◌≤◌, ℕ, slice_get, Some}
use Rattle.image_place.specs.Spanning.{Span}
use Rattle.image_place.proofs.spans.wider_before.Given as goal

abbrev pub invariant-loop-before : goal.invariant-loop-before
invariant-loop-before l =
    record {
      bound : l.before ≤ l.place;
      ends : (i : ℕ) (p : Span) → l.before ≤ i → i < l.place → slice_get l.rows i ≡ Some p → p.high ≤ l.end;
    }

abbrev pub decreases-loop-before : goal.decreases-loop-before
decreases-loop-before l = l.before
