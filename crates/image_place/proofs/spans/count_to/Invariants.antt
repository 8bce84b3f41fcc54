use Rattle.std.proofs.Common.{◌≡◌, ◌-◌, ◌<◌, ◌≤◌, ℕ, length, slice_get, Some}
use Rattle.image_place.specs.declared.spans.Span.{Span}
use Rattle.image_place.proofs.spans.count_to.Given as goal

abbrev pub invariant-loop-first : goal.invariant-loop-first
invariant-loop-first l =
    record {
      order : l.first ≤ l.end;
      bound : l.end ≤ length l.rows;
      later : (m : ℕ) (p : Span) → l.end ≤ m → slice_get l.rows m ≡ Some p → l.at < p.low;
    }

abbrev pub decreases-loop-first : goal.decreases-loop-first
decreases-loop-first l = l.end - l.first
