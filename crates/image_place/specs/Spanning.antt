-- Ranges of a line, as placement finds them.
use Rattle.std.specs.Prelude.{◌≡◌, ℕ, ◌+◌, ◌-◌, ◌<◌, ◌≤◌, ◌&&◌, nat_le, Bool, true, false, List, length, slice_get, Some}
use Rattle.std.specs.List.Sorted.{IsNonDecreasingBy}
pub use Rattle.image_place.specs.declared.spans.Span.{Span}

-- a range holds n bytes at this place
abbrev pub covers : ℕ → ℕ → Span → Bool
covers at n p = nat_le p.low at && nat_le (at + n) p.high

-- no range from place w to place j ends behind that of place j
pub record IsWider (ps : List Span) (j w : ℕ) : Type 0 where
  pub before : w ≤ j
  pub ends : (i : ℕ) (p r : Span) → w ≤ i → i < j → slice_get ps i ≡ Some p → slice_get ps j ≡ Some r → p.high ≤ r.high

-- beside each of the first so many ranges such a place
pub record AreWider (ps : List Span) (ws : List ℕ) (count : ℕ) : Type 0 where
  pub long : length ws ≡ count
  pub each : (j w : ℕ) → slice_get ws j ≡ Some w → IsWider ps j w

-- ranges by where they begin, with these places
pub record AreLinked (ps : List Span) (ws : List ℕ) : Type 0 where
  pub order : IsNonDecreasingBy (λ p. p.low) ps
  pub wider : AreWider ps ws (length ps)

-- the place behind the last of the first ranges that holds n bytes at this place, 0 where none does
pub record IsHolder (ps : List Span) (at n below place : ℕ) : Type 0 where
  pub bound : place ≤ below
  pub here : (p : Span) → 0 < place → slice_get ps (place - 1) ≡ Some p → covers at n p ≡ true
  pub later : (m : ℕ) (p : Span) → place ≤ m → m < below → slice_get ps m ≡ Some p → covers at n p ≡ false
