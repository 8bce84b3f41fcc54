-- Definitions that hold some bytes, as placement goes through them.
use Rattle.std.specs.Prelude.{◌≡◌, ℕ, ◌-◌, ◌<◌, ◌≤◌, Bool, true, List, length, slice_get, Some}
use Rattle.image_place.specs.Placed.{Definition}
use Rattle.image_place.specs.Spanning.{Span, covers}

-- the range before a place holds the bytes, and the numbers of those from it on that do are done
pub record IsDone (ps : List Span) (at n place : ℕ) (done : ℕ → Type 0) : Type 0 where
  pub inside : place ≤ length ps
  pub here : (p : Span) → 0 < place → slice_get ps (place - 1) ≡ Some p → covers at n p ≡ true
  pub each : (m : ℕ) (p : Span) → place ≤ m → slice_get ps m ≡ Some p → covers at n p ≡ true → done p.number

-- the number of the first definition that passes a test, or that of all where none does
pub record IsFirst (test : Definition → Bool) (ds : List Definition) (number : ℕ) : Type 0 where
  pub before : (i : ℕ) (d : Definition) → slice_get ds i ≡ Some d → test d ≡ true → number ≤ i
  pub here : (d : Definition) → slice_get ds number ≡ Some d → test d ≡ true
