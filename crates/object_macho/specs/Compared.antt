-- Numbers that are compared with those of a list.
use Rattle.std.specs.Prelude.{◌≡◌, ℕ, ◌≤◌, List, ◌++◌, length, take, Option, MatchOption}

-- these numbers stand in a list from a place on, up to the place behind them
pub record StandAt (given : List ℕ) (at next : ℕ) (numbers : List ℕ) : Type 0 where
  pub room : next ≤ length given
  pub front : take next given ≡ take at given ++ numbers

-- an answer that tells the place behind them; none where they don't stand there
abbrev pub EndsNumbers : Option ℕ → List ℕ → ℕ → List ℕ → Type 0
EndsNumbers answer given at numbers = MatchOption answer ((rest : List ℕ) → given ≡ take at given ++ (numbers ++ rest) → ⊥) (λ next. StandAt given at next numbers)
