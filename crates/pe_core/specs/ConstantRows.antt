-- Constants beside the numbers of the standards.
use Rattle.std.specs.Prelude.{ℕ, ◌==◌, List, IsTrue}
use Rattle.std.specs.List.{list_all}

-- each constant is the number beside it
abbrev pub AreNumbers : List (ℕ × ℕ) → Type 0
AreNumbers rows = IsTrue (list_all (λ row. row.0 == row.1) rows)
