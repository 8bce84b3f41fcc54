-- The look-up in a table of names.
use Rattle.std.specs.Prelude.{ℕ, ◌==◌, List, unwrap_or, option_map}
use Rattle.std.specs.List.{find}
use Rattle.std.proofs.Common.{Bor}

-- the name in the first of the rows with the number, or the other text
unfoldable pub name_among : List (ℕ × Bor (List ℕ)) → ℕ → List ℕ → List ℕ
name_among rows number unknown = unwrap_or (option_map (λ row. row.1.now) (find (λ row. row.0 == number) rows)) unknown

-- what a contract sees of a row
abbrev pub name_row : ℕ × Bor (List ℕ) → ℕ × List ℕ
name_row row = (row.0, row.1.now)
