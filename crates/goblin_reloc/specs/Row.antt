-- What stands in a table of relocation numbers, or of machines.
use Rattle.std.specs.Prelude.{◌≡◌, ℕ, List, map}

-- a number and its name in the public document, and this crate's constant of that name
pub record Row : Type 0 where
  pub number : ℕ
  pub name : List ℕ
  pub constant : ℕ

abbrev pub relocation : ℕ → List ℕ → ℕ → Row
relocation number name constant = record { number = number; name = name; constant = constant }

-- each constant is the number of its row
abbrev pub ConstantsAgree : List Row → Type 0
ConstantsAgree rows = map (λ r. r.constant) rows ≡ map (λ r. r.number) rows
