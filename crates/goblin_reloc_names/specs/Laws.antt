-- What holds of the names of every machine.
use Rattle.std.specs.Prelude.{◌≡◌, ◌≢◌, ℕ, List, Some, IsSome}
use Rattle.std.specs.List.{Contains}
use Rattle.goblin_reloc_names.specs.Families.{Family, family_of}
use Rattle.goblin_reloc_names.specs.Names.{named_rows, known_name, unknown_name, relocation_name}

-- within one machine, names that are known and equal belong to one number
abbrev pub NamesAreDistinct : Type 0
NamesAreDistinct = (machine a b : ℕ) → IsSome (known_name a machine) → IsSome (known_name b machine) → relocation_name a machine ≡ relocation_name b machine → a ≡ b

-- a known name is never the machine's text for a number without a name
abbrev pub KnownIsTold : Type 0
KnownIsTold = (machine number : ℕ) → IsSome (known_name number machine) → relocation_name number machine ≢ unknown_name machine

-- each row that gives a name is told, so no two of them have one number
abbrev pub EachRowIsTold : Type 0
EachRowIsTold = (machine : ℕ) (family : Family) (row : ℕ × List ℕ) → family_of machine ≡ Some family → Contains (named_rows family) row → relocation_name row.0 machine ≡ row.1
