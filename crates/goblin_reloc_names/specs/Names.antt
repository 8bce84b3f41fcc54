-- Which name a relocation number of a machine has.
use Rattle.std.specs.Prelude.{ℕ, List, [], ◌∷◌, codes, Bool, ◌==◌, not, ◌||◌, Option, Some, None, option_map, unwrap_or, map, filter, drop}
use Rattle.std.specs.List.{find, list_any, ends_with}
use Rattle.std.specs.Str.{bytes_eq}
use Rattle.goblin_reloc_names.specs.Families.{Family, family_of}

-- names that are never told: the NONE of three families, and two names whose number has another
abbrev pub passed_over : List (List ℕ)
passed_over =
    codes "R_X86_64_NONE" ∷ codes "R_AARCH64_NONE" ∷ codes "R_ARM_NONE" ∷ codes "R_ARM_SWI24"
    ∷ codes "R_ARM_THM_TLS_DESCSEQ" ∷ []

-- nor is the count of a table, whose name ends in "_NUM"
abbrev pub is_passed_over : List ℕ → Bool
is_passed_over name = ends_with (λ a b. a == b) name (codes "_NUM") || list_any (bytes_eq name) passed_over

-- the numbers of a family that have a name, each with the text that is told
unfoldable pub named_rows : Family → List (ℕ × List ℕ)
named_rows family = map (λ row. (row.number, drop family.left_out row.name)) (filter (λ row. not (is_passed_over row.name)) family.rows)

-- the name that a family has for a number, if any
abbrev pub name_of : Family → ℕ → Option (List ℕ)
name_of family number = option_map (λ row. row.1) (find (λ row. row.0 == number) (named_rows family))

abbrev pub known_in : Option Family → ℕ → Option (List ℕ)
known_in None number = None
known_in (Some family) number = name_of family number

-- the name of a number of a machine, and none where the machine has no family, or the family no name for the number
unfoldable pub known_name : ℕ → ℕ → Option (List ℕ)
known_name number machine = known_in (family_of machine) number

abbrev pub unknown_in : Option Family → List ℕ
unknown_in None = codes "R_UNKNOWN"
unknown_in (Some family) = family.unknown

-- the text for a number of a machine that has no name
unfoldable pub unknown_name : ℕ → List ℕ
unknown_name machine = unknown_in (family_of machine)

-- what is told of a number of a machine: its name, else the machine's text for numbers without one
unfoldable pub relocation_name : ℕ → ℕ → List ℕ
relocation_name number machine = unwrap_or (known_name number machine) (unknown_name machine)
