-- A look-up in the code's rows is one in the rows of the family.
use Rattle.std.proofs.Common.{◌≡◌, ℕ, ◌==◌, List, [], ◌∷◌, Bor, map, option_map, unwrap_or, cond, true, false, Some, refl, sym, ap, ◌∙◌}
use Rattle.std.specs.List.{find}
use Rattle.goblin_reloc_names.specs.Families.{Family, family_of}
use Rattle.goblin_reloc_names.specs.Names.{named_rows, known_in, unknown_in, known_name, unknown_name, relocation_name}
use Rattle.goblin_reloc_names.specs.Lookup.{name_among, name_row}

-- what is found among the code's rows is what is found among what a contract sees of them
find-name_row : (number : ℕ) (rows : List (ℕ × Bor (List ℕ))) → option_map (λ row. row.1.now) (find (λ row. row.0 == number) rows) ≡ option_map (λ row. row.1) (find (λ row. row.0 == number) (map name_row rows))
find-name_row number [] = refl
find-name_row number (row ∷ rows) =
    elim (row.0 == number) as (λ same. option_map (λ r. r.1.now) (cond same (Some row) (find (λ r. r.0 == number) rows)) ≡ option_map (λ r. r.1) (cond same (Some (name_row row)) (find (λ r. r.0 == number) (map name_row rows)))) [ true ↦ refl | false ↦ find-name_row number rows ]

-- where the code's rows are those of the machine's family, the look-up tells the name
told-in : (family : Family) (rows : List (ℕ × Bor (List ℕ))) (number machine : ℕ) → map name_row rows ≡ named_rows family → family_of machine ≡ Some family → name_among rows number family.unknown ≡ relocation_name number machine
unfolding relocation_name known_name unknown_name name_among
told-in family rows number machine same is =
    ap (λ told. unwrap_or told family.unknown) (find-name_row number rows ∙ ap (λ named. option_map (λ row. row.1) (find (λ row. row.0 == number) named)) same) ∙ sym (ap (λ f. unwrap_or (known_in f number) (unknown_in f)) is)

-- where the code's names are those of the machine's family, the look-up in them tells the name
pub told-by : (family : Family) (rows : List (ℕ × Bor (List ℕ))) (unknown told : List ℕ) (number machine : ℕ) → map name_row rows ≡ named_rows family → unknown ≡ family.unknown
    → family_of machine ≡ Some family → told ≡ name_among rows number unknown → told ≡ relocation_name number machine
told-by family rows unknown told number machine same other is tells = tells ∙ (ap (λ text. name_among rows number text) other ∙ told-in family rows number machine same is)
