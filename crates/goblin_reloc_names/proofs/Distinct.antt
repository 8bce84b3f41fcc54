-- Names that differ from each other belong to one number each.
use Rattle.std.proofs.Common.{◌≡◌, ℕ, ◌==◌, Bool, true, false, not, ◌||◌, ◌&&◌, List, [], ◌∷◌, Option, Some, option_map, cond, refl, sym, ◌∙◌}
use Rattle.std.specs.List.{find, list_any}
use Rattle.std.specs.Str.{bytes_eq}
use Rattle.std.proofs.lemmas.Bool.{eqb-true, or_left, or_right, and_parts, both_ways, not-true}
use Rattle.std.proofs.lemmas.Slice.Eq.{bytes_eq-Decides}

-- whether a row has the name
abbrev pub is_named : List ℕ → List (ℕ × List ℕ) → Bool
is_named name rows = list_any (λ row. bytes_eq name row.1) rows

-- whether no name stands twice
abbrev pub are_apart : List (ℕ × List ℕ) → Bool
are_apart [] = true
are_apart (row ∷ rows) = not (is_named row.1 rows) && are_apart rows

-- the name in a row that was found
abbrev pub told : Option (ℕ × List ℕ) → Option (List ℕ)
told found = option_map (λ row. row.1) found

some_equal : (x y : List ℕ) → Some x ≡ Some y → x ≡ y
some_equal x y e = cc

equal_bytes : (x y : List ℕ) → x ≡ y → bytes_eq x y ≡ true
equal_bytes x y e = (bytes_eq-Decides x y).1 e

-- the first row, or a later one, has the name that is found
named_here : (row : ℕ × List ℕ) (rows : List (ℕ × List ℕ)) (name : List ℕ) (same : Bool) (rest : Option (ℕ × List ℕ)) → (told rest ≡ Some name → is_named name rows ≡ true) → told (cond same (Some row) rest) ≡ Some name → (bytes_eq name row.1 || is_named name rows) ≡ true
named_here row rows name true rest later found = or_left _ _ (equal_bytes name row.1 (sym (some_equal row.1 name found)))
named_here row rows name false rest later found = or_right _ _ (later found)

-- a name that is found for a number stands in a row
pub named : (number : ℕ) (rows : List (ℕ × List ℕ)) (name : List ℕ) → told (find (λ row. row.0 == number) rows) ≡ Some name → is_named name rows ≡ true
named number [] name found = cc
named number (row ∷ rows) name found = named_here row rows name (row.0 == number) (find (λ r. r.0 == number) rows) (named number rows name) found

-- one number alone has a name, by whether the first row has the one and the other number
one_here : (row : ℕ × List ℕ) (rows : List (ℕ × List ℕ)) (a b : ℕ) (name : List ℕ) (is_a is_b : Bool) → (row.0 == a) ≡ is_a → (row.0 == b) ≡ is_b → not (is_named row.1 rows) ≡ true → (told (find (λ r. r.0 == a) rows) ≡ Some name → told (find (λ r. r.0 == b) rows) ≡ Some name → a ≡ b) → told (cond is_a (Some row) (find (λ r. r.0 == a) rows)) ≡ Some name → told (cond is_b (Some row) (find (λ r. r.0 == b) rows)) ≡ Some name → a ≡ b
one_here row rows a b name true true ia ib other later fa fb = sym (eqb-true row.0 a ia) ∙ eqb-true row.0 b ib
one_here row rows a b name true false ia ib other later fa fb = absurd (both_ways (is_named row.1 rows) (not-true (is_named row.1 rows) other) (named b rows row.1 (fb ∙ sym fa)))
one_here row rows a b name false true ia ib other later fa fb = absurd (both_ways (is_named row.1 rows) (not-true (is_named row.1 rows) other) (named a rows row.1 (fa ∙ sym fb)))
one_here row rows a b name false false ia ib other later fa fb = later fa fb

-- where no name stands twice, a name is found for one number alone
pub one_number : (rows : List (ℕ × List ℕ)) (a b : ℕ) (name : List ℕ) → are_apart rows ≡ true → told (find (λ row. row.0 == a) rows) ≡ Some name → told (find (λ row. row.0 == b) rows) ≡ Some name → a ≡ b
one_number [] a b name apart fa fb = cc
one_number (row ∷ rows) a b name apart fa fb =
    let parts = and_parts (not (is_named row.1 rows)) (are_apart rows) apart in
    one_here row rows a b name (row.0 == a) (row.0 == b) refl refl parts.0 (one_number rows a b name parts.1) fa fb
