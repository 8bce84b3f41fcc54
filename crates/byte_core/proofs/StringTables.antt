-- Texts at their places in a table of them.
use Rattle.std.proofs.Common.{◌≡◌, ℕ, ◌+◌, ◌<◌, ◌==◌, List, [], ◌∷◌, length, take, false, Some, refl, arith, length-append}
use Rattle.std.specs.Prelude.{flat_map, slice_get, sum_by}
use Rattle.std.specs.List.{list_any}
use Rattle.std.proofs.lemmas.List.Sums.{sum_by-cons}
use Rattle.byte_core.specs.Number.{text_at}
use Rattle.byte_core.specs.Strings.{with_zero, string_bytes_of, strings_size, name_place}
use Rattle.byte_core.proofs.Standing.{StandsAt, stands_behind, stands_within, stands_inside, text_stands, row_stands_behind}

length-with_zeros : (names : List (List ℕ)) → length (flat_map with_zero names) ≡ sum_by (λ name. length name + 1) names
length-with_zeros [] = refl
length-with_zeros (name ∷ names) =
    omega (arith, length-append (with_zero name) (flat_map with_zero names), length-append name (0 ∷ []), length-with_zeros names, sum_by-cons (λ (x : List ℕ). length x + 1) name names)

pub length-string_bytes_of : (names : List (List ℕ)) → length (string_bytes_of names) ≡ strings_size names
unfolding string_bytes_of
length-string_bytes_of names = omega (arith, length-with_zeros names)

name_stands : (names : List (List ℕ)) (k : ℕ) (name : List ℕ) → slice_get names k ≡ Some name → StandsAt (string_bytes_of names) (with_zero name) (name_place names k)
unfolding string_bytes_of
name_stands names k name e =
    let all = stands_behind (0 ∷ []) (flat_map with_zero names) 1 refl in
    row_stands_behind with_zero (0 ∷ flat_map with_zero names) names k name 1 (name_place names k) all e (omega (arith, length-with_zeros (take k names)))

-- name k is read at its place
pub name_here : (b : List ℕ) (names : List (List ℕ)) (off k : ℕ) (name : List ℕ) → StandsAt b (string_bytes_of names) off → slice_get names k ≡ Some name → list_any (λ x. x == 0) name ≡ false
    → text_at b (off + name_place names k) (off + strings_size names) ≡ Some name
name_here b names off k name s e text =
    let n = name_stands names k name e in
    let within = stands_inside (string_bytes_of names) (with_zero name) (name_place names k) n in
    text_stands b name (off + name_place names k) (off + strings_size names) (stands_within b (string_bytes_of names) (with_zero name) off (name_place names k) s n) text
    (omega (arith, within, length-append name (0 ∷ []), length-string_bytes_of names))

pub name_place-lt : (names : List (List ℕ)) (k : ℕ) (name : List ℕ) → slice_get names k ≡ Some name → name_place names k + length name < strings_size names
name_place-lt names k name e =
    let n = name_stands names k name e in
    omega (arith, stands_inside (string_bytes_of names) (with_zero name) (name_place names k) n, length-append name (0 ∷ []), length-string_bytes_of names)
