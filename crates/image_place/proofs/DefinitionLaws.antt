-- Definitions that are found one after the other.
use Rattle.std.proofs.Common.{◌≡◌, ℕ, suc, ◌+◌, ◌<◌, ◌≤◌, List, [], ◌∷◌, ◌++◌, length, map, take, get_or, Bool, true, false, cond, refl, ap, sym, ◌∙◌, arith, append_assoc, append-nil}
use Rattle.std.specs.Prelude.{filter, flat_map}
use Rattle.std.specs.List.{enumerate_from}
use Rattle.std.proofs.lemmas.List.{take_more, take_all, length-take-le, get_or-map}
use Rattle.std.proofs.lemmas.List.Elements.{filter-append}
use Rattle.std.proofs.lemmas.Grind.{flat_map-append}
use Rattle.image_view.specs.View.{View, ViewSymbol}
use Rattle.image_view.specs.ViewRows.{symbol_seen}
use Rattle.image_view.specs.declared.view.ViewSymbol.{ViewSymbol as Row}
use Rattle.image_place.specs.Placed.{At, symbols_at, all_definitions}
use Rattle.image_place.specs.DefinitionRows.{is_found, found_if}

pub enumerate_end : {A : Type 0} (n : ℕ) (xs : List A) (x : A) → enumerate_from n (xs ++ x ∷ []) ≡ enumerate_from n xs ++ (n + length xs, x) ∷ []
enumerate_end n [] x = let start : n ≡ n + 0 = omega arith in ap (λ m. (m, x) ∷ []) start
enumerate_end n (y ∷ xs) x = let next : n + 1 + length xs ≡ n + suc (length xs) = omega arith in ap (λ ys. (n, y) ∷ ys) (enumerate_end (n + 1) xs x ∙ ap (λ m. enumerate_from (n + 1) xs ++ (m, x) ∷ []) next)

-- the first i elements with their numbers, and one more
pub enumerate_more : {A : Type 0} (xs : List A) (i : ℕ) (d : A) → i < length xs → enumerate_from 0 (take (i + 1) xs) ≡ enumerate_from 0 (take i xs) ++ (i, get_or xs i d) ∷ []
enumerate_more xs i d h =
    let long : 0 + length (take i xs) ≡ i = omega (arith, length-take-le i xs (omega (arith, h))) in
    ap (enumerate_from 0) (take_more xs i d h) ∙ enumerate_end 0 (take i xs) (get_or xs i d) ∙ ap (λ n. enumerate_from 0 (take i xs) ++ (n, get_or xs i d) ∷ []) long

pub map_append : {A B : Type 0} (f : A → B) (xs ys : List A) → map f (xs ++ ys) ≡ map f xs ++ map f ys
map_append f [] ys = refl
map_append f (x ∷ xs) ys = ap (λ zs. f x ∷ zs) (map_append f xs ys)

abbrev pub at_row : ℕ → ℕ × ViewSymbol → At
at_row q e = record { image = q; row = e.0; symbol = e.1 }

found_by : (b : Bool) (a : At) → is_found a ≡ b → filter is_found (a ∷ []) ≡ cond b (a ∷ []) []
found_by true a e = rw e refl
found_by false a e = rw e refl

-- the definitions of the first rows of an image, and of one more
pub found_more : (q : ℕ) (xs : List ViewSymbol) (i : ℕ) (d : ViewSymbol) → i < length xs → filter is_found (map (at_row q) (enumerate_from 0 (take (i + 1) xs))) ≡ filter is_found (map (at_row q) (enumerate_from 0 (take i xs))) ++ found_if q i (get_or xs i d)
found_more q xs i d h =
    ap (λ es. filter is_found (map (at_row q) es)) (enumerate_more xs i d h)
    ∙ ap (filter is_found) (map_append (at_row q) (enumerate_from 0 (take i xs)) ((i, get_or xs i d) ∷ []))
    ∙ filter-append is_found (map (at_row q) (enumerate_from 0 (take i xs))) (at_row q (i, get_or xs i d) ∷ [])
    ∙ ap (λ ys. filter is_found (map (at_row q) (enumerate_from 0 (take i xs))) ++ ys) (found_by (is_found (at_row q (i, get_or xs i d))) (at_row q (i, get_or xs i d)) refl)

pub long_map : {A B : Type 0} (f : A → B) (xs : List A) → length (map f xs) ≡ length xs
long_map f [] = refl
long_map f (x ∷ xs) = ap suc (long_map f xs)

-- one symbol more is gone over
pub found_step : (q : ℕ) (front old new : List At) (rows : List Row) (xs : List ViewSymbol) (i : ℕ) (d : Row) → map symbol_seen rows ≡ xs → i < length rows → new ≡ old ++ found_if q i (symbol_seen (get_or rows i d))
    → old ≡ front ++ filter is_found (map (at_row q) (enumerate_from 0 (take i xs))) → new ≡ front ++ filter is_found (map (at_row q) (enumerate_from 0 (take (i + 1) xs)))
found_step q front old new rows xs i d same below n o =
    let inside : i < length xs = omega (arith, below, ap length same, long_map symbol_seen rows) in
    let here : get_or xs i (symbol_seen d) ≡ symbol_seen (get_or rows i d) = ap (λ ys. get_or ys i (symbol_seen d)) (sym same) ∙ get_or-map symbol_seen rows i d (symbol_seen d) below in
    let more = found_more q xs i (symbol_seen d) inside in
    n ∙ ap (λ ys. ys ++ found_if q i (symbol_seen (get_or rows i d))) o ∙ append_assoc front (filter is_found (map (at_row q) (enumerate_from 0 (take i xs)))) (found_if q i (symbol_seen (get_or rows i d)))
    ∙ ap (λ s. front ++ (filter is_found (map (at_row q) (enumerate_from 0 (take i xs))) ++ found_if q i s)) (sym here) ∙ ap (λ ys. front ++ ys) (sym more)

-- the definitions of the first images
abbrev pub found_in : List View → List At
found_in views = filter is_found (flat_map symbols_at (enumerate_from 0 views))

found_next_at : (views : List View) (i : ℕ) (d : View) → i < length views → found_in (take (i + 1) views) ≡ found_in (take i views) ++ filter is_found (symbols_at (i, get_or views i d))
found_next_at views i d h =
    ap (λ es. filter is_found (flat_map symbols_at es)) (enumerate_more views i d h)
    ∙ ap (filter is_found) (flat_map-append symbols_at (enumerate_from 0 (take i views)) ((i, get_or views i d) ∷ []) ∙ ap (λ ys. flat_map symbols_at (enumerate_from 0 (take i views)) ++ ys) (append-nil (symbols_at (i, get_or views i d))))
    ∙ filter-append is_found (flat_map symbols_at (enumerate_from 0 (take i views))) (symbols_at (i, get_or views i d))

pub found_next : (views : List View) (i : ℕ) (v : View) → i < length views → v ≡ get_or views i v → found_in (take (i + 1) views) ≡ found_in (take i views) ++ filter is_found (symbols_at (i, v))
found_next views i v h e = found_next_at views i v h ∙ ap (λ w. found_in (take i views) ++ filter is_found (symbols_at (i, w))) (sym e)

pub found_all : (views : List View) (i : ℕ) → length views ≤ i → found_in (take i views) ≡ all_definitions views
unfolding all_definitions
found_all views i h = ap found_in (take_all i views h)
