-- Definitions with their ranges, one after the other.
use Rattle.std.proofs.Common.{◌≡◌, ℕ, ◌+◌, ◌<◌, List, [], ◌∷◌, ◌++◌, length, map, take, get_or, Some, None, refl, ap, sym, ◌∙◌, arith}
use Rattle.std.specs.Prelude.{Option}
use Rattle.std.specs.List.{filter_map, cons_option, enumerate_from}
use Rattle.std.proofs.lemmas.List.{get_or-map}
use Rattle.image_view.specs.View.{ViewSymbol}
use Rattle.image_view.specs.ViewRows.{symbol_seen}
use Rattle.image_view.specs.declared.view.ViewSymbol.{ViewSymbol as Row}
use Rattle.image_place.specs.Placed.{AddressRow, Definition, definition_at, row_for}
use Rattle.image_place.specs.RangeRows.{one_or_none}
use Rattle.image_place.proofs.DefinitionLaws.{enumerate_more, long_map}

by_one : {B : Type 0} (o : Option B) (xs ys zs : List B) → zs ≡ xs ++ ys → cons_option o zs ≡ cons_option o xs ++ ys
by_one None xs ys zs e = e
by_one (Some x) xs ys zs e = ap (λ us. x ∷ us) e

pub filter_map_end : {A B : Type 0} (f : A → Option B) (xs : List A) (y : A) → filter_map f (xs ++ y ∷ []) ≡ filter_map f xs ++ one_or_none (f y)
filter_map_end f [] y = refl
filter_map_end f (x ∷ xs) y = by_one (f x) (filter_map f xs) (one_or_none (f y)) (filter_map f (xs ++ y ∷ [])) (filter_map_end f xs y)

-- a symbol with its row as a definition
abbrev pub definition_by : List AddressRow → ℕ → ℕ × ViewSymbol → Option Definition
definition_by addresses q e = definition_at e.0 e.1 e.1.section (row_for addresses q e.0)

pub range_step : (addresses : List AddressRow) (q : ℕ) (old new : List Definition) (rows : List Row) (xs : List ViewSymbol) (i : ℕ) (d : Row) → map symbol_seen rows ≡ xs → i < length rows
    → new ≡ old ++ one_or_none (definition_by addresses q (i, symbol_seen (get_or rows i d))) → old ≡ filter_map (definition_by addresses q) (enumerate_from 0 (take i xs)) → new ≡ filter_map (definition_by addresses q) (enumerate_from 0 (take (i + 1) xs))
range_step addresses q old new rows xs i d same below n o =
    let inside : i < length xs = omega (arith, below, ap length same, long_map symbol_seen rows) in
    let here : get_or xs i (symbol_seen d) ≡ symbol_seen (get_or rows i d) = ap (λ ys. get_or ys i (symbol_seen d)) (sym same) ∙ get_or-map symbol_seen rows i d (symbol_seen d) below in
    n ∙ ap (λ ys. ys ++ one_or_none (definition_by addresses q (i, symbol_seen (get_or rows i d)))) o
    ∙ ap (λ s. filter_map (definition_by addresses q) (enumerate_from 0 (take i xs)) ++ one_or_none (definition_by addresses q (i, s))) (sym here)
    ∙ sym (ap (filter_map (definition_by addresses q)) (enumerate_more xs i (symbol_seen d) inside) ∙ filter_map_end (definition_by addresses q) (enumerate_from 0 (take i xs)) (i, get_or xs i (symbol_seen d)))
