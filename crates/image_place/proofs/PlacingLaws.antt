-- Entries that are appended one after the other.
use Rattle.std.proofs.Common.{◌≡◌, ℕ, ◌+◌, ◌<◌, ◌≤◌, List, [], ◌∷◌, ◌++◌, length, map, take, get_or, refl, ap, sym, ◌∙◌, append_assoc, append-nil, Some, None, slice_get, arith}
use Rattle.std.specs.Prelude.{Option, flat_map}
use Rattle.std.specs.List.{filter_map, enumerate_from}
use Rattle.std.proofs.lemmas.List.{take_all, map_more, take_more, get_or-map}
use Rattle.std.proofs.lemmas.Grind.{flat_map-append}
use Rattle.image_place.specs.RangeRows.{definition_seen, one_or_none}
use Rattle.image_view.specs.View.{View, ViewSection}
use Rattle.image_place.specs.Placed.{Definition, PlacedEntry}
use Rattle.image_place.specs.Leading.{Binding}
use Rattle.image_place.specs.Applying.{bytes_by, entry_by}
use Rattle.image_place.specs.declared.ranges.Definition.{Definition as Row}
use Rattle.image_place.proofs.DefinitionLaws.{enumerate_more, long_map}
use Rattle.image_place.proofs.RangeSteps.{filter_map_end}

-- what the first i elements give, and one more
pub flat_next : {A B : Type 0} (f : ℕ × A → List B) (xs : List A) (i : ℕ) (d : A) → i < length xs → flat_map f (enumerate_from 0 (take (i + 1) xs)) ≡ flat_map f (enumerate_from 0 (take i xs)) ++ f (i, get_or xs i d)
flat_next f xs i d below =
    ap (flat_map f) (enumerate_more xs i d below) ∙ flat_map-append f (enumerate_from 0 (take i xs)) ((i, get_or xs i d) ∷ []) ∙ ap (λ ys. flat_map f (enumerate_from 0 (take i xs)) ++ ys) (append-nil (f (i, get_or xs i d)))

pub flat_all : {A B : Type 0} (f : ℕ × A → List B) (xs : List A) (i : ℕ) → length xs ≤ i → flat_map f (enumerate_from 0 (take i xs)) ≡ flat_map f (enumerate_from 0 xs)
flat_all f xs i h = ap (λ ys. flat_map f (enumerate_from 0 ys)) (take_all i xs h)

-- one definition more has its entry
pub entry_next : (f : Definition → Option PlacedEntry) (front old new : List PlacedEntry) (rows : List Row) (i : ℕ) (d : Row) → i < length rows → new ≡ old ++ one_or_none (f (definition_seen (get_or rows i d))) → old ≡ front ++ filter_map f (map definition_seen (take i rows))
    → new ≡ front ++ filter_map f (map definition_seen (take (i + 1) rows))
entry_next f front old new rows i d below n o =
    n ∙ ap (λ ys. ys ++ one_or_none (f (definition_seen (get_or rows i d)))) o ∙ append_assoc front (filter_map f (map definition_seen (take i rows))) (one_or_none (f (definition_seen (get_or rows i d))))
    ∙ ap (λ ys. front ++ ys) (sym (ap (filter_map f) (map_more definition_seen rows i d below) ∙ filter_map_end f (map definition_seen (take i rows)) (definition_seen (get_or rows i d))))

pub entry_row_next : (f : Definition → Option PlacedEntry) (front old new : List PlacedEntry) (rows : List Row) (ds : List Definition) (i : ℕ) (d : Row) → map definition_seen rows ≡ ds → i < length rows → new ≡ old ++ one_or_none (f (definition_seen (get_or rows i d))) → old ≡ front ++ filter_map f (take i ds)
    → new ≡ front ++ filter_map f (take (i + 1) ds)
entry_row_next f front old new rows ds i d same below n o =
    let inside : i < length ds = omega (arith, below, ap length same, long_map definition_seen rows) in
    let here : get_or ds i (definition_seen d) ≡ definition_seen (get_or rows i d) = ap (λ (xs : List Definition). get_or xs i (definition_seen d)) (sym same) ∙ get_or-map definition_seen rows i d (definition_seen d) below in
    n ∙ ap (λ ys. ys ++ one_or_none (f (definition_seen (get_or rows i d)))) o ∙ append_assoc front (filter_map f (take i ds)) (one_or_none (f (definition_seen (get_or rows i d))))
    ∙ ap (λ ys. front ++ ys) (ap (λ (x : Definition). filter_map f (take i ds) ++ one_or_none (f x)) (sym here) ∙ sym (ap (filter_map f) (take_more ds i (definition_seen d) inside) ∙ filter_map_end f (take i ds) (get_or ds i (definition_seen d))))

-- the entry of a definition by its section and its bytes
pub entry_valueless : (F : Binding) (at : ℕ → ℕ) (q : ℕ) (v : View) (ds : List Definition) (d : Definition) (s : ViewSection) → slice_get v.sections d.section ≡ Some s → bytes_by F at v ds d s ≡ None → entry_by F at q v ds d ≡ None
entry_valueless F at q v ds d s e h = rw (e, h) refl

pub entry_there : (F : Binding) (at : ℕ → ℕ) (q : ℕ) (v : View) (ds : List Definition) (d : Definition) (s : ViewSection) (bytes : List ℕ) → slice_get v.sections d.section ≡ Some s → bytes_by F at v ds d s ≡ Some bytes → entry_by F at q v ds d ≡ Some (record { image = q; symbol = d.row; address = d.address; bytes = bytes })
entry_there F at q v ds d s bytes e h = rw (e, h) refl
