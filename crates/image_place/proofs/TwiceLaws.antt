-- Names that definitions have, one after the other.
use Rattle.std.proofs.Common.{◌≡◌, ℕ, suc, ◌+◌, ◌<◌, List, [], ◌∷◌, ◌++◌, length, map, take, drop, get_or, Bool, true, false, cond, Some, refl, ap, sym, ◌∙◌, arith, bytes_eq, drop-cons}
use Rattle.std.specs.Prelude.{Option, is_some, ◌||◌}
use Rattle.std.specs.List.{list_any}
use Rattle.std.specs.Map.{update}
use Rattle.std.proofs.lemmas.List.{map_more}
use Rattle.std.proofs.lemmas.List.Folds.{list_any-append}
use Rattle.ir_core.specs.Moments.{moments_after}
use Rattle.image_place.specs.Placed.{At, first_fault, twice_fault, is_second, exports_as}
use Rattle.image_place.specs.DefinitionRows.{found_seen}
use Rattle.image_place.specs.declared.definitions.Found.{Found}

or_last : (a b : Bool) → b ≡ true → true ≡ (a || b)
or_last true b e = refl
or_last false b e = sym e

or_first : (a b : Bool) → b ≡ false → a ≡ (a || b)
or_first true b e = refl
or_first false b e = sym e

named_by : (x : List ℕ) (ds : List At) (a : At) (old : Option Bool) (b : Bool) → is_some old ≡ list_any (exports_as x) ds → a.symbol.is_local ≡ false → bytes_eq a.symbol.name x ≡ b → is_some (cond b (Some true) old) ≡ list_any (exports_as x) (ds ++ a ∷ [])
named_by x ds a old true h seen e =
    let here : list_any (exports_as x) (a ∷ []) ≡ true = rw (seen, e) refl in
    or_last (list_any (exports_as x) ds) (list_any (exports_as x) (a ∷ [])) here ∙ sym (list_any-append (exports_as x) ds (a ∷ []))
named_by x ds a old false h seen e =
    let here : list_any (exports_as x) (a ∷ []) ≡ false = rw (seen, e) refl in
    h ∙ or_first (list_any (exports_as x) ds) (list_any (exports_as x) (a ∷ [])) here ∙ sym (list_any-append (exports_as x) ds (a ∷ []))

-- a map of names knows one more
pub twice_names : (rows : List Found) (i : ℕ) (d : Found) (f g : List ℕ → Option Bool) → i < length rows → (get_or rows i d).symbol.is_local ≡ false
    → ((x : List ℕ) → is_some (f x) ≡ list_any (exports_as x) (map found_seen (take i rows))) → ((x : List ℕ) → g x ≡ update bytes_eq f (get_or rows i d).symbol.name.now (Some true) x)
    → (x : List ℕ) → is_some (g x) ≡ list_any (exports_as x) (map found_seen (take (i + 1) rows))
twice_names rows i d f g below seen h u x =
    ap is_some (u x) ∙ named_by x (map found_seen (take i rows)) (found_seen (get_or rows i d)) (f x) (bytes_eq (get_or rows i d).symbol.name.now x) (h x) seen refl
    ∙ ap (list_any (exports_as x)) (sym (map_more found_seen rows i d below))

later : (before xs : List At) (a : At) (b : Bool) → is_second (record { before = before; here = a }) ≡ b → b ≡ false → first_fault (map twice_fault (moments_after before (a ∷ xs))) ≡ first_fault (map twice_fault (moments_after (before ++ a ∷ []) xs))
later before xs a true e f = absurd (cc)
later before xs a false e f = rw e refl

second_none : (before : List At) (a : At) (b : Bool) → list_any (exports_as a.symbol.name) before ≡ b → b ≡ false → a.symbol.is_local ≡ false → is_second (record { before = before; here = a }) ≡ false
second_none before a true e f seen = absurd (cc)
second_none before a false e f seen = rw (seen, e) refl

rest_front : (rows : List Found) (i : ℕ) (d : Found) → i < length rows → map found_seen (drop i rows) ≡ found_seen (get_or rows i d) ∷ map found_seen (drop (i + 1) rows)
rest_front rows i d below =
    let next : i + 1 ≡ suc i = omega arith in
    ap (map found_seen) (drop-cons rows i d below) ∙ ap (λ n. found_seen (get_or rows i d) ∷ map found_seen (drop n rows)) (sym next)

-- what is left to judge behind a definition that is no second one
pub twice_rest : (rows : List Found) (i : ℕ) (d : Found) (f : List ℕ → Option Bool) → i < length rows → (get_or rows i d).symbol.is_local ≡ false
    → ((x : List ℕ) → is_some (f x) ≡ list_any (exports_as x) (map found_seen (take i rows))) → is_some (f (get_or rows i d).symbol.name.now) ≡ false
    → first_fault (map twice_fault (moments_after (map found_seen (take i rows)) (map found_seen (drop i rows)))) ≡ first_fault (map twice_fault (moments_after (map found_seen (take (i + 1) rows)) (map found_seen (drop (i + 1) rows))))
twice_rest rows i d f below seen h new =
    let a = found_seen (get_or rows i d) in
    let none : list_any (exports_as a.symbol.name) (map found_seen (take i rows)) ≡ false = sym (h a.symbol.name) ∙ new in
    ap (λ ys. first_fault (map twice_fault (moments_after (map found_seen (take i rows)) ys))) (rest_front rows i d below)
    ∙ later (map found_seen (take i rows)) (map found_seen (drop (i + 1) rows)) a false (second_none (map found_seen (take i rows)) a false none refl seen) refl
    ∙ ap (λ ys. first_fault (map twice_fault (moments_after ys (map found_seen (drop (i + 1) rows))))) (sym (map_more found_seen rows i d below))
