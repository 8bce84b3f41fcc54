-- The first fault of lists of faults, and the errors that tell it.
use Rattle.std.proofs.Common.{◌≡◌, ℕ, suc, ◌+◌, ◌<◌, ◌≤◌, List, [], ◌∷◌, ◌++◌, length, refl, ap, sym, ◌∙◌, arith, Some, None, drop, drop-cons, get_or}
use Rattle.std.proofs.lemmas.List.{drop_all}
use Rattle.std.specs.Prelude.{Option, flat_map}
use Rattle.std.specs.List.{enumerate_from}
use Rattle.std.specs.Option.{option_or}
use Rattle.image_view.specs.View.{View}
use Rattle.image_place.specs.Placed.{AddressRow, PlaceFault, defined_twice, no_address, other_kind, loose_label, does_not_fit, first_fault, image_faults, place_fault, AreViewed}
use Rattle.image_place.specs.Faults.{fault_told, TellsFault, definition_faults}
use Rattle.image_place.specs.Views.{TellsPlace}
use Rattle.image_place.specs.declared.error.PlaceError.{PlaceError}
use Rattle.image_place.specs.declared.error.PlaceError.TheVariants as errors

or_assoc : (a b c : Option PlaceFault) → option_or (option_or a b) c ≡ option_or a (option_or b c)
or_assoc None b c = refl
or_assoc (Some x) b c = refl

pub fault_append : (xs ys : List (Option PlaceFault)) → first_fault (xs ++ ys) ≡ option_or (first_fault xs) (first_fault ys)
fault_append [] ys = refl
fault_append (x ∷ xs) ys = ap (option_or x) (fault_append xs ys) ∙ sym (or_assoc x (first_fault xs) (first_fault ys))

-- the first fault of images: of definitions, then of relocations
pub place_parts : (views : List View) (addresses : List AddressRow) (externs : List (List ℕ × ℕ))
    → place_fault views addresses externs ≡ option_or (first_fault (definition_faults views addresses)) (first_fault (flat_map (image_faults views addresses externs) (enumerate_from 0 views)))
unfolding place_fault
place_parts views addresses externs = fault_append (definition_faults views addresses) (flat_map (image_faults views addresses externs) (enumerate_from 0 views))

-- an error that tells a fault
pub told : (f : PlaceFault) (e : PlaceError) → fault_told e ≡ Some f → TellsFault (Some f) e
told f (errors.NoReading q) h = absurd (cc)
told f (errors.DefinedTwice q row) h = sym h
told f (errors.NoAddress q row) h = sym h
told f (errors.OtherKind q number) h = sym h
told f (errors.LooseLabel q row) h = sym h
told f (errors.DoesNotFit q offset) h = sym h
told f errors.OutOfMemory h = tt

pub told_memory : (o : Option PlaceFault) (e : PlaceError) → e ≡ errors.OutOfMemory → TellsFault o e
told_memory o e h = rw h tt

-- what is told of views is told of their files
pub told_place : (files : List (List ℕ)) (views : List View) (addresses : List AddressRow) (externs : List (List ℕ × ℕ)) (e : PlaceError) → AreViewed files views → TellsFault (place_fault views addresses externs) e → TellsPlace files addresses externs e
told_place files views addresses externs (errors.NoReading q) v h = absurd h
told_place files views addresses externs (errors.DefinedTwice q row) v h = record { views = views; viewed = v; first = h }
told_place files views addresses externs (errors.NoAddress q row) v h = record { views = views; viewed = v; first = h }
told_place files views addresses externs (errors.OtherKind q number) v h = record { views = views; viewed = v; first = h }
told_place files views addresses externs (errors.LooseLabel q row) v h = record { views = views; viewed = v; first = h }
told_place files views addresses externs (errors.DoesNotFit q offset) v h = record { views = views; viewed = v; first = h }
told_place files views addresses externs errors.OutOfMemory v h = tt

is_first : (o p : Option PlaceFault) (f : PlaceFault) → o ≡ Some f → option_or o p ≡ Some f
is_first o p f e = ap (λ x. option_or x p) e

-- the first of more faults is told
pub told_first : (o p : Option PlaceFault) (e : PlaceError) → TellsFault o e → TellsFault (option_or o p) e
told_first o p (errors.NoReading q) h = h
told_first o p (errors.DefinedTwice q row) h = is_first o p (defined_twice q row) h
told_first o p (errors.NoAddress q row) h = is_first o p (no_address q row) h
told_first o p (errors.OtherKind q number) h = is_first o p (other_kind q number) h
told_first o p (errors.LooseLabel q row) h = is_first o p (loose_label q row) h
told_first o p (errors.DoesNotFit q offset) h = is_first o p (does_not_fit q offset) h
told_first o p errors.OutOfMemory h = tt

-- the faults from image i on, of one more
pub rest_next : {A : Type 0} (f : ℕ × A → List (Option PlaceFault)) (xs : List A) (i : ℕ) (d : A) → i < length xs
    → first_fault (flat_map f (enumerate_from i (drop i xs))) ≡ option_or (first_fault (f (i, get_or xs i d))) (first_fault (flat_map f (enumerate_from (i + 1) (drop (i + 1) xs))))
rest_next f xs i d below =
    let next : suc i ≡ i + 1 = omega arith in
    ap (λ ys. first_fault (flat_map f (enumerate_from i ys))) (drop-cons xs i d below)
    ∙ ap (λ n. first_fault (f (i, get_or xs i d) ++ flat_map f (enumerate_from (i + 1) (drop n xs)))) next
    ∙ fault_append (f (i, get_or xs i d)) (flat_map f (enumerate_from (i + 1) (drop (i + 1) xs)))

pub rest_none : {A : Type 0} (f : ℕ × A → List (Option PlaceFault)) (xs : List A) (i : ℕ) → length xs ≤ i → first_fault (flat_map f (enumerate_from i (drop i xs))) ≡ None
rest_none f xs i h = ap (λ ys. first_fault (flat_map f (enumerate_from i ys))) (drop_all i xs h)

-- the fault of image i, and the faults behind it
pub fault_here : {A : Type 0} (f : ℕ × A → List (Option PlaceFault)) (xs : List A) (i : ℕ) (x : A) (fault : PlaceFault) → i < length xs → x ≡ get_or xs i x → first_fault (f (i, x)) ≡ Some fault → first_fault (flat_map f (enumerate_from i (drop i xs))) ≡ Some fault
fault_here f xs i x fault below is e =
    let rest = first_fault (flat_map f (enumerate_from (i + 1) (drop (i + 1) xs))) in
    rest_next f xs i x below ∙ ap (λ y. option_or (first_fault (f (i, y))) rest) (sym is) ∙ ap (λ o. option_or o rest) e

pub fault_later : {A : Type 0} (f : ℕ × A → List (Option PlaceFault)) (xs : List A) (i : ℕ) (x : A) → i < length xs → x ≡ get_or xs i x → first_fault (f (i, x)) ≡ None → first_fault (flat_map f (enumerate_from i (drop i xs))) ≡ first_fault (flat_map f (enumerate_from (i + 1) (drop (i + 1) xs)))
fault_later f xs i x below is e =
    let rest = first_fault (flat_map f (enumerate_from (i + 1) (drop (i + 1) xs))) in
    rest_next f xs i x below ∙ ap (λ y. option_or (first_fault (f (i, y))) rest) (sym is) ∙ ap (λ o. option_or o rest) e
