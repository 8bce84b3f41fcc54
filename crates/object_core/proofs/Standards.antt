-- Where the standard sections stand, as sections come and change.
use Rattle.std.proofs.Common.{◌≡◌, ◌≢◌, ℕ, zero, suc, ◌+◌, ◌<◌, ◌≤◌, ◌==◌, ◌++◌, ◌∷◌, List, [], Bool, true, false, cond, inl, inr, length, get_or, set, Option, Some, None, refl, ap, sym, subst, ◌∙◌, arith}
use Rattle.std.proofs.lemmas.Bool.{cases_Bool}
use Rattle.std.proofs.lemmas.Bool.Decides.{eqb_tells}
use Rattle.std.proofs.lemmas.Option.{get_or_from_slice_get}
use Rattle.std.specs.Prelude.{slice_get, IfSome}
use Rattle.std.specs.List.{position_from}
use Rattle.object_core.specs.declared.kinds.StandardSection.{StandardSection}
use Rattle.object_core.specs.declared.kinds.StandardSection.TheVariants.{Text, Data, ReadOnlyData, ReadOnlyDataWithRel, UninitializedData, Tls, UninitializedTls}
use Rattle.object_core.specs.Object.{SectionData}
use Rattle.object_core.specs.Standard.{standard_place, is_same_shared}
use Rattle.object_core.specs.Appending.{standard_at, KeepsStandards, kept_places}

-- -- the first place at which a test passes

-- one more element that doesn't pass
position_push : {A : Type 0} (test : A → Bool) (i : ℕ) (xs : List A) (y : A) → test y ≡ false → position_from test i (xs ++ y ∷ []) ≡ position_from test i xs
position_push test i [] y h = rw h refl
position_push test i (x ∷ xs) y h = ap (λ (rest : Option ℕ). cond (test x) (Some i) rest) (position_push test (i + 1) xs y h)

none_before : {A : Type 0} (test : A → Bool) (i : ℕ) (x : A) (xs : List A) → position_from test i (x ∷ xs) ≡ None → (test x ≡ false) × (position_from test (i + 1) xs ≡ None)
none_before test i x xs h = elim (cases_Bool (test x)) [ inl passes ↦ absurd (cc (h, passes)) | inr fails ↦ (fails, (cc (h, fails))) ]

-- one more element that is the first to pass
position_first : {A : Type 0} (test : A → Bool) (i : ℕ) (xs : List A) (y : A) → test y ≡ true → position_from test i xs ≡ None → position_from test i (xs ++ y ∷ []) ≡ Some (i + length xs)
position_first test i [] y h none = let same : i ≡ i + 0 = omega arith in rw h (ap Some same)
position_first test i (x ∷ xs) y h none =
    let before = none_before test i x xs none in
    let same : i + 1 + length xs ≡ i + suc (length xs) = omega arith in
    rw before.0 (position_first test (i + 1) xs y h before.1 ∙ ap Some same)

-- an element in place of one that passes as it does
position_set : {A : Type 0} (test : A → Bool) (i : ℕ) (xs : List A) (k : ℕ) (x y : A) → x ≡ get_or xs k x → test y ≡ test x → position_from test i (set xs k y) ≡ position_from test i xs
position_set test i [] k x y e h = refl
position_set test i (z ∷ xs) zero x y e h = ap (λ (b : Bool). cond b (Some i) (position_from test (i + 1) xs)) (h ∙ ap test e)
position_set test i (z ∷ xs) (suc k) x y e h = ap (λ (rest : Option ℕ). cond (test z) (Some i) rest) (position_set test (i + 1) xs k x y e h)

-- -- what is written at a place

set_there : {A : Type 0} (xs : List A) (i : ℕ) (v : A) → i < length xs → slice_get (set xs i v) i ≡ Some v
set_there [] i v h = absurd (omega arith)
set_there (x ∷ xs) zero v h = refl
set_there (x ∷ xs) (suc i) v h = let below : i < length xs = omega arith in set_there xs i v below

set_elsewhere : {A : Type 0} (xs : List A) (i j : ℕ) (v : A) → j ≢ i → slice_get (set xs i v) j ≡ slice_get xs j
set_elsewhere [] i j v ne = refl
set_elsewhere (x ∷ xs) zero zero v ne = absurd (ne refl)
set_elsewhere (x ∷ xs) zero (suc j) v ne = refl
set_elsewhere (x ∷ xs) (suc i) zero v ne = refl
set_elsewhere (x ∷ xs) (suc i) (suc j) v ne = set_elsewhere xs i j v (λ e. ne (ap suc e))

-- -- what is kept

pub kept_new : KeepsStandards (None ∷ None ∷ None ∷ None ∷ None ∷ None ∷ None ∷ []) []
kept_new Text = refl
kept_new Data = refl
kept_new ReadOnlyData = refl
kept_new ReadOnlyDataWithRel = refl
kept_new UninitializedData = refl
kept_new Tls = refl
kept_new UninitializedTls = refl

-- a section that changes, and is shared as it was
pub kept_set : (places : List (Option ℕ)) (sections : List SectionData) (k : ℕ) (s new : SectionData) → KeepsStandards places sections → s ≡ get_or sections k s → new.shared ≡ s.shared → KeepsStandards places (set sections k new)
kept_set places sections k s new h e same standard = h standard ∙ ap Some (sym (position_set (λ (x : SectionData). is_same_shared (Some standard) x.shared) 0 sections k s new e (ap (is_same_shared (Some standard)) same)))

-- one more section of its own
pub kept_push : (places : List (Option ℕ)) (sections longer : List SectionData) (new : SectionData) → KeepsStandards places sections → longer ≡ sections ++ new ∷ [] → new.shared ≡ None → KeepsStandards places longer
kept_push places sections longer new h e own standard =
    rw e (h standard ∙ ap Some (sym (position_push (λ (x : SectionData). is_same_shared (Some standard) x.shared) 0 sections new (ap (is_same_shared (Some standard)) own))))

-- one more standard section, which was not there
pub kept_standard : (places : List (Option ℕ)) (sections longer : List SectionData) (standard : StandardSection) (place number : ℕ) (new : SectionData) → KeepsStandards places sections → longer ≡ sections ++ new ∷ [] → new.shared ≡ Some standard → standard_at sections standard ≡ None → place ≡ standard_place standard → number ≡ length sections → place < length places
    → KeepsStandards (set places place (Some number)) longer
kept_standard places sections longer standard place number new h e shared none at count below other =
    let test : SectionData → Bool = λ x. is_same_shared (Some other) x.shared in
    let tested : test new ≡ (standard_place other == standard_place standard) = ap (is_same_shared (Some other)) shared in
    rw (e, at, count)
    (elim (eqb_tells (standard_place other) (standard_place standard)) [
      | inl is ↦ (let missing : standard_at sections other ≡ None = cc (h other, h standard, ap (slice_get places) is.1, none) in
          let front : 0 + length sections ≡ length sections = omega arith in
          let within : standard_place standard < length places = omega (arith, below, at) in
          ap (slice_get (set places (standard_place standard) (Some (length sections)))) is.1 ∙ set_there places (standard_place standard) (Some (length sections)) within ∙ ap Some (sym (position_first test 0 sections new (tested ∙ is.0) missing ∙ ap Some front)))
      | inr apart ↦ set_elsewhere places (standard_place standard) (standard_place other) (Some (length sections)) apart.1 ∙ h other ∙ ap Some (sym (position_push test 0 sections new (tested ∙ apart.0)))
    ])

place_below : (standard : StandardSection) → standard_place standard < 7
place_below Text = omega arith
place_below Data = omega arith
place_below ReadOnlyData = omega arith
place_below ReadOnlyDataWithRel = omega arith
place_below UninitializedData = omega arith
place_below Tls = omega arith
place_below UninitializedTls = omega arith

kept_once : (places : List (Option ℕ)) (sections longer : List SectionData) (shared : Option StandardSection) (number : ℕ) (new : SectionData) → KeepsStandards places sections → longer ≡ sections ++ new ∷ [] → new.shared ≡ shared → IfSome shared (λ standard. standard_at sections standard ≡ None) → number ≡ length sections
    → 7 ≤ length places → KeepsStandards (kept_places places shared number) longer
kept_once places sections longer None number new h e own none count within = kept_push places sections longer new h e own
kept_once places sections longer (Some standard) number new h e shared none count within =
    let below : standard_place standard < length places = omega (arith, place_below standard, within) in
    kept_standard places sections longer standard (standard_place standard) number new h e shared none refl count below

-- one more section, which was not there if it is a standard one
pub kept_more : (places after : List (Option ℕ)) (sections longer : List SectionData) (shared : Option StandardSection) (number : ℕ) (new : SectionData) → KeepsStandards places sections → longer ≡ sections ++ new ∷ [] → new.shared ≡ shared → IfSome shared (λ standard. standard_at sections standard ≡ None) → number ≡ length sections
    → 7 ≤ length places → after ≡ kept_places places shared number → KeepsStandards after longer
kept_more places after sections longer shared number new h e own none count within is = subst (λ kept. KeepsStandards kept longer) (sym is) (kept_once places sections longer shared number new h e own none count within)

-- what is kept of a standard section
pub kept_is : (places : List (Option ℕ)) (sections : List SectionData) (standard : StandardSection) (place : ℕ) (number : Option ℕ) → KeepsStandards places sections → place ≡ standard_place standard → number ≡ get_or places place number → number ≡ standard_at sections standard
kept_is places sections standard place number h at e = e ∙ ap (λ p. get_or places p number) at ∙ get_or_from_slice_get places (standard_place standard) (standard_at sections standard) number (h standard)
