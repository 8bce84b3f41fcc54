-- Lists of numbers that are gone through number by number: what stands before a place, and what is left from there on.
use Rattle.std.proofs.Common.{◌≡◌, ℕ, suc, ◌+◌, ◌<◌, ◌≤◌, List, [], ◌∷◌, ◌++◌, Bool, true, false, length, take, drop, map, get_or, slice_get, Some, refl, ap, sym, ◌∙◌, arith, append_assoc, append-nil, length-take-le}
use Rattle.std.specs.Prelude.{filter}
use Rattle.std.specs.List.{enumerate_from}
use Rattle.std.proofs.lemmas.Option.{slice_get-get_or}
use Rattle.std.proofs.lemmas.List.{drop_all}
use Rattle.byte_core.proofs.Lists.{get_right}
use Rattle.object_macho.proofs.Behind.{take_next}
use Rattle.object_macho.proofs.OrderLoops.{drop_get}

-- -- a list and what is left of it

-- one more number stands before the place
pub more : (out left rest new all : List ℕ) (y : ℕ) → out ++ left ≡ all → left ≡ y ∷ rest → new ≡ out ++ y ∷ [] → new ++ rest ≡ all
more out left rest new all y h l n = ap (λ xs. xs ++ rest) n ∙ append_assoc out (y ∷ []) rest ∙ sym (ap (λ xs. out ++ xs) l) ∙ h

pub passed : (out left rest all : List ℕ) → out ++ left ≡ all → left ≡ rest → out ++ rest ≡ all
passed out left rest all h l = sym (ap (λ xs. out ++ xs) l) ∙ h

pub whole : (out left all : List ℕ) → out ++ left ≡ all → left ≡ [] → out ≡ all
whole out left all h l = sym (append-nil out) ∙ sym (ap (λ xs. out ++ xs) l) ∙ h

-- the numbers of a given list so far are right: so is one more, where it is the next
pub more_given : (given left rest all : List ℕ) (at y : ℕ) → take at given ++ left ≡ all → left ≡ y ∷ rest → at < length given → get_or given at 0 ≡ y → take (at + 1) given ++ rest ≡ all
more_given given left rest all at y h l room same =
    let next : at + 1 ≡ suc at = omega arith in
    let there = slice_get-get_or given at 0 room ∙ ap (λ n. Some n) same in
    more (take at given) left rest (take (at + 1) given) all y h l (ap (λ n. take n given) next ∙ take_next given at y there)

-- and where the whole list is right, the next number is
pub next_given : (given left rest all : List ℕ) (at y : ℕ) → take at given ++ left ≡ all → left ≡ y ∷ rest → at ≤ length given → given ≡ all → slice_get given at ≡ Some y
next_given given left rest all at y h l room e =
    ap (λ xs. slice_get xs at) (e ∙ sym h ∙ ap (λ xs. take at given ++ xs) l) ∙ get_right (take at given) (y ∷ rest) 0 at y refl (omega (arith, length-take-le at given room))

-- -- the numbers of the elements that pass

abbrev pub numbers_from : {A : Type 0} → (A → Bool) → ℕ → List A → List ℕ
numbers_from p a xs = map (λ e. e.0) (filter (λ e. p e.1) (enumerate_from a xs))

first_passes : {A : Type 0} (p : A → Bool) (a : ℕ) (x : A) (xs : List A) → p x ≡ true → numbers_from p a (x ∷ xs) ≡ a ∷ numbers_from p (a + 1) xs
first_passes p a x xs t = rw t refl

first_fails : {A : Type 0} (p : A → Bool) (a : ℕ) (x : A) (xs : List A) → p x ≡ false → numbers_from p a (x ∷ xs) ≡ numbers_from p (a + 1) xs
first_fails p a x xs t = rw t refl

pub numbers_yes : {A : Type 0} (p : A → Bool) (xs : List A) (k : ℕ) (x : A) → slice_get xs k ≡ Some x → p x ≡ true → numbers_from p k (drop k xs) ≡ k ∷ numbers_from p (k + 1) (drop (k + 1) xs)
numbers_yes p xs k x e t = ap (numbers_from p k) (drop_get xs k x e) ∙ first_passes p k x (drop (k + 1) xs) t

pub numbers_no : {A : Type 0} (p : A → Bool) (xs : List A) (k : ℕ) (x : A) → slice_get xs k ≡ Some x → p x ≡ false → numbers_from p k (drop k xs) ≡ numbers_from p (k + 1) (drop (k + 1) xs)
numbers_no p xs k x e t = ap (numbers_from p k) (drop_get xs k x e) ∙ first_fails p k x (drop (k + 1) xs) t

pub numbers_end : {A : Type 0} (p : A → Bool) (xs : List A) (k : ℕ) → length xs ≤ k → numbers_from p k (drop k xs) ≡ []
numbers_end p xs k h = ap (numbers_from p k) (drop_all k xs h)

-- -- a number for each element

abbrev pub each_from : {A : Type 0} → (ℕ × A → ℕ) → ℕ → List A → List ℕ
each_from f a xs = map f (enumerate_from a xs)

pub each_next : {A : Type 0} (f : ℕ × A → ℕ) (xs : List A) (k : ℕ) (x : A) → slice_get xs k ≡ Some x → each_from f k (drop k xs) ≡ f (k, x) ∷ each_from f (k + 1) (drop (k + 1) xs)
each_next f xs k x e = ap (each_from f k) (drop_get xs k x e)

pub each_end : {A : Type 0} (f : ℕ × A → ℕ) (xs : List A) (k : ℕ) → length xs ≤ k → each_from f k (drop k xs) ≡ []
each_end f xs k h = ap (each_from f k) (drop_all k xs h)
