-- Lists that are collected out of others.
use Rattle.std.proofs.Common.{◌≡◌, ℕ, zero, suc, ◌+◌, List, [], ◌∷◌, refl, ap, sym, ◌∙◌, arith, Option, Some, None, slice_get}
use Rattle.std.specs.Prelude.{Bool, true, false, find, cond}
use Rattle.std.specs.List.{filter_map, cons_option, enumerate_from}
use Rattle.image_place.proofs.EntryLaws.{Among}

some_same : {A : Type 0} (x y : A) → Some x ≡ Some y → x ≡ y
some_same x y e = cc

-- -- what is made of some elements

-- the element of which this was made
pub record IsMadeOf {A B : Type 0} (f : A → Option B) (xs : List A) (y : B) : Type 0 where
  pub number : ℕ
  pub element : A
  pub here : slice_get xs number ≡ Some element
  pub makes : f element ≡ Some y

made_later : {A B : Type 0} (f : A → Option B) (x : A) (xs : List A) (y : B) → IsMadeOf f xs y → IsMadeOf f (x ∷ xs) y
made_later f x xs y h = record { number = suc h.number; element = h.element; here = h.here; makes = h.makes }

made_by : {A B : Type 0} (f : A → Option B) (x : A) (xs : List A) (o : Option B) (j : ℕ) (y : B) → f x ≡ o → ((i : ℕ) → slice_get (filter_map f xs) i ≡ Some y → IsMadeOf f xs y) → slice_get (cons_option o (filter_map f xs)) j ≡ Some y → IsMadeOf f (x ∷ xs) y
made_by f x xs None j y e rest h = made_later f x xs y (rest j h)
made_by f x xs (Some z) zero y e rest h = record { number = 0; element = x; here = refl; makes = e ∙ h }
made_by f x xs (Some z) (suc j) y e rest h = made_later f x xs y (rest j h)

pub made-from : {A B : Type 0} (f : A → Option B) (xs : List A) (j : ℕ) (y : B) → slice_get (filter_map f xs) j ≡ Some y → IsMadeOf f xs y
made-from f [] j y h = absurd (cc)
made-from f (x ∷ xs) j y h = made_by f x xs (f x) j y refl (λ i. made-from f xs i y) h

among_cons : {A : Type 0} (o : Option A) (xs : List A) (x : A) → Among xs x → Among (cons_option o xs) x
among_cons None xs x a = a
among_cons (Some y) xs x a = record { number = suc a.number; here = a.here }

pub made-into : {A B : Type 0} (f : A → Option B) (xs : List A) (k : ℕ) (x : A) (y : B) → slice_get xs k ≡ Some x → f x ≡ Some y → Among (filter_map f xs) y
made-into f [] k x y e h = absurd (cc)
made-into f (z ∷ xs) zero x y e h = let same : z ≡ x = cc in rw (same, h) (record { number = 0; here = refl })
made-into f (z ∷ xs) (suc k) x y e h = among_cons (f z) (filter_map f xs) y (made-into f xs k x y e h)

-- -- keys

-- no two elements have one key
abbrev pub HasOnce : {A : Type 0} → (A → ℕ) → List A → Type 0
HasOnce {A} key xs = (i j : ℕ) (x y : A) → slice_get xs i ≡ Some x → slice_get xs j ≡ Some y → key x ≡ key y → i ≡ j

next_same : (i j : ℕ) → suc i ≡ suc j → i ≡ j
next_same i j e = omega (arith, e)

next_never : (i : ℕ) → suc i ≡ 0 → ⊥
next_never i e = omega (arith, e)

once_by : {A B : Type 0} (f : A → Option B) (key : A → ℕ) (made : B → ℕ) (x : A) (xs : List A) (o : Option B) → f x ≡ o → ((z : A) (y : B) → f z ≡ Some y → made y ≡ key z) → HasOnce key (x ∷ xs) → HasOnce made (filter_map f xs)
    → HasOnce made (cons_option o (filter_map f xs))
once_by f key made x xs None e same once rest i j a b h k n = rest i j a b h k n
once_by f key made x xs (Some z) e same once rest zero zero a b h k n = refl
once_by f key made x xs (Some z) e same once rest zero (suc j) a b h k n =
    let from = made-from f xs j b k in
    absurd (next_never from.number (sym (once 0 (suc from.number) x from.element refl from.here (sym (same x a (e ∙ h)) ∙ n ∙ same from.element b from.makes))))
once_by f key made x xs (Some z) e same once rest (suc i) zero a b h k n =
    let from = made-from f xs i a h in
    absurd (next_never from.number (once (suc from.number) 0 from.element x from.here refl (sym (same from.element a from.makes) ∙ n ∙ same x b (e ∙ k))))
once_by f key made x xs (Some z) e same once rest (suc i) (suc j) a b h k n = ap suc (rest i j a b h k n)

-- what is made keeps its key
pub once-made : {A B : Type 0} (f : A → Option B) (key : A → ℕ) (made : B → ℕ) (xs : List A) → ((z : A) (y : B) → f z ≡ Some y → made y ≡ key z) → HasOnce key xs → HasOnce made (filter_map f xs)
once-made f key made [] same once = λ i j a b h k n. absurd (cc)
once-made f key made (x ∷ xs) same once = once_by f key made x xs (f x) refl same once (once-made f key made xs same (λ i j a b h k n. next_same i j (once (suc i) (suc j) a b h k n)))

-- -- numbers

pub numbered-from : {A : Type 0} (n : ℕ) (xs : List A) (k : ℕ) (e : ℕ × A) → slice_get (enumerate_from n xs) k ≡ Some e → (e.0 ≡ n + k) × (slice_get xs k ≡ Some e.1)
numbered-from n [] k e h = absurd (cc)
numbered-from n (x ∷ xs) zero e h = let same : (n, x) ≡ e = cc in rw (← same) (omega arith, refl)
numbered-from n (x ∷ xs) (suc k) e h = let far = numbered-from (n + 1) xs k e h in (omega (arith, far.0), far.1)

pub once-numbered : {A : Type 0} (n : ℕ) (xs : List A) → HasOnce (λ (e : ℕ × A). e.0) (enumerate_from n xs)
once-numbered n xs i j a b h k e =
    let one = numbered-from n xs i a h in
    let two = numbered-from n xs j b k in
    omega (arith, one.0, two.0, e)

-- -- the first that passes

pub record IsFoundAt {A : Type 0} (p : A → Bool) (xs : List A) (x : A) : Type 0 where
  pub number : ℕ
  pub here : slice_get xs number ≡ Some x
  pub passes : p x ≡ true

found_by : {A : Type 0} (p : A → Bool) (y : A) (xs : List A) (b : Bool) (x : A) → p y ≡ b → (find p xs ≡ Some x → IsFoundAt p xs x) → cond b (Some y) (find p xs) ≡ Some x → IsFoundAt p (y ∷ xs) x
found_by p y xs true x e rest h = let same : y ≡ x = some_same y x h in record { number = 0; here = ap Some same; passes = ap p (sym same) ∙ e }
found_by p y xs false x e rest h = let far = rest h in record { number = suc far.number; here = far.here; passes = far.passes }

pub found-at : {A : Type 0} (p : A → Bool) (xs : List A) (x : A) → find p xs ≡ Some x → IsFoundAt p xs x
found-at p [] x h = absurd (cc)
found-at p (y ∷ xs) x h = found_by p y xs (p y) x refl (found-at p xs x) h

pub record IsFound {A : Type 0} (p : A → Bool) (xs : List A) : Type 0 where
  pub element : A
  pub is : find p xs ≡ Some element

found_if : {A : Type 0} (p : A → Bool) (y : A) (xs : List A) (b : Bool) → p y ≡ b → IsFound p xs → (z : A) × (cond b (Some y) (find p xs) ≡ Some z)
found_if p y xs true e rest = (y, refl)
found_if p y xs false e rest = (rest.element, rest.is)

-- something is found where an element passes
pub found-some : {A : Type 0} (p : A → Bool) (xs : List A) (k : ℕ) (x : A) → slice_get xs k ≡ Some x → p x ≡ true → IsFound p xs
found-some p [] k x e t = absurd (cc)
found-some p (y ∷ xs) zero x e t = let same : y ≡ x = cc in record { element = y; is = rw (ap p same ∙ t) refl }
found-some p (y ∷ xs) (suc k) x e t = let far = found_if p y xs (p y) refl (found-some p xs k x e t) in record { element = far.0; is = far.1 }
