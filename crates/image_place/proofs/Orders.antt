-- Two lists without repetitions that have the same elements differ in their order alone.
use Rattle.std.proofs.Common.{◌≡◌, ℕ, zero, suc, List, [], ◌∷◌, ◌++◌, refl, ap, sym, ◌∙◌, arith, Some, slice_get, ◌⊎◌, inl, inr}
use Rattle.image_place.specs.Shown.{Reordered}
use Rattle.image_place.proofs.EntryLaws.{Among}

-- no element stands at two places
abbrev pub IsDistinct : {A : Type 0} → List A → Type 0
IsDistinct {A} xs = (i j : ℕ) (x : A) → slice_get xs i ≡ Some x → slice_get xs j ≡ Some x → i ≡ j

-- each element of one list stands in the other
abbrev pub IsWithin : {A : Type 0} → List A → List A → Type 0
IsWithin {A} xs ys = (k : ℕ) (x : A) → slice_get xs k ≡ Some x → Among ys x

-- the place of an element once another stands behind the front
over : {A : Type 0} → List A → ℕ → ℕ
over [] n = suc n
over (f ∷ front) zero = zero
over (f ∷ front) (suc n) = suc (over front n)

-- the place behind the front
behind : {A : Type 0} → List A → ℕ
behind [] = zero
behind (f ∷ front) = suc (behind front)

next_same : (i j : ℕ) → suc i ≡ suc j → i ≡ j
next_same i j e = omega (arith, e)

next_never : (i : ℕ) → suc i ≡ zero → ⊥
next_never i e = omega (arith, e)

over_once : {A : Type 0} (front : List A) (i j : ℕ) → over front i ≡ over front j → i ≡ j
unfolding over
over_once [] i j e = next_same i j e
over_once (f ∷ front) zero zero e = refl
over_once (f ∷ front) zero (suc j) e = absurd (next_never (over front j) (sym e))
over_once (f ∷ front) (suc i) zero e = absurd (next_never (over front i) e)
over_once (f ∷ front) (suc i) (suc j) e = ap suc (over_once front i j (next_same (over front i) (over front j) e))

over_apart : {A : Type 0} (front : List A) (i : ℕ) → over front i ≡ behind front → ⊥
unfolding over behind
over_apart [] i e = next_never i e
over_apart (f ∷ front) zero e = next_never (behind front) (sym e)
over_apart (f ∷ front) (suc i) e = over_apart front i (next_same (over front i) (behind front) e)

over_get : {A : Type 0} (front back : List A) (x y : A) (n : ℕ) → slice_get (front ++ back) n ≡ Some y → slice_get (front ++ x ∷ back) (over front n) ≡ Some y
unfolding over
over_get [] back x y n e = e
over_get (f ∷ front) back x y zero e = e
over_get (f ∷ front) back x y (suc n) e = over_get front back x y n e

behind_get : {A : Type 0} (front back : List A) (x : A) → slice_get (front ++ x ∷ back) (behind front) ≡ Some x
unfolding behind
behind_get [] back x = refl
behind_get (f ∷ front) back x = behind_get front back x

some_same : {A : Type 0} (x y : A) → Some x ≡ Some y → x ≡ y
some_same x y e = cc

-- an element is the one behind the front, or one of the others
one_or_other : {A : Type 0} (front back : List A) (x y : A) (n : ℕ) → slice_get (front ++ x ∷ back) n ≡ Some y → (x ≡ y) ⊎ Among (front ++ back) y
one_or_other [] back x y zero e = inl (some_same x y e)
one_or_other [] back x y (suc n) e = inr (record { number = n; here = e })
one_or_other (f ∷ front) back x y zero e = inr (record { number = 0; here = e })
one_or_other (f ∷ front) back x y (suc n) e =
    elim (one_or_other front back x y n e) [
      | inl same ↦ inl same
      | inr far ↦ inr (record { number = suc far.number; here = far.here })
    ]

-- a list split at an element
pub record IsSplit {A : Type 0} (xs : List A) (x : A) : Type 0 where
  pub front : List A
  pub back : List A
  pub is : xs ≡ front ++ x ∷ back

split_at : {A : Type 0} (xs : List A) (k : ℕ) (x : A) → slice_get xs k ≡ Some x → IsSplit xs x
split_at [] k x e = absurd (cc)
split_at (y ∷ xs) zero x e = record { front = []; back = xs; is = ap (λ z. z ∷ xs) (some_same y x e) }
split_at (y ∷ xs) (suc k) x e = let far = split_at xs k x e in record { front = y ∷ far.front; back = far.back; is = ap (λ zs. y ∷ zs) far.is }

rest_distinct : {A : Type 0} (x : A) (xs : List A) → IsDistinct (x ∷ xs) → IsDistinct xs
rest_distinct x xs h i j y e f = next_same i j (h (suc i) (suc j) y e f)

split_distinct : {A : Type 0} (front back : List A) (x : A) → IsDistinct (front ++ x ∷ back) → IsDistinct (front ++ back)
split_distinct front back x h i j y e f = over_once front i j (h (over front i) (over front j) y (over_get front back x y i e) (over_get front back x y j f))

rest_within : {A : Type 0} (x : A) (xs front back : List A) → IsDistinct (x ∷ xs) → IsWithin (x ∷ xs) (front ++ x ∷ back) → IsWithin xs (front ++ back)
rest_within x xs front back h within k y e =
    let there = within (suc k) y e in
    elim (one_or_other front back x y there.number there.here) [
      | inl same ↦ absurd (next_never k (sym (h 0 (suc k) y (ap Some same) e)))
      | inr far ↦ far
    ]

among_rest : {A : Type 0} (x : A) (xs : List A) (y : A) (n : ℕ) → slice_get (x ∷ xs) n ≡ Some y → (x ≡ y) ⊎ Among xs y
among_rest x xs y zero e = inl (some_same x y e)
among_rest x xs y (suc n) e = inr (record { number = n; here = e })

split_within : {A : Type 0} (x : A) (xs front back : List A) → IsDistinct (front ++ x ∷ back) → IsWithin (front ++ x ∷ back) (x ∷ xs) → IsWithin (front ++ back) xs
split_within x xs front back h within k y e =
    let wide = over_get front back x y k e in
    let there = within (over front k) y wide in
    elim (among_rest x xs y there.number there.here) [
      | inl same ↦ absurd (over_apart front k (h (over front k) (behind front) y wide (behind_get front back x ∙ ap Some same)))
      | inr far ↦ far
    ]

none_left : {A : Type 0} (ys : List A) → IsWithin ys [] → ys ≡ []
none_left [] h = refl
none_left (y ∷ ys) h = absurd (let a = h 0 y refl in let no = a.here in cc)

pub reordered : {A : Type 0} (xs ys : List A) → IsDistinct xs → IsDistinct ys → IsWithin xs ys → IsWithin ys xs → Reordered xs ys
reordered [] ys h k within back = none_left ys back
reordered (x ∷ xs) ys h k within back =
    let there = within 0 x refl in
    let split = split_at ys there.number x there.here in
    let distinct : IsDistinct (split.front ++ x ∷ split.back) = rw (← split.is) k in
    let forth : IsWithin (x ∷ xs) (split.front ++ x ∷ split.back) = rw (← split.is) within in
    let from : IsWithin (split.front ++ x ∷ split.back) (x ∷ xs) = rw (← split.is) back in (
      split.front,
      split.back,
      split.is,
      reordered xs (split.front ++ split.back) (rest_distinct x xs h) (split_distinct split.front split.back x distinct) (rest_within x xs split.front split.back h forth) (split_within x xs split.front split.back distinct from),
    )
