-- The place of the first element that passes a test.
use Rattle.std.proofs.Common.{◌≡◌, ℕ, zero, suc, ◌+◌, ◌<◌, ◌≤◌, List, [], ◌∷◌, ◌++◌, length, slice_get, Bool, true, false, cond, Option, Some, None, is_some, option_map, Result, Ok, Err, OnOk, OnErr, get_or, refl, ap, sym, ◌∙◌, subst, arith, add-zero, zero-add}
use Rattle.std.proofs.Math.ListN.{set}
use Rattle.std.specs.List.{list_any, find, position_from}
use Rattle.std.specs.Option.{option_or}
use Rattle.cranelift_module.specs.LinkState.{with_first}
use Rattle.cranelift_module.specs.Declarations.{changed_at}

-- the place, counted from the front of what is left
place : {A : Type 0} → (A → Bool) → List A → Option ℕ
place t [] = None
place t (x ∷ xs) = cond (t x) (Some 0) (option_map suc (place t xs))

shifted : (i : ℕ) (o : Option ℕ) → option_map (λ n. n + (i + 1)) o ≡ option_map (λ n. n + i) (option_map suc o)
shifted i None = refl
shifted i (Some n) = ap Some (omega arith)

from_place : (i : ℕ) (b : Bool) (p o : Option ℕ) → p ≡ option_map (λ n. n + (i + 1)) o → cond b (Some i) p ≡ option_map (λ n. n + i) (cond b (Some 0) (option_map suc o))
from_place i true p o e = ap Some (sym (zero-add i))
from_place i false p o e = e ∙ shifted i o

position_from-place : {A : Type 0} (t : A → Bool) (i : ℕ) (xs : List A) → position_from t i xs ≡ option_map (λ n. n + i) (place t xs)
unfolding place
position_from-place t i [] = refl
position_from-place t i (x ∷ xs) = from_place i (t x) (position_from t (i + 1) xs) (place t xs) (position_from-place t (i + 1) xs)

unshifted : (o : Option ℕ) → option_map (λ n. n + 0) o ≡ o
unshifted None = refl
unshifted (Some n) = ap Some (add-zero n)

position-place : {A : Type 0} (t : A → Bool) (xs : List A) → position_from t 0 xs ≡ place t xs
position-place t xs = position_from-place t 0 xs ∙ unshifted (place t xs)

found_zero : (b : Bool) (o : Option ℕ) → cond b (Some 0) (option_map suc o) ≡ Some 0 → b ≡ true
found_zero true o h = refl
found_zero false None h = absurd (cc)
found_zero false (Some n) h = let e : suc n ≡ 0 = cc in absurd (omega arith)

found_suc : (b : Bool) (o : Option ℕ) (k : ℕ) → cond b (Some 0) (option_map suc o) ≡ Some (suc k) → (b ≡ false) × (o ≡ Some k)
found_suc true o k h = let e : 0 ≡ suc k = cc in absurd (omega arith)
found_suc false None k h = absurd (cc)
found_suc false (Some n) k h = (refl, let e : suc n ≡ suc k = cc in ap Some (omega arith))

found_none : (b : Bool) (o : Option ℕ) → cond b (Some 0) (option_map suc o) ≡ None → (b ≡ false) × (o ≡ None)
found_none true o h = absurd (cc)
found_none false None h = (refl, refl)
found_none false (Some n) h = absurd (cc)

with_first-place : {A : Type 0} (t : A → Bool) (change : A → A) (new : A) (xs : List A) (k : ℕ) → place t xs ≡ Some k → with_first t change new xs ≡ changed_at k change xs
unfolding place
with_first-place t change new [] k h = absurd (cc)
with_first-place t change new (x ∷ xs) zero h = rw (found_zero (t x) (place t xs) h) refl
with_first-place t change new (x ∷ xs) (suc k) h =
    let p = found_suc (t x) (place t xs) k h in
    rw (p.0, with_first-place t change new xs k p.1) refl

with_first-no_place : {A : Type 0} (t : A → Bool) (change : A → A) (new : A) (xs : List A) → place t xs ≡ None → with_first t change new xs ≡ xs ++ new ∷ []
unfolding place
with_first-no_place t change new [] h = refl
with_first-no_place t change new (x ∷ xs) h =
    let p = found_none (t x) (place t xs) h in
    rw (p.0, with_first-no_place t change new xs p.1) refl

find-place : {A : Type 0} (t : A → Bool) (xs : List A) (k : ℕ) → place t xs ≡ Some k → find t xs ≡ slice_get xs k
unfolding place
find-place t [] k h = absurd (cc)
find-place t (x ∷ xs) zero h = rw (found_zero (t x) (place t xs) h) refl
find-place t (x ∷ xs) (suc k) h =
    let p = found_suc (t x) (place t xs) k h in
    rw (p.0, find-place t xs k p.1) refl

find-no_place : {A : Type 0} (t : A → Bool) (xs : List A) → place t xs ≡ None → find t xs ≡ None
unfolding place
find-no_place t [] h = refl
find-no_place t (x ∷ xs) h =
    let p = found_none (t x) (place t xs) h in
    rw (p.0, find-no_place t xs p.1) refl

any-place : {A : Type 0} (t : A → Bool) (xs : List A) (k : ℕ) → place t xs ≡ Some k → list_any t xs ≡ true
unfolding place
any-place t [] k h = absurd (cc)
any-place t (x ∷ xs) zero h = rw (found_zero (t x) (place t xs) h) refl
any-place t (x ∷ xs) (suc k) h =
    let p = found_suc (t x) (place t xs) k h in
    rw (p.0, any-place t xs k p.1) refl

any-no_place : {A : Type 0} (t : A → Bool) (xs : List A) → place t xs ≡ None → list_any t xs ≡ false
unfolding place
any-no_place t [] h = refl
any-no_place t (x ∷ xs) h =
    let p = found_none (t x) (place t xs) h in
    rw (p.0, any-no_place t xs p.1) refl

place-below : {A : Type 0} (t : A → Bool) (xs : List A) (k : ℕ) → place t xs ≡ Some k → k < length xs
unfolding place
place-below t [] k h = absurd (cc)
place-below t (x ∷ xs) zero h = omega arith
place-below t (x ∷ xs) (suc k) h =
    let p = found_suc (t x) (place t xs) k h in
    let l = place-below t xs k p.1 in
    omega arith

place-changed : {A : Type 0} (t : A → Bool) (change : A → A) → ((x : A) → t (change x) ≡ t x) → (xs : List A) (k : ℕ) → place t (changed_at k change xs) ≡ place t xs
unfolding place
place-changed t change same [] k = refl
place-changed t change same (x ∷ xs) zero = rw (same x) refl
place-changed t change same (x ∷ xs) (suc k) = rw (place-changed t change same xs k) refl

joined : (b : Bool) (o p : Option ℕ) (n : ℕ) (last : Bool) → p ≡ option_or o (cond last (Some n) None)
    → cond b (Some 0) (option_map suc p) ≡ option_or (cond b (Some 0) (option_map suc o)) (cond last (Some (suc n)) None)
joined true o p n last e = refl
joined false (Some m) p n last e = rw e refl
joined false None p n true e = rw e refl
joined false None p n false e = rw e refl

place-append : {A : Type 0} (t : A → Bool) (xs : List A) (x : A) → place t (xs ++ x ∷ []) ≡ option_or (place t xs) (cond (t x) (Some (length xs)) None)
unfolding place
place-append t [] x = alone (t x) where
  alone : (b : Bool) → cond b (Some 0) (option_map suc None) ≡ option_or None (cond b (Some 0) None)
  alone true = refl
  alone false = refl
place-append t (y ∷ ys) x = joined (t y) (place t ys) (place t (ys ++ x ∷ [])) (length ys) (t x) (place-append t ys x)

-- -- the same of `position_from`

-- where the first element that passes is known, it alone is changed
pub with_first-at : {A : Type 0} (t : A → Bool) (change : A → A) (new : A) (xs : List A) (k : ℕ) → position_from t 0 xs ≡ Some k → with_first t change new xs ≡ changed_at k change xs
with_first-at t change new xs k h = with_first-place t change new xs k (sym (position-place t xs) ∙ h)

-- where none passes, a new one stands at the end
pub with_first-new : {A : Type 0} (t : A → Bool) (change : A → A) (new : A) (xs : List A) → position_from t 0 xs ≡ None → with_first t change new xs ≡ xs ++ new ∷ []
with_first-new t change new xs h = with_first-no_place t change new xs (sym (position-place t xs) ∙ h)

pub find-at : {A : Type 0} (t : A → Bool) (xs : List A) (k : ℕ) → position_from t 0 xs ≡ Some k → find t xs ≡ slice_get xs k
find-at t xs k h = find-place t xs k (sym (position-place t xs) ∙ h)

pub find-none : {A : Type 0} (t : A → Bool) (xs : List A) → position_from t 0 xs ≡ None → find t xs ≡ None
find-none t xs h = find-no_place t xs (sym (position-place t xs) ∙ h)

pub any-at : {A : Type 0} (t : A → Bool) (xs : List A) (k : ℕ) → position_from t 0 xs ≡ Some k → list_any t xs ≡ true
any-at t xs k h = any-place t xs k (sym (position-place t xs) ∙ h)

pub any-none : {A : Type 0} (t : A → Bool) (xs : List A) → position_from t 0 xs ≡ None → list_any t xs ≡ false
any-none t xs h = any-no_place t xs (sym (position-place t xs) ∙ h)

pub position-below : {A : Type 0} (t : A → Bool) (xs : List A) (k : ℕ) → position_from t 0 xs ≡ Some k → k < length xs
position-below t xs k h = place-below t xs k (sym (position-place t xs) ∙ h)

-- a change that the test doesn't see moves no place
pub position-changed : {A : Type 0} (t : A → Bool) (change : A → A) → ((x : A) → t (change x) ≡ t x) → (xs : List A) (k : ℕ) → position_from t 0 (changed_at k change xs) ≡ position_from t 0 xs
position-changed t change same xs k = position-place t (changed_at k change xs) ∙ place-changed t change same xs k ∙ sym (position-place t xs)

-- one more element at the end is found where none before it is
pub position-append : {A : Type 0} (t : A → Bool) (xs : List A) (x : A) → position_from t 0 (xs ++ x ∷ []) ≡ option_or (position_from t 0 xs) (cond (t x) (Some (length xs)) None)
position-append t xs x = position-place t (xs ++ x ∷ []) ∙ place-append t xs x ∙ ap (λ o. option_or o (cond (t x) (Some (length xs)) None)) (sym (position-place t xs))

pub slice_get-changed : {A : Type 0} (change : A → A) (xs : List A) (k : ℕ) (x : A) → slice_get xs k ≡ Some x → slice_get (changed_at k change xs) k ≡ Some (change x)
slice_get-changed change [] k x h = absurd (cc)
slice_get-changed change (y ∷ ys) zero x h = let e : y ≡ x = cc in rw e refl
slice_get-changed change (y ∷ ys) (suc k) x h = slice_get-changed change ys k x h

pub slice_get-last : {A : Type 0} (xs : List A) (x : A) → slice_get (xs ++ x ∷ []) (length xs) ≡ Some x
slice_get-last [] x = refl
slice_get-last (y ∷ ys) x = slice_get-last ys x

pub length-changed : {A : Type 0} (change : A → A) (xs : List A) (k : ℕ) → length (changed_at k change xs) ≡ length xs
length-changed change [] k = refl
length-changed change (x ∷ xs) zero = refl
length-changed change (x ∷ xs) (suc k) = ap suc (length-changed change xs k)

-- an element written at a place is the change of what stood there
pub set-changed : {A : Type 0} (change : A → A) (xs : List A) (k j : ℕ) (x y : A) → j ≡ k → y ≡ change x → x ≡ get_or xs j x → set xs j y ≡ changed_at k change xs
set-changed {A} change xs k j x y e u v = rw (← e) (written xs j u v) where
  written : (xs : List A) (j : ℕ) → y ≡ change x → x ≡ get_or xs j x → set xs j y ≡ changed_at j change xs
  written [] j u v = refl
  written (z ∷ zs) zero u v = ap (λ (w : A). w ∷ zs) (u ∙ ap change v)
  written (z ∷ zs) (suc j) u v = ap (λ (ws : List A). z ∷ ws) (written zs j u v)

pub slice_get-set : {A : Type 0} (xs : List A) (k j : ℕ) (y : A) → j ≡ k → k < length xs → slice_get (set xs j y) k ≡ Some y
slice_get-set {A} xs k j y e h = rw (← e) (written xs j (subst (λ n. n < length xs) (sym e) h)) where
  written : (xs : List A) (j : ℕ) → j < length xs → slice_get (set xs j y) j ≡ Some y
  written [] j h = absurd (omega arith)
  written (z ∷ zs) zero h = refl
  written (z ∷ zs) (suc j) h = written zs j (omega arith)

-- whether some element passes, and whether it has a place
pub any-position : {A : Type 0} (t : A → Bool) (xs : List A) → list_any t xs ≡ is_some (position_from t 0 xs)
any-position t xs = go (place t xs) refl ∙ ap is_some (sym (position-place t xs)) where
  go : (o : Option ℕ) → place t xs ≡ o → list_any t xs ≡ is_some (place t xs)
  go None h = any-no_place t xs h ∙ ap is_some (sym h)
  go (Some k) h = any-place t xs k h ∙ ap is_some (sym h)

-- a list that one element was changed in, or that has one more, is longer by one at most
pub with_first-count : {A : Type 0} (t : A → Bool) (change : A → A) (new : A) (xs : List A) → length (with_first t change new xs) ≤ length xs + 1
with_first-count t change new [] = omega arith
with_first-count t change new (x ∷ xs) = go (t x) (with_first-count t change new xs) where
  go : (b : Bool) → length (with_first t change new xs) ≤ length xs + 1 → length (cond b (change x ∷ xs) (x ∷ with_first t change new xs)) ≤ length (x ∷ xs) + 1
  go true h = omega arith
  go false h = omega arith

-- the same of a call that changes nothing where it is refused
pub with_first-count_of : {A B E : Type 0} (result : Result B E) (t : A → Bool) (change : A → A) (new : A) (xs ys : List A)
    → OnOk result (ys ≡ with_first t change new xs) → OnErr result (ys ≡ xs) → length ys ≤ length xs + 1
with_first-count_of (Ok b) t change new xs ys e k = rw e (with_first-count t change new xs)
with_first-count_of (Err e) t change new xs ys d k = rw k (omega arith)
