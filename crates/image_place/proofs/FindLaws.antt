-- The first element that passes a test.
use Rattle.std.proofs.Common.{◌≡◌, ℕ, zero, suc, ◌<◌, List, [], ◌∷◌, refl, ap, ◌∙◌, arith, Some, None, Bool, true, false, slice_get, find}

pub find_at : {A : Type 0} (p : A → Bool) (xs : List A) (i : ℕ) (x : A) → slice_get xs i ≡ Some x → p x ≡ true → ((j : ℕ) (y : A) → j < i → slice_get xs j ≡ Some y → p y ≡ false) → find p xs ≡ Some x
find_at p [] i x at_x yes_x before = absurd (cc)
find_at p (y ∷ xs) zero x at_x yes_x before = let same : y ≡ x = cc in rw (ap p same ∙ yes_x) (ap Some same)
find_at p (y ∷ xs) (suc i) x at_x yes_x before = rw (before 0 y (omega arith) refl) (find_at p xs i x at_x yes_x (λ j z less at_z. before (suc j) z (omega (arith, less)) at_z))

pub find_none : {A : Type 0} (p : A → Bool) (xs : List A) → ((j : ℕ) (y : A) → slice_get xs j ≡ Some y → p y ≡ false) → find p xs ≡ None
find_none p [] none = refl
find_none p (y ∷ xs) none = rw (none 0 y refl) (find_none p xs (λ j z at_z. none (suc j) z at_z))
