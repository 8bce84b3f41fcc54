-- Lists with one element changed.
use Rattle.std.proofs.Common.{◌≡◌, ℕ, zero, suc, ◌++◌, ◌∷◌, List, [], length, refl, ap}
use Rattle.ir_core.specs.Changes.{changed_at}

pub changed_twice : {A : Type 0} (k : ℕ) (f g : A → A) (xs : List A) → changed_at k f (changed_at k g xs) ≡ changed_at k (λ x. f (g x)) xs
changed_twice k f g [] = refl
changed_twice zero f g (x ∷ xs) = refl
changed_twice (suc k) f g (x ∷ xs) = ap (λ ys. x ∷ ys) (changed_twice k f g xs)

pub changed_same : {A : Type 0} (k : ℕ) (f : A → A) (xs : List A) → ((x : A) → f x ≡ x) → changed_at k f xs ≡ xs
changed_same k f [] h = refl
changed_same zero f (x ∷ xs) h = ap (λ y. y ∷ xs) (h x)
changed_same (suc k) f (x ∷ xs) h = ap (λ ys. x ∷ ys) (changed_same k f xs h)

-- two changes that give the same
pub changed_alike : {A : Type 0} (k : ℕ) (f g : A → A) (xs : List A) → ((x : A) → f x ≡ g x) → changed_at k f xs ≡ changed_at k g xs
changed_alike k f g [] h = refl
changed_alike zero f g (x ∷ xs) h = ap (λ y. y ∷ xs) (h x)
changed_alike (suc k) f g (x ∷ xs) h = ap (λ ys. x ∷ ys) (changed_alike k f g xs h)

-- the last element changed
pub changed_last : {A : Type 0} (f : A → A) (xs : List A) (x : A) → changed_at (length xs) f (xs ++ x ∷ []) ≡ xs ++ f x ∷ []
changed_last f [] x = refl
changed_last f (y ∷ xs) x = ap (λ ys. y ∷ ys) (changed_last f xs x)

pub changed_length : {A : Type 0} (k : ℕ) (f : A → A) (xs : List A) → length (changed_at k f xs) ≡ length xs
changed_length k f [] = refl
changed_length zero f (x ∷ xs) = refl
changed_length (suc k) f (x ∷ xs) = ap suc (changed_length k f xs)
