-- Parts of lists, as far as they go.
use Rattle.std.proofs.Common.{◌≡◌, ℕ, zero, suc, ◌-◌, ◌≤◌, List, [], ◌∷◌, length, take, drop, replicate, refl, ap, sym, ◌∙◌, arith, min}
use Rattle.std.proofs.lemmas.List.{take_all}
use Rattle.byte_core.specs.Number.{bytes_at}

drop_past : (xs : List ℕ) (n : ℕ) → length xs ≤ n → drop n xs ≡ []
drop_past [] zero h = refl
drop_past [] (suc n) h = refl
drop_past (x ∷ xs) zero h = absurd (omega (arith, h))
drop_past (x ∷ xs) (suc n) h = drop_past xs n (omega (arith, h))

take_nothing : (n : ℕ) → take {A = ℕ} n [] ≡ []
take_nothing zero = refl
take_nothing (suc n) = refl

pub none_at : (xs : List ℕ) (p n : ℕ) → length xs ≤ p → [] ≡ bytes_at xs p n
unfolding bytes_at
none_at xs p n h = sym (ap (take n) (drop_past xs p h) ∙ take_nothing n)

pub take_long : (xs : List ℕ) (n : ℕ) → length xs ≤ n → xs ≡ take n xs
take_long xs n h = sym (take_all n xs h)

drop_zeros : (m p : ℕ) → drop p (replicate {A = ℕ} m 0) ≡ replicate (m - p) 0
drop_zeros zero zero = refl
drop_zeros zero (suc p) = let none : 0 - suc p ≡ 0 = omega arith in ap (λ k. replicate {A = ℕ} k 0) (sym none)
drop_zeros (suc m) zero = let all : suc m ≡ suc m - 0 = omega arith in ap (λ k. replicate {A = ℕ} k 0) all
drop_zeros (suc m) (suc p) = let less : m - p ≡ suc m - suc p = omega arith in drop_zeros m p ∙ ap (λ k. replicate {A = ℕ} k 0) less

take_zeros : (n m : ℕ) → take n (replicate {A = ℕ} m 0) ≡ replicate (min n m) 0
take_zeros zero m = let none : 0 ≡ min 0 m = omega arith in ap (λ k. replicate {A = ℕ} k 0) none
take_zeros (suc n) zero = let none : 0 ≡ min (suc n) 0 = omega arith in ap (λ k. replicate {A = ℕ} k 0) none
take_zeros (suc n) (suc m) = let more : suc (min n m) ≡ min (suc n) (suc m) = omega arith in ap (λ (xs : List ℕ). 0 ∷ xs) (take_zeros n m) ∙ ap (λ k. replicate {A = ℕ} k 0) more

pub zeros_at : (m p n : ℕ) → replicate (min n (m - p)) 0 ≡ bytes_at (replicate m 0) p n
unfolding bytes_at
zeros_at m p n = sym (ap (take n) (drop_zeros m p) ∙ take_zeros n (m - p))
