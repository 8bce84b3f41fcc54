-- The names of generated functions and data objects: none has a zero byte, and no two are the same.
use Rattle.std.proofs.Common.{◌≡◌, ℕ, ◌+◌, ◌%◌, ◌^◌, ◌<◌, ◌==◌, ◌||◌, List, [], ◌∷◌, Bool, true, false, None, refl, ◌∙◌, arith, decimal, bytes_eq}
use Rattle.std.specs.List.{list_any, position_from}
use Rattle.std.proofs.lemmas.Fmt.{decimal_by_steps, decimal_injective}
use Rattle.std.proofs.lemmas.Slice.Eq.{bytes_eq-Decides}
use Rattle.std.proofs.lemmas.List.Folds.{list_any-append}
use Rattle.std.proofs.lemmas.Bool.Decides.{nat_tests}
use Rattle.cranelift_module.specs.Refusal.{zero_byte}
use Rattle.part_gen.specs.Generated.{function_name, data_name}

-- -- no zero byte

both_false : (b c : Bool) → (b || c) ≡ false → (b ≡ false) × (c ≡ false)
both_false true c e = absurd (cc)
both_false false c e = (refl, e)

none_passes : (t : ℕ → Bool) (xs : List ℕ) → list_any t xs ≡ false → (j : ℕ) → position_from t j xs ≡ None
none_passes t [] h j = refl
none_passes t (x ∷ xs) h j =
    let p = both_false (t x) (list_any t xs) h in
    rw p.0 (none_passes t xs p.1 (j + 1))

digit_nonzero : (n : ℕ) → list_any (λ x. x == 0) ((48 + n) ∷ []) ≡ false
digit_nonzero n =
    let e : (48 + n == 0) ≡ false = grind (arith, nat_tests) in
    rw e refl

digits_nonzero : (k : ℕ) → k < 2 ^ 64 → list_any (λ x. x == 0) (decimal k) ≡ false
digits_nonzero =
    decimal_by_steps (λ n ds. list_any (λ x. x == 0) ds ≡ false)
    (λ n low. digit_nonzero n)
    (λ n ds high before. list_any-append (λ x. x == 0) ds ((48 + n % 10) ∷ []) ∙ (rw (before, digit_nonzero (n % 10)) refl))

pub function_clean : (k : ℕ) → k < 2 ^ 64 → zero_byte (function_name k) ≡ None
function_clean k h = let none : position_from (λ x. x == 0) 1 (decimal k) ≡ None = none_passes (λ x. x == 0) (decimal k) (digits_nonzero k h) 1 in rw none refl

pub data_clean : (k : ℕ) → k < 2 ^ 64 → zero_byte (data_name k) ≡ None
data_clean k h = let none : position_from (λ x. x == 0) 1 (decimal k) ≡ None = none_passes (λ x. x == 0) (decimal k) (digits_nonzero k h) 1 in rw none refl

-- -- no two are the same

was_false : (b : Bool) → (b ≡ true → ⊥) → b ≡ false
was_false true h = absurd (h refl)
was_false false h = refl

decimals_apart : (a k : ℕ) → a < k → k < 2 ^ 64 → bytes_eq (decimal a) (decimal k) ≡ false
decimals_apart a k below h =
    was_false (bytes_eq (decimal a) (decimal k))
    (λ same. let e : a ≡ k = decimal_injective a k (omega arith) h ((bytes_eq-Decides (decimal a) (decimal k)).0 same) in absurd (omega (arith, e)))

pub functions_apart : (a k : ℕ) → a < k → k < 2 ^ 64 → bytes_eq (function_name a) (function_name k) ≡ false
functions_apart a k below h = decimals_apart a k below h

pub objects_apart : (a k : ℕ) → a < k → k < 2 ^ 64 → bytes_eq (data_name a) (data_name k) ≡ false
objects_apart a k below h = decimals_apart a k below h
