-- The first zero byte, as a search gives it and as the definitions do.
use Rattle.std.proofs.Common.{◌≡◌, ℕ, zero, suc, ◌+◌, ◌==◌, ◌<◌, Bool, true, false, List, [], ◌∷◌, length, take, slice_index, unwrap_or, Option, Some, None, refl, ap, sym, ◌∙◌, arith}
use Rattle.std.specs.List.{position_from, position_or_len}
use Rattle.std.proofs.lemmas.List.{take_all}
use Rattle.byte_core.specs.Strings.{before_zero}
use Rattle.memchr.specs.Find.{IsFirstByte, is_byte}

abbrev is_zero : ℕ → Bool
is_zero x = x == 0

-- it is at none of the places below n
abbrev NotBelow : List ℕ → ℕ → Type 0
NotBelow xs n = (k : ℕ) → k < n → ¬ (is_zero (slice_index xs k) ≡ true)

not_true : (t : Bool) → ¬ (t ≡ true) → t ≡ false
not_true true h = absurd (h refl)
not_true false h = refl

no_place : (xs : List ℕ) (i : ℕ) → NotBelow xs (length xs) → position_from is_zero i xs ≡ None
no_place [] i h = refl
no_place (x ∷ xs) i h =
    let first : is_zero x ≡ false = not_true (is_zero x) (h 0 (omega arith)) in
    rw first (no_place xs (i + 1) (λ k below. h (suc k) (omega arith)))

this_place : (xs : List ℕ) (i k : ℕ) → k < length xs → is_zero (slice_index xs k) ≡ true → NotBelow xs k → position_from is_zero i xs ≡ Some (i + k)
this_place [] i k l e h = absurd (omega arith)
this_place (x ∷ xs) i zero l e h = let place : i + 0 ≡ i = omega arith in rw (e, place) refl
this_place (x ∷ xs) i (suc k) l e h =
    let first : is_zero x ≡ false = not_true (is_zero x) (h 0 (omega arith)) in
    let place : i + 1 + k ≡ i + suc k = omega arith in
    rw (first, ← place) (this_place xs (i + 1) k (omega arith) e (λ j below. h (suc j) (omega arith)))

pub first_zero : (xs : List ℕ) (o : Option ℕ) → IsFirstByte (is_byte 0) xs o → o ≡ position_from (λ x. x == 0) 0 xs
first_zero xs None h = sym (no_place xs 0 (λ k below. h k (omega arith) below))
first_zero xs (Some k) h =
    let place : 0 + k ≡ k = omega arith in
    sym (this_place xs 0 k h.0.high h.1 (λ j below. h.0.before j (omega arith) below) ∙ ap Some place)

-- -- the bytes up to the first zero

len_from : (xs : List ℕ) (i : ℕ) (o : Option ℕ) → o ≡ position_from is_zero i xs → unwrap_or o (i + length xs) ≡ i + position_or_len is_zero xs
len_from [] i o h = rw h refl
len_from (x ∷ xs) i o h = by (is_zero x) refl (len_from xs (i + 1) (position_from is_zero (i + 1) xs) refl)
  where
    by : (t : Bool) → is_zero x ≡ t → unwrap_or (position_from is_zero (i + 1) xs) (i + 1 + length xs) ≡ i + 1 + position_or_len is_zero xs → unwrap_or o (i + suc (length xs)) ≡ i + position_or_len is_zero (x ∷ xs)
    by true e later = rw (h, e) (omega arith)
    by false e later =
        let place : i + 1 + length xs ≡ i + suc (length xs) = omega arith in
        let next : i + 1 + position_or_len is_zero xs ≡ i + (1 + position_or_len is_zero xs) = omega arith in
        rw (h, e, ← place) (later ∙ next)

zero_more : (n : ℕ) → 0 + n ≡ n
zero_more n = omega arith

pub before_zero_at : (xs : List ℕ) (n : ℕ) → Some n ≡ position_from (λ x. x == 0) 0 xs → take n xs ≡ before_zero xs
before_zero_at xs n h = ap (λ k. take k xs) (len_from xs 0 (Some n) h ∙ zero_more (position_or_len is_zero xs))

pub before_zero_all : (xs : List ℕ) → None ≡ position_from (λ x. x == 0) 0 xs → xs ≡ before_zero xs
before_zero_all xs h =
    let len : 0 + length xs ≡ 0 + position_or_len is_zero xs = len_from xs 0 None h in
    sym (take_all (position_or_len is_zero xs) xs (omega (arith, len)))
