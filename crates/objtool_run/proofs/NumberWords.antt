-- Words that are numbers.
use Rattle.std.proofs.Common.{◌≡◌, ℕ, ◌^◌, ◌<◌, ◌≤◌, ◌==◌, Bool, true, false, not, ◌&&◌, nat_le, List, [], ◌∷◌, length, None, refl, arith, leb-true}
use Rattle.std.specs.List.{list_all}
use Rattle.std.specs.Char.{digit_value}
use Rattle.std.specs.Str.Parse.{AllDigits, IsNumeral, digits_value, without_leading_plus}
use Rattle.std.proofs.lemmas.Str.{digit_value_digit}
use Rattle.objtool_run.specs.Words.{is_digit, is_number, number_up_to}

both : (a b : Bool) → (a && b) ≡ true → (a ≡ true) × (b ≡ true)
both true b h = (refl, h)
both false b h = absurd (cc)

both_of : (a b : Bool) → a ≡ true → b ≡ true → (a && b) ≡ true
both_of a b h k = rw (h, k) refl

digit_range : (c : ℕ) → is_digit c ≡ true → (48 ≤ c) × (c ≤ 57)
digit_range c h = let p = both (nat_le 48 c) (nat_le c 57) h in (leb-true 48 c p.0, leb-true c 57 p.1)

digit_below : (c : ℕ) → is_digit c ≡ true → digit_value c < 10
digit_below c h = let r = digit_range c h in let e = digit_value_digit c r in omega (arith, e, r.1)

all_digits : (cs : List ℕ) → list_all is_digit cs ≡ true → AllDigits 10 cs
all_digits [] h = tt
all_digits (c ∷ cs) h = let p = both (is_digit c) (list_all is_digit cs) h in (digit_below c p.0, all_digits cs p.1)

number_digits : (word : List ℕ) → is_number word ≡ true → list_all is_digit word ≡ true
number_digits [] h = absurd (cc)
number_digits (c ∷ []) h = rw h refl
number_digits (c ∷ d ∷ rest) h =
    let p = both (is_digit c && not (c == 48)) (list_all is_digit (d ∷ rest)) h in
    let q = both (is_digit c) (not (c == 48)) p.0 in
    both_of (is_digit c) (list_all is_digit (d ∷ rest)) q.0 p.1

no_plus : (word : List ℕ) → is_number word ≡ true → without_leading_plus word ≡ word
no_plus [] h = absurd (cc)
no_plus (c ∷ cs) h =
    let low = (digit_range c (both (is_digit c) (list_all is_digit cs) (number_digits (c ∷ cs) h)).0).0 in
    let test : (c == 43) ≡ false = grind arith in
    rw test refl

some_digits : (word : List ℕ) → is_number word ≡ true → 0 < length word
some_digits [] h = absurd (cc)
some_digits (c ∷ cs) h = omega arith

too_great : (word : List ℕ) (limit : ℕ) (b : Bool) → is_number word ≡ true → nat_le (digits_value 10 word) limit ≡ b → b ≡ false → number_up_to limit word ≡ None
too_great word limit b h e n = rw (h, e, n) refl

not_at_most : (n m : ℕ) (b : Bool) → nat_le n m ≡ b → m < 2 ^ 64 → (n < 2 ^ 64 → ⊥) → b ≡ false
not_at_most n m false e small big = refl
not_at_most n m true e small big = let low = leb-true n m e in absurd (big (omega (arith, low, small)))

above : (n m : ℕ) → m < 2 ^ 64 → (n < 2 ^ 64 → ⊥) → nat_le n m ≡ false
above n m small big = not_at_most n m (nat_le n m) refl small big

-- a number that no 64 bits hold is past any limit that they hold
pub number_none : (word : List ℕ) (limit : ℕ) → is_number word ≡ true → limit < 2 ^ 64
    → (IsNumeral 10 (without_leading_plus word) × (digits_value 10 (without_leading_plus word) < 2 ^ 64) → ⊥) → number_up_to limit word ≡ None
number_none word limit h small none =
    let plain = no_plus word h in
    let not_small : digits_value 10 word < 2 ^ 64 → ⊥ = λ below. none (rw plain (some_digits word h, all_digits word (number_digits word h)), rw plain below) in
    let test : nat_le (digits_value 10 word) limit ≡ false = above (digits_value 10 word) limit small not_small in
    too_great word limit false h test refl

pub not_false : (b : Bool) → not b ≡ false → b ≡ true
not_false true h = refl
not_false false h = absurd (cc)
