-- Hexadecimal digits need no escape in a JSON text.
use Rattle.std.proofs.Common.{◌≡◌, ℕ, ◌+◌, ◌-◌, ◌/◌, ◌%◌, ◌<◌, ◌≤◌, ◌==◌, sym, List, [], ◌∷◌, ◌++◌, refl, arith, append_assoc, slice_index, Bool, true}
use Rattle.std.specs.List.{All, list_all, range_with_len}
use Rattle.std.proofs.lemmas.Bool.{eqb-true}
use Rattle.std.proofs.lemmas.List.FromFn.{length-range_with_len, get_or-range_with_len}
use Rattle.std.specs.Str.{bytes_eq}
use Rattle.std.proofs.lemmas.Slice.Eq.{bytes_eq-Decides}
use Rattle.std.proofs.lemmas.List.Sums.{AllPass-from_list_all}
use Rattle.std.proofs.lemmas.List.Elements.{All-get_or, All-head, All-tail}
use Rattle.std.proofs.lemmas.Fmt.{decimal_digit}
use Rattle.serde_json.specs.Written.{compact_text}
use Rattle.json_form.specs.Written.{number_value}
use Rattle.json.specs.Print.{escape, escape_byte}
use Rattle.hex.specs.Hex.{lower_digits, encode_with, encode_lower}

abbrev is_plain : ℕ → Bool
is_plain x = bytes_eq (escape_byte x) (x ∷ [])

digits_are_plain : list_all is_plain lower_digits ≡ true
unfolding escape_byte
digits_are_plain = refl

digit_is_plain : (d : ℕ) → d < 16 → escape_byte (slice_index lower_digits d) ≡ slice_index lower_digits d ∷ []
digit_is_plain d h =
    let c = slice_index lower_digits d in
    (bytes_eq-Decides (escape_byte c) (c ∷ [])).0 (All-get_or (λ x. is_plain x ≡ true) lower_digits d 0 h (AllPass-from_list_all is_plain lower_digits digits_are_plain))

escape_hex : (bytes : List ℕ) → All (λ x. x < 256) bytes → escape (encode_lower bytes) ≡ encode_lower bytes
unfolding encode_with
escape_hex [] h = refl
escape_hex (b ∷ bs) h =
    let first : b < 256 = All-head (λ x. x < 256) b bs h in
    rw (digit_is_plain (b / 16) (omega (arith, first)), digit_is_plain (b % 16) (omega arith), escape_hex bs (All-tail (λ x. x < 256) b bs h)) refl

-- digits between quotes are the text of their bytes
pub written_hex : (out first second new bytes : List ℕ) → All (λ x. x < 256) bytes
    → first ≡ out ++ 34 ∷ [] → second ≡ first ++ encode_lower bytes → new ≡ second ++ 34 ∷ []
    → new ≡ out ++ 34 ∷ (escape (encode_lower bytes) ++ 34 ∷ [])
written_hex out first second new bytes h e f g =
    rw (escape_hex bytes h, g, f, e, append_assoc, append_assoc) refl

-- ---- a digit is computed

abbrev is_low : ℕ → Bool
is_low d = slice_index lower_digits d == d + 48

abbrev is_high : ℕ → Bool
is_high d = slice_index lower_digits d == d + 87

-- the digits 0 to 9
pub low_digit : (d : ℕ) → d < 10 → d + 48 ≡ slice_index lower_digits d
low_digit d h =
    let test = AllPass-from_list_all is_low (range_with_len 0 10) refl d 0 (rw (length-range_with_len 0 10) h) in
    let here : 0 + d ≡ d = omega arith in
    sym (eqb-true (slice_index lower_digits d) (d + 48) (rw (get_or-range_with_len 0 10 d 0 h, here) at test))

-- the digits a to f
pub high_digit : (d : ℕ) → d < 16 → 10 ≤ d → d + 87 ≡ slice_index lower_digits d
high_digit d h g =
    let place : 10 + (d - 10) ≡ d = omega arith in
    let few : d - 10 < 6 = omega arith in
    let test = AllPass-from_list_all is_high (range_with_len 10 6) refl (d - 10) 0 (rw (length-range_with_len 10 6) few) in
    sym (eqb-true (slice_index lower_digits d) (d + 87) (rw (get_or-range_with_len 10 6 (d - 10) 0 few, place) at test))

-- a number below ten is one digit
pub one_digit : (n : ℕ) → n < 10 → (48 + n) ∷ [] ≡ compact_text (number_value n)
one_digit n h = sym (decimal_digit n h)
