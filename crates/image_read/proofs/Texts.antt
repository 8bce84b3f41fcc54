-- Texts by their places in a string section.
use Rattle.std.proofs.Common.{◌≡◌, ℕ, ◌+◌, ◌-◌, ◌==◌, ◌<◌, ◌≤◌, List, [], ◌∷◌, length, take, drop, refl, ap, ◌∙◌, Option, Some, None, Bool, true, false, cond, suc, arith, ◌⊎◌, inl, inr}
use Rattle.std.specs.List.{position_from}
use Rattle.std.specs.Option.{option_map}
use Rattle.std.proofs.lemmas.List.{take_rest, drop_all, drop-take, drop-drop, take-take, length-take}
use Rattle.byte_core.specs.Number.{bytes_at, text_at}

-- the text from a place on goes up to the first zero behind it
pub text_behind : (b : List ℕ) (p : ℕ) (o : Option ℕ) → o ≡ position_from (λ x. x == 0) 0 (take (length b - p) (drop p b))
    → text_at b p (length b) ≡ option_map (λ n. take n (take (length b - p) (drop p b))) o
unfolding text_at bytes_at
text_behind b p o h = let first = rw (take_rest b p) at h in rw (take_rest b p, ← first) refl

-- there is none past the end
pub text_past : (b : List ℕ) (p : ℕ) → length b < p → text_at b p (length b) ≡ None
unfolding text_at bytes_at
text_past b p h =
    let none : length b - p ≡ 0 = omega arith in
    rw none refl

-- a place in some bytes of a file is one in the file
rest_within : (xs : List ℕ) (s p : ℕ) → (s < p) ⊎ (p ≤ s) → drop p (take s xs) ≡ take (s - p) (drop p xs)
rest_within xs s p (inl past) =
    let none : s - p ≡ 0 = omega arith in
    rw none (drop_all p (take s xs) (omega (arith, length-take s xs)))
rest_within xs s p (inr before) =
    let sum : s ≡ p + (s - p) = omega arith in
    ap (λ n. drop p (take n xs)) sum ∙ drop-take p (s - p) xs

past_or_before : (s p : ℕ) → (s < p) ⊎ (p ≤ s)
past_or_before s p = grind arith

bytes_within : (b : List ℕ) (o s p : ℕ) → drop p (take s (drop o b)) ≡ take (o + s - (o + p)) (drop (o + p) b)
bytes_within b o s p =
    let size : o + s - (o + p) ≡ s - p = omega arith in
    rw (size, ← drop-drop p o b) (rest_within (drop o b) s p (past_or_before s p))

first_or_later : (t : Bool) (i n len : ℕ) (later : Option ℕ) → (later ≡ Some n → n < i + 1 + len) → cond t (Some i) later ≡ Some n → n < i + suc len
first_or_later true i n len later h e = let same : i ≡ n = cc in omega (arith, same)
first_or_later false i n len later h e = omega (arith, h e)

position_bound : (xs : List ℕ) (i n : ℕ) → position_from (λ x. x == 0) i xs ≡ Some n → n < i + length xs
position_bound [] i n h = absurd (cc)
position_bound (x ∷ xs) i n h = first_or_later (x == 0) i n (length xs) (position_from (λ y. y == 0) (i + 1) xs) (position_bound xs (i + 1) n) h

cut_text : (o : Option ℕ) (w : ℕ) (xs : List ℕ) → ((n : ℕ) → o ≡ Some n → n ≤ w) → option_map (λ n. take n (take w xs)) o ≡ option_map (λ n. take n xs) o
cut_text None w xs h = refl
cut_text (Some n) w xs h = ap Some (take-take n w xs (h n refl))

-- a text of some bytes is one of the file
pub text_within : (b : List ℕ) (o s p : ℕ) → text_at (bytes_at b o s) p (length (bytes_at b o s)) ≡ text_at b (o + p) (o + s)
unfolding text_at bytes_at
text_within b o s p =
    let all = take (o + s - (o + p)) (drop (o + p) b) in
    let here = bytes_within b o s p in
    let first = position_from (λ x. x == 0) 0 all in
    let bound : (n : ℕ) → first ≡ Some n → n ≤ o + s - (o + p) =
    λ n h. omega (arith, position_bound all 0 n h, length-take (o + s - (o + p)) (drop (o + p) b)) in
    rw (take_rest (take s (drop o b)) p, here) (cut_text first (o + s - (o + p)) (drop (o + p) b) bound)
