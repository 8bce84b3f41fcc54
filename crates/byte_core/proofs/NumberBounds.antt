-- How large a number of some bytes can be.
use Rattle.std.proofs.Common.{ℕ, zero, suc, ◌+◌, ◌^◌, ◌<◌, ◌≤◌, List, [], ◌∷◌, length, take, drop, get_or, arith, lit<, pow-suc}
use Rattle.std.proofs.Math.Nat.{pow-le-pow_right}
use Rattle.std.proofs.lemmas.List.{get_or-drop, length-take}
use Rattle.byte_core.specs.Number.{bytes_at, number_at, little_number}

-- each is a byte
abbrev pub AreBytes : List ℕ → Type 0
AreBytes xs = (i : ℕ) → get_or xs i 0 < 256

little_bound : (xs : List ℕ) → AreBytes xs → little_number xs < 256 ^ length xs
unfolding little_number
little_bound [] h = lit< tt
little_bound (x ∷ xs) h =
    let first : x < 256 = h 0 in
    let rest = little_bound xs (λ i. h (suc i)) in
    rw (pow-suc 256 (length xs)) (omega (arith, first, rest))

taken_bytes : (w : ℕ) (xs : List ℕ) → AreBytes xs → AreBytes (take w xs)
taken_bytes zero xs h i = lit< tt
taken_bytes (suc w) [] h i = h i
taken_bytes (suc w) (x ∷ xs) h zero = h zero
taken_bytes (suc w) (x ∷ xs) h (suc i) = taken_bytes w xs (λ k. h (suc k)) i

pub number_bound : (b : List ℕ) (p w : ℕ) → AreBytes b → number_at b p w < 256 ^ w
unfolding number_at bytes_at
number_bound b p w h =
    let bytes : AreBytes (drop p b) = λ i. rw (get_or-drop p b i 0) (h (p + i)) in
    let within : length (take w (drop p b)) ≤ w = rw (length-take w (drop p b)) (omega arith) in
    let power : 256 ^ length (take w (drop p b)) ≤ 256 ^ w = pow-le-pow_right (lit< tt) within in
    omega (arith, little_bound (take w (drop p b)) (taken_bytes w (drop p b) bytes), power)
