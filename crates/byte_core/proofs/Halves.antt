-- The number of some bytes by those of its halves.
use Rattle.std.proofs.Common.{◌≡◌, ℕ, ◌+◌, ◌*◌, ◌^◌, ◌≤◌, List, [], ◌∷◌, ◌++◌, length, take, drop, slice_index, ap, sym, ◌∙◌, arith, pow-suc}
use Rattle.std.proofs.Math.Nat.{mul_assoc}
use Rattle.std.proofs.Math.Seq.{take-add}
use Rattle.std.proofs.lemmas.List.{length-take, length-drop, drop-drop, drop_more}
use Rattle.byte_core.specs.Number.{bytes_at, number_at, little_number}

-- the bytes behind others count for so many times more
little_number-append : (xs ys : List ℕ) → little_number (xs ++ ys) ≡ little_number xs + 256 ^ length xs * little_number ys
unfolding little_number
little_number-append [] ys = omega arith
little_number-append (x ∷ xs) ys =
    rw (pow-suc 256 (length xs)) (omega (arith, little_number-append xs ys, mul_assoc 256 (256 ^ length xs) (little_number ys)))

number_split : (b : List ℕ) (p v w : ℕ) → p + v ≤ length b → number_at b p (v + w) ≡ number_at b p v + 256 ^ v * number_at b (p + v) w
unfolding number_at bytes_at
number_split b p v w h =
    let whole : take (v + w) (drop p b) ≡ take v (drop p b) ++ take w (drop (p + v) b) = take-add v w (drop p b) ∙ ap (λ xs. take v (drop p b) ++ take w xs) (drop-drop v p b) in
    let long : length (take v (drop p b)) ≡ v = omega (arith, length-take v (drop p b), length-drop p b, h) in
    ap little_number whole ∙ little_number-append (take v (drop p b)) (take w (drop (p + v) b)) ∙ ap (λ n. little_number (take v (drop p b)) + 256 ^ n * little_number (take w (drop (p + v) b))) long

-- a number of one byte
pub one_byte : (b : List ℕ) (p : ℕ) → p + 1 ≤ length b → slice_index b p ≡ number_at b p 1
unfolding number_at bytes_at little_number
one_byte b p h =
    let first : drop p b ≡ slice_index b p ∷ drop (p + 1) b = drop_more b p 0 (omega arith) in
    rw first (omega arith)

pub two_bytes : (b : List ℕ) (p : ℕ) → p + 2 ≤ length b → number_at b p 1 + 256 * number_at b (p + 1) 1 ≡ number_at b p 2
two_bytes b p h = sym (number_split b p 1 1 (omega arith))

pub four_bytes : (b : List ℕ) (p : ℕ) → p + 4 ≤ length b → number_at b p 2 + 65536 * number_at b (p + 2) 2 ≡ number_at b p 4
four_bytes b p h = sym (number_split b p 2 2 (omega arith))

pub eight_bytes : (b : List ℕ) (p : ℕ) → p + 8 ≤ length b → number_at b p 4 + 4294967296 * number_at b (p + 4) 4 ≡ number_at b p 8
eight_bytes b p h = sym (number_split b p 4 4 (omega arith))
