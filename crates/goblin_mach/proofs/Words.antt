-- A number of four bytes has 32 bits.
use Rattle.std.proofs.Common.{◌≡◌, ℕ, zero, suc, ◌+◌, ◌*◌, ◌^◌, ◌<◌, ◌≤◌, List, length, take, drop, get_or, reverse, nat_le, Bool, true, false, cond, Some, None, refl, sym, arith, add-one, pow-suc}
use Rattle.std.proofs.lemmas.Bool.{leb-true}
use Rattle.std.proofs.lemmas.List.{length-drop, get_or-drop}
use Rattle.byte_core.specs.Number.{little_number, big_number_at, bytes_at, where_inside}
use Rattle.byte_core.proofs.Writing.{big_none, big_more}
use Rattle.goblin_mach.specs.FatTable.{word_at}

-- the number of the first bytes is below the power of 256 by their number
big_below : (bs : List ℕ) → ((k : ℕ) → get_or bs k 0 < 256) → (i : ℕ) → i ≤ length bs → little_number (reverse (take i bs)) < 256 ^ i
big_below bs h zero l = omega (arith, big_none)
big_below bs h (suc i) l =
    let below = big_below bs h i (omega arith) in
    let more : little_number (reverse (take (suc i) bs)) ≡ get_or bs i 0 + 256 * little_number (reverse (take i bs)) = rw (← add-one i) (big_more bs i (omega arith)) in
    omega (arith, more, below, h i, pow-suc 256 i)

pub word_below : (b : List ℕ) (p : ℕ) → ((k : ℕ) → get_or b k 0 < 256) → p + 4 ≤ length b → word_at b p < 2 ^ 32
unfolding big_number_at bytes_at
word_below b p h l =
    let bytes : (k : ℕ) → get_or (drop p b) k 0 < 256 = λ k. rw (get_or-drop p b k 0) (h (p + k)) in
    big_below (drop p b) bytes 4 (omega (arith, length-drop p b))

inside_below : (b : List ℕ) (p n : ℕ) (t : Bool) → ((k : ℕ) → get_or b k 0 < 256) → t ≡ nat_le (p + 4) (length b) → Some n ≡ cond t (Some (word_at b p)) None → n < 2 ^ 32
inside_below b p n true h e i =
    let inside : p + 4 ≤ length b = leb-true (p + 4) (length b) (sym e) in
    let same : n ≡ word_at b p = cc in
    rw same (word_below b p h inside)
inside_below b p n false h e i = absurd (cc)

-- what is read inside the bytes has 32 bits
pub word_inside : (b : List ℕ) (p n : ℕ) → ((k : ℕ) → get_or b k 0 < 256) → Some n ≡ where_inside b p 4 (word_at b p) → n < 2 ^ 32
word_inside b p n h i = inside_below b p n (nat_le (p + 4) (length b)) h refl i
