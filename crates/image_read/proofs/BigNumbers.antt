-- How large a big-endian number of some bytes can be.
use Rattle.std.proofs.Common.{◌≡◌, ℕ, zero, suc, ◌+◌, ◌*◌, ◌^◌, ◌<◌, ◌≤◌, List, length, take, drop, get_or, reverse, arith, add-one, pow-suc}
use Rattle.std.proofs.lemmas.List.{length-drop, get_or-drop}
use Rattle.byte_core.specs.Number.{little_number, big_number_at, bytes_at}
use Rattle.byte_core.proofs.Writing.{big_none, big_more}

-- the number of the first bytes is below the power of 256 by their number
first_below : (bs : List ℕ) → ((k : ℕ) → get_or bs k 0 < 256) → (i : ℕ) → i ≤ length bs → little_number (reverse (take i bs)) < 256 ^ i
first_below bs h zero l = omega (arith, big_none)
first_below bs h (suc i) l =
    let below = first_below bs h i (omega arith) in
    let more : little_number (reverse (take (suc i) bs)) ≡ get_or bs i 0 + 256 * little_number (reverse (take i bs)) = rw (← add-one i) (big_more bs i (omega arith)) in
    omega (arith, more, below, h i, pow-suc 256 i)

pub big_number_below : (b : List ℕ) (p w : ℕ) → ((k : ℕ) → get_or b k 0 < 256) → p + w ≤ length b → big_number_at b p w < 256 ^ w
unfolding big_number_at bytes_at
big_number_below b p w h l =
    let bytes : (k : ℕ) → get_or (drop p b) k 0 < 256 = λ k. rw (get_or-drop p b k 0) (h (p + k)) in
    first_below (drop p b) bytes w (omega (arith, length-drop p b))
