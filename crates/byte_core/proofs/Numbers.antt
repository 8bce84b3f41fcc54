-- The bytes of a number, and the number of bytes.
use Rattle.std.proofs.Common.{◌≡◌, ℕ, zero, suc, ◌^◌, ◌<◌, ◌/◌, length, refl, ap, arith, pow-suc}
use Rattle.byte_core.specs.Number.{little_number, little_bytes}

pub length-little_bytes : (w n : ℕ) → length (little_bytes w n) ≡ w
unfolding little_bytes
length-little_bytes zero n = refl
length-little_bytes (suc w) n = ap suc (length-little_bytes w (n / 256))

-- the bytes of a number give it back
pub little_number-little_bytes : (w n : ℕ) → n < 256 ^ w → little_number (little_bytes w n) ≡ n
unfolding little_bytes little_number
little_number-little_bytes zero n h = omega arith
little_number-little_bytes (suc w) n h =
    let q : n / 256 < 256 ^ w = omega (arith, pow-suc 256 w) in
    let e = little_number-little_bytes w (n / 256) q in
    omega (arith, e)
