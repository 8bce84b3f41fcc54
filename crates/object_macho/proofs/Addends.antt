-- The low bits of an addend.
use Rattle.std.proofs.Common.{◌≡◌, ◌%◌, true, ℤ, pos, negsuc, arith, refl}
use Rattle.std.specs.Int.{cast_unsigned, w32, w64}
use Rattle.std.proofs.lemmas.Bool.{ltb-true}
use Rattle.ir_core.specs.MachO.{is_within}

-- 24 bits are the same of 64 and of 32
pub low_bits : (z : ℤ) → is_within 8388608 z ≡ true → cast_unsigned w64 z % 16777216 ≡ cast_unsigned w32 z % 16777216
low_bits (pos n) h = refl
low_bits (negsuc k) h = omega (arith, ltb-true k 8388608 h)
