-- Contents one after another, each at a multiple of its alignment.
use Rattle.std.specs.Prelude.{◌≡◌, ℕ, ◌+◌, ◌-◌, List, [], ◌∷◌, ◌++◌, length, replicate, fold}
use Rattle.std.specs.Int.{next_multiple_of}

-- bytes, and the alignment at which they stand
pub record Aligned : Type 0 where
  pub align : ℕ
  pub bytes : List ℕ

-- where they end behind this place: they stand at the least multiple of their alignment that isn't below it
abbrev pub end_behind : ℕ → Aligned → ℕ
end_behind at c = next_multiple_of at c.align + length c.bytes

-- where the last of them ends
unfoldable pub end_of_aligned : ℕ → List Aligned → ℕ
end_of_aligned at cs = fold end_behind at cs

-- the bytes from a place on: zeros up to the alignment, then the contents, in turn
unfoldable pub laid_out : ℕ → List Aligned → List ℕ
laid_out at [] = []
laid_out at (c ∷ cs) = replicate (next_multiple_of at c.align - at) 0 ++ (c.bytes ++ laid_out (end_behind at c) cs)

-- the new bytes are the old ones with contents laid out behind them
pub record LaysOut (old new : List ℕ) (cs : List Aligned) : Type 0 where
  pub bytes : new ≡ old ++ laid_out (length old) cs
