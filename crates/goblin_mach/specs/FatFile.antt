-- What a contract sees of a fat file.
use Rattle.std.specs.Prelude.{ℕ, List}

-- its bytes, and how many entries of its table are asked for
pub record FatFile : Type 0 where
  pub bytes : List ℕ
  pub narches : ℕ
