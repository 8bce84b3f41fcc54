-- What a buffer holds of a source.
use Rattle.std.specs.Prelude.{◌≡◌, ℕ, List, take, Option, Some}
use Rattle.byte_core.specs.Number.{bytes_at}

-- the first n bytes of the buffer are those from this place on, where they are known
pub record HoldsFront (bytes : Option (List ℕ)) (buf : List ℕ) (offset n : ℕ) : Type 0 where
  pub front : (b : List ℕ) → bytes ≡ Some b → take n buf ≡ bytes_at b offset n

-- the buffer is the bytes of this range, where they are known
pub record HoldsRange (bytes : Option (List ℕ)) (buf : List ℕ) (offset n : ℕ) : Type 0 where
  pub range : (b : List ℕ) → bytes ≡ Some b → buf ≡ bytes_at b offset n
