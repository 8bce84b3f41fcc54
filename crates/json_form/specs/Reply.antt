-- What a library answers to a JSON value.
use Rattle.std.specs.Prelude.{ℕ, List}

-- it answers with a text, or refuses the value by a text
pub data Reply : Type 0 where
  told : List ℕ → Reply
  refusal : List ℕ → Reply
