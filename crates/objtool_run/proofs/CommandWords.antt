-- Words behind a command that name nothing.
use Rattle.std.proofs.Common.{◌≡◌, ℕ, ◌≤◌, List, [], ◌∷◌, length, map, None, String, Global, string_bytes, refl, arith}
use Rattle.objtool_run.specs.Words.{request_by}

pub by_many : (command : List ℕ) (words : List (String Global)) → 3 ≤ length words → request_by command (map string_bytes words) ≡ None
by_many command [] many = absurd (omega (arith, many))
by_many command (a ∷ []) many = absurd (omega (arith, many))
by_many command (a ∷ b ∷ []) many = absurd (omega (arith, many))
by_many command (a ∷ b ∷ c ∷ words) many = refl
