-- Lists with one element changed.
use Rattle.std.specs.Prelude.{ℕ, zero, suc, List, [], ◌∷◌}

-- the list with its element of this number changed, where it has one
abbrev pub changed_at : {A : Type 0} → ℕ → (A → A) → List A → List A
changed_at k change [] = []
changed_at zero change (x ∷ xs) = change x ∷ xs
changed_at (suc k) change (x ∷ xs) = x ∷ changed_at k change xs
