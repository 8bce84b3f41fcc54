-- The first cause of a list, from a place on.
use Rattle.std.proofs.Common.{◌≡◌, ℕ, zero, suc, ◌+◌, ◌<◌, ◌≤◌, List, [], ◌∷◌, map, length, drop, get_or, slice_get, Some, None, arith, refl, ap, add-one, drop-cons, String, string_bytes}
use Rattle.std.specs.Global.{Global}
use Rattle.std.proofs.lemmas.List.{drop_all}
use Rattle.std.specs.Option.{option_or}
use Rattle.cranelift_module.specs.Refusal.{first_cause, zero_byte}

-- the elements from a place on
pub drop_step : {X : Type 0} (xs : List X) (i : ℕ) (x : X) → i < length xs → x ≡ get_or xs i x → drop i xs ≡ x ∷ drop (i + 1) xs
drop_step xs i x h e = rw (add-one, drop-cons xs i x, ← e) refl

pub texts_step : (texts : List (String Global)) (i : ℕ) (text : String Global) → i < length texts → text ≡ get_or texts i text
    → first_cause (map zero_byte (map string_bytes (drop i texts))) ≡ option_or (zero_byte (string_bytes text)) (first_cause (map zero_byte (map string_bytes (drop (i + 1) texts))))
texts_step texts i text h e = ap (λ rest. first_cause (map zero_byte (map string_bytes rest))) (drop_step texts i text h e)

pub texts_end : (texts : List (String Global)) (i : ℕ) → length texts ≤ i → first_cause (map zero_byte (map string_bytes (drop i texts))) ≡ None
texts_end texts i h = rw drop_all refl

-- what stands at a place of a list
pub row_at : {A : Type 0} (rows : List A) (k : ℕ) → k < length rows → (row : A) × (slice_get rows k ≡ Some row)
row_at [] k h = absurd (omega arith)
row_at (r ∷ rows) zero h = (r, refl)
row_at (r ∷ rows) (suc k) h = row_at rows k (omega arith)
