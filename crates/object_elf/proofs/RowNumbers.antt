-- The rows of symbols, counted in a loop.
use Rattle.std.proofs.Common.{◌≡◌, ℕ, ◌+◌, ◌<◌, ◌≤◌, List, [], ◌∷◌, ◌++◌, length, take, get_or, ap, ◌∙◌, arith, true, false, not, slice_get, Some, ◌⊎◌, inl, inr, cond, refl}
use Rattle.std.specs.Prelude.{count_by}
use Rattle.std.proofs.lemmas.List.Sums.{sum_by-take-le, length-filter}
use Rattle.std.proofs.lemmas.List.Filters.{length-filter_both}
use Rattle.byte_core.proofs.Lists.{item_get, get_left, get_right, below_or_here, count_yes}
use Rattle.object_core.specs.Object.{SymbolData, is_local, is_global}
use Rattle.object_core.specs.ElfRows.{row_in}

next_row : (rows : List ℕ) (ss : List SymbolData) (i row k : ℕ) → length rows ≡ i → ((j : ℕ) → j < i → slice_get rows j ≡ Some (row_in ss j)) → row ≡ row_in ss i → (k < i) ⊎ (i ≡ k) → slice_get (rows ++ row ∷ []) k ≡ Some (row_in ss k)
next_row rows ss i row k n before here (inl h) = get_left rows (row ∷ []) k (row_in ss k) (before k h)
next_row rows ss i row k n before here (inr same) = get_right rows (row ∷ []) 0 k (row_in ss k) (ap (λ r. Some r) (here ∙ ap (row_in ss) same)) (omega (arith, n, same))

pub rows_next : (rows new : List ℕ) (ss : List SymbolData) (i row : ℕ) → length rows ≡ i → new ≡ rows ++ row ∷ [] → ((j : ℕ) → j < i → slice_get rows j ≡ Some (row_in ss j)) → row ≡ row_in ss i → (k : ℕ) → k < i + 1 → slice_get new k ≡ Some (row_in ss k)
rows_next rows new ss i row n w before here k h = rw w (next_row rows ss i row k n before here (below_or_here k i h))

pub local_row : (ss : List SymbolData) (i : ℕ) (s : SymbolData) → i < length ss → s ≡ get_or ss i s → is_local s ≡ true → row_in ss i ≡ 1 + count_by is_local (take i ss)
unfolding row_in
local_row ss i s h e t = rw (item_get ss i s h e, t) refl

pub other_row : (ss : List SymbolData) (i : ℕ) (s : SymbolData) → i < length ss → s ≡ get_or ss i s → is_local s ≡ false → row_in ss i ≡ 1 + count_by is_local ss + count_by is_global (take i ss)
unfolding row_in
other_row ss i s h e t = rw (item_get ss i s h e, t) refl

pub local_and_global : (ss : List SymbolData) → count_by is_local ss + count_by is_global ss ≡ length ss
local_and_global ss = omega (arith, length-filter_both is_local is_global (λ s. refl) ss, length-filter is_local ss, length-filter is_global ss)

-- a row below that of the end
pub other_room : (ss : List SymbolData) (i : ℕ) (s : SymbolData) → i < length ss → s ≡ get_or ss i s → is_local s ≡ false → 1 + count_by is_local ss + count_by is_global (take i ss) + 1 ≤ length ss + 1
other_room ss i s h e t =
    omega (arith, local_and_global ss, count_yes is_global ss i s h e (ap not t), sum_by-take-le (λ (x : SymbolData). cond (is_global x) 1 0) ss (i + 1))
