-- Each row of an ELF symbol table is that of one symbol.
use Rattle.std.proofs.Common.{◌≡◌, ℕ, zero, suc, ◌+◌, ◌<◌, List, [], ◌∷◌, ◌++◌, take, refl, ap, sym, ◌∙◌, arith, Some, Bool, true, false, not, cond, slice_get, inl, inr}
use Rattle.std.specs.Prelude.{filter, count_by}
use Rattle.std.proofs.lemmas.List.Sums.{sum_by-cons, sum_by-take-le, length-filter}
use Rattle.std.proofs.lemmas.Option.{get_or_from_slice_get}
use Rattle.byte_core.proofs.Lists.{get_append, get_within, count_yes}
use Rattle.object_core.specs.Object.{SymbolData, is_local, is_global}
use Rattle.object_core.specs.ElfRows.{row_in}

-- -- filters

-- an element that passes, behind so many that do
pub record Passes {X : Type 0} (p : X → Bool) (xs : List X) (n : ℕ) (x : X) : Type 0 where
  pub place : ℕ
  pub at : slice_get xs place ≡ Some x
  pub passes : p x ≡ true
  pub count : count_by p (take place xs) ≡ n

abbrev one_if : Bool → ℕ
one_if b = cond b 1 0

passes_later : {X : Type 0} (p : X → Bool) (y : X) (xs : List X) (n m : ℕ) (x : X) → one_if (p y) + n ≡ m → Passes p xs n x → Passes p (y ∷ xs) m x
passes_later p y xs n m x e h = record { place = suc h.place; at = h.at; passes = h.passes; count = sum_by-cons (λ z. cond (p z) 1 0) y (take h.place xs) ∙ ap (λ k. one_if (p y) + k) h.count ∙ e }

passes_past : {X : Type 0} (p : X → Bool) (y : X) (xs : List X) (b : Bool) → p y ≡ b → ((n : ℕ) (x : X) → slice_get (filter p xs) n ≡ Some x → Passes p xs n x) → (n : ℕ) (x : X) → slice_get (cond b (y ∷ filter p xs) (filter p xs)) n ≡ Some x → Passes p (y ∷ xs) n x
passes_past p y xs true e later zero x h = let same : y ≡ x = cc in record { place = 0; at = ap (λ z. Some z) same; passes = ap p (sym same) ∙ e; count = refl }
passes_past p y xs true e later (suc n) x h = passes_later p y xs n (suc n) x (omega (arith, ap one_if e)) (later n x h)
passes_past p y xs false e later n x h = passes_later p y xs n n x (omega (arith, ap one_if e)) (later n x h)

-- where an element of a filtered list stands in the list
pub passes-from : {X : Type 0} (p : X → Bool) (xs : List X) (n : ℕ) (x : X) → slice_get (filter p xs) n ≡ Some x → Passes p xs n x
passes-from p [] n x h = absurd (cc)
passes-from p (y ∷ xs) n x h = passes_past p y xs (p y) refl (passes-from p xs) n x h

-- two that pass behind as many are one
pub passes-once : {X : Type 0} (p : X → Bool) (xs : List X) (i j : ℕ) (x y : X) → slice_get xs i ≡ Some x → slice_get xs j ≡ Some y → p x ≡ true → p y ≡ true → count_by p (take i xs) ≡ count_by p (take j xs) → i ≡ j
passes-once p [] i j x y e f s t h = absurd (cc)
passes-once p (z ∷ xs) zero zero x y e f s t h = refl
passes-once p (z ∷ xs) zero (suc j) x y e f s t h =
    let same : z ≡ x = cc in
    let one : one_if (p z) ≡ 1 = ap one_if (ap p same ∙ s) in
    let none : count_by p (take 0 (z ∷ xs)) ≡ 0 = refl in
    absurd (omega (arith, one, none, h, sum_by-cons (λ w. cond (p w) 1 0) z (take j xs)))
passes-once p (z ∷ xs) (suc i) zero x y e f s t h =
    let same : z ≡ y = cc in
    let one : one_if (p z) ≡ 1 = ap one_if (ap p same ∙ t) in
    let none : count_by p (take 0 (z ∷ xs)) ≡ 0 = refl in
    absurd (omega (arith, one, none, h, sum_by-cons (λ w. cond (p w) 1 0) z (take i xs)))
passes-once p (z ∷ xs) (suc i) (suc j) x y e f s t h =
    ap suc (passes-once p xs i j x y e f s t (omega (arith, h, sum_by-cons (λ w. cond (p w) 1 0) z (take i xs), sum_by-cons (λ w. cond (p w) 1 0) z (take j xs))))

-- fewer pass before one that does than pass in all
pub passes-below : {X : Type 0} (p : X → Bool) (xs : List X) (i : ℕ) (x : X) → slice_get xs i ≡ Some x → p x ≡ true → count_by p (take i xs) < count_by p xs
passes-below p xs i x e t =
    omega (arith, count_yes p xs i x (get_within xs i x e) (sym (get_or_from_slice_get xs i x x e)) t, sum_by-take-le (λ z. cond (p z) 1 0) xs (i + 1))

-- -- rows

pub local-row : (ss : List SymbolData) (i : ℕ) (x : SymbolData) → slice_get ss i ≡ Some x → is_local x ≡ true → row_in ss i ≡ 1 + count_by is_local (take i ss)
unfolding row_in
local-row ss i x e t = rw (e, t) refl

pub other-row : (ss : List SymbolData) (i : ℕ) (x : SymbolData) → slice_get ss i ≡ Some x → is_local x ≡ false → row_in ss i ≡ 1 + count_by is_local ss + count_by is_global (take i ss)
unfolding row_in
other-row ss i x e t = rw (e, t) refl

-- the symbol that stands in a row, which is counted without the null row here
pub record IsInRow (ss : List SymbolData) (n : ℕ) (x : SymbolData) : Type 0 where
  pub number : ℕ
  pub here : slice_get ss number ≡ Some x
  pub row : row_in ss number ≡ suc n

not_local : (b : Bool) → not b ≡ true → b ≡ false
not_local true e = absurd (cc)
not_local false e = refl

pub row-from : (ss : List SymbolData) (n : ℕ) (x : SymbolData) → slice_get (filter is_local ss ++ filter is_global ss) n ≡ Some x → IsInRow ss n x
row-from ss n x e =
    elim (get_append (filter is_local ss) (filter is_global ss) n x e) [
      | inl h ↦ (let p = passes-from is_local ss n x h in record { number = p.place; here = p.at; row = local-row ss p.place x p.at p.passes ∙ omega (arith, p.count) })
      | inr r ↦
          (
          let p = passes-from is_global ss r.0 x r.2 in
          record { number = p.place; here = p.at; row = other-row ss p.place x p.at (not_local (is_local x) p.passes) ∙ omega (arith, p.count, r.1, length-filter is_local ss) }
          )
    ]

row_once_by : (ss : List SymbolData) (i j : ℕ) (x y : SymbolData) (a b : Bool) → slice_get ss i ≡ Some x → slice_get ss j ≡ Some y → is_local x ≡ a → is_local y ≡ b → row_in ss i ≡ row_in ss j → i ≡ j
row_once_by ss i j x y true true e f s t h = passes-once is_local ss i j x y e f s t (omega (arith, h, local-row ss i x e s, local-row ss j y f t))
row_once_by ss i j x y false false e f s t h = passes-once is_global ss i j x y e f (ap not s) (ap not t) (omega (arith, h, other-row ss i x e s, other-row ss j y f t))
row_once_by ss i j x y true false e f s t h = absurd (omega (arith, h, local-row ss i x e s, other-row ss j y f t, passes-below is_local ss i x e s))
row_once_by ss i j x y false true e f s t h = absurd (omega (arith, h, other-row ss i x e s, local-row ss j y f t, passes-below is_local ss j y f t))

-- no two symbols have one row
pub row-once : (ss : List SymbolData) (i j : ℕ) (x y : SymbolData) → slice_get ss i ≡ Some x → slice_get ss j ≡ Some y → row_in ss i ≡ row_in ss j → i ≡ j
row-once ss i j x y e f h = row_once_by ss i j x y (is_local x) (is_local y) e f refl refl h

row_behind_by : (ss : List SymbolData) (i : ℕ) (x : SymbolData) (b : Bool) → slice_get ss i ≡ Some x → is_local x ≡ b → (n : ℕ) × (row_in ss i ≡ suc n)
row_behind_by ss i x true e t = (count_by is_local (take i ss), local-row ss i x e t ∙ omega arith)
row_behind_by ss i x false e t = (count_by is_local ss + count_by is_global (take i ss), other-row ss i x e t ∙ omega arith)

-- a row stands behind the null row
pub row-behind : (ss : List SymbolData) (i : ℕ) (x : SymbolData) → slice_get ss i ≡ Some x → (n : ℕ) × (row_in ss i ≡ suc n)
row-behind ss i x e = row_behind_by ss i x (is_local x) e refl
