-- What the checks of an object conclude from its elements, one by one.
use Rattle.std.proofs.Common.{◌≡◌, ℕ, ◌+◌, ◌<◌, ◌≤◌, ◌⊎◌, inl, inr, List, length, Some, refl, ap, sym, ◌∙◌, subst, arith}
use Rattle.std.specs.Prelude.{slice_get, option_map, Option, None}
use Rattle.std.proofs.lemmas.Option.{slice_get_within, same_Some}
use Rattle.object_core.specs.declared.symbol.Symbol.{Symbol}
use Rattle.object_core.specs.Object.{SymbolData, named, plain_symbol}
use Rattle.object_core.specs.Checking.{Each, At}

below_or_here : (k n : ℕ) → k < n + 1 → (k < n) ⊎ (k ≡ n)
below_or_here k n h = grind arith

-- what holds at each place below a number does so below the next, if it holds there
pub below_more : (P : ℕ → Type 0) (n : ℕ) → ((k : ℕ) → k < n → P k) → P n → (k : ℕ) → k < n + 1 → P k
below_more P n before here k h = elim (below_or_here k n h) [ inl less ↦ before k less | inr same ↦ subst P (sym same) here ]

-- what holds at each place up to the end of a list holds of each of its elements
pub each_all : {A : Type 0} (P : A → Type 0) (xs : List A) (n : ℕ) → length xs ≤ n → ((k : ℕ) → k < n → At P xs k) → Each P xs
each_all P xs n h all k x e = all k (omega (arith, h, slice_get_within xs k x e)) x e

-- what holds of the element at a place holds there
pub at_item : {A : Type 0} (P : A → Type 0) (xs : List A) (i : ℕ) (x : A) → slice_get xs i ≡ Some x → P x → At P xs i
at_item P xs i x here p y e = subst P (same_Some x y (sym here ∙ e)) p

-- -- symbols by what an object tells of them

symbol_told : (found : Option SymbolData) (name : List ℕ) (s : Symbol) → option_map (λ (t : SymbolData). t.name) found ≡ Some name → option_map plain_symbol found ≡ Some s → found ≡ Some (named name s)
symbol_told None name s e f = absurd (cc)
symbol_told (Some t) name s e f =
    let same_name : t.name ≡ name = same_Some t.name name e in
    let same : plain_symbol t ≡ s = same_Some (plain_symbol t) s f in
    rw (← same_name, ← same) refl

pub symbol_holds : (P : SymbolData → Type 0) (xs : List SymbolData) (k : ℕ) (name : List ℕ) (s : Symbol) → option_map (λ (t : SymbolData). t.name) (slice_get xs k) ≡ Some name → option_map plain_symbol (slice_get xs k) ≡ Some s → P (named name s) → At P xs k
symbol_holds P xs k name s e f p = at_item P xs k (named name s) (symbol_told (slice_get xs k) name s e f) p

pub symbol_fails : (P : SymbolData → Type 0) (xs : List SymbolData) (k : ℕ) (name : List ℕ) (s : Symbol) → option_map (λ (t : SymbolData). t.name) (slice_get xs k) ≡ Some name → option_map plain_symbol (slice_get xs k) ≡ Some s → At P xs k → P (named name s)
symbol_fails P xs k name s e f all = all (named name s) (symbol_told (slice_get xs k) name s e f)

-- -- elements by what is told of them

pub told_of : {A B : Type 0} (f : A → B) (found : Option A) (y : B) (x : A) → option_map f found ≡ Some y → found ≡ Some x → f x ≡ y
told_of f None y x e h = absurd (cc)
told_of f (Some z) y x e h = ap f (sym (same_Some z x h)) ∙ same_Some (f z) y e

pub told_there : {A B : Type 0} (f : A → B) (found : Option A) (y : B) → option_map f found ≡ Some y → (x : A) × (found ≡ Some x) × (f x ≡ y)
told_there f None y e = absurd (cc)
told_there f (Some x) y e = (x, refl, same_Some (f x) y e)
