-- Facts of each of a list, and of each two of it.
use Rattle.std.proofs.Common.{◌≡◌, ℕ, zero, suc, ◌+◌, Bool, true, false, List, [], ◌∷◌, ◌++◌, ◌||◌, map, Some, refl, ap, ◌∙◌, arith, slice_get, subst}
use Rattle.std.specs.List.{AllByRecursion, range_with_len, list_any}
use Rattle.fat_macho.specs.Parts.{Pairwise}

pub all_snoc : {X : Type 0} (P : X → Type 0) (xs : List X) (y : X) → AllByRecursion P xs → P y → AllByRecursion P (xs ++ y ∷ [])
all_snoc P [] y all h = (h, tt)
all_snoc P (x ∷ xs) y all h = (all.0, all_snoc P xs y all.1 h)

pub pairs_snoc : {X : Type 0} (R : X → X → Type 0) (xs : List X) (y : X) → Pairwise R xs → AllByRecursion (λ x. R x y) xs → Pairwise R (xs ++ y ∷ [])
pairs_snoc R [] y h all = (tt, tt)
pairs_snoc R (x ∷ xs) y h all = (all_snoc (R x) xs y h.0 all.0, pairs_snoc R xs y h.1 all.1)

pub all_map : {X : Type 0} (P Q : X → Type 0) (xs : List X) → ((x : X) → P x → Q x) → AllByRecursion P xs → AllByRecursion Q xs
all_map P Q [] leads all = tt
all_map P Q (x ∷ xs) leads all = (leads x all.0, all_map P Q xs leads all.1)

pub all_at : {X : Type 0} (P : X → Type 0) (xs : List X) (k : ℕ) (x : X) → AllByRecursion P xs → slice_get xs k ≡ Some x → P x
all_at P [] k x all e = absurd (cc)
all_at P (y ∷ xs) zero x all e = let same : y ≡ x = cc in subst P same all.0
all_at P (y ∷ xs) (suc k) x all e = all_at P xs k x all.1 e

any_head : {X : Type 0} (p : X → Bool) (x : X) (xs : List X) → list_any p (x ∷ xs) ≡ false → p x ≡ false
any_head p x xs e = head_by (p x) e
  where
    head_by : (t : Bool) → (t || list_any p xs) ≡ false → t ≡ false
    head_by true e = e
    head_by false e = refl

any_tail : {X : Type 0} (p : X → Bool) (x : X) (xs : List X) → list_any p (x ∷ xs) ≡ false → list_any p xs ≡ false
any_tail p x xs e = tail_by (p x) e
  where
    tail_by : (t : Bool) → (t || list_any p xs) ≡ false → list_any p xs ≡ false
    tail_by true e = absurd (cc)
    tail_by false e = e

-- none of a list passes
pub none_passes : {X Y : Type 0} (f : X → Y) (p : Y → Bool) (xs : List X) → list_any p (map f xs) ≡ false → AllByRecursion (λ x. p (f x) ≡ false) xs
none_passes f p [] e = tt
none_passes f p (x ∷ xs) e = (any_head p (f x) (map f xs) e, none_passes f p xs (any_tail p (f x) (map f xs) e))

pub range_snoc : (m n : ℕ) → range_with_len m (suc n) ≡ range_with_len m n ++ (m + n) ∷ []
range_snoc m zero = let same : m ≡ m + 0 = omega arith in ap (λ x. x ∷ []) same
range_snoc m (suc n) = let next : m + 1 + n ≡ m + suc n = omega arith in ap (λ xs. m ∷ xs) (range_snoc (m + 1) n ∙ ap (λ x. range_with_len (m + 1) n ++ x ∷ []) next)

pub range_more : (n : ℕ) → range_with_len 0 (n + 1) ≡ range_with_len 0 n ++ n ∷ []
range_more n =
    let next : n + 1 ≡ suc n = omega arith in
    let last : 0 + n ≡ n = omega arith in
    ap (range_with_len 0) next ∙ range_snoc 0 n ∙ ap (λ x. range_with_len 0 n ++ x ∷ []) last
