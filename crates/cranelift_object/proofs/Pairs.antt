-- Lists of which each element has a relation to each behind it.
use Rattle.std.proofs.Common.{◌≡◌, ℕ, zero, suc, ◌<◌, ◌++◌, ◌∷◌, List, [], map, Some, arith, subst}
use Rattle.std.specs.Prelude.{slice_get, flat_map}
use Rattle.std.specs.List.{All}
use Rattle.std.proofs.lemmas.List.Elements.{All-nil, All-cons, All-head, All-tail, All-map, All-weaker, All-append}
use Rattle.cranelift_object.proofs.ClassLaws.{All-slice_get}

abbrev pub Pairwise : {A : Type 0} → (A → A → Type 0) → List A → Type 0
Pairwise R [] = Unit {0}
Pairwise R (x ∷ xs) = All (R x) xs × Pairwise R xs

pub All-both : {A : Type 0} (P Q : A → Type 0) (xs : List A) → All P xs → All Q xs → All (λ x. P x × Q x) xs
All-both P Q [] a b = All-nil (λ x. P x × Q x)
All-both P Q (x ∷ xs) a b = All-cons (λ y. P y × Q y) x xs (All-head P x xs a, All-head Q x xs b) (All-both P Q xs (All-tail P x xs a) (All-tail Q x xs b))

All-always : {A : Type 0} (P : A → Type 0) (xs : List A) → ((x : A) → P x) → All P xs
All-always P [] h = All-nil P
All-always P (x ∷ xs) h = All-cons P x xs (h x) (All-always P xs h)

-- two elements, the first before the second
pub pairwise_get : {A : Type 0} (R : A → A → Type 0) (xs : List A) (m n : ℕ) (x y : A) → Pairwise R xs → m < n → slice_get xs m ≡ Some x → slice_get xs n ≡ Some y → R x y
pairwise_get R [] m n x y h below a b = absurd (cc)
pairwise_get R (z ∷ xs) zero zero x y h below a b = absurd (omega arith)
pairwise_get R (z ∷ xs) zero (suc n) x y h below a b =
    let same : z ≡ x = cc in
    subst (λ (w : _). R w y) same (All-slice_get (R z) xs n y h.0 b)
pairwise_get R (z ∷ xs) (suc m) zero x y h below a b = absurd (omega arith)
pairwise_get R (z ∷ xs) (suc m) (suc n) x y h below a b = pairwise_get R xs m n x y h.1 (omega arith) a b

pub pairwise_join : {A : Type 0} (R : A → A → Type 0) (xs ys : List A) → Pairwise R xs → Pairwise R ys → All (λ x. All (R x) ys) xs → Pairwise R (xs ++ ys)
pairwise_join R [] ys a b across = b
pairwise_join R (x ∷ xs) ys a b across =
    (All-append (R x) xs ys a.0 (All-head (λ z. All (R z) ys) x xs across), pairwise_join R xs ys a.1 b (All-tail (λ z. All (R z) ys) x xs across))

-- one more element, to which each has the relation
pub pairwise_end : {A : Type 0} (R : A → A → Type 0) (xs : List A) (y : A) → Pairwise R xs → All (λ x. R x y) xs → Pairwise R (xs ++ y ∷ [])
pairwise_end R xs y h all = pairwise_join R xs (y ∷ []) h (All-nil (R y), tt) (All-weaker (λ x. R x y) (λ x. All (R x) (y ∷ [])) (λ x r. All-cons (R x) y [] r (All-nil (R x))) xs all)

-- a relation that follows from another, for elements of which something holds
pub pairwise_weaker : {A : Type 0} (P : A → Type 0) (R S : A → A → Type 0) (xs : List A) → ((x y : A) → P x → P y → R x y → S x y) → All P xs → Pairwise R xs → Pairwise S xs
pairwise_weaker P R S [] weaken all h = tt
pairwise_weaker P R S (x ∷ xs) weaken all h =
    let rest = All-tail P x xs all in
    (All-weaker (λ y. P y × R x y) (S x) (λ y b. weaken x y (All-head P x xs all) b.0 b.1) xs (All-both P (R x) xs rest h.0), pairwise_weaker P R S xs weaken rest h.1)

-- the values of a function
pub pairwise_map : {A B : Type 0} (S : B → B → Type 0) (f : A → B) (xs : List A) → Pairwise (λ x y. S (f x) (f y)) xs → Pairwise S (map f xs)
pairwise_map S f [] h = tt
pairwise_map S f (x ∷ xs) h = (All-map (S (f x)) f xs h.0, pairwise_map S f xs h.1)

across_all : {A B : Type 0} (S : B → B → Type 0) (f : A → List B) (bs : List B) (xs : List A) → All (λ y. All (λ b. All (S b) (f y)) bs) xs → All (λ b. All (S b) (flat_map f xs)) bs
across_all S f bs [] h = All-always (λ b. All (S b) []) bs (λ b. All-nil (S b))
across_all S f bs (x ∷ xs) h =
    let here = All-head (λ y. All (λ b. All (S b) (f y)) bs) x xs h in
    let rest = across_all S f bs xs (All-tail (λ y. All (λ b. All (S b) (f y)) bs) x xs h) in
    All-weaker (λ b. All (S b) (f x) × All (S b) (flat_map f xs)) (λ b. All (S b) (f x ++ flat_map f xs)) (λ b both. All-append (S b) (f x) (flat_map f xs) both.0 both.1) bs (All-both (λ b. All (S b) (f x)) (λ b. All (S b) (flat_map f xs)) bs here rest)

-- lists one behind the other
pub pairwise_flat : {A B : Type 0} (S : B → B → Type 0) (f : A → List B) (xs : List A) → All (λ x. Pairwise S (f x)) xs → Pairwise (λ x y. All (λ b. All (S b) (f y)) (f x)) xs → Pairwise S (flat_map f xs)
pairwise_flat S f [] own across = tt
pairwise_flat S f (x ∷ xs) own across =
    pairwise_join S (f x) (flat_map f xs) (All-head (λ y. Pairwise S (f y)) x xs own) (pairwise_flat S f xs (All-tail (λ y. Pairwise S (f y)) x xs own) across.1) (across_all S f (f x) xs across.0)
