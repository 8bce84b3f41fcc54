-- The marks of a name don't depend on the order of its declarations.
use Rattle.std.proofs.Common.{◌≡◌, ℕ, ◌==◌, ◌||◌, Bool, true, false, List, [], ◌∷◌, filter_map, Option, Some, None, refl, ap, sym, ◌∙◌}
use Rattle.std.specs.List.{list_any, cons_option}
use Rattle.std.specs.List.Sorted.{IsPermutation}
use Rattle.std.proofs.lemmas.List.Sorted.{list_any-IsPermutation}
use Rattle.cranelift_module.specs.declared.linkage.Linkage.{Linkage}
use Rattle.cranelift_module.specs.declared.linkage.Linkage.TheVariants.{Import, Local, Hidden, Preemptible, Export}
use Rattle.cranelift_module.specs.Linkage.{rank, merge, greatest}

-- the linkage is there, and is this one
is_linkage : ℕ → Option Linkage → Bool
is_linkage r None = false
is_linkage r (Some l) = r == rank l

-- the greatest linkage, by which linkages are among them
picked : Bool → Bool → Bool → Bool → Linkage
picked true p h l = Export
picked false true h l = Preemptible
picked false false true l = Hidden
picked false false false true = Local
picked false false false false = Import

merged : (k : Linkage) (e p h l : Bool) → merge k (picked e p h l) ≡ picked ((4 == rank k) || e) ((3 == rank k) || p) ((2 == rank k) || h) ((1 == rank k) || l)
unfolding picked
merged Import true p h l = refl
merged Import false true h l = refl
merged Import false false true l = refl
merged Import false false false true = refl
merged Import false false false false = refl
merged Local true p h l = refl
merged Local false true h l = refl
merged Local false false true l = refl
merged Local false false false true = refl
merged Local false false false false = refl
merged Hidden true p h l = refl
merged Hidden false true h l = refl
merged Hidden false false true l = refl
merged Hidden false false false true = refl
merged Hidden false false false false = refl
merged Preemptible true p h l = refl
merged Preemptible false true h l = refl
merged Preemptible false false true l = refl
merged Preemptible false false false true = refl
merged Preemptible false false false false = refl
merged Export true p h l = refl
merged Export false true h l = refl
merged Export false false true l = refl
merged Export false false false true = refl
merged Export false false false false = refl

has : {A : Type 0} → (A → Option Linkage) → ℕ → List A → Bool
has f r xs = list_any (λ x. is_linkage r (f x)) xs

picked_of : {A : Type 0} → (A → Option Linkage) → List A → Linkage
picked_of f xs = picked (has f 4 xs) (has f 3 xs) (has f 2 xs) (has f 1 xs)

one_more : (o : Option Linkage) (rest : List Linkage) (e p h l : Bool) → greatest rest ≡ picked e p h l
    → greatest (cons_option o rest) ≡ picked (is_linkage 4 o || e) (is_linkage 3 o || p) (is_linkage 2 o || h) (is_linkage 1 o || l)
unfolding is_linkage
one_more None rest e p h l g = g
one_more (Some k) rest e p h l g = ap (merge k) g ∙ merged k e p h l

greatest-picked : {A : Type 0} (f : A → Option Linkage) (xs : List A) → greatest (filter_map f xs) ≡ picked_of f xs
unfolding picked_of has picked
greatest-picked f [] = refl
greatest-picked f (x ∷ xs) = one_more (f x) (filter_map f xs) (has f 4 xs) (has f 3 xs) (has f 2 xs) (has f 1 xs) (greatest-picked f xs)

-- the greatest linkage is the same in any order
pub greatest-IsPermutation : {A : Type 0} (f : A → Option Linkage) (xs ys : List A) → IsPermutation xs ys → greatest (filter_map f xs) ≡ greatest (filter_map f ys)
unfolding picked_of has
greatest-IsPermutation {A} f xs ys h =
    let same : (r : ℕ) → list_any (λ x. is_linkage r (f x)) xs ≡ list_any (λ x. is_linkage r (f x)) ys = λ r. list_any-IsPermutation (λ x. is_linkage r (f x)) xs ys h in
    greatest-picked f xs
    ∙ ap (λ e. picked e (has f 3 xs) (has f 2 xs) (has f 1 xs)) (same 4)
    ∙ ap (λ p. picked (has f 4 ys) p (has f 2 xs) (has f 1 xs)) (same 3)
    ∙ ap (λ h. picked (has f 4 ys) (has f 3 ys) h (has f 1 xs)) (same 2)
    ∙ ap (λ l. picked (has f 4 ys) (has f 3 ys) (has f 2 ys) l) (same 1)
    ∙ sym (greatest-picked f ys)
