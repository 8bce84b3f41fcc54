-- Elements of lists by their places.
use Rattle.std.proofs.Common.{◌≡◌, ℕ, zero, suc, ◌+◌, ◌<◌, ◌≤◌, List, [], ◌∷◌, ◌++◌, length, take, map, refl, ap, sym, ◌∙◌, arith, Some, Bool, true, false, slice_get, ◌⊎◌, inl, inr, cond, get_or, drop, subst, append_assoc, append-nil, length-append}
use Rattle.std.specs.Prelude.{filter, count_by, sum_by, flat_map}
use Rattle.std.proofs.lemmas.List.Sums.{sum_by-cons, count_by_more_yes, count_by_more_no}
use Rattle.std.proofs.lemmas.List.{drop_more, take_more, drop_all}
use Rattle.std.proofs.lemmas.Option.{slice_get_read}

pub get_left : {X : Type 0} (xs ys : List X) (k : ℕ) (x : X) → slice_get xs k ≡ Some x → slice_get (xs ++ ys) k ≡ Some x
get_left [] ys zero x e = absurd (cc)
get_left [] ys (suc k) x e = absurd (cc)
get_left (y ∷ xs) ys zero x e = e
get_left (y ∷ xs) ys (suc k) x e = get_left xs ys k x e

pub get_right : {X : Type 0} (xs ys : List X) (k n : ℕ) (y : X) → slice_get ys k ≡ Some y → length xs + k ≡ n → slice_get (xs ++ ys) n ≡ Some y
get_right [] ys k n y e h = let same : k ≡ n = omega (arith, h) in rw (← same) e
get_right (x ∷ xs) ys k zero y e h = absurd (omega (arith, h))
get_right (x ∷ xs) ys k (suc n) y e h = get_right xs ys k n y e (omega (arith, h))

-- an element of joined lists is one of the first, or one of the second
pub get_append : {X : Type 0} (xs ys : List X) (n : ℕ) (x : X) → slice_get (xs ++ ys) n ≡ Some x → (slice_get xs n ≡ Some x) ⊎ ((k : ℕ) × (length xs + k ≡ n) × (slice_get ys k ≡ Some x))
get_append [] ys n x e = inr (n, omega arith, e)
get_append (y ∷ xs) ys zero x e = inl e
get_append (y ∷ xs) ys (suc n) x e =
    elim (get_append xs ys n x e) [ inl h ↦ inl h | inr r ↦ inr (r.0, omega (arith, r.1), r.2) ]

pub get_exists : {X : Type 0} (xs : List X) (k : ℕ) → k < length xs → (x : X) × (slice_get xs k ≡ Some x)
get_exists [] k h = absurd (omega (arith, h))
get_exists (x ∷ xs) zero h = (x, refl)
get_exists (x ∷ xs) (suc k) h = get_exists xs k (omega (arith, h))

pub get_within : {X : Type 0} (xs : List X) (k : ℕ) (x : X) → slice_get xs k ≡ Some x → k < length xs
get_within [] zero x e = absurd (cc)
get_within [] (suc k) x e = absurd (cc)
get_within (y ∷ xs) zero x e = omega arith
get_within (y ∷ xs) (suc k) x e = omega (arith, get_within xs k x e)

pub get_map : {X Y : Type 0} (f : X → Y) (xs : List X) (k : ℕ) (x : X) → slice_get xs k ≡ Some x → slice_get (map f xs) k ≡ Some (f x)
get_map f [] zero x e = absurd (cc)
get_map f [] (suc k) x e = absurd (cc)
get_map f (y ∷ xs) zero x e = let same : y ≡ x = cc in ap (λ z. Some (f z)) same
get_map f (y ∷ xs) (suc k) x e = get_map f xs k x e

pub get_map_from : {X Y : Type 0} (f : X → Y) (xs : List X) (k : ℕ) (y : Y) → slice_get (map f xs) k ≡ Some y → (x : X) × (slice_get xs k ≡ Some x) × (f x ≡ y)
get_map_from f [] zero y e = absurd (cc)
get_map_from f [] (suc k) y e = absurd (cc)
get_map_from f (x ∷ xs) zero y e = (x, refl, cc)
get_map_from f (x ∷ xs) (suc k) y e = get_map_from f xs k y e

-- ---- a filter

abbrev one_if : Bool → ℕ
one_if b = cond b 1 0

one_more : (n : ℕ) → suc n ≡ 1 + n
one_more n = omega arith

get_filter_past : {X : Type 0} (p : X → Bool) (y : X) (xs : List X) (k : ℕ) (x : X) (b : Bool) → slice_get (filter p xs) (count_by p (take k xs)) ≡ Some x → slice_get (cond b (y ∷ filter p xs) (filter p xs)) (one_if b + count_by p (take k xs)) ≡ Some x
get_filter_past p y xs k x true h = rw (sym (one_more (count_by p (take k xs)))) h
get_filter_past p y xs k x false h = let same : 0 + count_by p (take k xs) ≡ count_by p (take k xs) = omega arith in rw same h

-- an element that passes stands in the filtered list behind those before it
pub get_filter : {X : Type 0} (p : X → Bool) (xs : List X) (k : ℕ) (x : X) → slice_get xs k ≡ Some x → p x ≡ true → slice_get (filter p xs) (count_by p (take k xs)) ≡ Some x
get_filter p [] zero x e t = absurd (cc)
get_filter p [] (suc k) x e t = absurd (cc)
get_filter p (y ∷ xs) zero x e t = let same : y ≡ x = cc in rw (same, t) refl
get_filter p (y ∷ xs) (suc k) x e t = rw (sum_by-cons (λ z. cond (p z) 1 0) y (take k xs)) (get_filter_past p y xs k x (p y) (get_filter p xs k x e t))

-- ---- a loop over a list

-- the item of a loop is the next element
pub item_get : {X : Type 0} (xs : List X) (i : ℕ) (x : X) → i < length xs → x ≡ get_or xs i x → slice_get xs i ≡ Some x
item_get xs i x h e = slice_get_read xs (length xs) i x refl h e

pub item_drop : {X : Type 0} (xs : List X) (i : ℕ) (x : X) → i < length xs → x ≡ get_or xs i x → drop i xs ≡ x ∷ drop (i + 1) xs
item_drop xs i x h e = drop_more xs i x h ∙ ap (λ y. y ∷ drop (i + 1) xs) (sym e)

pub item_take : {X : Type 0} (xs : List X) (i : ℕ) (x : X) → i < length xs → x ≡ get_or xs i x → take (i + 1) xs ≡ take i xs ++ x ∷ []
item_take xs i x h e = take_more xs i x h ∙ ap (λ y. take i xs ++ y ∷ []) (sym e)

pub below_or_here : (k i : ℕ) → k < i + 1 → (k < i) ⊎ (i ≡ k)
below_or_here k i h = grind (arith)

each_here_or_before : {X : Type 0} (P : X → Type 0) (xs : List X) (i : ℕ) (x : X) → slice_get xs i ≡ Some x → ((k : ℕ) (y : X) → k < i → slice_get xs k ≡ Some y → P y) → P x → (k : ℕ) (y : X) → (k < i) ⊎ (i ≡ k) → slice_get xs k ≡ Some y → P y
each_here_or_before P xs i x e before here k y (inl h) g = before k y h g
each_here_or_before P xs i x e before here k y (inr same) g = let one : x ≡ y = cc in subst P one here

-- what holds of each element before the item, and of the item, holds of each up to it
pub each_more : {X : Type 0} (P : X → Type 0) (xs : List X) (i : ℕ) (x : X) → i < length xs → x ≡ get_or xs i x → ((k : ℕ) (y : X) → k < i → slice_get xs k ≡ Some y → P y) → P x → (k : ℕ) (y : X) → k < i + 1 → slice_get xs k ≡ Some y → P y
each_more P xs i x h e before here k y l g = each_here_or_before P xs i x (item_get xs i x h e) before here k y (below_or_here k i l) g

-- what holds of each element before the end holds of each
pub each_all : {X : Type 0} (P : X → Type 0) (xs : List X) (i : ℕ) → length xs ≤ i → ((k : ℕ) (y : X) → k < i → slice_get xs k ≡ Some y → P y) → (k : ℕ) (y : X) → slice_get xs k ≡ Some y → P y
each_all P xs i h before k y g = before k y (omega (arith, get_within xs k y g)) g

-- the bytes of the item are written, then those that are left
pub flat_more : {X : Type 0} (f : X → List ℕ) (x : X) (left rest : List X) (out new all : List ℕ) → left ≡ x ∷ rest → new ≡ out ++ f x → out ++ flat_map f left ≡ all → new ++ flat_map f rest ≡ all
flat_more f x left rest out new all e n a = rw (n, append_assoc) (rw e at a)

pub flat_all : {X : Type 0} (f : X → List ℕ) (xs : List X) (i : ℕ) (out all : List ℕ) → length xs ≤ i → out ++ flat_map f (drop i xs) ≡ all → out ≡ all
flat_all f xs i out all h a = sym (append-nil out) ∙ ap (λ left. out ++ flat_map f left) (sym (drop_all i xs h)) ∙ a

-- no element counts for more than all
pub one_of_sum : {X : Type 0} (f : X → ℕ) (xs : List X) (k : ℕ) (x : X) → slice_get xs k ≡ Some x → f x ≤ sum_by f xs
one_of_sum f [] zero x e = absurd (cc)
one_of_sum f [] (suc k) x e = absurd (cc)
one_of_sum f (y ∷ xs) zero x e = let same : y ≡ x = cc in rw (← same) (omega (arith, sum_by-cons f y xs))
one_of_sum f (y ∷ xs) (suc k) x e = omega (arith, sum_by-cons f y xs, one_of_sum f xs k x e)

-- ---- an element of a filtered list

-- it is one of the list, and it passes
pub record Passing {X : Type 0} (p : X → Bool) (xs : List X) (x : X) : Type 0 where
  pub place : ℕ
  pub at : slice_get xs place ≡ Some x
  pub passes : p x ≡ true

passing_later : {X : Type 0} (p : X → Bool) (y : X) (xs : List X) (x : X) → Passing p xs x → Passing p (y ∷ xs) x
passing_later p y xs x h = record { place = suc h.place; at = h.at; passes = h.passes }

passing_past : {X : Type 0} (p : X → Bool) (y : X) (xs : List X) (b : Bool) → p y ≡ b → ((k : ℕ) (x : X) → slice_get (filter p xs) k ≡ Some x → Passing p xs x) → (k : ℕ) (x : X) → slice_get (cond b (y ∷ filter p xs) (filter p xs)) k ≡ Some x → Passing p (y ∷ xs) x
passing_past p y xs true e later zero x h = let same : y ≡ x = cc in record { place = 0; at = ap (λ z. Some z) same; passes = ap p (sym same) ∙ e }
passing_past p y xs true e later (suc k) x h = passing_later p y xs x (later k x h)
passing_past p y xs false e later k x h = passing_later p y xs x (later k x h)

pub passing : {X : Type 0} (p : X → Bool) (xs : List X) (k : ℕ) (x : X) → slice_get (filter p xs) k ≡ Some x → Passing p xs x
passing p [] zero x h = absurd (cc)
passing p [] (suc k) x h = absurd (cc)
passing p (y ∷ xs) k x h = passing_past p y xs (p y) refl (passing p xs) k x h

pub length_next : {X : Type 0} (xs new : List X) (x : X) (n : ℕ) → new ≡ xs ++ x ∷ [] → length xs ≡ n → length new ≡ n + 1
length_next xs new x n e h = ap length e ∙ length-append xs (x ∷ []) ∙ ap (λ m. m + 1) h

-- one more element passes, or doesn't
pub count_yes : {X : Type 0} (p : X → Bool) (xs : List X) (i : ℕ) (x : X) → i < length xs → x ≡ get_or xs i x → p x ≡ true → count_by p (take (i + 1) xs) ≡ count_by p (take i xs) + 1
count_yes p xs i x h e t = count_by_more_yes p xs i x h (ap p (sym e) ∙ t)

pub count_no : {X : Type 0} (p : X → Bool) (xs : List X) (i : ℕ) (x : X) → i < length xs → x ≡ get_or xs i x → p x ≡ false → count_by p (take (i + 1) xs) ≡ count_by p (take i xs)
count_no p xs i x h e t = count_by_more_no p xs i x h (ap p (sym e) ∙ t)

filter_append_past : {X : Type 0} (b : Bool) (x : X) (xs ys zs : List X) → zs ≡ xs ++ ys → cond b (x ∷ zs) zs ≡ cond b (x ∷ xs) xs ++ ys
filter_append_past true x xs ys zs e = ap (λ l. x ∷ l) e
filter_append_past false x xs ys zs e = e

pub filter_append : {X : Type 0} (p : X → Bool) (xs ys : List X) → filter p (xs ++ ys) ≡ filter p xs ++ filter p ys
filter_append p [] ys = refl
filter_append p (x ∷ xs) ys = filter_append_past (p x) x (filter p xs) (filter p ys) (filter p (xs ++ ys)) (filter_append p xs ys)
