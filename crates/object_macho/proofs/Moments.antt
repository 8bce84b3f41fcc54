-- Lists that are seen element by element, and lists that are put in an order by a test.
use Rattle.std.proofs.Common.{◌≡◌, ℕ, zero, suc, ◌+◌, List, [], ◌∷◌, ◌++◌, Bool, true, false, not, cond, length, take, map, Some, refl, ap, sym, ◌∙◌, arith, append_assoc, append-nil}
use Rattle.std.specs.Prelude.{slice_get, filter, count_by, sum_by}
use Rattle.std.proofs.lemmas.List.{length-map}
use Rattle.std.proofs.lemmas.List.Sums.{sum_by-cons, length-filter}
use Rattle.ir_core.specs.Moments.{Moment, moments_after, moments}
use Rattle.byte_core.proofs.Lists.{get_right, get_filter, get_exists, get_within, get_map, get_map_from}

abbrev moment_of : {A : Type 0} → List A → A → Moment A
moment_of before here = record { before = before; here = here }

moments_get : {A : Type 0} (before xs : List A) (n : ℕ) (x : A) → slice_get xs n ≡ Some x → slice_get (moments_after before xs) n ≡ Some (moment_of (before ++ take n xs) x)
moments_get before [] n x e = absurd (cc)
moments_get before (y ∷ ys) zero x e =
    let same : y ≡ x = cc in
    ap (λ z. Some (moment_of before z)) same ∙ ap (λ zs. Some (moment_of zs x)) (sym (append-nil before))
moments_get before (y ∷ ys) (suc n) x e = moments_get (before ++ y ∷ []) ys n x e ∙ ap (λ zs. Some (moment_of zs x)) (append_assoc before (y ∷ []) (take n ys))

pub length-moments : {A : Type 0} (before xs : List A) → length (moments_after before xs) ≡ length xs
length-moments before [] = refl
length-moments before (x ∷ xs) = ap suc (length-moments (before ++ x ∷ []) xs)

same_some : {A : Type 0} {x y : A} → Some x ≡ Some y → x ≡ y
same_some e = cc

-- element n of a list beside those before it
pub moment_at : {A B : Type 0} (f : Moment A → B) (xs : List A) (n : ℕ) (x : A) → slice_get xs n ≡ Some x → slice_get (map f (moments xs)) n ≡ Some (f (record { before = take n xs; here = x }))
unfolding moments
moment_at f xs n x e = get_map f (moments_after [] xs) n (moment_of (take n xs) x) (moments_get [] xs n x e)

-- and each that is seen so is one of the list
pub moment_from : {A B : Type 0} (f : Moment A → B) (xs : List A) (n : ℕ) (y : B) → slice_get (map f (moments xs)) n ≡ Some y → (x : A) × (slice_get xs n ≡ Some x) × (f (record { before = take n xs; here = x }) ≡ y)
unfolding moments
moment_from f xs n y e =
    let m = get_map_from f (moments_after [] xs) n y e in
    let within = get_within (moments_after [] xs) n m.0 m.1 in
    let x = get_exists xs n (omega (arith, within, length-moments [] xs)) in
    let told = moments_get [] xs n x.0 x.1 in
    let same : moment_of (take n xs) x.0 ≡ m.0 = same_some (sym told ∙ m.1) in
    (x.0, x.1, ap f same ∙ m.2)

pub length-seen : {A B : Type 0} (f : Moment A → B) (xs : List A) → length (map f (moments xs)) ≡ length xs
unfolding moments
length-seen f xs = length-map (moments_after [] xs) f ∙ length-moments [] xs

-- -- two orders

pub behind : {X : Type 0} (p q : X → Bool) (xs : List X) (k : ℕ) (x : X) → slice_get xs k ≡ Some x → q x ≡ true → slice_get (filter p xs ++ filter q xs) (count_by p xs + count_by q (take k xs)) ≡ Some x
behind p q xs k x h t = get_right (filter p xs) (filter q xs) (count_by q (take k xs)) (count_by p xs + count_by q (take k xs)) x (get_filter q xs k x h t) (omega (arith, length-filter p xs))

-- a sum over both parts is that of the whole
sum_by_case : {X : Type 0} (f : X → ℕ) (q : X → Bool) (x : X) (xs : List X) (b : Bool) → q x ≡ b → sum_by f (filter (λ y. not (q y)) xs) + sum_by f (filter q xs) ≡ sum_by f xs
    → sum_by f (cond (not b) (x ∷ filter (λ y. not (q y)) xs) (filter (λ y. not (q y)) xs)) + sum_by f (cond b (x ∷ filter q xs) (filter q xs)) ≡ sum_by f (x ∷ xs)
sum_by_case f q x xs true e h = omega (arith, sum_by-cons f x (filter q xs), sum_by-cons f x xs, h)
sum_by_case f q x xs false e h = omega (arith, sum_by-cons f x (filter (λ y. not (q y)) xs), sum_by-cons f x xs, h)

pub sum_by_parts : {X : Type 0} (f : X → ℕ) (q : X → Bool) (xs : List X) → sum_by f (filter (λ y. not (q y)) xs) + sum_by f (filter q xs) ≡ sum_by f xs
sum_by_parts f q [] = refl
sum_by_parts f q (x ∷ xs) = (sum_by_case f q x xs (q x) refl (sum_by_parts f q xs))

pub sum_by_append : {X : Type 0} (f : X → ℕ) (xs ys : List X) → sum_by f (xs ++ ys) ≡ sum_by f xs + sum_by f ys
sum_by_append f [] ys = omega arith
sum_by_append f (x ∷ xs) ys = omega (arith, sum_by-cons f x (xs ++ ys), sum_by-cons f x xs, sum_by_append f xs ys)

-- -- lists whose elements pass, or don't

filter_case : {X : Type 0} (p : X → Bool) (x : X) (xs : List X) (b : Bool) → p x ≡ b → b ≡ true → filter p xs ≡ xs → cond b (x ∷ filter p xs) (filter p xs) ≡ x ∷ xs
filter_case p x xs true e h rest = ap (λ zs. x ∷ zs) rest
filter_case p x xs false e h rest = absurd (cc)

pub filter_all : {X : Type 0} (p : X → Bool) (xs : List X) → ((k : ℕ) (x : X) → slice_get xs k ≡ Some x → p x ≡ true) → filter p xs ≡ xs
filter_all p [] h = refl
filter_all p (x ∷ xs) h = filter_case p x xs (p x) refl (h 0 x refl) (filter_all p xs (λ k y e. h (suc k) y e))

none_case : {X : Type 0} (p : X → Bool) (x : X) (xs : List X) (b : Bool) → b ≡ false → filter p xs ≡ [] → cond b (x ∷ filter p xs) (filter p xs) ≡ []
none_case p x xs true h rest = absurd (cc)
none_case p x xs false h rest = rest

pub filter_none : {X : Type 0} (p : X → Bool) (xs : List X) → ((k : ℕ) (x : X) → slice_get xs k ≡ Some x → p x ≡ false) → filter p xs ≡ []
filter_none p [] h = refl
filter_none p (x ∷ xs) h = none_case p x xs (p x) (h 0 x refl) (filter_none p xs (λ k y e. h (suc k) y e))

-- -- lists that are seen from a place on

pub seen_from : {A B : Type 0} (f : Moment A → B) (before xs : List A) (n : ℕ) (y : B) → slice_get (map f (moments_after before xs)) n ≡ Some y → (x : A) × (slice_get xs n ≡ Some x) × (f (record { before = before ++ take n xs; here = x }) ≡ y)
seen_from f before xs n y e =
    let m = get_map_from f (moments_after before xs) n y e in
    let within = get_within (moments_after before xs) n m.0 m.1 in
    let x = get_exists xs n (omega (arith, within, length-moments before xs)) in
    let same : moment_of (before ++ take n xs) x.0 ≡ m.0 = same_some (sym (moments_get before xs n x.0 x.1) ∙ m.1) in
    (x.0, x.1, ap f same ∙ m.2)

pub seen_append : {A B : Type 0} (f : Moment A → B) (before xs ys : List A) → map f (moments_after before (xs ++ ys)) ≡ map f (moments_after before xs) ++ map f (moments_after (before ++ xs) ys)
seen_append f before [] ys = ap (λ zs. map f (moments_after zs ys)) (sym (append-nil before))
seen_append f before (x ∷ xs) ys =
    ap (λ zs. f (moment_of before x) ∷ zs) (seen_append f (before ++ x ∷ []) xs ys ∙ ap (λ zs. map f (moments_after (before ++ x ∷ []) xs) ++ map f (moments_after zs ys)) (append_assoc before (x ∷ []) xs))
