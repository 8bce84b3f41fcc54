-- Two lists that are joined place by place.
use Rattle.std.proofs.Common.{◌≡◌, Bool, ◌+◌, ℕ, zero, suc, ◌<◌, ◌++◌, ◌∷◌, List, [], length, get_or, set, Some, refl, ap, ◌∙◌, arith, map}
use Rattle.std.specs.List.{position_from}
use Rattle.std.specs.Prelude.{slice_get}
use Rattle.object_core.specs.Appending.{changed_at}
use Rattle.object_core.specs.ObjectNames.{zip_with}

pub length-zip_with : {A B C : Type 0} (f : A → B → C) (xs : List A) (ys : List B) → length xs ≡ length ys → length (zip_with f xs ys) ≡ length ys
length-zip_with f [] [] h = refl
length-zip_with f [] (y ∷ ys) h = absurd (omega (arith, h))
length-zip_with f (x ∷ xs) [] h = absurd (omega (arith, h))
length-zip_with f (x ∷ xs) (y ∷ ys) h = let rest : length xs ≡ length ys = omega (arith, h) in ap suc (length-zip_with f xs ys rest)

-- what the second list has at each place
pub map-zip_with : {A B C : Type 0} (f : A → B → C) (g : C → B) (xs : List A) (ys : List B) → ((x : A) (y : B) → g (f x y) ≡ y) → length xs ≡ length ys → map g (zip_with f xs ys) ≡ ys
map-zip_with f g [] [] back h = refl
map-zip_with f g [] (y ∷ ys) back h = absurd (omega (arith, h))
map-zip_with f g (x ∷ xs) [] back h = absurd (omega (arith, h))
map-zip_with f g (x ∷ xs) (y ∷ ys) back h = let rest : length xs ≡ length ys = omega (arith, h) in rw (back x y, map-zip_with f g xs ys back rest) refl

pub get-zip_with : {A B C : Type 0} (f : A → B → C) (xs : List A) (ys : List B) (k : ℕ) (x : A) (y : B) → k < length xs → length xs ≡ length ys → slice_get (zip_with f xs ys) k ≡ Some (f (get_or xs k x) (get_or ys k y))
get-zip_with f [] ys k x y below h = absurd (omega (arith, below))
get-zip_with f (z ∷ zs) [] k x y below h = absurd (omega (arith, h))
get-zip_with f (z ∷ zs) (b ∷ bs) zero x y below h = refl
get-zip_with f (z ∷ zs) (b ∷ bs) (suc k) x y below h =
    let rest : length zs ≡ length bs = omega (arith, h) in
    let within : k < length zs = omega (arith, below) in
    get-zip_with f zs bs k x y within rest

pub push-zip_with : {A B C : Type 0} (f : A → B → C) (xs : List A) (ys : List B) (x : A) (y : B) → length xs ≡ length ys → zip_with f (xs ++ x ∷ []) (ys ++ y ∷ []) ≡ zip_with f xs ys ++ f x y ∷ []
push-zip_with f [] [] x y h = refl
push-zip_with f [] (b ∷ bs) x y h = absurd (omega (arith, h))
push-zip_with f (z ∷ zs) [] x y h = absurd (omega (arith, h))
push-zip_with f (z ∷ zs) (b ∷ bs) x y h = let rest : length zs ≡ length bs = omega (arith, h) in ap (λ cs. f z b ∷ cs) (push-zip_with f zs bs x y rest)

-- an element of the second list that changes as what is joined does
pub changed-zip_with : {A B C : Type 0} (f : A → B → C) (change : C → C) (inner : B → B) (xs : List A) (ys : List B) (k : ℕ) (y : B) → ((a : A) (b : B) → f a (inner b) ≡ change (f a b)) → y ≡ get_or ys k y → zip_with f xs (set ys k (inner y)) ≡ changed_at k change (zip_with f xs ys)
changed-zip_with f change inner [] ys k y law e = refl
changed-zip_with f change inner (z ∷ zs) [] k y law e = refl
changed-zip_with f change inner (z ∷ zs) (b ∷ bs) zero y law e = ap (λ w. f z (inner w) ∷ zip_with f zs bs) e ∙ ap (λ c. c ∷ zip_with f zs bs) (law z b)
changed-zip_with f change inner (z ∷ zs) (b ∷ bs) (suc k) y law e = ap (λ cs. f z b ∷ cs) (changed-zip_with f change inner zs bs k y law e)

-- a value of what is joined that the second list has no part in
pub set-zip_with : {A B C D : Type 0} (f : A → B → C) (g : C → D) (xs : List A) (ys : List B) (k : ℕ) (y : B) → ((a : A) (b c : B) → g (f a b) ≡ g (f a c)) → map g (zip_with f xs (set ys k y)) ≡ map g (zip_with f xs ys)
set-zip_with f g [] ys k y law = refl
set-zip_with f g (z ∷ zs) [] k y law = refl
set-zip_with f g (z ∷ zs) (b ∷ bs) zero y law = ap (λ d. d ∷ map g (zip_with f zs bs)) (law z y b)
set-zip_with f g (z ∷ zs) (b ∷ bs) (suc k) y law = ap (λ ds. g (f z b) ∷ ds) (set-zip_with f g zs bs k y law)

-- joined by another law that gives the same
pub same-zip_with : {A B C : Type 0} (f g : A → B → C) (xs : List A) (ys : List B) → ((k : ℕ) (x : A) (y : B) → k < length xs → f (get_or xs k x) y ≡ g (get_or xs k x) y) → zip_with f xs ys ≡ zip_with g xs ys
same-zip_with f g [] ys law = refl
same-zip_with f g (z ∷ zs) [] law = refl
same-zip_with f g (z ∷ zs) (b ∷ bs) law =
    let first : zero < length (z ∷ zs) = omega arith in
    rw (law zero z b first, same-zip_with f g zs bs (λ k x y below. let within : suc k < length (z ∷ zs) = omega (arith, below) in law (suc k) x y within)) refl

-- the first place at which a test passes that the second list has no part in
pub position-zip_with : {A B C : Type 0} (f : A → B → C) (test : C → Bool) (own : A → Bool) (i : ℕ) (xs : List A) (ys : List B) → ((a : A) (b : B) → test (f a b) ≡ own a) → length xs ≡ length ys → position_from test i (zip_with f xs ys) ≡ position_from own i xs
position-zip_with f test own i [] ys law h = refl
position-zip_with f test own i (z ∷ zs) [] law h = absurd (omega (arith, h))
position-zip_with f test own i (z ∷ zs) (b ∷ bs) law h =
    let rest : length zs ≡ length bs = omega (arith, h) in
    rw (law z b, position-zip_with f test own (i + 1) zs bs law rest) refl
