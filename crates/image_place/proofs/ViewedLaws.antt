-- Files that are objects of one format.
use Rattle.std.proofs.Common.{◌≡◌, ℕ, zero, suc, ◌+◌, ◌<◌, ◌≤◌, ◌⊎◌, inl, inr, subst, List, [], ◌∷◌, ◌++◌, length, take, map, refl, ap, sym, ◌∙◌, arith, Some, Bool, true, false, slice_get, length-append, get_or}
use Rattle.std.proofs.lemmas.Bool.{cases_lt}
use Rattle.std.specs.Prelude.{not, if◌then◌else◌}
use Rattle.image_view.specs.View.{View}
use Rattle.image_view.proofs.ViewedLaws.{one_view}
use Rattle.image_place.specs.Placed.{AreViewed, IsOfBytes, AreOfBytes, IsUnread, is_same_format, fits_format}
use Rattle.image_view.specs.Viewed.{IsViewed, IsNoObject}

some_same : {A : Type 0} (x y : A) → Some x ≡ Some y → x ≡ y
some_same x y e = cc

-- -- one file more

same_by : (b : Bool) → (if b then b else not b) ≡ true
same_by true = refl
same_by false = refl

same_itself : (v : View) → is_same_format v v ≡ true
same_itself v = same_by v.is_elf

get_end : {A : Type 0} (xs : List A) (x : A) → slice_get (xs ++ x ∷ []) (length xs) ≡ Some x
get_end [] x = refl
get_end (y ∷ xs) x = get_end xs x

-- an element of a list with one more is one of the list, or the last
get_more : {A : Type 0} (P : ℕ → A → Type 0) (xs : List A) (x : A) → ((k : ℕ) (y : A) → slice_get xs k ≡ Some y → P k y) → P (length xs) x → (k : ℕ) (y : A) → slice_get (xs ++ x ∷ []) k ≡ Some y → P k y
get_more P [] x all last zero y e = let same : x ≡ y = cc in rw (← same) last
get_more P [] x all last (suc k) y e = absurd (cc)
get_more P (z ∷ xs) x all last zero y e = all zero y e
get_more P (z ∷ xs) x all last (suc k) y e = get_more (λ n w. P (suc n) w) xs x (λ n w. all (suc n) w) last k y e

get_kept : {A : Type 0} (xs : List A) (x : A) (k : ℕ) (y : A) → slice_get xs k ≡ Some y → slice_get (xs ++ x ∷ []) k ≡ Some y
get_kept [] x k y e = absurd (cc)
get_kept (z ∷ xs) x zero y e = e
get_kept (z ∷ xs) x (suc k) y e = get_kept xs x k y e

-- the pairs of two lists of one length, with one more
pairs_more : (fs : List (List ℕ)) (vs : List View) (b : List ℕ) (v : View) → length vs ≡ length fs → ((q : ℕ) (c : List ℕ) (w : View) → slice_get fs q ≡ Some c → slice_get vs q ≡ Some w → IsViewed c w) → IsViewed b v
    → (q : ℕ) (c : List ℕ) (w : View) → slice_get (fs ++ b ∷ []) q ≡ Some c → slice_get (vs ++ v ∷ []) q ≡ Some w → IsViewed c w
pairs_more [] [] b v n all last zero c w e f =
    let one : b ≡ c = cc in
    let two : v ≡ w = cc in
    rw (← one, ← two) last
pairs_more [] [] b v n all last (suc q) c w e f = absurd (cc)
pairs_more [] (x ∷ vs) b v n all last q c w e f = absurd (omega (arith, n))
pairs_more (y ∷ fs) [] b v n all last q c w e f = absurd (omega (arith, n))
pairs_more (y ∷ fs) (x ∷ vs) b v n all last zero c w e f = all zero c w e f
pairs_more (y ∷ fs) (x ∷ vs) b v n all last (suc q) c w e f = pairs_more fs vs b v (omega (arith, n)) (λ k. all (suc k)) last q c w e f

first_fits : (vs : List View) (v a : View) → fits_format vs v ≡ true → slice_get (vs ++ v ∷ []) 0 ≡ Some a → is_same_format a v ≡ true
first_fits [] v a h e = let same : v ≡ a = cc in rw (← same) (same_itself v)
first_fits (w ∷ vs) v a h e = let same : w ≡ a = cc in rw (← same) h

-- the first of a list with one more is the first of the list, unless that is empty
first_kept : (vs : List View) (v a w : View) (q : ℕ) → slice_get (vs ++ v ∷ []) 0 ≡ Some a → slice_get vs q ≡ Some w → slice_get vs 0 ≡ Some a
first_kept [] v a w q e f = absurd (cc)
first_kept (x ∷ vs) v a w q e f = e

pub viewed_none : AreViewed [] []
viewed_none = record { count = refl; each = λ q b v e f. absurd (cc); format = λ q v w e f. absurd (cc) }

pub viewed_more : (fs : List (List ℕ)) (vs : List View) (b : List ℕ) (v : View) → AreViewed fs vs → IsViewed b v → fits_format vs v ≡ true → AreViewed (fs ++ b ∷ []) (vs ++ v ∷ [])
viewed_more fs vs b v h one fits =
    record {
      count = omega (arith, h.count, length-append vs (v ∷ []), length-append fs (b ∷ []));
      each = pairs_more fs vs b v h.count h.each one;
      format =
          λ q a w e f.
          get_more (λ (n : ℕ) (x : View). is_same_format a x ≡ true) vs v (λ k x g. h.format k a x (first_kept vs v a x k e g) g) (first_fits vs v a fits e) q w f;
    }

-- -- a file that is refused

-- some element stands at each place of a list
there : {A : Type 0} (xs : List A) (k : ℕ) → k < length xs → (x : A) × (slice_get xs k ≡ Some x)
there [] k h = absurd (omega (arith, h))
there (x ∷ xs) zero h = (x, refl)
there (x ∷ xs) (suc k) h = there xs k (omega (arith, h))

pub unread_bytes : (fs : List (List ℕ)) (b : List ℕ) (vs : List View) → IsNoObject b → AreViewed (fs ++ b ∷ []) vs → ⊥
unread_bytes fs b vs h k =
    let last = there vs (length fs) (omega (arith, k.count, length-append fs (b ∷ []))) in
    h.none last.0 (k.each (length fs) b last.0 (get_end fs b) last.1)

-- the first views of two lists of the same files are one
first_one : (fs : List (List ℕ)) (b : List ℕ) (vs ws : List View) (v : View) (q : ℕ) (w : View) → AreViewed fs vs → IsViewed b v → fits_format vs v ≡ false → AreViewed (fs ++ b ∷ []) ws → q ≡ length fs → slice_get ws q ≡ Some w → ⊥
first_one fs b [] ws v q w h one off k at e = let no : true ≡ false = off in absurd (cc)
first_one [] b (x ∷ vs) ws v q w h one off k at e = absurd (omega (arith, h.count))
first_one (c ∷ fs) b (x ∷ vs) ws v q w h one off k at e =
    let first = there ws 0 (omega (arith, k.count, length-append (c ∷ fs) (b ∷ []))) in
    let same : x ≡ first.0 = one_view c x first.0 (h.each 0 c x refl refl) (k.each 0 c first.0 refl first.1) in
    let end : slice_get (c ∷ fs ++ b ∷ []) q ≡ Some b = ap (slice_get (c ∷ fs ++ b ∷ [])) at ∙ get_end (c ∷ fs) b in
    let last : v ≡ w = one_view b v w one (k.each q b w end e) in
    let yes : is_same_format first.0 w ≡ true = k.format q first.0 w first.1 e in
    let no : is_same_format first.0 w ≡ false = ap (λ y. is_same_format y w) (sym same) ∙ ap (is_same_format x) (sym last) ∙ off in
    let both : true ≡ false = sym yes ∙ no in
    absurd (cc)

pub unread_format : (fs : List (List ℕ)) (b : List ℕ) (vs : List View) (v : View) (ws : List View) → AreViewed fs vs → IsViewed b v → fits_format vs v ≡ false → AreViewed (fs ++ b ∷ []) ws → ⊥
unread_format fs b vs v ws h one off k =
    let last = there ws (length fs) (omega (arith, k.count, length-append fs (b ∷ []))) in
    first_one fs b vs ws v (length fs) last.0 h one off k refl last.1

-- the first n files and the next one
take_next : {A : Type 0} (xs : List A) (n : ℕ) (x : A) → slice_get xs n ≡ Some x → take (suc n) xs ≡ take n xs ++ x ∷ []
take_next [] n x e = absurd (cc)
take_next (y ∷ xs) zero x e = let same : y ≡ x = cc in rw same refl
take_next (y ∷ xs) (suc n) x e = ap (λ ys. y ∷ ys) (take_next xs n x e)

pub take_end : {A : Type 0} (xs : List A) (n : ℕ) (x : A) → slice_get xs n ≡ Some x → take (n + 1) xs ≡ take n xs ++ x ∷ []
take_end xs n x e = let next : n + 1 ≡ suc n = omega arith in ap (λ m. take m xs) next ∙ take_next xs n x e

-- an element of a list that is gone over
pub item_at : {A B : Type 0} (f : A → B) (xs : List A) (i : ℕ) (x : A) → i < length xs → x ≡ get_or xs i x → slice_get (map f xs) i ≡ Some (f x)
item_at f [] i x h e = absurd (omega (arith, h))
item_at f (y ∷ xs) zero x h e = ap (λ z. Some (f z)) (sym e)
item_at f (y ∷ xs) (suc i) x h e = item_at f xs i x (omega (arith, h)) e

inside : {A : Type 0} (xs : List A) (n : ℕ) (x : A) → slice_get xs n ≡ Some x → n < length xs
inside [] n x e = absurd (cc)
inside (y ∷ xs) zero x e = omega arith
inside (y ∷ xs) (suc n) x e = omega (arith, inside xs n x e)

pub unread_at : (files : List (List ℕ)) (q : ℕ) (b : List ℕ) (vs : List View) → slice_get files q ≡ Some b → AreViewed (take q files) vs → IsNoObject b → IsUnread files q
unread_at files q b vs at h none =
    record {
      inside = inside files q b at;
      before = (vs, h);
      here = λ ws k. unread_bytes (take q files) b ws none (rw (take_end files q b at) at k);
    }

pub unfit_at : (files : List (List ℕ)) (q : ℕ) (b : List ℕ) (vs : List View) (v : View) → slice_get files q ≡ Some b → AreViewed (take q files) vs → IsViewed b v → fits_format vs v ≡ false → IsUnread files q
unfit_at files q b vs v at h one off =
    record {
      inside = inside files q b at;
      before = (vs, h);
      here = λ ws k. unread_format (take q files) b vs v ws h one off (rw (take_end files q b at) at k);
    }

pub viewed_at : (files : List (List ℕ)) (q : ℕ) (b : List ℕ) (vs : List View) (v : View) → slice_get files q ≡ Some b → AreViewed (take q files) vs → IsViewed b v → fits_format vs v ≡ true → AreViewed (take (q + 1) files) (vs ++ v ∷ [])
viewed_at files q b vs v at h one fits = rw (take_end files q b at) (viewed_more (take q files) vs b v h one fits)

-- -- bytes of files

bytes_by : (files : List (List ℕ)) (n : ℕ) (b : List ℕ) → AreOfBytes files n → slice_get files n ≡ Some b → IsOfBytes b → (q : ℕ) (c : List ℕ) → (q < n) ⊎ (n ≤ q) → q < n + 1 → slice_get files q ≡ Some c → IsOfBytes c
bytes_by files n b all here one q c (inl l) less at_q = all q c l at_q
bytes_by files n b all here one q c (inr l) less at_q =
    let same : n ≡ q = omega (arith, l, less) in
    let is : b ≡ c = some_same b c (sym here ∙ ap (slice_get files) same ∙ at_q) in
    subst IsOfBytes is one

-- one file more
pub bytes_more : (files : List (List ℕ)) (n : ℕ) (b : List ℕ) → AreOfBytes files n → slice_get files n ≡ Some b → IsOfBytes b → AreOfBytes files (n + 1)
bytes_more files n b all here one q c less at_q = bytes_by files n b all here one q c (cases_lt q n) less at_q
