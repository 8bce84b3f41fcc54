-- Names that are counted once each.
use Rattle.std.proofs.Common.{◌≡◌, ℕ, ◌+◌, ◌++◌, ◌∷◌, ◌||◌, List, [], Bool, true, false, cond, inl, inr, length, refl, ap, sym, ◌∙◌, subst, arith}
use Rattle.std.proofs.lemmas.Bool.{cases_Bool}
use Rattle.std.proofs.lemmas.List.{append_assoc, append-nil}
use Rattle.std.proofs.lemmas.List.Folds.{list_any-append}
use Rattle.std.proofs.lemmas.List.Sums.{sum_by-cons, sum_by_push}
use Rattle.std.specs.Prelude.{bytes_eq, sum_by}
use Rattle.object_core.specs.Names.{is_among, distinct, with_text}
use Rattle.object_core.specs.ObjectNames.{distinct_bytes, AreCounted}
use Rattle.object_core.proofs.Texts.{same_text, other_text, eq_self}

-- -- the bytes of distinct texts

-- the bytes that a text adds to others
abbrev added_bytes : Bool → List ℕ → ℕ
added_bytes there t = cond there 0 (length t)

bytes_by : (t : List ℕ) (ts : List (List ℕ)) (there : Bool) → sum_by length (cond there (distinct ts) (t ∷ distinct ts)) ≡ added_bytes there t + distinct_bytes ts
bytes_by t ts true = omega arith
bytes_by t ts false = sum_by-cons (λ (x : List ℕ). length x) t (distinct ts)

bytes-cons : (t : List ℕ) (ts : List (List ℕ)) → distinct_bytes (t ∷ ts) ≡ added_bytes (is_among t ts) t + distinct_bytes ts
bytes-cons t ts = bytes_by t ts (is_among t ts)

swap : (a b c : Bool) → (a || (b || c)) ≡ (b || (a || c))
swap true true c = refl
swap true false c = refl
swap false b c = refl

-- one more text, anywhere among the others
among-put : (t : List ℕ) (xs : List (List ℕ)) (n : List ℕ) (ys : List (List ℕ)) → is_among t (xs ++ n ∷ ys) ≡ (bytes_eq t n || is_among t (xs ++ ys))
among-put t [] n ys = refl
among-put t (x ∷ xs) n ys = ap (λ (b : Bool). bytes_eq t x || b) (among-put t xs n ys) ∙ swap (bytes_eq t x) (bytes_eq t n) (is_among t (xs ++ ys))

put_step : (x n : List ℕ) (rest : List (List ℕ)) → added_bytes (bytes_eq x n || is_among x rest) x + added_bytes (is_among n rest) n ≡ added_bytes (bytes_eq n x || is_among n rest) n + added_bytes (is_among x rest) x
put_step x n rest =
    elim (cases_Bool (bytes_eq x n)) [
      | inl same ↦ (let e : x ≡ n = same_text x n same in rw (e, eq_self n) refl)
      | inr apart ↦ (let other : bytes_eq n x ≡ false = other_text x n apart in rw (apart, other) (omega arith))
    ]

bytes-put : (xs : List (List ℕ)) (n : List ℕ) (ys : List (List ℕ)) → distinct_bytes (xs ++ n ∷ ys) ≡ added_bytes (is_among n (xs ++ ys)) n + distinct_bytes (xs ++ ys)
bytes-put [] n ys = bytes-cons n ys
bytes-put (x ∷ xs) n ys =
    let rest : List (List ℕ) = xs ++ ys in
    let head : added_bytes (is_among x (xs ++ n ∷ ys)) x ≡ added_bytes (bytes_eq x n || is_among x rest) x = ap (λ (b : Bool). added_bytes b x) (among-put x xs n ys) in
    omega (arith, bytes-cons x (xs ++ n ∷ ys), head, bytes-put xs n ys, put_step x n rest, bytes-cons x rest)

-- -- texts that are counted

behind : (a b : Bool) → (a || (b || false)) ≡ (b || a)
behind true true = refl
behind true false = refl
behind false true = refl
behind false false = refl

or_one : (b : Bool) → (b || true) ≡ true
or_one true = refl
or_one false = refl

among_there : (t : List ℕ) (ts : List (List ℕ)) (n : List ℕ) → is_among n ts ≡ true → is_among t ts ≡ (bytes_eq t n || is_among t ts)
among_there t ts n h = elim (cases_Bool (bytes_eq t n)) [ inl same ↦ (let e : t ≡ n = same_text t n same in rw (e, h) (sym (or_one (bytes_eq n n)))) | inr apart ↦ rw apart refl ]

among-with_text : (t : List ℕ) (ts : List (List ℕ)) (n : List ℕ) → is_among t (with_text ts n) ≡ (bytes_eq t n || is_among t ts)
among-with_text t ts n =
    elim (cases_Bool (is_among n ts)) [
      | inl there ↦ rw there (among_there t ts n there)
      | inr new ↦ rw new (list_any-append (bytes_eq t) ts (n ∷ []) ∙ behind (is_among t ts) (bytes_eq t n))
    ]

size-with_text : (ts : List (List ℕ)) (n : List ℕ) → sum_by length (with_text ts n) ≡ added_bytes (is_among n ts) n + sum_by length ts
size-with_text ts n = elim (cases_Bool (is_among n ts)) [ inl there ↦ rw there (omega arith) | inr new ↦ rw new (omega (arith, sum_by_push (λ (x : List ℕ). length x) ts n)) ]

-- one more name, anywhere among the others
pub counted_put : (texts xs ys : List (List ℕ)) (n : List ℕ) → AreCounted texts (xs ++ ys) → AreCounted (with_text texts n) (xs ++ n ∷ ys)
counted_put texts xs ys n h = record {
  among = λ t. among-with_text t texts n ∙ ap (λ (b : Bool). bytes_eq t n || b) (h.among t) ∙ sym (among-put t xs n ys);
  size = size-with_text texts n ∙ ap (λ (b : Bool). added_bytes b n + sum_by length texts) (h.among n) ∙ ap (λ (m : ℕ). added_bytes (is_among n (xs ++ ys)) n + m) h.size ∙ sym (bytes-put xs n ys);
}

-- two more names behind the others
pub counted_two : (texts xs : List (List ℕ)) (n m : List ℕ) → AreCounted texts xs → AreCounted (with_text (with_text texts n) m) (xs ++ n ∷ m ∷ [])
counted_two texts xs n m h =
    let none : AreCounted texts (xs ++ []) = subst (AreCounted texts) (sym (append-nil xs)) h in
    let one : AreCounted (with_text texts n) ((xs ++ n ∷ []) ++ []) = subst (AreCounted (with_text texts n)) (sym (append-nil (xs ++ n ∷ []))) (counted_put texts xs [] n none) in
    subst (AreCounted (with_text (with_text texts n) m)) (append_assoc xs (n ∷ []) (m ∷ [])) (counted_put (with_text texts n) (xs ++ n ∷ []) [] m one)
