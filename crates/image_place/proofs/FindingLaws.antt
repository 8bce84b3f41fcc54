-- Address rows that are noted one after the other.
use Rattle.std.proofs.Common.{◌≡◌, ℕ, ◌+◌, ◌-◌, ◌<◌, ◌≤◌, ◌⊎◌, inl, inr, ◌==◌, ◌∷◌, ◌++◌, List, [], Bool, true, false, cond, Some, None, refl, ap, sym, ◌∙◌, find, arith, slice_get}
use Rattle.std.proofs.lemmas.Bool.{and_parts, eqb-true, cases_lt}
use Rattle.std.specs.Prelude.{Option}
use Rattle.std.specs.Option.{option_or}
use Rattle.std.specs.BTreeMap.{BTreeMap}
use Rattle.image_place.specs.Placed.{AddressRow, row_for}
use Rattle.image_place.specs.Finding.{AreOrdered, FindsRows, NotesRow, is_row, row_key}
use Rattle.image_place.proofs.FindLaws.{find_at, find_none}

find_by : (p : AddressRow → Bool) (x : AddressRow) (b : Bool) (o : Option AddressRow) (a : AddressRow) (rest : Option AddressRow) → p x ≡ b → rest ≡ option_or o (find p (a ∷ [])) → cond b (Some x) rest ≡ option_or (cond b (Some x) o) (find p (a ∷ []))
find_by p x true o a rest e h = refl
find_by p x false o a rest e h = h

find_end : (p : AddressRow → Bool) (xs : List AddressRow) (a : AddressRow) → find p (xs ++ a ∷ []) ≡ option_or (find p xs) (find p (a ∷ []))
find_end p [] a = refl
find_end p (x ∷ xs) a = find_by p x (p x) (find p xs) a (find p (xs ++ a ∷ [])) refl (find_end p xs a)

pub notes_next : (first next : BTreeMap ℕ AddressRow) (rows : List AddressRow) (a : AddressRow) → FindsRows first rows → NotesRow first next a → FindsRows next (rows ++ a ∷ [])
notes_next first next rows a h n q s fits = n q s fits ∙ ap (λ o. option_or o (row_for (a ∷ []) q s)) (h q s fits) ∙ sym (find_end (is_row q s) rows a)

-- -- rows that ascend

same_some : (x y : AddressRow) → Some x ≡ Some y → x ≡ y
same_some x y e = cc

key_is : (q s : ℕ) (a : AddressRow) → is_row q s a ≡ true → row_key a.image a.symbol ≡ row_key q s
key_is q s a h =
    let both = and_parts (a.image == q) (a.symbol == s) h in
    ap (λ n. row_key n a.symbol) (eqb-true a.image q both.0) ∙ ap (λ n. row_key q n) (eqb-true a.symbol s both.1)

-- a row of another key is of another symbol
other_by : (q s : ℕ) (a : AddressRow) (b : Bool) → is_row q s a ≡ b → (row_key a.image a.symbol ≡ row_key q s → ⊥) → is_row q s a ≡ false
other_by q s a true e h = absurd (h (key_is q s a e))
other_by q s a false e h = e

pub other_row : (q s : ℕ) (a : AddressRow) → (row_key a.image a.symbol ≡ row_key q s → ⊥) → is_row q s a ≡ false
other_row q s a h = other_by q s a (is_row q s a) refl h

below_by : (rows : List AddressRow) (q s i : ℕ) (x : AddressRow) → AreOrdered rows → slice_get rows i ≡ Some x → is_row q s x ≡ false → row_key x.image x.symbol < row_key q s → (m : ℕ) (a : AddressRow) → (m < i) ⊎ (i ≤ m) → m < i + 1 → slice_get rows m ≡ Some a → is_row q s a ≡ false
below_by rows q s i x order at_x no_x less m a (inl l) high at_a = other_row q s a (λ e. absurd (omega (arith, e, order m i a x l at_a at_x, less)))
below_by rows q s i x order at_x no_x less m a (inr l) high at_a = let same : i ≡ m = omega (arith, l, high) in ap (is_row q s) (sym (same_some x a (sym at_x ∙ ap (slice_get rows) same ∙ at_a))) ∙ no_x

-- behind a row of a less key are the rows up to it
pub rows_below : (rows : List AddressRow) (q s i : ℕ) (x : AddressRow) → AreOrdered rows → slice_get rows i ≡ Some x → is_row q s x ≡ false → row_key x.image x.symbol < row_key q s → (m : ℕ) (a : AddressRow) → m < i + 1 → slice_get rows m ≡ Some a → is_row q s a ≡ false
rows_below rows q s i x order at_x no_x less m a high at_a = below_by rows q s i x order at_x no_x less m a (cases_lt m i) high at_a

above_by : (rows : List AddressRow) (q s i : ℕ) (x : AddressRow) → AreOrdered rows → slice_get rows i ≡ Some x → is_row q s x ≡ false → row_key q s ≤ row_key x.image x.symbol → (m : ℕ) (a : AddressRow) → (i < m) ⊎ (m ≤ i) → i ≤ m → slice_get rows m ≡ Some a → is_row q s a ≡ false
above_by rows q s i x order at_x no_x less m a (inl l) high at_a = other_row q s a (λ e. absurd (omega (arith, e, order i m x a l at_x at_a, less)))
above_by rows q s i x order at_x no_x less m a (inr l) high at_a = let same : i ≡ m = omega (arith, l, high) in ap (is_row q s) (sym (same_some x a (sym at_x ∙ ap (slice_get rows) same ∙ at_a))) ∙ no_x

pub rows_above : (rows : List AddressRow) (q s i : ℕ) (x : AddressRow) → AreOrdered rows → slice_get rows i ≡ Some x → is_row q s x ≡ false → row_key q s ≤ row_key x.image x.symbol → (m : ℕ) (a : AddressRow) → i ≤ m → slice_get rows m ≡ Some a → is_row q s a ≡ false
rows_above rows q s i x order at_x no_x less m a high at_a = above_by rows q s i x order at_x no_x less m a (cases_lt i m) high at_a

-- a row that is found is the first
pub row_found : (rows : List AddressRow) (q s i : ℕ) (x : AddressRow) → AreOrdered rows → slice_get rows i ≡ Some x → is_row q s x ≡ true → row_for rows q s ≡ Some x
row_found rows q s i x order at_x yes_x = find_at (is_row q s) rows i x at_x yes_x (λ j a less at_a. other_row q s a (λ e. absurd (omega (arith, e, order j i a x less at_a at_x, key_is q s x yes_x))))

none_by : (rows : List AddressRow) (q s n m : ℕ) (a : AddressRow) → ((m : ℕ) (a : AddressRow) → m < n → slice_get rows m ≡ Some a → is_row q s a ≡ false) → ((m : ℕ) (a : AddressRow) → n ≤ m → slice_get rows m ≡ Some a → is_row q s a ≡ false) → slice_get rows m ≡ Some a → (m < n) ⊎ (n ≤ m) → is_row q s a ≡ false
none_by rows q s n m a below above at_a (inl l) = below m a l at_a
none_by rows q s n m a below above at_a (inr l) = above m a l at_a

pub row_none : (rows : List AddressRow) (q s n : ℕ) → ((m : ℕ) (a : AddressRow) → m < n → slice_get rows m ≡ Some a → is_row q s a ≡ false) → ((m : ℕ) (a : AddressRow) → n ≤ m → slice_get rows m ≡ Some a → is_row q s a ≡ false) → row_for rows q s ≡ None
row_none rows q s n below above = find_none (is_row q s) rows (λ m a at_a. none_by rows q s n m a below above at_a (cases_lt m n))

-- rows ascend as far as each is above the one before
ordered_by : (rows : List AddressRow) (n : ℕ) (x y : AddressRow) → ((i j : ℕ) (a b : AddressRow) → i < j → j < n → slice_get rows i ≡ Some a → slice_get rows j ≡ Some b → row_key a.image a.symbol < row_key b.image b.symbol) → 0 < n → slice_get rows (n - 1) ≡ Some x → slice_get rows n ≡ Some y
    → row_key x.image x.symbol < row_key y.image y.symbol → (i j : ℕ) (a b : AddressRow) → i < j → j < n + 1 → slice_get rows i ≡ Some a → slice_get rows j ≡ Some b → (j < n) ⊎ (n ≤ j) → (i < n - 1) ⊎ (n - 1 ≤ i) → row_key a.image a.symbol < row_key b.image b.symbol
ordered_by rows n x y before more at_x at_y less i j a b low high at_a at_b (inl l) k = before i j a b low l at_a at_b
ordered_by rows n x y before more at_x at_y less i j a b low high at_a at_b (inr l) (inl k) =
    let same : n ≡ j = omega (arith, l, high) in
    let is : y ≡ b = same_some y b (sym at_y ∙ ap (slice_get rows) same ∙ at_b) in
    omega (arith, before i (n - 1) a x k (omega (arith, more)) at_a at_x, less, ap (λ (r : AddressRow). row_key r.image r.symbol) is)
ordered_by rows n x y before more at_x at_y less i j a b low high at_a at_b (inr l) (inr k) =
    let same : n ≡ j = omega (arith, l, high) in
    let last : n - 1 ≡ i = omega (arith, k, low, high, l) in
    let is : y ≡ b = same_some y b (sym at_y ∙ ap (slice_get rows) same ∙ at_b) in
    let was : x ≡ a = same_some x a (sym at_x ∙ ap (slice_get rows) last ∙ at_a) in
    omega (arith, less, ap (λ (r : AddressRow). row_key r.image r.symbol) is, ap (λ (r : AddressRow). row_key r.image r.symbol) was)

pub ordered_more : (rows : List AddressRow) (n : ℕ) (x y : AddressRow) → ((i j : ℕ) (a b : AddressRow) → i < j → j < n → slice_get rows i ≡ Some a → slice_get rows j ≡ Some b → row_key a.image a.symbol < row_key b.image b.symbol) → 0 < n → slice_get rows (n - 1) ≡ Some x → slice_get rows n ≡ Some y
    → row_key x.image x.symbol < row_key y.image y.symbol → (i j : ℕ) (a b : AddressRow) → i < j → j < n + 1 → slice_get rows i ≡ Some a → slice_get rows j ≡ Some b → row_key a.image a.symbol < row_key b.image b.symbol
ordered_more rows n x y before more at_x at_y less i j a b low high at_a at_b = ordered_by rows n x y before more at_x at_y less i j a b low high at_a at_b (cases_lt j n) (cases_lt i (n - 1))
