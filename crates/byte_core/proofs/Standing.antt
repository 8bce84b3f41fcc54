-- What stands at a place of a file, and what is read there.
use Rattle.std.proofs.Common.{◌≡◌, ℕ, zero, suc, ◌+◌, ◌-◌, ◌*◌, ◌^◌, ◌<◌, ◌≤◌, ◌==◌, List, [], ◌∷◌, ◌++◌, length, take, drop, refl, ap, sym, ◌∙◌, append_assoc, append-nil, arith, length-append, zero-add, add-zero, Some, Bool, false, slice_get}
use Rattle.std.specs.Prelude.{flat_map}
use Rattle.std.specs.List.{position_from, list_any}
use Rattle.std.proofs.lemmas.Bool.{or_parts}
use Rattle.std.proofs.lemmas.List.{take_at, drop_at}
use Rattle.byte_core.specs.declared.fields.Field.{Field}
use Rattle.byte_core.specs.Number.{bytes_at, number_at, little_number, little_bytes, text_at}
use Rattle.byte_core.specs.Fields.{field_bytes, field_offset, FitsWidth}
use Rattle.byte_core.proofs.Numbers.{length-little_bytes, little_number-little_bytes}

-- these bytes stand at place p of the file
pub record StandsAt (b xs : List ℕ) (p : ℕ) : Type 0 where
  pub front : List ℕ
  pub back : List ℕ
  pub split : b ≡ front ++ (xs ++ back)
  pub place : length front ≡ p

-- ---- from one place to others

pub stands_whole : (xs : List ℕ) → StandsAt xs xs 0
stands_whole xs = record { front = []; back = []; split = sym (append-nil xs); place = refl }

pub stands_front : (xs ys : List ℕ) → StandsAt (xs ++ ys) xs 0
stands_front xs ys = record { front = []; back = ys; split = refl; place = refl }

pub stands_behind : (xs ys : List ℕ) (p : ℕ) → length xs ≡ p → StandsAt (xs ++ ys) ys p
stands_behind xs ys p n = record { front = xs; back = []; split = ap (λ rest. xs ++ rest) (sym (append-nil ys)); place = n }

pub stands_left : (b xs ys : List ℕ) (p : ℕ) → StandsAt b (xs ++ ys) p → StandsAt b xs p
stands_left b xs ys p s = record { front = s.front; back = ys ++ s.back; split = s.split ∙ ap (λ rest. s.front ++ rest) (append_assoc xs ys s.back); place = s.place }

pub stands_right : (b xs ys : List ℕ) (p q : ℕ) → StandsAt b (xs ++ ys) p → p + length xs ≡ q → StandsAt b ys q
stands_right b xs ys p q s n = record {
  front = s.front ++ xs;
  back = s.back;
  split = s.split ∙ ap (λ rest. s.front ++ rest) (append_assoc xs ys s.back) ∙ sym (append_assoc s.front xs (ys ++ s.back));
  place = length-append s.front xs ∙ ap (λ m. m + length xs) s.place ∙ n;
}

pub stands_within : (b xs ys : List ℕ) (p q : ℕ) → StandsAt b xs p → StandsAt xs ys q → StandsAt b ys (p + q)
stands_within b xs ys p q s t = record {
  front = s.front ++ t.front;
  back = t.back ++ s.back;
  split = s.split ∙ ap (λ mid. s.front ++ (mid ++ s.back)) t.split ∙ simp append_assoc;
  place = omega (arith, length-append s.front t.front, s.place, t.place);
}

-- the same bytes at the same place
pub stands_as : (b xs ys : List ℕ) (p q : ℕ) → StandsAt b xs p → xs ≡ ys → p ≡ q → StandsAt b ys q
stands_as b xs ys p q s e n = rw (← e, ← n) s

-- ---- what is read there

pub stands_inside : (b xs : List ℕ) (p : ℕ) → StandsAt b xs p → p + length xs ≤ length b
stands_inside b xs p s =
    omega (arith, ap length s.split, length-append s.front (xs ++ s.back), length-append xs s.back, s.place)

pub bytes_stand : (b xs : List ℕ) (p n : ℕ) → StandsAt b xs p → length xs ≡ n → bytes_at b p n ≡ xs
unfolding bytes_at
bytes_stand b xs p n s e = rw (s.split, drop_at s.front (xs ++ s.back) p s.place) (take_at xs s.back n e)

pub number_stands : (b : List ℕ) (w v p : ℕ) → StandsAt b (little_bytes w v) p → v < 256 ^ w → number_at b p w ≡ v
unfolding number_at
number_stands b w v p s h = ap little_number (bytes_stand b (little_bytes w v) p w s (length-little_bytes w v)) ∙ little_number-little_bytes w v h

-- ---- fields

pub length-field_bytes : (fs : List Field) → length (field_bytes fs) ≡ field_offset fs (length fs)
unfolding field_bytes
length-field_bytes [] = refl
length-field_bytes (f ∷ fs) = length-append (little_bytes f.width f.value) (field_bytes fs) ∙ rw (length-little_bytes f.width f.value, length-field_bytes fs) refl

pub field_stands : (b : List ℕ) (fs : List Field) (k : ℕ) (f : Field) (p q : ℕ) → StandsAt b (field_bytes fs) p → slice_get fs k ≡ Some f → p + field_offset fs k ≡ q → StandsAt b (little_bytes f.width f.value) q
unfolding field_bytes
field_stands b [] zero f p q s e n = absurd (cc)
field_stands b [] (suc k) f p q s e n = absurd (cc)
field_stands b (g ∷ fs) zero f p q s e n =
    let same : g ≡ f = cc in
    let here : p ≡ q = omega (arith, n) in
    rw (← same, ← here) (stands_left b (little_bytes g.width g.value) (field_bytes fs) p s)
field_stands b (g ∷ fs) (suc k) f p q s e n =
    let next : p + length (little_bytes g.width g.value) ≡ p + g.width = ap (λ m. p + m) (length-little_bytes g.width g.value) in
    field_stands b fs k f (p + g.width) q (stands_right b (little_bytes g.width g.value) (field_bytes fs) p (p + g.width) s next) e (omega (arith, n))

-- field k of some fields is its number
pub field_number : (b : List ℕ) (fs : List Field) (k : ℕ) (f : Field) (p q : ℕ) → StandsAt b (field_bytes fs) p → slice_get fs k ≡ Some f → FitsWidth f → p + field_offset fs k ≡ q → number_at b q f.width ≡ f.value
field_number b fs k f p q s e h n = number_stands b f.width f.value q (field_stands b fs k f p q s e n) h

-- ---- rows

-- what row k of some rows stands behind
pub row_stands_behind : {X : Type 0} (f : X → List ℕ) (b : List ℕ) (rows : List X) (k : ℕ) (row : X) (p q : ℕ) → StandsAt b (flat_map f rows) p → slice_get rows k ≡ Some row → p + length (flat_map f (take k rows)) ≡ q → StandsAt b (f row) q
row_stands_behind f b [] zero row p q s e n = absurd (cc)
row_stands_behind f b [] (suc k) row p q s e n = absurd (cc)
row_stands_behind f b (r ∷ rows) zero row p q s e n =
    let same : r ≡ row = cc in
    let here : p ≡ q = omega (arith, n) in
    rw (← same, ← here) (stands_left b (f r) (flat_map f rows) p s)
row_stands_behind f b (r ∷ rows) (suc k) row p q s e n =
    row_stands_behind f b rows k row (p + length (f r)) q (stands_right b (f r) (flat_map f rows) p (p + length (f r)) s refl) e (omega (arith, n, length-append (f r) (flat_map f (take k rows))))

pub length-rows : {X : Type 0} (f : X → List ℕ) (size : ℕ) → ((x : X) → length (f x) ≡ size) → (rows : List X) → length (flat_map f rows) ≡ size * length rows
length-rows f size h [] = omega arith
length-rows f size h (r ∷ rows) = omega (arith, length-append (f r) (flat_map f rows), h r, length-rows f size h rows)

-- row k of rows that are as long as each other
pub row_stands : {X : Type 0} (f : X → List ℕ) (size : ℕ) → ((x : X) → length (f x) ≡ size) → (b : List ℕ) (rows : List X) (k : ℕ) (row : X) (p q : ℕ) → StandsAt b (flat_map f rows) p → slice_get rows k ≡ Some row → p + size * k ≡ q → StandsAt b (f row) q
row_stands f size h b [] zero row p q s e n = absurd (cc)
row_stands f size h b [] (suc k) row p q s e n = absurd (cc)
row_stands f size h b (r ∷ rows) zero row p q s e n =
    let same : r ≡ row = cc in
    let here : p ≡ q = omega (arith, n) in
    rw (← same, ← here) (stands_left b (f r) (flat_map f rows) p s)
row_stands f size h b (r ∷ rows) (suc k) row p q s e n =
    row_stands f size h b rows k row (p + length (f r)) q (stands_right b (f r) (flat_map f rows) p (p + length (f r)) s refl) e (omega (arith, n, h r))

-- ---- texts

abbrev is_zero : ℕ → Bool
is_zero x = x == 0

first_zero : (name rest : List ℕ) (n i : ℕ) → length name < n → list_any (λ x. x == 0) name ≡ false → position_from (λ x. x == 0) i (take n (name ++ (0 ∷ rest))) ≡ Some (i + length name)
first_zero [] rest zero i h z = absurd (omega arith)
first_zero [] rest (suc n) i h z = ap (λ m. Some m) (sym (add-zero i))
first_zero (x ∷ xs) rest zero i h z = absurd (omega arith)
first_zero (x ∷ xs) rest (suc n) i h z =
    let both = or_parts (x == 0) (list_any (λ y. y == 0) xs) z in
    let next : i + 1 + length xs ≡ i + suc (length xs) = omega arith in
    rw both.0 (first_zero xs rest n (i + 1) (omega arith) both.1 ∙ ap (λ m. Some m) next)

-- a text without a zero byte, with one behind it, is read up to that one
pub text_stands : (b name : List ℕ) (p q : ℕ) → StandsAt b (name ++ 0 ∷ []) p → list_any (λ x. x == 0) name ≡ false → p + length name < q → text_at b p q ≡ Some name
unfolding text_at bytes_at
text_stands b name p q s z h =
    let read : drop p b ≡ name ++ (0 ∷ s.back) = rw (s.split, drop_at s.front ((name ++ 0 ∷ []) ++ s.back) p s.place, append_assoc) refl in
    let first = first_zero name s.back (q - p) 0 (omega arith) z in
    rw (read, first) (ap (λ t. Some t) (take_at name (0 ∷ s.back) (0 + length name) (sym (zero-add (length name)))))
