-- The numbers of sections and symbols fit the orders of a file.
use Rattle.std.proofs.Common.{◌≡◌, ℕ, zero, suc, ◌+◌, List, [], ◌∷◌, ◌++◌, Bool, true, false, not, cond, length, take, map, Some, refl, ap, sym, ◌∙◌, inl, inr, arith, length-append}
use Rattle.std.specs.Prelude.{slice_get, filter, count_by}
use Rattle.byte_core.proofs.Lists.{get_left, get_right, get_filter, get_append, passing}
use Rattle.object_core.specs.Object.{SymbolData, SectionData, is_local, is_global}
use Rattle.object_core.specs.WellFormed.{is_file}
use Rattle.object_core.specs.MachRows.{is_mach_stored, is_mach_zero_fill, header_order, header_number, section_number_in, is_mach_local, mach_row_of_symbol, mach_row_in}
use Rattle.std.specs.List.{enumerate_from}
use Rattle.object_macho.specs.Plan.{numbers_of, section_order, symbol_order}
use Rattle.object_macho.proofs.Moments.{behind}

not_not : (b : Bool) → not b ≡ false → b ≡ true
not_not true e = refl
not_not false e = absurd (cc)

section_by_kind : (ss : List SectionData) (id : ℕ) (s : SectionData) (b : Bool) → is_mach_stored s ≡ b → slice_get ss id ≡ Some s → slice_get (header_order ss) (header_number ss id (Some s)) ≡ Some s
unfolding header_order
section_by_kind ss id s true e h = rw e (get_left (filter is_mach_stored ss) (filter is_mach_zero_fill ss) (count_by is_mach_stored (take id ss)) s (get_filter is_mach_stored ss id s h e))
section_by_kind ss id s false e h = rw e (behind is_mach_stored is_mach_zero_fill ss id s h (not_not (is_mach_zero_fill s) e))

-- a section has its number in the order of headers
pub section_holds : (ss : List SectionData) (id : ℕ) (s : SectionData) → slice_get ss id ≡ Some s → slice_get (header_order ss) (section_number_in ss id) ≡ Some s
unfolding section_number_in
section_holds ss id s h = rw h (section_by_kind ss id s (is_mach_stored s) refl h)

abbrev pub symbol_rows : List SymbolData → List SymbolData
symbol_rows ss = filter is_mach_local ss ++ filter is_global ss

symbol_by_kind : (ss : List SymbolData) (id : ℕ) (s : SymbolData) (b : Bool) → is_local s ≡ b → is_file s.kind ≡ false → slice_get ss id ≡ Some s → slice_get (symbol_rows ss) (mach_row_of_symbol ss id (Some s)) ≡ Some s
symbol_by_kind ss id s true e f h = rw e (get_left (filter is_mach_local ss) (filter is_global ss) (count_by is_mach_local (take id ss)) s (get_filter is_mach_local ss id s h (rw (e, f) refl)))
symbol_by_kind ss id s false e f h = rw e (behind is_mach_local is_global ss id s h (rw e refl))

-- a symbol that is no file has its row in the table
pub symbol_holds : (ss : List SymbolData) (id : ℕ) (s : SymbolData) → slice_get ss id ≡ Some s → is_file s.kind ≡ false → slice_get (symbol_rows ss) (mach_row_in ss id) ≡ Some s
unfolding mach_row_in
symbol_holds ss id s h f = rw h (symbol_by_kind ss id s (is_local s) refl f h)

-- a symbol of the table is one of the object
pub row_from : (ss : List SymbolData) (n : ℕ) (s : SymbolData) → slice_get (symbol_rows ss) n ≡ Some s → (k : ℕ) × (slice_get ss k ≡ Some s)
row_from ss n s e =
    elim (get_append (filter is_mach_local ss) (filter is_global ss) n s e) [
      | inl h ↦ (let p = passing is_mach_local ss n s h in (p.place, p.at))
      | inr r ↦ (let p = passing is_global ss r.0 s r.2 in (p.place, p.at))
    ]

length_case : {A : Type 0} (q : A → Bool) (x : A) (xs : List A) (b : Bool) → length (filter (λ y. not (q y)) xs) + length (filter q xs) ≡ length xs
    → length (cond (not b) (x ∷ filter (λ y. not (q y)) xs) (filter (λ y. not (q y)) xs)) + length (cond b (x ∷ filter q xs) (filter q xs)) ≡ length (x ∷ xs)
length_case q x xs true h = omega (arith, h)
length_case q x xs false h = omega (arith, h)

pub length_parts : {A : Type 0} (q : A → Bool) (xs : List A) → length (filter (λ y. not (q y)) xs) + length (filter q xs) ≡ length xs
length_parts q [] = refl
length_parts q (x ∷ xs) = length_case q x xs (q x) (length_parts q xs)

pub length-header_order : (ss : List SectionData) → length (header_order ss) ≡ length ss
unfolding header_order
length-header_order ss = length-append (filter is_mach_stored ss) (filter is_mach_zero_fill ss) ∙ length_parts is_mach_zero_fill ss

-- -- the orders by numbers

-- an element that passes, by its number and by its place among those that pass
record Passes {A : Type 0} (p : A → Bool) (a : ℕ) (xs : List A) (n id : ℕ) : Type 0 where
  item : A
  number : ℕ
  whole : a + number ≡ id
  at : slice_get xs number ≡ Some item
  place : slice_get (filter p xs) n ≡ Some item

abbrev numbers_from : {A : Type 0} → (A → Bool) → ℕ → List A → List ℕ
numbers_from p a xs = map (λ e. e.0) (filter (λ e. p e.1) (enumerate_from a xs))

passes_case : {A : Type 0} (p : A → Bool) (a : ℕ) (x : A) (xs : List A) (b : Bool) → p x ≡ b → ((n id : ℕ) → slice_get (numbers_from p (a + 1) xs) n ≡ Some id → Passes p (a + 1) xs n id)
    → (n id : ℕ) → slice_get (map (λ (e : ℕ × A). e.0) (cond b ((a, x) ∷ filter (λ (e : ℕ × A). p e.1) (enumerate_from (a + 1) xs)) (filter (λ (e : ℕ × A). p e.1) (enumerate_from (a + 1) xs)))) n ≡ Some id → Passes p a (x ∷ xs) n id
passes_case p a x xs true e later zero id h = let same : a ≡ id = cc in record { item = x; number = 0; whole = omega (arith, same); at = refl; place = rw e refl }
passes_case p a x xs true e later (suc n) id h =
    let r = later n id h in
    record { item = r.item; number = suc r.number; whole = omega (arith, r.whole); at = r.at; place = rw e r.place }
passes_case p a x xs false e later n id h =
    let r = later n id h in
    record { item = r.item; number = suc r.number; whole = omega (arith, r.whole); at = r.at; place = rw e r.place }

passes_at : {A : Type 0} (p : A → Bool) (a : ℕ) (xs : List A) (n id : ℕ) → slice_get (numbers_from p a xs) n ≡ Some id → Passes p a xs n id
passes_at p a [] n id h = absurd (cc)
passes_at p a (x ∷ xs) n id h = passes_case p a x xs (p x) refl (passes_at p (a + 1) xs) n id h

length_numbers_case : {A : Type 0} (p : A → Bool) (a : ℕ) (x : A) (xs : List A) (b : Bool) → length (numbers_from p (a + 1) xs) ≡ length (filter p xs)
    → length (map (λ (e : ℕ × A). e.0) (cond b ((a, x) ∷ filter (λ (e : ℕ × A). p e.1) (enumerate_from (a + 1) xs)) (filter (λ (e : ℕ × A). p e.1) (enumerate_from (a + 1) xs)))) ≡ length (cond b (x ∷ filter p xs) (filter p xs))
length_numbers_case p a x xs true h = ap suc h
length_numbers_case p a x xs false h = h

length_numbers : {A : Type 0} (p : A → Bool) (a : ℕ) (xs : List A) → length (numbers_from p a xs) ≡ length (filter p xs)
length_numbers p a [] = refl
length_numbers p a (x ∷ xs) = length_numbers_case p a x xs (p x) (length_numbers p (a + 1) xs)

-- an element by its number in a list, and by its place in an order
pub record Ordered {A : Type 0} (xs order : List A) (n id : ℕ) : Type 0 where
  pub item : A
  pub at : slice_get xs id ≡ Some item
  pub place : slice_get order n ≡ Some item

ordered_by : {A : Type 0} (p q : A → Bool) (xs : List A) (n id : ℕ) → slice_get (numbers_of p xs ++ numbers_of q xs) n ≡ Some id → Ordered xs (filter p xs ++ filter q xs) n id
ordered_by p q xs n id h =
    elim (get_append (numbers_of p xs) (numbers_of q xs) n id h) [
      | inl f ↦ (
          let r = passes_at p 0 xs n id f in
          let whole : r.number ≡ id = omega (arith, r.whole) in
          record { item = r.item; at = ap (slice_get xs) (sym whole) ∙ r.at; place = get_left (filter p xs) (filter q xs) n r.item r.place })
      | inr f ↦ (
          let r = passes_at q 0 xs f.0 id f.2 in
          let whole : r.number ≡ id = omega (arith, r.whole) in
          record { item = r.item; at = ap (slice_get xs) (sym whole) ∙ r.at; place = get_right (filter p xs) (filter q xs) f.0 n r.item r.place (omega (arith, f.1, length_numbers p 0 xs)) })
    ]

pub section_ordered : (ss : List SectionData) (n id : ℕ) → slice_get (section_order ss) n ≡ Some id → Ordered ss (header_order ss) n id
unfolding section_order header_order
section_ordered ss n id h = ordered_by is_mach_stored is_mach_zero_fill ss n id h

pub symbol_ordered : (ss : List SymbolData) (n id : ℕ) → slice_get (symbol_order ss) n ≡ Some id → Ordered ss (symbol_rows ss) n id
unfolding symbol_order
symbol_ordered ss n id h = ordered_by is_mach_local is_global ss n id h

pub length-section_order : (ss : List SectionData) → length (section_order ss) ≡ length (header_order ss)
unfolding section_order header_order
length-section_order ss =
    length-append (numbers_of is_mach_stored ss) (numbers_of is_mach_zero_fill ss) ∙ rw (length_numbers is_mach_stored 0 ss, length_numbers is_mach_zero_fill 0 ss) (sym (length-append (filter is_mach_stored ss) (filter is_mach_zero_fill ss)))

pub length-symbol_order : (ss : List SymbolData) → length (symbol_order ss) ≡ length (symbol_rows ss)
unfolding symbol_order
length-symbol_order ss = length-append (numbers_of is_mach_local ss) (numbers_of is_global ss) ∙ rw (length_numbers is_mach_local 0 ss, length_numbers is_global 0 ss) (sym (length-append (filter is_mach_local ss) (filter is_global ss)))
