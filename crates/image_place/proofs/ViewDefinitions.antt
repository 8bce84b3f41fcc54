-- The definitions that a view shows, by its symbols, and their pieces.
use Rattle.std.proofs.Common.{◌≡◌, ℕ, ◌+◌, List, refl, ap, sym, ◌∙◌, arith, Option, Some, None, Bool, true, false, slice_get}
use Rattle.std.specs.Prelude.{option_map, if◌then◌else◌}
use Rattle.std.specs.List.{enumerate_from}
use Rattle.image_place.specs.Fixups.{Piece}
use Rattle.image_view.specs.View.{View, ViewSymbol, ViewSection}
use Rattle.image_place.specs.declared.rows.DefAddress.{DefAddress as AddressRow}
use Rattle.image_place.specs.Placed.{Definition, definition_at, definitions_in, row_for, piece_in, view_pieces}
use Rattle.image_place.proofs.EntryLaws.{Among, enumerated}
use Rattle.image_place.proofs.Collected.{made-from, made-into, HasOnce, once-made, numbered-from, once-numbered}

some_same : {A : Type 0} (x y : A) → Some x ≡ Some y → x ≡ y
some_same x y e = cc

-- a symbol, its section and its address row give a definition
pub record IsDefinition (d : Definition) (row : ℕ) (s : ViewSymbol) (section : Option ℕ) (a : Option AddressRow) : Type 0 where
  pub given : AddressRow
  pub here : a ≡ Some given
  pub place : section ≡ Some d.section
  pub label : s.is_label ≡ false
  pub is_row : d.row ≡ row
  pub symbol : d.symbol ≡ s
  pub address : d.address ≡ given.address
  pub size : d.size ≡ given.size

abbrev defined : ℕ → ViewSymbol → ℕ → AddressRow → Definition
defined row s section a = record { row = row; symbol = s; section = section; address = a.address; size = a.size }

definition_if : (d : Definition) (row : ℕ) (s : ViewSymbol) (k : ℕ) (a : AddressRow) (b : Bool) → s.is_label ≡ b → (if b then None else Some (defined row s k a)) ≡ Some d → IsDefinition d row s (Some k) (Some a)
definition_if d row s k a true e h = absurd (cc)
definition_if d row s k a false e h =
    let same : defined row s k a ≡ d = some_same (defined row s k a) d h in
    record {
      given = a;
      here = refl;
      place = ap (λ (x : Definition). Some x.section) same;
      label = e;
      is_row = ap (λ (x : Definition). x.row) (sym same);
      symbol = ap (λ (x : Definition). x.symbol) (sym same);
      address = ap (λ (x : Definition). x.address) (sym same);
      size = ap (λ (x : Definition). x.size) (sym same);
    }

definition_of : (d : Definition) (row : ℕ) (s : ViewSymbol) (section : Option ℕ) (a : Option AddressRow) → definition_at row s section a ≡ Some d → IsDefinition d row s section a
definition_of d row s None a h = absurd (cc)
definition_of d row s (Some k) None h = absurd (cc)
definition_of d row s (Some k) (Some a) h = definition_if d row s k a s.is_label refl h

-- a definition of a view comes from the symbol of its row
pub record FromSymbol (addresses : List AddressRow) (q : ℕ) (v : View) (d : Definition) : Type 0 where
  pub here : slice_get v.symbols d.row ≡ Some d.symbol
  pub section : d.symbol.section ≡ Some d.section
  pub label : d.symbol.is_label ≡ false
  pub given : AddressRow
  pub row : row_for addresses q d.row ≡ Some given
  pub address : d.address ≡ given.address
  pub size : d.size ≡ given.size

abbrev makes : List AddressRow → ℕ → ℕ × ViewSymbol → Option Definition
makes addresses q e = definition_at e.0 e.1 e.1.section (row_for addresses q e.0)

pub definition-from : (addresses : List AddressRow) (q : ℕ) (v : View) (j : ℕ) (d : Definition) → slice_get (definitions_in addresses q v) j ≡ Some d → FromSymbol addresses q v d
unfolding definitions_in
definition-from addresses q v j d h =
    let from = made-from (makes addresses q) (enumerate_from 0 v.symbols) j d h in
    let one = definition_of d from.element.0 from.element.1 from.element.1.section (row_for addresses q from.element.0) from.makes in
    let there = numbered-from 0 v.symbols from.number from.element from.here in
    let place : d.row ≡ from.number = omega (arith, one.is_row, there.0) in
    record {
      here = ap (slice_get v.symbols) place ∙ there.1 ∙ ap Some (sym one.symbol);
      section = ap (λ (x : ViewSymbol). x.section) one.symbol ∙ one.place;
      label = ap (λ (x : ViewSymbol). x.is_label) one.symbol ∙ one.label;
      given = one.given;
      row = ap (row_for addresses q) one.is_row ∙ one.here;
      address = one.address;
      size = one.size;
    }

-- and each symbol that lies in a section, is no label and has an address row gives one
pub definition-into : (addresses : List AddressRow) (q : ℕ) (v : View) (row : ℕ) (s : ViewSymbol) (k : ℕ) (a : AddressRow) → slice_get v.symbols row ≡ Some s → s.section ≡ Some k → s.is_label ≡ false → row_for addresses q row ≡ Some a
    → Among (definitions_in addresses q v) (record { row = row; symbol = s; section = k; address = a.address; size = a.size })
unfolding definitions_in
definition-into addresses q v row s k a e place label given =
    let start : 0 + row ≡ row = omega arith in
    let there : slice_get (enumerate_from 0 v.symbols) row ≡ Some (row, s) = enumerated 0 v.symbols row s e ∙ ap (λ n. Some (n, s)) start in
    made-into (makes addresses q) (enumerate_from 0 v.symbols) row (row, s) (defined row s k a) there (rw (place, given, label) refl)

pub definitions-once : (addresses : List AddressRow) (q : ℕ) (v : View) → HasOnce (λ (d : Definition). d.row) (definitions_in addresses q v)
unfolding definitions_in
definitions-once addresses q v =
    once-made (makes addresses q) (λ e. e.0) (λ (d : Definition). d.row) (enumerate_from 0 v.symbols) (λ e d h. (definition_of d e.0 e.1 e.1.section (row_for addresses q e.0) h).is_row) (once-numbered 0 v.symbols)

-- -- pieces

-- a piece comes from a definition in its section
pub record FromDefinition (addresses : List AddressRow) (q : ℕ) (v : View) (p : Piece ℕ) : Type 0 where
  pub number : ℕ
  pub definition : Definition
  pub here : slice_get (definitions_in addresses q v) number ≡ Some definition
  pub section : ViewSection
  pub there : slice_get v.sections definition.section ≡ Some section
  pub is : p ≡ piece_in v (definitions_in addresses q v) definition section

piece_of : (v : View) (ds : List Definition) (d : Definition) (o : Option ViewSection) (p : Piece ℕ) → slice_get v.sections d.section ≡ o → option_map (piece_in v ds d) o ≡ Some p → (s : ViewSection) × (slice_get v.sections d.section ≡ Some s) × (p ≡ piece_in v ds d s)
piece_of v ds d None p e h = absurd (cc)
piece_of v ds d (Some s) p e h = (s, e, sym (some_same (piece_in v ds d s) p h))

abbrev pieces : View → List Definition → Definition → Option (Piece ℕ)
pieces v ds d = option_map (piece_in v ds d) (slice_get v.sections d.section)

pub piece-from : (addresses : List AddressRow) (q : ℕ) (v : View) (j : ℕ) (p : Piece ℕ) → slice_get (view_pieces addresses q v) j ≡ Some p → FromDefinition addresses q v p
unfolding view_pieces
piece-from addresses q v j p h =
    let ds = definitions_in addresses q v in
    let from = made-from (pieces v ds) ds j p h in
    let one = piece_of v ds from.element (slice_get v.sections from.element.section) p refl from.makes in
    record { number = from.number; definition = from.element; here = from.here; section = one.0; there = one.1; is = one.2 }

pub piece-into : (addresses : List AddressRow) (q : ℕ) (v : View) (k : ℕ) (d : Definition) (s : ViewSection) → slice_get (definitions_in addresses q v) k ≡ Some d → slice_get v.sections d.section ≡ Some s
    → Among (view_pieces addresses q v) (piece_in v (definitions_in addresses q v) d s)
unfolding view_pieces
piece-into addresses q v k d s e there =
    let ds = definitions_in addresses q v in
    made-into (pieces v ds) ds k d (piece_in v ds d s) e (ap (option_map (piece_in v ds d)) there)

key_kept : (v : View) (ds : List Definition) (d : Definition) (p : Piece ℕ) → pieces v ds d ≡ Some p → p.key ≡ d.row
key_kept v ds d p h = let one = piece_of v ds d (slice_get v.sections d.section) p refl h in ap (λ (x : Piece ℕ). x.key) one.2

pub pieces-once : (addresses : List AddressRow) (q : ℕ) (v : View) → HasOnce (λ (p : Piece ℕ). p.key) (view_pieces addresses q v)
unfolding view_pieces
pieces-once addresses q v =
    let ds = definitions_in addresses q v in
    once-made (pieces v ds) (λ (d : Definition). d.row) (λ (p : Piece ℕ). p.key) ds (λ d p h. key_kept v ds d p h) (definitions-once addresses q v)
