-- Each row of a Mach-O symbol table is that of one symbol, and each number of a section header that of one section.
use Rattle.std.proofs.Common.{◌≡◌, ℕ, ◌+◌, List, ◌++◌, take, refl, ap, ◌∙◌, arith, Some, Bool, true, false, not, slice_get, inl, inr}
use Rattle.std.specs.Prelude.{filter, count_by}
use Rattle.std.proofs.lemmas.Bool.{and_parts}
use Rattle.std.proofs.lemmas.List.Sums.{length-filter}
use Rattle.byte_core.proofs.Lists.{get_append}
use Rattle.object_core.specs.declared.kinds.SymbolKind.{SymbolKind}
use Rattle.object_core.specs.declared.kinds.SymbolKind.TheVariants as kind
use Rattle.object_core.specs.Object.{SymbolData, SectionData, is_local, is_global, is_local_kind}
use Rattle.object_core.specs.WellFormed.{is_file}
use Rattle.object_core.specs.MachRows.{is_mach_local, mach_row_in, is_mach_stored, is_mach_zero_fill, section_number_in}
use Rattle.image_place.proofs.FileRows.{passes-from, passes-once, passes-below}

-- -- symbols

pub mach-local-row : (ss : List SymbolData) (i : ℕ) (x : SymbolData) → slice_get ss i ≡ Some x → is_local x ≡ true → mach_row_in ss i ≡ count_by is_mach_local (take i ss)
unfolding mach_row_in
mach-local-row ss i x e t = rw (e, t) refl

pub mach-other-row : (ss : List SymbolData) (i : ℕ) (x : SymbolData) → slice_get ss i ≡ Some x → is_local x ≡ false → mach_row_in ss i ≡ count_by is_mach_local ss + count_by is_global (take i ss)
unfolding mach_row_in
mach-other-row ss i x e t = rw (e, t) refl

-- the symbol that stands in a row
pub record IsInMachRow (ss : List SymbolData) (n : ℕ) (x : SymbolData) : Type 0 where
  pub number : ℕ
  pub here : slice_get ss number ≡ Some x
  pub row : mach_row_in ss number ≡ n
  pub no_file : is_file x.kind ≡ false

not_true : (b : Bool) → not b ≡ true → b ≡ false
not_true true e = absurd (cc)
not_true false e = refl

other_kind : (k : SymbolKind) (own : Bool) → is_local_kind k own ≡ false → is_file k ≡ false
other_kind kind.Text own e = refl
other_kind kind.Data own e = refl
other_kind kind.Tls own e = refl
other_kind kind.Label own e = refl
other_kind kind.File own e = absurd (cc)

pub mach-row-from : (ss : List SymbolData) (n : ℕ) (x : SymbolData) → slice_get (filter is_mach_local ss ++ filter is_global ss) n ≡ Some x → IsInMachRow ss n x
mach-row-from ss n x e =
    elim (get_append (filter is_mach_local ss) (filter is_global ss) n x e) [
      | inl h ↦
          (
          let p = passes-from is_mach_local ss n x h in
          let both = and_parts (is_local x) (not (is_file x.kind)) p.passes in
          record { number = p.place; here = p.at; row = mach-local-row ss p.place x p.at both.0 ∙ p.count; no_file = not_true (is_file x.kind) both.1 }
          )
      | inr r ↦
          (
          let p = passes-from is_global ss r.0 x r.2 in
          let other = not_true (is_local x) p.passes in
          record { number = p.place; here = p.at; row = mach-other-row ss p.place x p.at other ∙ omega (arith, p.count, r.1, length-filter is_mach_local ss); no_file = other_kind x.kind _ other }
          )
    ]

own_local : (x : SymbolData) → is_local x ≡ true → is_file x.kind ≡ false → is_mach_local x ≡ true
own_local x t f = rw (t, f) refl

row_once_by : (ss : List SymbolData) (i j : ℕ) (x y : SymbolData) (a b : Bool) → slice_get ss i ≡ Some x → slice_get ss j ≡ Some y → is_file x.kind ≡ false → is_file y.kind ≡ false → is_local x ≡ a → is_local y ≡ b → mach_row_in ss i ≡ mach_row_in ss j → i ≡ j
row_once_by ss i j x y true true e f g k s t h = passes-once is_mach_local ss i j x y e f (own_local x s g) (own_local y t k) (omega (arith, h, mach-local-row ss i x e s, mach-local-row ss j y f t))
row_once_by ss i j x y false false e f g k s t h = passes-once is_global ss i j x y e f (ap not s) (ap not t) (omega (arith, h, mach-other-row ss i x e s, mach-other-row ss j y f t))
row_once_by ss i j x y true false e f g k s t h = absurd (omega (arith, h, mach-local-row ss i x e s, mach-other-row ss j y f t, passes-below is_mach_local ss i x e (own_local x s g)))
row_once_by ss i j x y false true e f g k s t h = absurd (omega (arith, h, mach-other-row ss i x e s, mach-local-row ss j y f t, passes-below is_mach_local ss j y f (own_local y t k)))

-- no two symbols but files have one row
pub mach-row-once : (ss : List SymbolData) (i j : ℕ) (x y : SymbolData) → slice_get ss i ≡ Some x → slice_get ss j ≡ Some y → is_file x.kind ≡ false → is_file y.kind ≡ false → mach_row_in ss i ≡ mach_row_in ss j → i ≡ j
mach-row-once ss i j x y e f g k h = row_once_by ss i j x y (is_local x) (is_local y) e f g k refl refl h

-- -- sections

number_stored : (ss : List SectionData) (i : ℕ) (x : SectionData) → slice_get ss i ≡ Some x → is_mach_stored x ≡ true → section_number_in ss i ≡ count_by is_mach_stored (take i ss)
unfolding section_number_in
number_stored ss i x e t = rw (e, t) refl

number_unstored : (ss : List SectionData) (i : ℕ) (x : SectionData) → slice_get ss i ≡ Some x → is_mach_stored x ≡ false → section_number_in ss i ≡ count_by is_mach_stored ss + count_by is_mach_zero_fill (take i ss)
unfolding section_number_in
number_unstored ss i x e t = rw (e, t) refl

not_false : (b : Bool) → not b ≡ false → b ≡ true
not_false true e = refl
not_false false e = absurd (cc)

header_once_by : (ss : List SectionData) (i j : ℕ) (x y : SectionData) (a b : Bool) → slice_get ss i ≡ Some x → slice_get ss j ≡ Some y → is_mach_stored x ≡ a → is_mach_stored y ≡ b → section_number_in ss i ≡ section_number_in ss j → i ≡ j
header_once_by ss i j x y true true e f s t h = passes-once is_mach_stored ss i j x y e f s t (omega (arith, h, number_stored ss i x e s, number_stored ss j y f t))
header_once_by ss i j x y false false e f s t h =
    passes-once is_mach_zero_fill ss i j x y e f (not_false (is_mach_zero_fill x) s) (not_false (is_mach_zero_fill y) t) (omega (arith, h, number_unstored ss i x e s, number_unstored ss j y f t))
header_once_by ss i j x y true false e f s t h = absurd (omega (arith, h, number_stored ss i x e s, number_unstored ss j y f t, passes-below is_mach_stored ss i x e s))
header_once_by ss i j x y false true e f s t h = absurd (omega (arith, h, number_unstored ss i x e s, number_stored ss j y f t, passes-below is_mach_stored ss j y f t))

-- no two sections have one number
pub header-once : (ss : List SectionData) (i j : ℕ) (x y : SectionData) → slice_get ss i ≡ Some x → slice_get ss j ≡ Some y → section_number_in ss i ≡ section_number_in ss j → i ≡ j
header-once ss i j x y e f h = header_once_by ss i j x y (is_mach_stored x) (is_mach_stored y) e f refl refl h
