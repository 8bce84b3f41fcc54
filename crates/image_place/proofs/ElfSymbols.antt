-- What the view of an ELF part's image shows of the part's symbols.
use Rattle.std.proofs.Common.{◌≡◌, ℕ, zero, suc, ◌+◌, ◌-◌, ◌<◌, ◌&&◌, List, ◌++◌, length, map, refl, ap, sym, ◌∙◌, arith, Some, None, Bool, true, false, not, cond, slice_get, ◌⊎◌, inl, inr}
use Rattle.std.specs.Prelude.{filter, nat_le, nat_lt}
use Rattle.std.proofs.lemmas.Bool.{and_parts, leb-true, ltb-true, le-leb, lt-ltb}
use Rattle.byte_core.proofs.Lists.{get_map, get_map_from}
use Rattle.ir_core.specs.declared.target.BinaryFormat.{BinaryFormat}
use Rattle.object_core.specs.declared.kinds.SymbolKind.{SymbolKind}
use Rattle.object_core.specs.declared.kinds.SymbolKind.TheVariants as kind
use Rattle.object_core.specs.declared.kinds.SymbolSection.{SymbolSection}
use Rattle.object_core.specs.declared.kinds.SymbolSection.TheVariants.{Undefined, Absolute, Section}
use Rattle.object_core.specs.Object.{SymbolData, ObjectData, is_local, is_global}
use Rattle.object_core.specs.ElfRows.{elf_symbol, elf_shndx, elf_table_of, row_in}
use Rattle.object_elf.specs.TableImage.{symbol_shown, image_for}
use Rattle.cranelift_module.specs.declared.linkage.Linkage.{Linkage}
use Rattle.cranelift_module.specs.declared.linkage.Linkage.TheVariants.{Import, Local, Hidden, Preemptible, Export}
use Rattle.cranelift_module.specs.Linkage.{is_definable}
use Rattle.cranelift_object.specs.Placing.{Placed}
use Rattle.cranelift_object.specs.Linked.{named_symbol}
use Rattle.cranelift_object.proofs.ShownLaws.{is_of_identifier, symbol_row_get}
use Rattle.image_place.specs.Memory.{is_seen}
use Rattle.image_view.specs.View.{View, ViewSymbol, elf_place, elf_view_symbol, null_symbol, elf_view}
use Rattle.image_place.proofs.FileRows.{row-from, row-behind}
use Rattle.image_place.proofs.FileSymbols.{is_label_kind}

-- the view of an ELF object's file
abbrev pub elf_shown : ObjectData → View
elf_shown o = elf_view (image_for (elf_table_of o))

-- how many sections the file has
abbrev pub section_count : ObjectData → ℕ
section_count o = length (image_for (elf_table_of o)).sections

-- what the view shows of a symbol
abbrev pub symbol_view : ObjectData → SymbolData → ViewSymbol
symbol_view o x = elf_view_symbol (section_count o) (symbol_shown (elf_symbol x))

-- -- places

place_if : (n k : ℕ) (b : Bool) → cond b (Some (n - 1)) None ≡ Some k → (b ≡ true) × (n - 1 ≡ k)
place_if n k true e = (refl, cc)
place_if n k false e = absurd (cc)

pub place-from : (count n k : ℕ) → elf_place count n ≡ Some k → (n ≡ k + 1) × (n < 0xff00)
place-from count n k e =
    let test = place_if n k (nat_le 1 n && nat_le n count && nat_lt n 0xff00) e in
    let one = and_parts (nat_le 1 n && nat_le n count) (nat_lt n 0xff00) test.0 in
    let two = and_parts (nat_le 1 n) (nat_le n count) one.0 in
    (omega (arith, test.1, leb-true 1 n two.0), ltb-true n 0xff00 one.1)

pub place-into : (count k : ℕ) → k < count → k + 1 < 0xff00 → elf_place count (k + 1) ≡ Some k
place-into count k h few =
    let back : k + 1 - 1 ≡ k = omega arith in
    rw (le-leb 1 (k + 1) (omega arith), le-leb (k + 1) count (omega (arith, h)), lt-ltb (k + 1) 0xff00 few) (ap Some back)

section_from : (section : SymbolSection) (k : ℕ) → elf_shndx section ≡ k + 1 → elf_shndx section < 0xff00 → section ≡ Section k
section_from Undefined k e h = absurd (omega (arith, e))
section_from Absolute k e h = absurd (omega (arith, h))
section_from (Section id) k e h = let same : id ≡ k = omega (arith, e) in ap (λ n. Section n) same

-- -- labels

kind_case : (k : SymbolKind) → (k ≡ kind.Label) ⊎ (is_label_kind k ≡ false)
kind_case kind.Text = inr refl
kind_case kind.Data = inr refl
kind_case kind.Tls = inr refl
kind_case kind.Label = inl refl
kind_case kind.File = inr refl

pub label-shown : (o : ObjectData) (x : SymbolData) (k : ℕ) → x.kind ≡ kind.Label → elf_place (section_count o) (elf_shndx x.section) ≡ Some k → (symbol_view o x).is_label ≡ true
label-shown o x k e place = rw (place, e) refl

no_label : (o : ObjectData) (x : SymbolData) (k : ℕ) → elf_place (section_count o) (elf_shndx x.section) ≡ Some k → (symbol_view o x).is_label ≡ false → is_label_kind x.kind ≡ false
no_label o x k place l =
    elim (kind_case x.kind) [
      | inl e ↦ absurd (let both : true ≡ false = sym (label-shown o x k e place) ∙ l in cc)
      | inr e ↦ e
    ]

-- -- rows

-- a symbol of the view comes from one of the object, which is no label where that isn't one
pub record FromObject (o : ObjectData) (row section : ℕ) (x : ViewSymbol) : Type 0 where
  pub number : ℕ
  pub symbol : SymbolData
  pub here : slice_get o.symbols number ≡ Some symbol
  pub row_is : row_in o.symbols number ≡ row
  pub is : x ≡ symbol_view o symbol
  pub section_is : symbol.section ≡ Section section
  pub label : is_label_kind symbol.kind ≡ false

some_same : {A : Type 0} (x y : A) → Some x ≡ Some y → x ≡ y
some_same x y e = cc

rows_of : (o : ObjectData) (n : ℕ) (x : ViewSymbol) → slice_get (elf_shown o).symbols (suc n) ≡ Some x → (s : SymbolData) × (slice_get (filter is_local o.symbols ++ filter is_global o.symbols) n ≡ Some s) × (x ≡ symbol_view o s)
unfolding elf_view image_for elf_table_of
rows_of o n x e =
    let ss = filter is_local o.symbols ++ filter is_global o.symbols in
    let one = get_map_from (elf_view_symbol (section_count o)) (map symbol_shown (map elf_symbol ss)) n x e in
    let two = get_map_from symbol_shown (map elf_symbol ss) n one.0 one.1 in
    let three = get_map_from elf_symbol ss n two.0 two.1 in
    (three.0, three.1, sym one.2 ∙ ap (elf_view_symbol (section_count o)) (sym two.2 ∙ ap symbol_shown (sym three.2)))

null_there : (o : ObjectData) (x : ViewSymbol) → slice_get (elf_shown o).symbols 0 ≡ Some x → null_symbol ≡ x
unfolding elf_view
null_there o x e = some_same null_symbol x e

from_row : (o : ObjectData) (row section : ℕ) (x : ViewSymbol) → slice_get (elf_shown o).symbols row ≡ Some x → x.section ≡ Some section → x.is_label ≡ false → FromObject o row section x
from_row o zero section x e place l = absurd (let none : None ≡ Some section = ap (λ (y : ViewSymbol). y.section) (null_there o x e) ∙ place in cc)
from_row o (suc n) section x e place l =
    let from = rows_of o n x e in
    let at = row-from o.symbols n from.0 from.1 in
    let there : elf_place (section_count o) (elf_shndx from.0.section) ≡ Some section = ap (λ (y : ViewSymbol). y.section) (sym from.2) ∙ place in
    let bound = place-from (section_count o) (elf_shndx from.0.section) section there in
    record {
      number = at.number;
      symbol = from.0;
      here = at.here;
      row_is = at.row;
      is = from.2;
      section_is = section_from from.0.section section bound.0 bound.1;
      label = no_label o from.0 section there (ap (λ (y : ViewSymbol). y.is_label) (sym from.2) ∙ l);
    }

pub symbol-from : (o : ObjectData) (row section : ℕ) (x : ViewSymbol) → slice_get (elf_shown o).symbols row ≡ Some x → x.section ≡ Some section → x.is_label ≡ false → FromObject o row section x
symbol-from o row section x e place l = from_row o row section x e place l

row_get : (o : ObjectData) (number n : ℕ) (x : SymbolData) → slice_get o.symbols number ≡ Some x → row_in o.symbols number ≡ suc n → slice_get (elf_shown o).symbols (suc n) ≡ Some (symbol_view o x)
unfolding elf_view image_for elf_table_of
row_get o number n x e row =
    let back : row_in o.symbols number - 1 ≡ n = omega (arith, row) in
    let shown = map symbol_shown (map elf_symbol (filter is_local o.symbols ++ filter is_global o.symbols)) in
    get_map (elf_view_symbol (section_count o)) shown n (symbol_shown (elf_symbol x)) (ap (slice_get shown) (sym back) ∙ symbol_row_get o.symbols number x e)

pub symbol-into : (o : ObjectData) (number : ℕ) (x : SymbolData) → slice_get o.symbols number ≡ Some x → slice_get (elf_shown o).symbols (row_in o.symbols number) ≡ Some (symbol_view o x)
symbol-into o number x e =
    let row = row-behind o.symbols number x e in
    ap (slice_get (elf_shown o).symbols) row.1 ∙ row_get o number row.0 x e row.1

-- -- defined identifiers

-- the symbol of a defined identifier is no label, and local where no other object sees it
pub record IsPlain (o : ObjectData) (format : BinaryFormat) (name : List ℕ) (linkage : Linkage) (k : SymbolKind) (p : Placed) : Type 0 where
  pub label : (symbol_view o (named_symbol format name linkage k (Some p))).is_label ≡ false
  pub local : not (symbol_view o (named_symbol format name linkage k (Some p))).is_local ≡ is_seen (Some linkage)

plain_by : (o : ObjectData) (format : BinaryFormat) (name : List ℕ) (linkage : Linkage) (k : SymbolKind) (p : Placed) → is_of_identifier k ≡ true → is_definable linkage ≡ true → elf_place (section_count o) (p.section + 1) ≡ Some p.section → IsPlain o format name linkage k p
plain_by o format name Import k p i h e = absurd (cc)
plain_by o format name Local kind.Text p i h e = record { label = rw e refl; local = refl }
plain_by o format name Local kind.Data p i h e = record { label = rw e refl; local = refl }
plain_by o format name Local kind.Tls p i h e = record { label = rw e refl; local = refl }
plain_by o format name Hidden kind.Text p i h e = record { label = rw e refl; local = refl }
plain_by o format name Hidden kind.Data p i h e = record { label = rw e refl; local = refl }
plain_by o format name Hidden kind.Tls p i h e = record { label = rw e refl; local = refl }
plain_by o format name Preemptible kind.Text p i h e = record { label = rw e refl; local = refl }
plain_by o format name Preemptible kind.Data p i h e = record { label = rw e refl; local = refl }
plain_by o format name Preemptible kind.Tls p i h e = record { label = rw e refl; local = refl }
plain_by o format name Export kind.Text p i h e = record { label = rw e refl; local = refl }
plain_by o format name Export kind.Data p i h e = record { label = rw e refl; local = refl }
plain_by o format name Export kind.Tls p i h e = record { label = rw e refl; local = refl }
plain_by o format name linkage kind.Label p i h e = absurd (cc)
plain_by o format name linkage kind.File p i h e = absurd (cc)

pub identifier-plain : (o : ObjectData) (format : BinaryFormat) (name : List ℕ) (linkage : Linkage) (k : SymbolKind) (p : Placed) → is_of_identifier k ≡ true → is_definable linkage ≡ true → elf_place (section_count o) (p.section + 1) ≡ Some p.section
    → IsPlain o format name linkage k p
identifier-plain = plain_by
