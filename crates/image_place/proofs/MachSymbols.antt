-- What the view of a Mach-O part's image shows of the part's symbols.
use Rattle.std.proofs.Common.{◌≡◌, ℕ, ◌+◌, ◌-◌, ◌%◌, ◌&&◌, ◌==◌, List, [], ◌∷◌, ◌++◌, map, refl, ap, sym, ◌∙◌, arith, Some, None, Bool, true, false, not, cond, slice_get, ◌⊎◌, inl, inr}
use Rattle.std.specs.Prelude.{filter}
use Rattle.byte_core.proofs.Lists.{get_map, get_map_from}
use Rattle.ir_core.specs.declared.target.BinaryFormat.{BinaryFormat}
use Rattle.object_core.specs.declared.kinds.SymbolKind.{SymbolKind}
use Rattle.object_core.specs.declared.kinds.SymbolKind.TheVariants as kind
use Rattle.object_core.specs.declared.kinds.SymbolScope.{SymbolScope}
use Rattle.object_core.specs.declared.kinds.SymbolScope.TheVariants as scope
use Rattle.object_core.specs.declared.kinds.SymbolSection.{SymbolSection}
use Rattle.object_core.specs.declared.kinds.SymbolSection.TheVariants.{Undefined, Absolute, Section}
use Rattle.object_core.specs.Object.{SymbolData, ObjectData, plain_symbol, is_local, is_global, is_in_section}
use Rattle.object_core.specs.WellFormed.{is_file}
use Rattle.object_core.specs.MachRows.{is_mach_local, mach_row_in, mach_symbol, mach_type, macho_table_of, section_number_in, address_in, hidden_bit}
use Rattle.image_read.specs.MachFile.{lies_in_section}
use Rattle.object_macho.specs.TableImage.{symbol_shown, image_for}
use Rattle.object_macho.proofs.Orders.{symbol_holds}
use Rattle.cranelift_module.specs.declared.linkage.Linkage.{Linkage}
use Rattle.cranelift_module.specs.declared.linkage.Linkage.TheVariants.{Import, Local, Hidden, Preemptible, Export}
use Rattle.cranelift_module.specs.Linkage.{is_definable}
use Rattle.cranelift_object.specs.Placing.{Placed}
use Rattle.cranelift_object.specs.Linked.{named_symbol}
use Rattle.cranelift_object.proofs.ShownLaws.{is_of_identifier}
use Rattle.image_place.specs.Memory.{is_seen}
use Rattle.image_view.specs.View.{View, ViewSymbol, mach_view_symbol, mach_view, is_label_name}
use Rattle.image_place.proofs.FileSymbols.{is_label_kind}
use Rattle.image_place.proofs.MachRows.{mach-row-from}

-- the view of a Mach-O object's file
abbrev pub mach_shown : ObjectData → View
mach_shown o = mach_view (image_for (macho_table_of o))

-- what the view shows of a symbol
abbrev pub mach_symbol_view : ObjectData → SymbolData → ViewSymbol
mach_symbol_view o x = mach_view_symbol (symbol_shown (mach_symbol o.sections x))

-- -- types

-- a type tells whether a symbol lies in a section, and whether it is local
pub record TellsType (inside local : Bool) (n_type : ℕ) : Type 0 where
  pub section : lies_in_section n_type ≡ inside
  pub is_local : (n_type % 2 == 0) ≡ local

type_by : (inside local weak : Bool) (s : SymbolScope) → TellsType inside local (cond inside 0x0e 0 + cond local 0 (1 + hidden_bit s weak))
type_by true true weak s = record { section = refl; is_local = refl }
type_by false true weak s = record { section = refl; is_local = refl }
type_by true false true scope.Unknown = record { section = refl; is_local = refl }
type_by true false true scope.Compilation = record { section = refl; is_local = refl }
type_by true false true scope.Linkage = record { section = refl; is_local = refl }
type_by true false true scope.Dynamic = record { section = refl; is_local = refl }
type_by true false false scope.Unknown = record { section = refl; is_local = refl }
type_by true false false scope.Compilation = record { section = refl; is_local = refl }
type_by true false false scope.Linkage = record { section = refl; is_local = refl }
type_by true false false scope.Dynamic = record { section = refl; is_local = refl }
type_by false false true scope.Unknown = record { section = refl; is_local = refl }
type_by false false true scope.Compilation = record { section = refl; is_local = refl }
type_by false false true scope.Linkage = record { section = refl; is_local = refl }
type_by false false true scope.Dynamic = record { section = refl; is_local = refl }
type_by false false false scope.Unknown = record { section = refl; is_local = refl }
type_by false false false scope.Compilation = record { section = refl; is_local = refl }
type_by false false false scope.Linkage = record { section = refl; is_local = refl }
type_by false false false scope.Dynamic = record { section = refl; is_local = refl }

pub tells-type : (x : SymbolData) → TellsType (is_in_section x.section) (is_local x) (mach_type (plain_symbol x))
tells-type x = type_by (is_in_section x.section) (is_local x) x.weak x.scope

-- -- places

back_one : (n : ℕ) → n + 1 - 1 ≡ n
back_one n = omega arith

pub section-of : (o : ObjectData) (x : SymbolData) (id : ℕ) → x.section ≡ Section id → (mach_symbol_view o x).section ≡ Some (section_number_in o.sections id)
section-of o x id e = rw ((tells-type x).section, e) (ap Some (back_one (section_number_in o.sections id)))

pub address-of : (o : ObjectData) (x : SymbolData) (id : ℕ) → x.section ≡ Section id → (mach_symbol_view o x).address ≡ address_in o.sections id + x.value
address-of o x id e = rw e refl

never_inside : (n : ℕ) (b : Bool) (k : ℕ) → b ≡ false → cond b (Some n) None ≡ Some k → ⊥
never_inside n true k e h = cc
never_inside n false k e h = cc

section_by : (o : ObjectData) (x : SymbolData) (section : SymbolSection) (k : ℕ) → x.section ≡ section → (mach_symbol_view o x).section ≡ Some k → (id : ℕ) × (x.section ≡ Section id) × (section_number_in o.sections id ≡ k)
section_by o x (Section id) k e h = (id, e, (let same : Some (section_number_in o.sections id) ≡ Some k = sym (section-of o x id e) ∙ h in cc))
section_by o x Undefined k e h = absurd (never_inside _ (lies_in_section (mach_type (plain_symbol x))) k ((tells-type x).section ∙ ap is_in_section e) h)
section_by o x Absolute k e h = absurd (never_inside _ (lies_in_section (mach_type (plain_symbol x))) k ((tells-type x).section ∙ ap is_in_section e) h)

-- a symbol of the view that lies in a section does so in the object
pub section-from : (o : ObjectData) (x : SymbolData) (k : ℕ) → (mach_symbol_view o x).section ≡ Some k → (id : ℕ) × (x.section ≡ Section id) × (section_number_in o.sections id ≡ k)
section-from o x k h = section_by o x x.section k refl h

-- -- labels

-- labels have names of their own
abbrev pub HaveLabelNames : ObjectData → Type 0
HaveLabelNames o = (n : ℕ) (x : SymbolData) → slice_get o.symbols n ≡ Some x → x.kind ≡ kind.Label → is_label_name x.name ≡ true

kind_case : (k : SymbolKind) → (k ≡ kind.Label) ⊎ (is_label_kind k ≡ false)
kind_case kind.Text = inr refl
kind_case kind.Data = inr refl
kind_case kind.Tls = inr refl
kind_case kind.Label = inl refl
kind_case kind.File = inr refl

label_is_local : (x : SymbolData) → x.kind ≡ kind.Label → is_local x ≡ true
label_is_local x e = rw e refl

pub label-shown : (o : ObjectData) (x : SymbolData) (id : ℕ) → x.kind ≡ kind.Label → x.section ≡ Section id → is_label_name x.name ≡ true → (mach_symbol_view o x).is_label ≡ true
label-shown o x id e place named =
    let inside : lies_in_section (mach_type (plain_symbol x)) ≡ true = (tells-type x).section ∙ ap is_in_section place in
    let local : (mach_type (plain_symbol x) % 2 == 0) ≡ true = (tells-type x).is_local ∙ label_is_local x e in
    rw (inside, local) (rw e named)

and_none : (b : Bool) → (b && false) ≡ false
and_none true = refl
and_none false = refl

-- a name behind an underscore is no label's
under_plain : (name : List ℕ) → is_label_name (0x5f ∷ name) ≡ false
under_plain [] = refl
under_plain (x ∷ name) = refl

no_label_by : (o : ObjectData) (x : SymbolData) (k : SymbolKind) → x.kind ≡ k → is_label_kind k ≡ false → (mach_symbol_view o x).is_label ≡ false
no_label_by o x kind.Text e h = rw (e, under_plain x.name) (and_none _)
no_label_by o x kind.Data e h = rw (e, under_plain x.name) (and_none _)
no_label_by o x kind.Tls e h = rw (e, under_plain x.name) (and_none _)
no_label_by o x kind.Label e h = absurd (cc)
no_label_by o x kind.File e h = rw (e, under_plain x.name) (and_none _)

-- only a label is one in the view
pub no-label : (o : ObjectData) (x : SymbolData) → is_label_kind x.kind ≡ false → (mach_symbol_view o x).is_label ≡ false
no-label o x h = no_label_by o x x.kind refl h

-- -- rows

-- a symbol of the view that lies in a section and is no label comes from one of the object
pub record FromMachObject (o : ObjectData) (row section : ℕ) (x : ViewSymbol) : Type 0 where
  pub number : ℕ
  pub symbol : SymbolData
  pub here : slice_get o.symbols number ≡ Some symbol
  pub row_is : mach_row_in o.symbols number ≡ row
  pub is : x ≡ mach_symbol_view o symbol
  pub home : ℕ
  pub section_is : symbol.section ≡ Section home
  pub number_is : section_number_in o.sections home ≡ section
  pub label : is_label_kind symbol.kind ≡ false

rows_of : (o : ObjectData) (n : ℕ) (x : ViewSymbol) → slice_get (mach_shown o).symbols n ≡ Some x → (s : SymbolData) × (slice_get (filter is_mach_local o.symbols ++ filter is_global o.symbols) n ≡ Some s) × (x ≡ mach_symbol_view o s)
unfolding mach_view image_for macho_table_of
rows_of o n x e =
    let ss = filter is_mach_local o.symbols ++ filter is_global o.symbols in
    let one = get_map_from mach_view_symbol (map symbol_shown (map (mach_symbol o.sections) ss)) n x e in
    let two = get_map_from symbol_shown (map (mach_symbol o.sections) ss) n one.0 one.1 in
    let three = get_map_from (mach_symbol o.sections) ss n two.0 two.1 in
    (three.0, three.1, sym one.2 ∙ ap mach_view_symbol (sym two.2 ∙ ap symbol_shown (sym three.2)))

pub mach-symbol-from : (o : ObjectData) (row section : ℕ) (x : ViewSymbol) → HaveLabelNames o → slice_get (mach_shown o).symbols row ≡ Some x → x.section ≡ Some section → x.is_label ≡ false → FromMachObject o row section x
mach-symbol-from o row section x named e place l =
    let from = rows_of o row x e in
    let at = mach-row-from o.symbols row from.0 from.1 in
    let home = section-from o from.0 section (ap (λ (y : ViewSymbol). y.section) (sym from.2) ∙ place) in
    record {
      number = at.number;
      symbol = from.0;
      here = at.here;
      row_is = at.row;
      is = from.2;
      home = home.0;
      section_is = home.1;
      number_is = home.2;
      label = elim (kind_case from.0.kind) [
        | inl k ↦ absurd (let both : true ≡ false = sym (label-shown o from.0 home.0 k home.1 (named at.number from.0 at.here k)) ∙ ap (λ (y : ViewSymbol). y.is_label) (sym from.2) ∙ l in cc)
        | inr k ↦ k
      ];
    }

pub mach-symbol-into : (o : ObjectData) (number : ℕ) (x : SymbolData) → slice_get o.symbols number ≡ Some x → is_file x.kind ≡ false → slice_get (mach_shown o).symbols (mach_row_in o.symbols number) ≡ Some (mach_symbol_view o x)
unfolding mach_view image_for macho_table_of
mach-symbol-into o number x e f =
    let ss = filter is_mach_local o.symbols ++ filter is_global o.symbols in
    let row = mach_row_in o.symbols number in
    get_map mach_view_symbol (map symbol_shown (map (mach_symbol o.sections) ss)) row (symbol_shown (mach_symbol o.sections x))
    (get_map symbol_shown (map (mach_symbol o.sections) ss) row (mach_symbol o.sections x) (get_map (mach_symbol o.sections) ss row x (symbol_holds o.symbols number x e f)))

-- -- defined identifiers

-- the symbol of a defined identifier has its name, is no label, and is local where no other object sees it
pub record IsPlainMach (o : ObjectData) (format : BinaryFormat) (name : List ℕ) (linkage : Linkage) (k : SymbolKind) (p : Placed) : Type 0 where
  pub named : (mach_symbol_view o (named_symbol format name linkage k (Some p))).name ≡ name
  pub label : (mach_symbol_view o (named_symbol format name linkage k (Some p))).is_label ≡ false
  pub local : not (mach_symbol_view o (named_symbol format name linkage k (Some p))).is_local ≡ is_seen (Some linkage)

plain_of : (o : ObjectData) (format : BinaryFormat) (name : List ℕ) (linkage : Linkage) (k : SymbolKind) (p : Placed) → is_of_identifier k ≡ true → is_definable linkage ≡ true → IsPlainMach o format name linkage k p
plain_of o format name Import k p i h = absurd (cc)
plain_of o format name Local kind.Text p i h = record { named = refl; label = under_plain name; local = refl }
plain_of o format name Local kind.Data p i h = record { named = refl; label = under_plain name; local = refl }
plain_of o format name Local kind.Tls p i h = record { named = refl; label = under_plain name; local = refl }
plain_of o format name Hidden kind.Text p i h = record { named = refl; label = refl; local = refl }
plain_of o format name Hidden kind.Data p i h = record { named = refl; label = refl; local = refl }
plain_of o format name Hidden kind.Tls p i h = record { named = refl; label = refl; local = refl }
plain_of o format name Preemptible kind.Text p i h = record { named = refl; label = refl; local = refl }
plain_of o format name Preemptible kind.Data p i h = record { named = refl; label = refl; local = refl }
plain_of o format name Preemptible kind.Tls p i h = record { named = refl; label = refl; local = refl }
plain_of o format name Export kind.Text p i h = record { named = refl; label = refl; local = refl }
plain_of o format name Export kind.Data p i h = record { named = refl; label = refl; local = refl }
plain_of o format name Export kind.Tls p i h = record { named = refl; label = refl; local = refl }
plain_of o format name linkage kind.Label p i h = absurd (cc)
plain_of o format name linkage kind.File p i h = absurd (cc)

pub mach-plain : (o : ObjectData) (format : BinaryFormat) (name : List ℕ) (linkage : Linkage) (k : SymbolKind) (p : Placed) → is_of_identifier k ≡ true → is_definable linkage ≡ true → IsPlainMach o format name linkage k p
mach-plain = plain_of
