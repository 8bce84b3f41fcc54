-- The definitions that the view of an ELF part's image shows are the part's.
use Rattle.std.proofs.Common.{◌≡◌, ℕ, ◌+◌, ◌<◌, List, length, refl, ap, sym, ◌∙◌, arith, Option, Some, None, true, false, slice_get}
use Rattle.std.proofs.lemmas.Bool.{eq-eqb}
use Rattle.byte_core.proofs.Lists.{get_within}
use Rattle.ir_core.specs.declared.target.BinaryFormat.TheVariants.{Elf}
use Rattle.ir_core.specs.declared.target.Architecture.TheVariants.{X86_64}
use Rattle.object_core.specs.Object.{SymbolData}
use Rattle.object_core.specs.ElfRows.{row_in}
use Rattle.cranelift_module.specs.declared.linkage.Linkage.{Linkage}
use Rattle.cranelift_module.specs.declared.linkage.Linkage.TheVariants.{Local}
use Rattle.cranelift_module.specs.declared.identifiers.FuncOrDataId.{FuncOrDataId}
use Rattle.cranelift_module.specs.declared.identifiers.FuncOrDataId.TheVariants.{Func, Data}
use Rattle.cranelift_module.specs.declared.reloc.ModuleReloc.{ModuleReloc}
use Rattle.cranelift_module.specs.Definitions.{Definition as Made, size_of}
use Rattle.cranelift_module.specs.Rows.{FunctionRow, DataRow}
use Rattle.cranelift_module.specs.Marks.{linkage_held}
use Rattle.cranelift_module.specs.Linkage.{is_definable}
use Rattle.cranelift_module.specs.LinkState.{LinkState}
use Rattle.cranelift_module.specs.Refusal.{is_same_identifier, is_defined, bad_reloc}
use Rattle.cranelift_object.specs.Settings.{Settings}
use Rattle.cranelift_object.specs.Placing.{Placed, placed}
use Rattle.cranelift_object.specs.Targets.{identifier, label, target_of}
use Rattle.cranelift_object.specs.Linked.{identifier_symbol, symbols_of, object_of, row_of, named_symbol}
use Rattle.cranelift_object.proofs.ShownLaws.{Standing, Fits, identifier_at, identifier_number, identifier_stands}
use Rattle.cranelift_object.proofs.StateSound.{MayDefine}
use Rattle.image_view.specs.View.{ViewSymbol, elf_place}
use Rattle.image_place.specs.declared.rows.DefAddress.{DefAddress as AddressRow}
use Rattle.image_place.specs.Placed.{Definition, definitions_in, given, address_in, row_for}
use Rattle.image_place.proofs.EntryLaws.{Among}
use Rattle.image_place.proofs.FileSymbols.{IsSettled, placed-from, defined-into, symbol-placed, any-from}
use Rattle.image_place.proofs.ViewDefinitions.{definition-from, definition-into}
use Rattle.image_place.proofs.ElfSymbols.{elf_shown, section_count, symbol_view, place-into, symbol-from, symbol-into, IsPlain, identifier-plain}
use Rattle.image_place.proofs.ElfSections.{ArePlainBodies, home_of, section-there, section-counted}

-- the row of an identifier's symbol in the file
abbrev pub elf_row : Settings → LinkState → FuncOrDataId → ℕ
elf_row settings s id = row_in (object_of settings s).symbols (row_of settings s (identifier id))

-- what has no name is local
pub record AreNamed (s : LinkState) : Type 0 where
  pub functions : (k : ℕ) (row : FunctionRow) → slice_get s.functions k ≡ Some row → row.name ≡ None → row.linkage ≡ Local
  pub objects : (k : ℕ) (row : DataRow) → slice_get s.objects k ≡ Some row → row.name ≡ None → row.linkage ≡ Local

-- each defined identifier has its address row
abbrev pub HasRows : Settings → LinkState → ℕ → (FuncOrDataId → ℕ) → List AddressRow → Type 0
HasRows settings s q at addresses =
    (k : ℕ) (d : Made) → slice_get s.definitions k ≡ Some d
    → row_for addresses q (elf_row settings s d.identifier) ≡ Some (record { image = q; symbol = elf_row settings s d.identifier; address = at d.identifier; size = size_of d.contents })

-- each label that a relocation names lies below the end of its function
abbrev pub HasInnerLabels : Settings → LinkState → Type 0
HasInnerLabels settings s =
    (j k n : ℕ) (d e : Made) (r : ModuleReloc) (function offset : ℕ) → slice_get s.definitions j ≡ Some d → slice_get s.definitions k ≡ Some e
    → slice_get d.relocs n ≡ Some r → target_of settings s r.name ≡ label function offset → e.identifier ≡ Func function → offset < size_of e.contents

-- an ELF part with its address rows
pub record ElfPart (settings : Settings) (s : LinkState) (q : ℕ) (at : FuncOrDataId → ℕ) (addresses : List AddressRow) : Type 0 where
  pub settled : IsSettled s
  pub elf : s.target.triple.binary_format ≡ Elf
  pub machine : s.target.triple.architecture ≡ X86_64
  pub few : length (object_of settings s).sections + 1 < 0xff00
  pub plain : ArePlainBodies s
  pub judged : (k : ℕ) (d : Made) → slice_get s.definitions k ≡ Some d → bad_reloc s.target d.contents d.relocs ≡ None
  pub named : AreNamed s
  pub rows : HasRows settings s q at addresses
  pub labels : HasInnerLabels settings s

pub object_symbols : (settings : Settings) (s : LinkState) → (object_of settings s).symbols ≡ symbols_of settings s (placed settings s)
unfolding object_of
object_symbols settings s = refl

pub symbol-there : (settings : Settings) (s : LinkState) (n : ℕ) (x : SymbolData) → slice_get (symbols_of settings s (placed settings s)) n ≡ Some x → slice_get (elf_shown (object_of settings s)).symbols (row_in (object_of settings s).symbols n) ≡ Some (symbol_view (object_of settings s) x)
symbol-there settings s n x e = symbol-into (object_of settings s) n x (ap (λ xs. slice_get xs n) (object_symbols settings s) ∙ e)

-- -- placed definitions

same_itself : (id : FuncOrDataId) → is_same_identifier id id ≡ true
same_itself (Func k) = eq-eqb k k refl
same_itself (Data k) = eq-eqb k k refl

pub definition-defined : (s : LinkState) (k : ℕ) (d : Made) → slice_get s.definitions k ≡ Some d → is_defined s d.identifier ≡ true
definition-defined s k d e = any-from (λ (x : Made). is_same_identifier d.identifier x.identifier) s.definitions k d e (same_itself d.identifier)

may_stand : (settings : Settings) (s : LinkState) (id : FuncOrDataId) (o : Option Linkage) → IsSettled s → linkage_held s id ≡ o → MayDefine o → Standing s (placed settings s) id
may_stand settings s id None h e may = absurd may
may_stand settings s id (Some linkage) h e may = identifier_stands settings s id linkage h.sound h.ended e

pub placed-stands : (settings : Settings) (s : LinkState) (k : ℕ) (p : Placed) → IsSettled s → slice_get (placed settings s) k ≡ Some p → Standing s (placed settings s) p.definition.identifier
placed-stands settings s k p h e =
    let id = p.definition.identifier in
    may_stand settings s id (linkage_held s id) h refl (h.sound.defined id (definition-defined s k p.definition (placed-from settings s k p e)))

pub place-shown : (settings : Settings) (s : LinkState) (k : ℕ) (p : Placed) → ArePlainBodies s → length (object_of settings s).sections + 1 < 0xff00 → slice_get (placed settings s) k ≡ Some p → elf_place (section_count (object_of settings s)) (p.section + 1) ≡ Some p.section
place-shown settings s k p plain few e =
    let there = section-there settings s k p plain e in
    place-into (section_count (object_of settings s)) p.section (section-counted (object_of settings s) p.section (home_of settings s p) there) (omega (arith, few, get_within (object_of settings s).sections p.section (home_of settings s p) there))

pub definable_fits : (linkage : Linkage) (o : Option Placed) (p : Placed) → o ≡ Some p → Fits linkage o → is_definable linkage ≡ true
definable_fits linkage o p e h = rw e at h

-- the symbol of a placed definition
pub record IsPlacedSymbol (settings : Settings) (s : LinkState) (p : Placed) : Type 0 where
  pub stands : Standing s (placed settings s) p.definition.identifier
  pub symbol : identifier_symbol s (placed settings s) p.definition.identifier ≡ named_symbol s.target.triple.binary_format stands.name stands.linkage stands.symbol_kind (Some p)
  pub is_plain : IsPlain (object_of settings s) s.target.triple.binary_format stands.name stands.linkage stands.symbol_kind p
  pub place : elf_place (section_count (object_of settings s)) (p.section + 1) ≡ Some p.section

pub placed-symbol : (settings : Settings) (s : LinkState) (k : ℕ) (p : Placed) → IsSettled s → ArePlainBodies s → length (object_of settings s).sections + 1 < 0xff00 → slice_get (placed settings s) k ≡ Some p → IsPlacedSymbol settings s p
placed-symbol settings s k p h plain few e =
    let stands = placed-stands settings s k p h e in
    let defined = defined-into settings s k p h e in
    let place = place-shown settings s k p plain few e in
    record {
      stands = stands;
      symbol = stands.symbol ∙ ap (named_symbol s.target.triple.binary_format stands.name stands.linkage stands.symbol_kind) defined;
      is_plain = identifier-plain (object_of settings s) s.target.triple.binary_format stands.name stands.linkage stands.symbol_kind p stands.of_identifier (definable_fits stands.linkage _ p defined stands.fits) place;
      place = place;
    }

-- -- definitions of the view

-- a definition of the view is that of a placed one
pub record IsDefinitionOf (settings : Settings) (s : LinkState) (d : Definition) : Type 0 where
  pub number : ℕ
  pub place : Placed
  pub here : slice_get (placed settings s) number ≡ Some place
  pub row : d.row ≡ elf_row settings s place.definition.identifier
  pub section : d.section ≡ place.section
  pub symbol : d.symbol ≡ symbol_view (object_of settings s) (identifier_symbol s (placed settings s) place.definition.identifier)
  pub offset : d.symbol.address ≡ place.offset
  pub size : d.size ≡ size_of place.definition.contents

row_same : (a b : AddressRow) → Some a ≡ Some b → a ≡ b
row_same a b e = cc

pub elf-definition-from : (settings : Settings) (s : LinkState) (q : ℕ) (at : FuncOrDataId → ℕ) (addresses : List AddressRow) (j : ℕ) (d : Definition) → ElfPart settings s q at addresses
    → slice_get (definitions_in addresses q (elf_shown (object_of settings s))) j ≡ Some d → IsDefinitionOf settings s d
elf-definition-from settings s q at addresses j d part e =
    let o = object_of settings s in
    let from = definition-from addresses q (elf_shown o) j d e in
    let own = symbol-from o d.row d.section d.symbol from.here from.section from.label in
    let lies = symbol-placed settings s own.number d.section own.symbol part.settled (ap (λ xs. slice_get xs own.number) (sym (object_symbols settings s)) ∙ own.here) own.section_is own.label in
    let p = lies.place in
    let row : d.row ≡ elf_row settings s p.definition.identifier = sym own.row_is ∙ ap (row_in o.symbols) (sym lies.row) in
    let symbol : d.symbol ≡ symbol_view o (identifier_symbol s (placed settings s) p.definition.identifier) = own.is ∙ ap (symbol_view o) lies.symbol in
    let shown = placed-symbol settings s lies.number p part.settled part.plain part.few lies.here in
    let same : from.given ≡ record { image = q; symbol = elf_row settings s p.definition.identifier; address = at p.definition.identifier; size = size_of p.definition.contents } =
    row_same from.given _ (sym from.row ∙ ap (row_for addresses q) row ∙ part.rows lies.number p.definition (placed-from settings s lies.number p lies.here)) in
    record {
      number = lies.number;
      place = p;
      here = lies.here;
      row = row;
      section = sym lies.section_is;
      symbol = symbol;
      offset = ap (λ (x : ViewSymbol). x.address) (symbol ∙ ap (symbol_view o) shown.symbol);
      size = from.size ∙ ap (λ (a : AddressRow). a.size) same;
    }

-- the definition of the view that a placed one gives
abbrev pub definition_shown : Settings → LinkState → (FuncOrDataId → ℕ) → Placed → Definition
definition_shown settings s at p =
    record {
      row = elf_row settings s p.definition.identifier;
      symbol = symbol_view (object_of settings s) (identifier_symbol s (placed settings s) p.definition.identifier);
      section = p.section;
      address = at p.definition.identifier;
      size = size_of p.definition.contents;
    }

pub elf-definition-into : (settings : Settings) (s : LinkState) (q : ℕ) (at : FuncOrDataId → ℕ) (addresses : List AddressRow) (k : ℕ) (p : Placed) → ElfPart settings s q at addresses → slice_get (placed settings s) k ≡ Some p
    → Among (definitions_in addresses q (elf_shown (object_of settings s))) (definition_shown settings s at p)
elf-definition-into settings s q at addresses k p part e =
    let o = object_of settings s in
    let id = p.definition.identifier in
    let shown = placed-symbol settings s k p part.settled part.plain part.few e in
    let x = symbol_view o (identifier_symbol s (placed settings s) id) in
    let number = identifier_number settings s shown.stands.place id part.settled.sound shown.stands.at in
    let there : slice_get (elf_shown o).symbols (elf_row settings s id) ≡ Some x =
    symbol-there settings s (row_of settings s (identifier id)) (identifier_symbol s (placed settings s) id) (ap (slice_get (symbols_of settings s (placed settings s))) number ∙ identifier_at settings s shown.stands.place id shown.stands.at) in
    let section : x.section ≡ Some p.section = ap (λ (y : SymbolData). (symbol_view o y).section) shown.symbol ∙ shown.place in
    let label : x.is_label ≡ false = ap (λ (y : SymbolData). (symbol_view o y).is_label) shown.symbol ∙ shown.is_plain.label in
    definition-into addresses q (elf_shown o) (elf_row settings s id) x p.section (record { image = q; symbol = elf_row settings s id; address = at id; size = size_of p.definition.contents }) there section label
    (part.rows k p.definition (placed-from settings s k p e))

-- the address of a placed definition
pub given-at : (settings : Settings) (s : LinkState) (q : ℕ) (at : FuncOrDataId → ℕ) (addresses : List AddressRow) (k : ℕ) (p : Placed) → ElfPart settings s q at addresses → slice_get (placed settings s) k ≡ Some p
    → given addresses q (elf_row settings s p.definition.identifier) ≡ at p.definition.identifier
given-at settings s q at addresses k p part e = ap address_in (part.rows k p.definition (placed-from settings s k p e))
