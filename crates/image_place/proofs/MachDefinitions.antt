-- The definitions that the view of a Mach-O part's image shows are the part's.
use Rattle.std.proofs.Common.{◌≡◌, ℕ, ◌+◌, List, refl, ap, sym, ◌∙◌, Some, None, true, false, slice_get}
use Rattle.ir_core.specs.declared.target.BinaryFormat.TheVariants.{Macho}
use Rattle.ir_core.specs.declared.target.Architecture.TheVariants.{X86_64}
use Rattle.ir_core.specs.declared.reloc.KnownSymbol.TheVariants.{ElfGlobalOffsetTable, CoffTlsIndex}
use Rattle.object_core.specs.declared.kinds.SymbolKind.{SymbolKind}
use Rattle.object_core.specs.declared.kinds.SymbolKind.TheVariants as kind
use Rattle.object_core.specs.Object.{SymbolData}
use Rattle.object_core.specs.WellFormed.{IsFormedMacho, is_file}
use Rattle.object_core.specs.MachRows.{mach_row_in, section_number_in, address_in}
use Rattle.cranelift_module.specs.declared.identifiers.FuncOrDataId.{FuncOrDataId}
use Rattle.cranelift_module.specs.Definitions.{Definition as Made, size_of}
use Rattle.cranelift_module.specs.LinkState.{LinkState}
use Rattle.cranelift_module.specs.Refusal.{bad_reloc, section_cause}
use Rattle.cranelift_object.specs.Settings.{Settings}
use Rattle.cranelift_object.specs.Placing.{Placed, placed}
use Rattle.cranelift_object.specs.Targets.{RelocationTarget, identifier, library, known, label}
use Rattle.cranelift_object.specs.Linked.{identifier_symbol, extra_symbol, symbols_of, object_of, row_of, named_symbol}
use Rattle.cranelift_object.proofs.ShownLaws.{Standing, is_of_identifier, identifier_at, identifier_number}
use Rattle.image_view.specs.View.{ViewSymbol, is_label_name}
use Rattle.image_place.specs.declared.rows.DefAddress.{DefAddress as AddressRow}
use Rattle.image_place.specs.Placed.{Definition, definitions_in, given, address_in as address_of_row, row_for}
use Rattle.image_place.proofs.EntryLaws.{Among}
use Rattle.image_place.proofs.FileSymbols.{IsSettled, SymbolCase, of_file, of_identifier, of_extra, symbol-case, created-stands, placed-from, defined-into, symbol-placed}
use Rattle.image_place.proofs.ViewDefinitions.{definition-from, definition-into}
use Rattle.image_place.proofs.ElfSections.{ArePlainBodies}
use Rattle.image_place.proofs.ElfDefinitions.{AreNamed, HasInnerLabels, object_symbols, placed-stands, definable_fits}
use Rattle.image_place.proofs.MachSymbols.{mach_shown, mach_symbol_view, section-of, address-of, HaveLabelNames, mach-symbol-from, mach-symbol-into, IsPlainMach, mach-plain}

-- the row of an identifier's symbol in the file
abbrev pub mach_row : Settings → LinkState → FuncOrDataId → ℕ
mach_row settings s id = mach_row_in (object_of settings s).symbols (row_of settings s (identifier id))

-- each defined identifier has its address row
abbrev pub HasMachRows : Settings → LinkState → ℕ → (FuncOrDataId → ℕ) → List AddressRow → Type 0
HasMachRows settings s q at addresses =
    (k : ℕ) (d : Made) → slice_get s.definitions k ≡ Some d
    → row_for addresses q (mach_row settings s d.identifier) ≡ Some (record { image = q; symbol = mach_row settings s d.identifier; address = at d.identifier; size = size_of d.contents })

-- a Mach-O part with its address rows
pub record MachPart (settings : Settings) (s : LinkState) (q : ℕ) (at : FuncOrDataId → ℕ) (addresses : List AddressRow) : Type 0 where
  pub settled : IsSettled s
  pub macho : s.target.triple.binary_format ≡ Macho
  pub machine : s.target.triple.architecture ≡ X86_64
  pub formed : IsFormedMacho (object_of settings s)
  pub plain : ArePlainBodies s
  pub judged : (k : ℕ) (d : Made) → slice_get s.definitions k ≡ Some d → bad_reloc s.target d.contents d.relocs ≡ None
  pub texts : (k : ℕ) (d : Made) → slice_get s.definitions k ≡ Some d → section_cause s.target.triple.binary_format (Some d.contents) d.section ≡ None
  pub named : AreNamed s
  pub rows : HasMachRows settings s q at addresses
  pub labels : HasInnerLabels settings s

-- -- symbols

not_label : (k : SymbolKind) → is_of_identifier k ≡ true → k ≡ kind.Label → ⊥
not_label k e same = let both : is_of_identifier kind.Label ≡ true = ap is_of_identifier (sym same) ∙ e in cc

not_file : (k : SymbolKind) → is_of_identifier k ≡ true → is_file k ≡ false
not_file kind.Text e = refl
not_file kind.Data e = refl
not_file kind.Tls e = refl
not_file kind.Label e = refl
not_file kind.File e = absurd (cc)

extra_named : (ps : List Placed) (t : RelocationTarget) → (extra_symbol ps t).kind ≡ kind.Label → is_label_name (extra_symbol ps t).name ≡ true
extra_named ps (identifier id) e = absurd (cc)
extra_named ps (library text) e = absurd (cc)
extra_named ps (known ElfGlobalOffsetTable) e = absurd (cc)
extra_named ps (known CoffTlsIndex) e = absurd (cc)
extra_named ps (label function offset) e = refl

pub extra-no-file : (ps : List Placed) (t : RelocationTarget) → is_file (extra_symbol ps t).kind ≡ false
extra-no-file ps (identifier id) = refl
extra-no-file ps (library text) = refl
extra-no-file ps (known ElfGlobalOffsetTable) = refl
extra-no-file ps (known CoffTlsIndex) = refl
extra-no-file ps (label function offset) = refl

named_by : (settings : Settings) (s : LinkState) (n : ℕ) (x : SymbolData) → IsSettled s → SymbolCase settings s n x → x.kind ≡ kind.Label → is_label_name x.name ≡ true
named_by settings s n x h (of_file is) e = absurd (let same : kind.File ≡ kind.Label = ap (λ (y : SymbolData). y.kind) (sym is) ∙ e in cc)
named_by settings s n x h (of_extra t is) e = ap (λ (y : SymbolData). is_label_name y.name) is ∙ extra_named (placed settings s) t (ap (λ (y : SymbolData). y.kind) (sym is) ∙ e)
named_by settings s n x h (of_identifier r id at place is) e =
    let stands = created-stands settings s r id h at in
    absurd (not_label stands.symbol_kind stands.of_identifier (ap (λ (y : SymbolData). y.kind) (sym (is ∙ stands.symbol)) ∙ e))

pub label-names : (settings : Settings) (s : LinkState) → IsSettled s → HaveLabelNames (object_of settings s)
label-names settings s h n x e k = named_by settings s n x h (symbol-case settings s n x (ap (λ xs. slice_get xs n) (sym (object_symbols settings s)) ∙ e)) k

pub mach-symbol-there : (settings : Settings) (s : LinkState) (n : ℕ) (x : SymbolData) → slice_get (symbols_of settings s (placed settings s)) n ≡ Some x → is_file x.kind ≡ false
    → slice_get (mach_shown (object_of settings s)).symbols (mach_row_in (object_of settings s).symbols n) ≡ Some (mach_symbol_view (object_of settings s) x)
mach-symbol-there settings s n x e f = mach-symbol-into (object_of settings s) n x (ap (λ xs. slice_get xs n) (object_symbols settings s) ∙ e) f

pub identifier-no-file : (settings : Settings) (s : LinkState) (id : FuncOrDataId) → Standing s (placed settings s) id → is_file (identifier_symbol s (placed settings s) id).kind ≡ false
identifier-no-file settings s id stands = ap (λ (x : SymbolData). is_file x.kind) stands.symbol ∙ not_file stands.symbol_kind stands.of_identifier

-- the symbol of a placed definition
pub record IsMachPlaced (settings : Settings) (s : LinkState) (p : Placed) : Type 0 where
  pub stands : Standing s (placed settings s) p.definition.identifier
  pub symbol : identifier_symbol s (placed settings s) p.definition.identifier ≡ named_symbol s.target.triple.binary_format stands.name stands.linkage stands.symbol_kind (Some p)
  pub is_plain : IsPlainMach (object_of settings s) s.target.triple.binary_format stands.name stands.linkage stands.symbol_kind p
  pub section : (mach_symbol_view (object_of settings s) (identifier_symbol s (placed settings s) p.definition.identifier)).section ≡ Some (section_number_in (object_of settings s).sections p.section)
  pub address : (mach_symbol_view (object_of settings s) (identifier_symbol s (placed settings s) p.definition.identifier)).address ≡ address_in (object_of settings s).sections p.section + p.offset

pub mach-placed : (settings : Settings) (s : LinkState) (k : ℕ) (p : Placed) → IsSettled s → slice_get (placed settings s) k ≡ Some p → IsMachPlaced settings s p
mach-placed settings s k p h e =
    let o = object_of settings s in
    let stands = placed-stands settings s k p h e in
    let defined = defined-into settings s k p h e in
    let x = named_symbol s.target.triple.binary_format stands.name stands.linkage stands.symbol_kind (Some p) in
    let symbol = stands.symbol ∙ ap (named_symbol s.target.triple.binary_format stands.name stands.linkage stands.symbol_kind) defined in
    record {
      stands = stands;
      symbol = symbol;
      is_plain = mach-plain o s.target.triple.binary_format stands.name stands.linkage stands.symbol_kind p stands.of_identifier (definable_fits stands.linkage _ p defined stands.fits);
      section = ap (λ (y : SymbolData). (mach_symbol_view o y).section) symbol ∙ section-of o x p.section refl;
      address = ap (λ (y : SymbolData). (mach_symbol_view o y).address) symbol ∙ address-of o x p.section refl;
    }

-- -- definitions of the view

-- a definition of the view is that of a placed one
pub record IsMachDefinition (settings : Settings) (s : LinkState) (d : Definition) : Type 0 where
  pub number : ℕ
  pub place : Placed
  pub here : slice_get (placed settings s) number ≡ Some place
  pub row : d.row ≡ mach_row settings s place.definition.identifier
  pub section : d.section ≡ section_number_in (object_of settings s).sections place.section
  pub symbol : d.symbol ≡ mach_symbol_view (object_of settings s) (identifier_symbol s (placed settings s) place.definition.identifier)
  pub address : d.symbol.address ≡ address_in (object_of settings s).sections place.section + place.offset
  pub size : d.size ≡ size_of place.definition.contents

row_same : (a b : AddressRow) → Some a ≡ Some b → a ≡ b
row_same a b e = cc

pub mach-definition-from : (settings : Settings) (s : LinkState) (q : ℕ) (at : FuncOrDataId → ℕ) (addresses : List AddressRow) (j : ℕ) (d : Definition) → MachPart settings s q at addresses
    → slice_get (definitions_in addresses q (mach_shown (object_of settings s))) j ≡ Some d → IsMachDefinition settings s d
mach-definition-from settings s q at addresses j d part e =
    let o = object_of settings s in
    let from = definition-from addresses q (mach_shown o) j d e in
    let own = mach-symbol-from o d.row d.section d.symbol (label-names settings s part.settled) from.here from.section from.label in
    let lies = symbol-placed settings s own.number own.home own.symbol part.settled (ap (λ xs. slice_get xs own.number) (sym (object_symbols settings s)) ∙ own.here) own.section_is own.label in
    let p = lies.place in
    let row : d.row ≡ mach_row settings s p.definition.identifier = sym own.row_is ∙ ap (mach_row_in o.symbols) (sym lies.row) in
    let symbol : d.symbol ≡ mach_symbol_view o (identifier_symbol s (placed settings s) p.definition.identifier) = own.is ∙ ap (mach_symbol_view o) lies.symbol in
    let shown = mach-placed settings s lies.number p part.settled lies.here in
    let same : from.given ≡ record { image = q; symbol = mach_row settings s p.definition.identifier; address = at p.definition.identifier; size = size_of p.definition.contents } =
    row_same from.given _ (sym from.row ∙ ap (row_for addresses q) row ∙ part.rows lies.number p.definition (placed-from settings s lies.number p lies.here)) in
    record {
      number = lies.number;
      place = p;
      here = lies.here;
      row = row;
      section = sym own.number_is ∙ ap (section_number_in o.sections) (sym lies.section_is);
      symbol = symbol;
      address = ap (λ (x : ViewSymbol). x.address) symbol ∙ shown.address;
      size = from.size ∙ ap (λ (a : AddressRow). a.size) same;
    }

-- the definition of the view that a placed one gives
abbrev pub mach_definition_shown : Settings → LinkState → (FuncOrDataId → ℕ) → Placed → Definition
mach_definition_shown settings s at p =
    record {
      row = mach_row settings s p.definition.identifier;
      symbol = mach_symbol_view (object_of settings s) (identifier_symbol s (placed settings s) p.definition.identifier);
      section = section_number_in (object_of settings s).sections p.section;
      address = at p.definition.identifier;
      size = size_of p.definition.contents;
    }

pub mach-definition-into : (settings : Settings) (s : LinkState) (q : ℕ) (at : FuncOrDataId → ℕ) (addresses : List AddressRow) (k : ℕ) (p : Placed) → MachPart settings s q at addresses → slice_get (placed settings s) k ≡ Some p
    → Among (definitions_in addresses q (mach_shown (object_of settings s))) (mach_definition_shown settings s at p)
mach-definition-into settings s q at addresses k p part e =
    let o = object_of settings s in
    let id = p.definition.identifier in
    let shown = mach-placed settings s k p part.settled e in
    let x = mach_symbol_view o (identifier_symbol s (placed settings s) id) in
    let number = identifier_number settings s shown.stands.place id part.settled.sound shown.stands.at in
    let there : slice_get (mach_shown o).symbols (mach_row settings s id) ≡ Some x =
    mach-symbol-there settings s (row_of settings s (identifier id)) (identifier_symbol s (placed settings s) id) (ap (slice_get (symbols_of settings s (placed settings s))) number ∙ identifier_at settings s shown.stands.place id shown.stands.at) (identifier-no-file settings s id shown.stands) in
    let plain : x.is_label ≡ false = ap (λ (y : SymbolData). (mach_symbol_view o y).is_label) shown.symbol ∙ shown.is_plain.label in
    definition-into addresses q (mach_shown o) (mach_row settings s id) x (section_number_in o.sections p.section) (record { image = q; symbol = mach_row settings s id; address = at id; size = size_of p.definition.contents }) there shown.section plain
    (part.rows k p.definition (placed-from settings s k p e))

-- the address of a placed definition
pub mach-given-at : (settings : Settings) (s : LinkState) (q : ℕ) (at : FuncOrDataId → ℕ) (addresses : List AddressRow) (k : ℕ) (p : Placed) → MachPart settings s q at addresses → slice_get (placed settings s) k ≡ Some p
    → given addresses q (mach_row settings s p.definition.identifier) ≡ at p.definition.identifier
mach-given-at settings s q at addresses k p part e = ap address_of_row (part.rows k p.definition (placed-from settings s k p e))
