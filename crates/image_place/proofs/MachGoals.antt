-- Where the relocations of a Mach-O part lead, in its view and in the part.
use Rattle.std.proofs.Common.{◌≡◌, ℕ, ◌+◌, ◌-◌, ◌<◌, List, [], refl, ap, sym, ◌∙◌, arith, Some, None, Bool, true, false, cond, slice_get, subst}
use Rattle.std.specs.Prelude.{find, unwrap_or}
use Rattle.ir_core.specs.declared.reloc.KnownSymbol.{KnownSymbol}
use Rattle.ir_core.specs.declared.reloc.KnownSymbol.TheVariants.{ElfGlobalOffsetTable, CoffTlsIndex}
use Rattle.ir_core.specs.declared.target.BinaryFormat.{BinaryFormat}
use Rattle.object_core.specs.Object.{SymbolData, ObjectData, plain_symbol}
use Rattle.object_core.specs.MachRows.{mach_row_in, section_number_in, address_in, mach_type, mach_symbol_name_of}
use Rattle.image_read.specs.MachFile.{lies_in_section}
use Rattle.cranelift_module.specs.declared.linkage.Linkage.{Linkage}
use Rattle.cranelift_module.specs.declared.identifiers.FuncOrDataId.{FuncOrDataId}
use Rattle.cranelift_module.specs.declared.identifiers.FuncOrDataId.TheVariants.{Func}
use Rattle.cranelift_module.specs.declared.reloc.ModuleReloc.{ModuleReloc}
use Rattle.cranelift_module.specs.Definitions.{Definition as Made, size_of}
use Rattle.cranelift_module.specs.Linkage.{requires_definition}
use Rattle.cranelift_module.specs.LinkState.{LinkState}
use Rattle.cranelift_module.specs.Refusal.{is_defined}
use Rattle.cranelift_object.specs.Settings.{Settings}
use Rattle.cranelift_object.specs.Placing.{Placed, placed}
use Rattle.cranelift_object.specs.Targets.{RelocationTarget, identifier, library, known, label, target_of}
use Rattle.cranelift_object.specs.Linked.{identifier_symbol, extra_symbol, label_symbol, known_symbol, object_of, row_of, named_symbol, defined_at}
use Rattle.cranelift_object.proofs.ShownLaws.{Fits, is_of_identifier}
use Rattle.object_core.specs.declared.kinds.SymbolKind.{SymbolKind}
use Rattle.object_core.specs.declared.kinds.SymbolKind.TheVariants as kind
use Rattle.image_place.specs.Fixups.{Goal, own, named}
use Rattle.image_place.specs.Memory.{declared_name, goal_of, known_text}
use Rattle.image_place.specs.Shown.{GoalShows}
use Rattle.image_view.specs.View.{ViewSymbol, plain_name}
use Rattle.image_place.specs.declared.rows.DefAddress.{DefAddress as AddressRow}
use Rattle.image_place.specs.Placed.{Definition, definitions_in, given, row_goal, symbol_goal, holds}
use Rattle.image_place.proofs.Collected.{found-at, found-some}
use Rattle.image_place.proofs.FileSymbols.{placed-from, defined-into, created-stands, declared-created, HasSymbol, target-symbol}
use Rattle.image_place.proofs.FileStanding.{one-there}
use Rattle.image_place.proofs.ElfSections.{home_of, section-there}
use Rattle.image_place.proofs.ElfGoals.{goal_at, defined-placed, not_placed, not_local, name-declared, goal_if, holds_true, held_from}
use Rattle.image_place.proofs.MachRows.{header-once}
use Rattle.image_place.proofs.MachSymbols.{mach_shown, mach_symbol_view, tells-type, section-of, address-of, label-shown}
use Rattle.image_place.proofs.MachDefinitions.{mach_row, MachPart, extra-no-file, mach-symbol-there, identifier-no-file, mach-placed, mach-definition-from, mach_definition_shown, mach-definition-into, mach-given-at}

-- the goal that a row of the view leads to shows this goal of the part
pub record MachLeadsTo (settings : Settings) (s : LinkState) (q : ℕ) (at : FuncOrDataId → ℕ) (addresses : List AddressRow) (row : ℕ) (goal : Goal FuncOrDataId) : Type 0 where
  pub shown : Goal ℕ
  pub is : row_goal (mach_shown (object_of settings s)) (definitions_in addresses q (mach_shown (object_of settings s))) row ≡ Some shown
  pub shows : GoalShows at (given addresses q) goal shown

-- -- identifiers

under_underscore : (k : SymbolKind) (name : List ℕ) → is_of_identifier k ≡ true → plain_name (mach_symbol_name_of k name) ≡ name
under_underscore kind.Text name e = refl
under_underscore kind.Data name e = refl
under_underscore kind.Tls name e = refl
under_underscore kind.Label name e = absurd (cc)
under_underscore kind.File name e = absurd (cc)

outside_by : (o : ObjectData) (ds : List Definition) (row : ℕ) (x : SymbolData) (name : List ℕ) → lies_in_section (mach_type (plain_symbol x)) ≡ false → plain_name (mach_symbol_name_of x.kind x.name) ≡ name
    → symbol_goal ds row (mach_symbol_view o x) (mach_symbol_view o x).section ≡ Some (named name)
outside_by o ds row x name e n = rw e (ap (λ y. Some (named y)) n)

-- a symbol of an identifier that lies in no section leads to the identifier's name
outside : (o : ObjectData) (ds : List Definition) (row : ℕ) (format : BinaryFormat) (name : List ℕ) (linkage : Linkage) (k : SymbolKind) → is_of_identifier k ≡ true
    → symbol_goal ds row (mach_symbol_view o (named_symbol format name linkage k None)) (mach_symbol_view o (named_symbol format name linkage k None)).section ≡ Some (named name)
outside o ds row format name linkage k e = outside_by o ds row (named_symbol format name linkage k None) name (tells-type (named_symbol format name linkage k None)).section (under_underscore k name e)

identifier_goal : (settings : Settings) (s : LinkState) (q : ℕ) (at : FuncOrDataId → ℕ) (addresses : List AddressRow) (id : FuncOrDataId) (b : Bool) → MachPart settings s q at addresses → HasSymbol settings s (identifier id) → is_defined s id ≡ b
    → MachLeadsTo settings s q at addresses (mach_row settings s id) (cond b (own id 0) (named (unwrap_or (declared_name s id) [])))
identifier_goal settings s q at addresses id true part has e =
    let o = object_of settings s in
    let ds = definitions_in addresses q (mach_shown o) in
    let is = defined-placed settings s id e in
    let shown = mach-placed settings s is.number is.place part.settled is.here in
    let x = mach_symbol_view o (identifier_symbol s (placed settings s) id) in
    let here : mach_symbol_view o (identifier_symbol s (placed settings s) is.place.definition.identifier) ≡ x = ap (λ i. mach_symbol_view o (identifier_symbol s (placed settings s) i)) is.same in
    let section : x.section ≡ Some (section_number_in o.sections is.place.section) = ap (λ (y : ViewSymbol). y.section) (sym here) ∙ shown.section in
    let plain : x.is_label ≡ false = ap (λ (y : ViewSymbol). y.is_label) (sym here) ∙ ap (λ (y : SymbolData). (mach_symbol_view o y).is_label) shown.symbol ∙ shown.is_plain.label in
    let address : given addresses q (mach_row settings s id) ≡ at id = ap (λ i. given addresses q (mach_row settings s i)) (sym is.same) ∙ mach-given-at settings s q at addresses is.number is.place part is.here ∙ ap at is.same in
    let created = declared-created s id part.settled.sound has.had in
    let stands = created-stands settings s created.0 id part.settled created.1 in
    record {
      shown = own (mach_row settings s id) 0;
      is = goal_at (mach_shown o) ds (mach_row settings s id) x (mach-symbol-there settings s (row_of settings s (identifier id)) (identifier_symbol s (placed settings s) id) has.here (identifier-no-file settings s id stands)) ∙ goal_if ds (mach_row settings s id) x (section_number_in o.sections is.place.section) section plain;
      shows = ap (λ n. n + 0) address;
    }
identifier_goal settings s q at addresses id false part has e =
    let o = object_of settings s in
    let ds = definitions_in addresses q (mach_shown o) in
    let created = declared-created s id part.settled.sound has.had in
    let stands = created-stands settings s created.0 id part.settled created.1 in
    let none = not_placed settings s id e in
    let own_symbol = stands.symbol ∙ ap (named_symbol s.target.triple.binary_format stands.name stands.linkage stands.symbol_kind) none in
    let x = mach_symbol_view o (identifier_symbol s (placed settings s) id) in
    let free : requires_definition stands.linkage ≡ false = subst (Fits stands.linkage) none stands.fits in
    let name = name-declared s id stands.linkage stands.name part.named stands.held (not_local stands.linkage free) stands.named in
    let leads : symbol_goal ds (mach_row settings s id) x x.section ≡ Some (named stands.name) =
    ap (λ (y : SymbolData). symbol_goal ds (mach_row settings s id) (mach_symbol_view o y) (mach_symbol_view o y).section) own_symbol ∙ outside o ds (mach_row settings s id) s.target.triple.binary_format stands.name stands.linkage stands.symbol_kind stands.of_identifier in
    record {
      shown = named stands.name;
      is = goal_at (mach_shown o) ds (mach_row settings s id) x (mach-symbol-there settings s (row_of settings s (identifier id)) (identifier_symbol s (placed settings s) id) has.here (identifier-no-file settings s id stands)) ∙ leads;
      shows = ap (λ n. unwrap_or n []) (sym name);
    }

-- -- names and labels

library_goal : (settings : Settings) (s : LinkState) (q : ℕ) (at : FuncOrDataId → ℕ) (addresses : List AddressRow) (text : List ℕ) → HasSymbol settings s (library text)
    → MachLeadsTo settings s q at addresses (mach_row_in (object_of settings s).symbols (row_of settings s (library text))) (named text)
library_goal settings s q at addresses text has =
    record {
      shown = named text;
      is = goal_at (mach_shown (object_of settings s)) (definitions_in addresses q (mach_shown (object_of settings s))) _ _ (mach-symbol-there settings s (row_of settings s (library text)) (extra_symbol (placed settings s) (library text)) has.here refl);
      shows = refl;
    }

known_leads : (ds : List Definition) (row : ℕ) (o : ObjectData) (symbol : KnownSymbol) → symbol_goal ds row (mach_symbol_view o (known_symbol symbol)) (mach_symbol_view o (known_symbol symbol)).section ≡ Some (named (known_text symbol))
known_leads ds row o ElfGlobalOffsetTable = refl
known_leads ds row o CoffTlsIndex = refl

known_goal : (settings : Settings) (s : LinkState) (q : ℕ) (at : FuncOrDataId → ℕ) (addresses : List AddressRow) (symbol : KnownSymbol) → HasSymbol settings s (known symbol)
    → MachLeadsTo settings s q at addresses (mach_row_in (object_of settings s).symbols (row_of settings s (known symbol))) (named (known_text symbol))
known_goal settings s q at addresses symbol has =
    let o = object_of settings s in
    let ds = definitions_in addresses q (mach_shown o) in
    let row = mach_row_in o.symbols (row_of settings s (known symbol)) in
    record {
      shown = named (known_text symbol);
      is = goal_at (mach_shown o) ds row (mach_symbol_view o (known_symbol symbol)) (mach-symbol-there settings s (row_of settings s (known symbol)) (extra_symbol (placed settings s) (known symbol)) has.here (extra-no-file (placed settings s) (known symbol))) ∙ known_leads ds row o symbol;
      shows = refl;
    }

label_by : (ds : List Definition) (row : ℕ) (x : ViewSymbol) (k a : ℕ) (d : Definition) → x.section ≡ Some k → x.is_label ≡ true → x.address ≡ a → find (holds k a 1) ds ≡ Some d → symbol_goal ds row x x.section ≡ Some (own d.row (a - d.symbol.address))
label_by ds row x k a d e l h f = rw (e, l, h, f) refl

label_goal_is : (settings : Settings) (s : LinkState) (q : ℕ) (at : FuncOrDataId → ℕ) (addresses : List AddressRow) (function offset : ℕ) → MachPart settings s q at addresses → HasSymbol settings s (label function offset)
    → ((k : ℕ) (e : Made) → slice_get s.definitions k ≡ Some e → e.identifier ≡ Func function → offset < size_of e.contents)
    → MachLeadsTo settings s q at addresses (mach_row_in (object_of settings s).symbols (row_of settings s (label function offset))) (own (Func function) offset)
label_goal_is settings s q at addresses function offset part has inner =
    let o = object_of settings s in
    let ds = definitions_in addresses q (mach_shown o) in
    let row = mach_row_in o.symbols (row_of settings s (label function offset)) in
    let is = defined-placed settings s (Func function) has.had.1 in
    let p = is.place in
    let home = section_number_in o.sections p.section in
    let base = address_in o.sections p.section in
    let shown = mach-placed settings s is.number p part.settled is.here in
    let defined : defined_at (placed settings s) (Func function) ≡ Some p = ap (defined_at (placed settings s)) (sym is.same) ∙ defined-into settings s is.number p part.settled is.here in
    let y = label_symbol function offset (Some p) in
    let x = mach_symbol_view o y in
    let there : slice_get (mach_shown o).symbols row ≡ Some x = mach-symbol-there settings s (row_of settings s (label function offset)) (extra_symbol (placed settings s) (label function offset)) has.here refl ∙ ap (λ z. Some (mach_symbol_view o (label_symbol function offset z))) defined in
    let section : x.section ≡ Some home = section-of o y p.section refl in
    let marked : x.is_label ≡ true = label-shown o y p.section refl refl refl in
    let less : offset < size_of p.definition.contents = inner is.number p.definition (placed-from settings s is.number p is.here) is.same in
    let among = mach-definition-into settings s q at addresses is.number p part is.here in
    let own_address : (mach_definition_shown settings s at p).symbol.address ≡ base + p.offset = shown.address in
    let place : ℕ = base + (p.offset + offset) in
    let holding = holds_true home place 1 (mach_definition_shown settings s at p) refl (omega (arith, own_address)) (omega (arith, own_address, less)) in
    let found = found-some (holds home place 1) ds among.number (mach_definition_shown settings s at p) among.here holding in
    let found_at = found-at (holds home place 1) ds found.element found.is in
    let d = found.element in
    let held = held_from home place 1 d found_at.passes in
    let from = mach-definition-from settings s q at addresses found_at.number d part found_at.here in
    let sections : from.place.section ≡ p.section =
    header-once o.sections from.place.section p.section (home_of settings s from.place) (home_of settings s p) (section-there settings s from.number from.place part.plain from.here) (section-there settings s is.number p part.plain is.here) (sym from.section ∙ held.section) in
    let address : d.symbol.address ≡ base + from.place.offset = from.address ∙ ap (λ n. address_in o.sections n + from.place.offset) sections in
    let same : p ≡ from.place = one-there settings s p.section (p.offset + offset) is.number from.number p from.place is.here from.here refl sections (omega arith) (omega (arith, less)) (omega (arith, held.low, address)) (omega (arith, held.high, address, from.size)) in
    let row_is : d.row ≡ mach_row settings s p.definition.identifier = from.row ∙ ap (λ (r : Placed). mach_row settings s r.definition.identifier) (sym same) in
    let address_is : d.symbol.address ≡ base + p.offset = address ∙ ap (λ (r : Placed). base + r.offset) (sym same) in
    let leads : symbol_goal ds row x x.section ≡ Some (own d.row (place - d.symbol.address)) = label_by ds row x home place d section marked (address-of o y p.section refl) found.is in
    let given_is : given addresses q d.row ≡ at (Func function) = ap (given addresses q) row_is ∙ mach-given-at settings s q at addresses is.number p part is.here ∙ ap at is.same in
    record {
      shown = own d.row (place - d.symbol.address);
      is = goal_at (mach_shown o) ds row x there ∙ leads;
      shows = omega (arith, given_is, address_is);
    }

target_goal : (settings : Settings) (s : LinkState) (q : ℕ) (at : FuncOrDataId → ℕ) (addresses : List AddressRow) (t : RelocationTarget) → MachPart settings s q at addresses → HasSymbol settings s t
    → ((function offset k : ℕ) (e : Made) → t ≡ label function offset → slice_get s.definitions k ≡ Some e → e.identifier ≡ Func function → offset < size_of e.contents)
    → MachLeadsTo settings s q at addresses (mach_row_in (object_of settings s).symbols (row_of settings s t)) (goal_of s t)
target_goal settings s q at addresses (identifier id) part has inner = identifier_goal settings s q at addresses id (is_defined s id) part has refl
target_goal settings s q at addresses (library text) part has inner = library_goal settings s q at addresses text has
target_goal settings s q at addresses (known symbol) part has inner = known_goal settings s q at addresses symbol has
target_goal settings s q at addresses (label function offset) part has inner = label_goal_is settings s q at addresses function offset part has (λ k e. inner function offset k e refl)

-- the symbol of a relocation leads where the relocation does
pub mach-goal : (settings : Settings) (s : LinkState) (q : ℕ) (at : FuncOrDataId → ℕ) (addresses : List AddressRow) (k n : ℕ) (d : Made) (r : ModuleReloc) → MachPart settings s q at addresses → slice_get s.definitions k ≡ Some d → slice_get d.relocs n ≡ Some r
    → MachLeadsTo settings s q at addresses (mach_row_in (object_of settings s).symbols (row_of settings s (target_of settings s r.name))) (goal_of s (target_of settings s r.name))
mach-goal settings s q at addresses k n d r part e f =
    target_goal settings s q at addresses (target_of settings s r.name) part (target-symbol settings s k n d r part.settled e f) (λ function offset j x same g h. part.labels k j n d x r function offset e g f same h)
