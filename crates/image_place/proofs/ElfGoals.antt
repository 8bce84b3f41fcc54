-- Where the relocations of an ELF part lead, in its view and in the part.
use Rattle.std.proofs.Common.{◌≡◌, ℕ, ◌+◌, ◌-◌, ◌<◌, ◌≤◌, ◌==◌, ◌&&◌, List, [], refl, ap, sym, ◌∙◌, arith, Option, Some, None, Bool, true, false, cond, slice_get, subst}
use Rattle.std.specs.Prelude.{option_map, option_and_then, unwrap_or, nat_le}
use Rattle.std.proofs.lemmas.Bool.{eqb-true, eq-eqb, and_parts, leb-true, le-leb}
use Rattle.ir_core.specs.declared.reloc.KnownSymbol.{KnownSymbol}
use Rattle.ir_core.specs.declared.reloc.KnownSymbol.TheVariants.{ElfGlobalOffsetTable, CoffTlsIndex}
use Rattle.object_core.specs.Object.{SymbolData, ObjectData}
use Rattle.object_core.specs.ElfRows.{row_in}
use Rattle.cranelift_module.specs.declared.linkage.Linkage.{Linkage}
use Rattle.cranelift_module.specs.declared.linkage.Linkage.TheVariants.{Local}
use Rattle.cranelift_module.specs.declared.identifiers.FuncOrDataId.{FuncOrDataId}
use Rattle.cranelift_module.specs.declared.identifiers.FuncOrDataId.TheVariants.{Func, Data}
use Rattle.cranelift_module.specs.declared.reloc.ModuleReloc.{ModuleReloc}
use Rattle.cranelift_module.specs.Definitions.{Definition as Made, size_of}
use Rattle.cranelift_module.specs.Rows.{FunctionRow, DataRow}
use Rattle.cranelift_module.specs.Marks.{linkage_held, name_held}
use Rattle.cranelift_module.specs.Linkage.{requires_definition}
use Rattle.cranelift_module.specs.LinkState.{LinkState}
use Rattle.cranelift_module.specs.Refusal.{is_same_identifier, is_defined, function_name, data_name}
use Rattle.cranelift_object.specs.Settings.{Settings}
use Rattle.cranelift_object.specs.Placing.{Placed, placed}
use Rattle.cranelift_object.specs.Targets.{RelocationTarget, identifier, library, known, label, target_of}
use Rattle.cranelift_object.specs.Linked.{identifier_symbol, extra_symbol, label_symbol, known_symbol, object_of, row_of, named_symbol, defined_at}
use Rattle.cranelift_object.proofs.CreationLaws.{same_is}
use Rattle.cranelift_object.proofs.ShownLaws.{Fits}
use Rattle.image_place.specs.Fixups.{Goal, own, named}
use Rattle.image_place.specs.Memory.{declared_name, goal_of, known_text}
use Rattle.image_place.specs.Shown.{GoalShows}
use Rattle.image_view.specs.View.{View, ViewSymbol}
use Rattle.image_place.specs.declared.rows.DefAddress.{DefAddress as AddressRow}
use Rattle.image_place.specs.Placed.{Definition, definitions_in, given, row_goal, symbol_goal, holds}
use Rattle.image_place.proofs.Collected.{found-at, found-some}
use Rattle.image_place.proofs.FileSymbols.{placed-from, placed-into, defined-from, defined-into, created-stands, declared-created, position-there, any-from, HasSymbol, target-symbol}
use Rattle.image_place.proofs.FileStanding.{one-there}
use Rattle.image_place.proofs.ElfSymbols.{elf_shown, symbol_view}
use Rattle.image_place.proofs.ElfDefinitions.{elf_row, AreNamed, ElfPart, symbol-there, placed-symbol, elf-definition-from, definition_shown, elf-definition-into, given-at}

-- the goal that a row of the view leads to shows this goal of the part
pub record LeadsTo (settings : Settings) (s : LinkState) (q : ℕ) (at : FuncOrDataId → ℕ) (addresses : List AddressRow) (row : ℕ) (goal : Goal FuncOrDataId) : Type 0 where
  pub shown : Goal ℕ
  pub is : row_goal (elf_shown (object_of settings s)) (definitions_in addresses q (elf_shown (object_of settings s))) row ≡ Some shown
  pub shows : GoalShows at (given addresses q) goal shown

-- where a symbol of the view leads
pub goal_at : (v : View) (ds : List Definition) (row : ℕ) (x : ViewSymbol) → slice_get v.symbols row ≡ Some x → row_goal v ds row ≡ symbol_goal ds row x x.section
goal_at v ds row x e = ap (option_and_then (λ (y : ViewSymbol). symbol_goal ds row y y.section)) e

-- -- identifiers

-- an identifier that is defined has its place
pub record IsPlaced (settings : Settings) (s : LinkState) (id : FuncOrDataId) : Type 0 where
  pub number : ℕ
  pub place : Placed
  pub here : slice_get (placed settings s) number ≡ Some place
  pub same : place.definition.identifier ≡ id

pub defined-placed : (settings : Settings) (s : LinkState) (id : FuncOrDataId) → is_defined s id ≡ true → IsPlaced settings s id
defined-placed settings s id e =
    let found = position-there (λ (d : Made). is_same_identifier id d.identifier) s.definitions e in
    let p = placed-into settings s _ found.0 found.1 in
    record { number = _; place = p.0; here = p.1; same = ap (λ (d : Made). d.identifier) p.2 ∙ sym (same_is id found.0.identifier found.2) }

same_itself : (id : FuncOrDataId) → is_same_identifier id id ≡ true
same_itself (Func k) = eq-eqb k k refl
same_itself (Data k) = eq-eqb k k refl

not_placed_by : (settings : Settings) (s : LinkState) (id : FuncOrDataId) (o : Option Placed) → is_defined s id ≡ false → defined_at (placed settings s) id ≡ o → o ≡ None
not_placed_by settings s id None e h = refl
not_placed_by settings s id (Some p) e h =
    let there = defined-from settings s id p h in
    let d = placed-from settings s there.number p there.here in
    let yes : is_defined s id ≡ true = any-from (λ (x : Made). is_same_identifier id x.identifier) s.definitions there.number p.definition d (ap (is_same_identifier id) there.same ∙ same_itself id) in
    absurd (let both : false ≡ true = sym e ∙ yes in cc)

pub not_placed : (settings : Settings) (s : LinkState) (id : FuncOrDataId) → is_defined s id ≡ false → defined_at (placed settings s) id ≡ None
not_placed settings s id e = not_placed_by settings s id (defined_at (placed settings s) id) e refl

pub not_local : (linkage : Linkage) → requires_definition linkage ≡ false → linkage ≡ Local → ⊥
not_local linkage e same = let both : requires_definition Local ≡ false = ap requires_definition (sym same) ∙ e in cc

-- the name of what isn't local is the one that is declared
name_function : (name : Option (List ℕ)) (other shown : List ℕ) (linkage : Linkage) → (name ≡ None → linkage ≡ Local) → (linkage ≡ Local → ⊥) → unwrap_or name other ≡ shown → name ≡ Some shown
name_function None other shown linkage h other_linkage e = absurd (other_linkage (h refl))
name_function (Some x) other shown linkage h other_linkage e = ap Some e

some_same : {A : Type 0} (x y : A) → Some x ≡ Some y → x ≡ y
some_same x y e = cc

named_function : (s : LinkState) (k : ℕ) (row : Option FunctionRow) (linkage : Linkage) (name : List ℕ) → AreNamed s → slice_get s.functions k ≡ row → option_map (λ (r : FunctionRow). r.linkage) row ≡ Some linkage → (linkage ≡ Local → ⊥) → option_map (λ (r : FunctionRow). function_name r k) row ≡ Some name
    → option_and_then (λ (r : FunctionRow). r.name) row ≡ Some name
named_function s k None linkage name h e l other_linkage n = absurd (cc)
named_function s k (Some row) linkage name h e l other_linkage n =
    name_function row.name _ name row.linkage (h.functions k row e) (λ same. other_linkage (sym (some_same row.linkage linkage l) ∙ same)) (some_same _ name n)

named_data : (s : LinkState) (k : ℕ) (row : Option DataRow) (linkage : Linkage) (name : List ℕ) → AreNamed s → slice_get s.objects k ≡ row → option_map (λ (r : DataRow). r.linkage) row ≡ Some linkage → (linkage ≡ Local → ⊥) → option_map (λ (r : DataRow). data_name r k) row ≡ Some name
    → option_and_then (λ (r : DataRow). r.name) row ≡ Some name
named_data s k None linkage name h e l other_linkage n = absurd (cc)
named_data s k (Some row) linkage name h e l other_linkage n =
    name_function row.name _ name row.linkage (h.objects k row e) (λ same. other_linkage (sym (some_same row.linkage linkage l) ∙ same)) (some_same _ name n)

pub name-declared : (s : LinkState) (id : FuncOrDataId) (linkage : Linkage) (name : List ℕ) → AreNamed s → linkage_held s id ≡ Some linkage → (linkage ≡ Local → ⊥) → name_held s id ≡ Some name → declared_name s id ≡ Some name
name-declared s (Func k) linkage name h l other_linkage n = named_function s k (slice_get s.functions k) linkage name h refl l other_linkage n
name-declared s (Data k) linkage name h l other_linkage n = named_data s k (slice_get s.objects k) linkage name h refl l other_linkage n

pub goal_if : (ds : List Definition) (row : ℕ) (x : ViewSymbol) (k : ℕ) → x.section ≡ Some k → x.is_label ≡ false → symbol_goal ds row x x.section ≡ Some (own row 0)
goal_if ds row x k e l = rw (e, l) refl

identifier_goal : (settings : Settings) (s : LinkState) (q : ℕ) (at : FuncOrDataId → ℕ) (addresses : List AddressRow) (id : FuncOrDataId) (b : Bool) → ElfPart settings s q at addresses → HasSymbol settings s (identifier id) → is_defined s id ≡ b
    → LeadsTo settings s q at addresses (elf_row settings s id) (cond b (own id 0) (named (unwrap_or (declared_name s id) [])))
identifier_goal settings s q at addresses id true part has e =
    let o = object_of settings s in
    let ds = definitions_in addresses q (elf_shown o) in
    let is = defined-placed settings s id e in
    let shown = placed-symbol settings s is.number is.place part.settled part.plain part.few is.here in
    let own_symbol = ap (identifier_symbol s (placed settings s)) (sym is.same) ∙ shown.symbol in
    let x = symbol_view o (identifier_symbol s (placed settings s) id) in
    let section : x.section ≡ Some is.place.section = ap (λ (y : SymbolData). (symbol_view o y).section) own_symbol ∙ shown.place in
    let plain : x.is_label ≡ false = ap (λ (y : SymbolData). (symbol_view o y).is_label) own_symbol ∙ shown.is_plain.label in
    let address : given addresses q (elf_row settings s id) ≡ at id = ap (λ i. given addresses q (elf_row settings s i)) (sym is.same) ∙ given-at settings s q at addresses is.number is.place part is.here ∙ ap at is.same in
    record {
      shown = own (elf_row settings s id) 0;
      is = goal_at (elf_shown o) ds (elf_row settings s id) x (symbol-there settings s (row_of settings s (identifier id)) (identifier_symbol s (placed settings s) id) has.here) ∙ goal_if ds (elf_row settings s id) x is.place.section section plain;
      shows = ap (λ n. n + 0) address;
    }
identifier_goal settings s q at addresses id false part has e =
    let o = object_of settings s in
    let ds = definitions_in addresses q (elf_shown o) in
    let created = declared-created s id part.settled.sound has.had in
    let stands = created-stands settings s created.0 id part.settled created.1 in
    let none = not_placed settings s id e in
    let own_symbol = stands.symbol ∙ ap (named_symbol s.target.triple.binary_format stands.name stands.linkage stands.symbol_kind) none in
    let x = symbol_view o (identifier_symbol s (placed settings s) id) in
    let free : requires_definition stands.linkage ≡ false = subst (Fits stands.linkage) none stands.fits in
    let name = name-declared s id stands.linkage stands.name part.named stands.held (not_local stands.linkage free) stands.named in
    let leads : symbol_goal ds (elf_row settings s id) x x.section ≡ Some (named stands.name) = ap (λ (y : SymbolData). symbol_goal ds (elf_row settings s id) (symbol_view o y) (symbol_view o y).section) own_symbol in
    record {
      shown = named stands.name;
      is = goal_at (elf_shown o) ds (elf_row settings s id) x (symbol-there settings s (row_of settings s (identifier id)) (identifier_symbol s (placed settings s) id) has.here) ∙ leads;
      shows = ap (λ n. unwrap_or n []) (sym name);
    }

-- -- names and labels

library_goal : (settings : Settings) (s : LinkState) (q : ℕ) (at : FuncOrDataId → ℕ) (addresses : List AddressRow) (text : List ℕ) → HasSymbol settings s (library text) → LeadsTo settings s q at addresses (row_in (object_of settings s).symbols (row_of settings s (library text))) (named text)
library_goal settings s q at addresses text has =
    record {
      shown = named text;
      is = goal_at (elf_shown (object_of settings s)) (definitions_in addresses q (elf_shown (object_of settings s))) _ _ (symbol-there settings s (row_of settings s (library text)) (extra_symbol (placed settings s) (library text)) has.here);
      shows = refl;
    }

known_leads : (ds : List Definition) (row : ℕ) (o : ObjectData) (symbol : KnownSymbol) → symbol_goal ds row (symbol_view o (known_symbol symbol)) (symbol_view o (known_symbol symbol)).section ≡ Some (named (known_text symbol))
known_leads ds row o ElfGlobalOffsetTable = refl
known_leads ds row o CoffTlsIndex = refl

known_goal : (settings : Settings) (s : LinkState) (q : ℕ) (at : FuncOrDataId → ℕ) (addresses : List AddressRow) (symbol : KnownSymbol) → HasSymbol settings s (known symbol)
    → LeadsTo settings s q at addresses (row_in (object_of settings s).symbols (row_of settings s (known symbol))) (named (known_text symbol))
known_goal settings s q at addresses symbol has =
    let o = object_of settings s in
    let ds = definitions_in addresses q (elf_shown o) in
    let row = row_in o.symbols (row_of settings s (known symbol)) in
    record {
      shown = named (known_text symbol);
      is = goal_at (elf_shown o) ds row (symbol_view o (known_symbol symbol)) (symbol-there settings s (row_of settings s (known symbol)) (extra_symbol (placed settings s) (known symbol)) has.here) ∙ known_leads ds row o symbol;
      shows = refl;
    }

pub holds_true : (k at n : ℕ) (d : Definition) → d.section ≡ k → d.symbol.address ≤ at → at + n ≤ d.symbol.address + d.size → holds k at n d ≡ true
holds_true k at n d e low high = rw (eq-eqb d.section k e, le-leb d.symbol.address at low, le-leb (at + n) (d.symbol.address + d.size) high) refl

pub record Held (k at n : ℕ) (d : Definition) : Type 0 where
  pub section : d.section ≡ k
  pub low : d.symbol.address ≤ at
  pub high : at + n ≤ d.symbol.address + d.size

pub held_from : (k at n : ℕ) (d : Definition) → holds k at n d ≡ true → Held k at n d
held_from k at n d e =
    let one = and_parts (d.section == k && nat_le d.symbol.address at) (nat_le (at + n) (d.symbol.address + d.size)) e in
    let two = and_parts (d.section == k) (nat_le d.symbol.address at) one.0 in
    record { section = eqb-true d.section k two.0; low = leb-true d.symbol.address at two.1; high = leb-true (at + n) (d.symbol.address + d.size) one.1 }

label_goal_is : (settings : Settings) (s : LinkState) (q : ℕ) (at : FuncOrDataId → ℕ) (addresses : List AddressRow) (function offset : ℕ) → ElfPart settings s q at addresses → HasSymbol settings s (label function offset)
    → ((k : ℕ) (e : Made) → slice_get s.definitions k ≡ Some e → e.identifier ≡ Func function → offset < size_of e.contents)
    → LeadsTo settings s q at addresses (row_in (object_of settings s).symbols (row_of settings s (label function offset))) (own (Func function) offset)
label_goal_is settings s q at addresses function offset part has inner =
    let o = object_of settings s in
    let ds = definitions_in addresses q (elf_shown o) in
    let row = row_in o.symbols (row_of settings s (label function offset)) in
    let is = defined-placed settings s (Func function) has.had.1 in
    let p = is.place in
    let shown = placed-symbol settings s is.number p part.settled part.plain part.few is.here in
    let defined : defined_at (placed settings s) (Func function) ≡ Some p = ap (defined_at (placed settings s)) (sym is.same) ∙ defined-into settings s is.number p part.settled is.here in
    let x = symbol_view o (label_symbol function offset (Some p)) in
    let there : slice_get (elf_shown o).symbols row ≡ Some x = symbol-there settings s (row_of settings s (label function offset)) (extra_symbol (placed settings s) (label function offset)) has.here ∙ ap (λ y. Some (symbol_view o (label_symbol function offset y))) defined in
    let less : offset < size_of p.definition.contents = inner is.number p.definition (placed-from settings s is.number p is.here) is.same in
    let among = elf-definition-into settings s q at addresses is.number p part is.here in
    let own_offset : (definition_shown settings s at p).symbol.address ≡ p.offset = ap (λ (y : SymbolData). (symbol_view o y).address) shown.symbol in
    let holding = holds_true p.section (p.offset + offset) 1 (definition_shown settings s at p) refl (omega (arith, own_offset)) (omega (arith, own_offset, less)) in
    let found = found-some (holds p.section (p.offset + offset) 1) ds among.number (definition_shown settings s at p) among.here holding in
    let found_at = found-at (holds p.section (p.offset + offset) 1) ds found.element found.is in
    let d = found.element in
    let held = held_from p.section (p.offset + offset) 1 d found_at.passes in
    let from = elf-definition-from settings s q at addresses found_at.number d part found_at.here in
    let same : p ≡ from.place = one-there settings s p.section (p.offset + offset) is.number from.number p from.place is.here from.here refl (sym from.section ∙ held.section) (omega arith) (omega (arith, less)) (omega (arith, held.low, from.offset)) (omega (arith, held.high, from.offset, from.size)) in
    let row_is : d.row ≡ elf_row settings s p.definition.identifier = from.row ∙ ap (λ (r : Placed). elf_row settings s r.definition.identifier) (sym same) in
    let offset_is : d.symbol.address ≡ p.offset = from.offset ∙ ap (λ (r : Placed). r.offset) (sym same) in
    let leads : symbol_goal ds row x x.section ≡ Some (own d.row (p.offset + offset - d.symbol.address)) = rw (shown.place, found.is) refl in
    let address : given addresses q d.row ≡ at (Func function) = ap (given addresses q) row_is ∙ given-at settings s q at addresses is.number p part is.here ∙ ap at is.same in
    record {
      shown = own d.row (p.offset + offset - d.symbol.address);
      is = goal_at (elf_shown o) ds row x there ∙ leads;
      shows = omega (arith, address, offset_is);
    }

target_goal : (settings : Settings) (s : LinkState) (q : ℕ) (at : FuncOrDataId → ℕ) (addresses : List AddressRow) (t : RelocationTarget) → ElfPart settings s q at addresses → HasSymbol settings s t
    → ((function offset k : ℕ) (e : Made) → t ≡ label function offset → slice_get s.definitions k ≡ Some e → e.identifier ≡ Func function → offset < size_of e.contents)
    → LeadsTo settings s q at addresses (row_in (object_of settings s).symbols (row_of settings s t)) (goal_of s t)
target_goal settings s q at addresses (identifier id) part has inner = identifier_goal settings s q at addresses id (is_defined s id) part has refl
target_goal settings s q at addresses (library text) part has inner = library_goal settings s q at addresses text has
target_goal settings s q at addresses (known symbol) part has inner = known_goal settings s q at addresses symbol has
target_goal settings s q at addresses (label function offset) part has inner = label_goal_is settings s q at addresses function offset part has (λ k e. inner function offset k e refl)

-- the symbol of a relocation leads where the relocation does
pub elf-goal : (settings : Settings) (s : LinkState) (q : ℕ) (at : FuncOrDataId → ℕ) (addresses : List AddressRow) (k n : ℕ) (d : Made) (r : ModuleReloc) → ElfPart settings s q at addresses → slice_get s.definitions k ≡ Some d → slice_get d.relocs n ≡ Some r
    → LeadsTo settings s q at addresses (row_in (object_of settings s).symbols (row_of settings s (target_of settings s r.name))) (goal_of s (target_of settings s r.name))
elf-goal settings s q at addresses k n d r part e f =
    target_goal settings s q at addresses (target_of settings s r.name) part (target-symbol settings s k n d r part.settled e f) (λ function offset j x same g h. part.labels k j n d x r function offset e g f same h)
