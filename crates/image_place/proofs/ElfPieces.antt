-- An ELF part's view shows the part's definitions.
use Rattle.std.proofs.Common.{◌≡◌, ℕ, suc, ◌+◌, ◌-◌, List, [], ◌∷◌, ◌++◌, length, map, refl, ap, sym, ◌∙◌, arith, Option, Some, None, true, not, slice_get, subst}
use Rattle.std.specs.Prelude.{filter, unwrap_or, is_some}
use Rattle.std.specs.List.{filter_map}
use Rattle.std.proofs.lemmas.List.{map-append}
use Rattle.byte_core.specs.Number.{bytes_at}
use Rattle.byte_core.proofs.Lists.{get_map, get_map_from}
use Rattle.ir_core.specs.declared.reloc.Reloc.{Reloc}
use Rattle.ir_core.specs.declared.target.BinaryFormat.{BinaryFormat}
use Rattle.ir_core.specs.declared.target.BinaryFormat.TheVariants.{Elf}
use Rattle.ir_core.specs.declared.target.Architecture.{Architecture}
use Rattle.ir_core.specs.declared.target.Architecture.TheVariants.{X86_64}
use Rattle.ir_core.specs.Kind.{x86_64_number}
use Rattle.ir_core.specs.MachKind.{has_kind_in}
use Rattle.object_core.specs.ElfRows.{row_in, elf_relocation, elf_type_of}
use Rattle.object_elf.specs.ElfHolds.{record_for}
use Rattle.cranelift_module.specs.declared.linkage.Linkage.{Linkage}
use Rattle.cranelift_module.specs.declared.linkage.Linkage.TheVariants.{Local}
use Rattle.cranelift_module.specs.declared.identifiers.FuncOrDataId.{FuncOrDataId}
use Rattle.cranelift_module.specs.declared.identifiers.FuncOrDataId.TheVariants.{Func, Data}
use Rattle.cranelift_module.specs.declared.reloc.ModuleReloc.{ModuleReloc}
use Rattle.cranelift_module.specs.Definitions.{Definition as Made, size_of, contents_of}
use Rattle.cranelift_module.specs.Marks.{linkage_held}
use Rattle.cranelift_module.specs.LinkState.{LinkState}
use Rattle.cranelift_module.specs.Refusal.{bytes_in}
use Rattle.cranelift_object.specs.Settings.{Settings}
use Rattle.cranelift_object.specs.Placing.{Placed, placed}
use Rattle.cranelift_object.specs.Targets.{target_of}
use Rattle.cranelift_object.specs.Linked.{object_of, row_of, relocations_of, object_relocation, relocation_flags, members, symbols_of}
use Rattle.cranelift_object.proofs.ClassLaws.{All-slice_get}
use Rattle.cranelift_object.proofs.FormedLaws.{IsGood, good_relocs, field_bytes}
use Rattle.cranelift_object.proofs.SectionLaws.{contents_length}
use Rattle.cranelift_object.proofs.ShownLaws.{identifier_at, identifier_number}
use Rattle.image_view.specs.declared.kind.FixKind.{FixKind}
use Rattle.image_view.specs.declared.view.ViewReloc.{ViewReloc}
use Rattle.image_place.specs.declared.rows.DefAddress.{DefAddress as AddressRow}
use Rattle.image_place.specs.Fixups.{Piece}
use Rattle.image_place.specs.Memory.{declared_linkage, is_seen, fix_kind, goal_of, fixup_of, piece_of, pieces_of}
use Rattle.image_place.specs.Shares.{Pairs}
use Rattle.image_place.specs.Shown.{FixupShows, PieceShows, ObjectShows}
use Rattle.image_view.specs.View.{ViewSymbol, ViewSection, elf_kind, elf_view_reloc}
use Rattle.image_place.specs.Placed.{Definition, definitions_in, given, fixup_at, holds_field, piece_in, view_pieces}
use Rattle.image_place.proofs.KindLaws.{elf-kinds}
use Rattle.image_place.proofs.RangeLaws.{moved, moved_all, FieldsInside, StandFrom, own_relocations}
use Rattle.image_place.proofs.FileRows.{row-once}
use Rattle.image_place.proofs.Showing.{IsShownOf, IsUnder, object-shows}
use Rattle.image_place.proofs.FileSymbols.{placed-from, placed-into, among-flat}
use Rattle.image_place.proofs.FileStanding.{member-into, member-from, standing_at, members-stand}
use Rattle.image_place.proofs.Applied.{AreApplied}
use Rattle.image_place.proofs.FileRanges.{width-kept, LieIn, fields-fit, same-agrees}
use Rattle.image_place.proofs.ViewDefinitions.{piece-from, piece-into, pieces-once}
use Rattle.image_place.proofs.ElfSymbols.{elf_shown, symbol_view}
use Rattle.image_place.proofs.ElfSections.{home_of, section-there, section_view, section-into, home-bytes}
use Rattle.image_place.proofs.ElfDefinitions.{elf_row, ElfPart, placed-symbol, placed-stands, IsDefinitionOf, elf-definition-from, definition_shown, elf-definition-into, given-at}
use Rattle.image_place.proofs.ElfGoals.{LeadsTo, elf-goal, name-declared}

-- -- kinds

kind_by : (kind : Reloc) (o : Option ℕ) → x86_64_number kind ≡ o → is_some o ≡ true → elf_kind (unwrap_or o 0) ≡ fix_kind Elf kind
kind_by kind None e h = absurd (cc)
kind_by kind (Some n) e h = elf-kinds kind n e

kind_elf : (kind : Reloc) → has_kind_in Elf X86_64 kind ≡ true → elf_kind (elf_type_of (relocation_flags Elf X86_64 kind)) ≡ fix_kind Elf kind
kind_elf kind h = kind_by kind (x86_64_number kind) refl h

kind_in : (format : BinaryFormat) (architecture : Architecture) (kind : Reloc) → format ≡ Elf → architecture ≡ X86_64 → has_kind_in format architecture kind ≡ true → elf_kind (elf_type_of (relocation_flags format architecture kind)) ≡ fix_kind format kind
kind_in format architecture kind e f h = rw (e, f) (kind_elf kind (rw (e, f) at h))

-- -- relocations

-- what the view shows of a relocation, by its offset in its definition
abbrev pub reloc_view : Settings → LinkState → ModuleReloc → ViewReloc
reloc_view settings s r =
    let flags = relocation_flags s.target.triple.binary_format s.target.triple.architecture r.kind in
    record {
      offset = r.offset;
      symbol = row_in (object_of settings s).symbols (row_of settings s (target_of settings s r.name));
      kind = elf_kind (elf_type_of flags);
      number = elf_type_of flags;
      addend = r.addend;
    }

abbrev relocs_view : Settings → LinkState → Placed → List ViewReloc
relocs_view settings s p = map (reloc_view settings s) p.definition.relocs

pub good_at : (settings : Settings) (s : LinkState) (q : ℕ) (at : FuncOrDataId → ℕ) (addresses : List AddressRow) (k n : ℕ) (d : Made) (r : ModuleReloc) → ElfPart settings s q at addresses → slice_get s.definitions k ≡ Some d → slice_get d.relocs n ≡ Some r
    → IsGood s.target (bytes_in d.contents) r
good_at settings s q at addresses k n d r part e f = All-slice_get (IsGood s.target (bytes_in d.contents)) d.relocs n r (good_relocs s.target (bytes_in d.contents) [] d.relocs (part.judged k d e)) f

kind_at : (settings : Settings) (s : LinkState) (q : ℕ) (at : FuncOrDataId → ℕ) (addresses : List AddressRow) (k n : ℕ) (d : Made) (r : ModuleReloc) → ElfPart settings s q at addresses → slice_get s.definitions k ≡ Some d → slice_get d.relocs n ≡ Some r
    → (reloc_view settings s r).kind ≡ fix_kind s.target.triple.binary_format r.kind
kind_at settings s q at addresses k n d r part e f = kind_in s.target.triple.binary_format s.target.triple.architecture r.kind part.elf part.machine (good_at settings s q at addresses k n d r part e f).kind

lie_in : (settings : Settings) (s : LinkState) (q : ℕ) (at : FuncOrDataId → ℕ) (addresses : List AddressRow) (k : ℕ) (d : Made) → ElfPart settings s q at addresses → slice_get s.definitions k ≡ Some d → LieIn (size_of d.contents) d.relocs
lie_in settings s q at addresses k d part e n r f = (field_bytes d.contents r (good_at settings s q at addresses k n d r part e f).field).1

relocs_one : (settings : Settings) (s : LinkState) (offset : ℕ) (rs : List ModuleReloc)
    → map elf_view_reloc (map record_for (map (elf_relocation (object_of settings s).symbols) (map (object_relocation settings s offset) rs))) ≡ map (moved offset) (map (reloc_view settings s) rs)
relocs_one settings s offset [] = refl
relocs_one settings s offset (r ∷ rs) = ap (λ xs. moved offset (reloc_view settings s r) ∷ xs) (relocs_one settings s offset rs)

relocs_all : (settings : Settings) (s : LinkState) (ps : List Placed)
    → map elf_view_reloc (map record_for (map (elf_relocation (object_of settings s).symbols) (relocations_of settings s ps))) ≡ moved_all 0 (map (standing_at 0 (relocs_view settings s)) ps)
relocs_all settings s [] = refl
relocs_all settings s (p ∷ ps) =
    let start : p.offset ≡ 0 + p.offset - 0 = omega arith in
    rw (map-append, map-append, map-append, relocs_one settings s p.offset p.definition.relocs, relocs_all settings s ps) (ap (λ n. map (moved n) (relocs_view settings s p) ++ moved_all 0 (map (standing_at 0 (relocs_view settings s)) ps)) start)

pub some_there : {A : Type 0} (o : Option A) → is_some o ≡ true → (x : A) × (o ≡ Some x)
some_there None e = absurd (cc)
some_there (Some x) e = (x, refl)

applied_at : (settings : Settings) (s : LinkState) (q : ℕ) (at : FuncOrDataId → ℕ) (addresses : List AddressRow) (k n : ℕ) (p : Placed) (r : ModuleReloc) → ElfPart settings s q at addresses → AreApplied (elf_shown (object_of settings s)) → slice_get (placed settings s) k ≡ Some p → slice_get p.definition.relocs n ≡ Some r
    → (kind : FixKind) × ((reloc_view settings s r).kind ≡ Some kind)
applied_at settings s q at addresses k n p r part applied e f =
    let o = object_of settings s in
    let member = member-into settings s p.section k p e refl in
    let among = among-flat (λ (x : Placed). map (object_relocation settings s x.offset) x.definition.relocs) (members (placed settings s) p.section) member.number n p (object_relocation settings s p.offset r) member.here (get_map (object_relocation settings s p.offset) p.definition.relocs n r f) in
    let home = section-into o p.section (home_of settings s p) (section-there settings s k p part.plain e) in
    let one = get_map (elf_relocation o.symbols) (relocations_of settings s (members (placed settings s) p.section)) among.number (object_relocation settings s p.offset r) among.here in
    let two = get_map record_for (map (elf_relocation o.symbols) (relocations_of settings s (members (placed settings s) p.section))) among.number _ one in
    let three = get_map elf_view_reloc (map record_for (map (elf_relocation o.symbols) (relocations_of settings s (members (placed settings s) p.section)))) among.number _ two in
    some_there (reloc_view settings s r).kind (applied p.section among.number (section_view o (home_of settings s p)) _ home three)

inside_by : (settings : Settings) (s : LinkState) (size : ℕ) (rs : List ModuleReloc) → LieIn size rs → ((n : ℕ) (r : ModuleReloc) → slice_get rs n ≡ Some r → (reloc_view settings s r).kind ≡ fix_kind s.target.triple.binary_format r.kind)
    → ((n : ℕ) (r : ModuleReloc) → slice_get rs n ≡ Some r → (kind : FixKind) × ((reloc_view settings s r).kind ≡ Some kind)) → FieldsInside size (map (reloc_view settings s) rs)
inside_by settings s size [] lie kinds applied = tt
inside_by settings s size (r ∷ rs) lie kinds applied =
    let kind = applied 0 r refl in
    let width = width-kept s.target.triple.binary_format r.kind kind.0 (sym (kinds 0 r refl) ∙ kind.1) in
    ((kind.0, kind.1, omega (arith, width, lie 0 r refl)), inside_by settings s size rs (λ n. lie (suc n)) (λ n. kinds (suc n)) (λ n. applied (suc n)))

fields_inside : (settings : Settings) (s : LinkState) (q : ℕ) (at : FuncOrDataId → ℕ) (addresses : List AddressRow) (k : ℕ) (p : Placed) → ElfPart settings s q at addresses → AreApplied (elf_shown (object_of settings s)) → slice_get (placed settings s) k ≡ Some p
    → FieldsInside (size_of p.definition.contents) (relocs_view settings s p)
fields_inside settings s q at addresses k p part applied e =
    let made = placed-from settings s k p e in
    inside_by settings s (size_of p.definition.contents) p.definition.relocs (lie_in settings s q at addresses k p.definition part made) (λ n r f. kind_at settings s q at addresses k n p.definition r part made f) (λ n r f. applied_at settings s q at addresses k n p r part applied e f)

-- the relocations that a definition holds are its own
held_relocs : (settings : Settings) (s : LinkState) (q : ℕ) (at : FuncOrDataId → ℕ) (addresses : List AddressRow) (d : Definition) (of : IsDefinitionOf settings s d) → ElfPart settings s q at addresses → AreApplied (elf_shown (object_of settings s))
    → filter (λ r. holds_field 0 r r.kind d) (section_view (object_of settings s) (home_of settings s of.place)).relocations ≡ map (moved (d.symbol.address - 0)) (relocs_view settings s of.place)
held_relocs settings s q at addresses d of part applied =
    let p = of.place in
    let ps = members (placed settings s) p.section in
    let member = member-into settings s p.section of.number p of.here refl in
    let stand : StandFrom 0 (map (standing_at 0 (relocs_view settings s)) ps) =
    members-stand settings s 0 p.section (relocs_view settings s) (λ i x e. let from = member-from settings s p.section i x e in fields_inside settings s q at addresses from.number x part applied from.here) in
    ap (filter (λ (r : ViewReloc). holds_field 0 r r.kind d)) (relocs_all settings s ps)
    ∙ own_relocations 0 0 d (map (standing_at 0 (relocs_view settings s)) ps) member.number (standing_at 0 (relocs_view settings s) p) (omega arith) stand (get_map (standing_at 0 (relocs_view settings s)) ps member.number p member.here) (omega (arith, of.offset)) (sym of.size)

-- -- fixups

fixups_by : (settings : Settings) (s : LinkState) (q : ℕ) (at : FuncOrDataId → ℕ) (addresses : List AddressRow) (base : ℕ) (rs : List ModuleReloc)
    → ((n : ℕ) (r : ModuleReloc) → slice_get rs n ≡ Some r → LeadsTo settings s q at addresses (row_in (object_of settings s).symbols (row_of settings s (target_of settings s r.name))) (goal_of s (target_of settings s r.name)))
    → ((n : ℕ) (r : ModuleReloc) → slice_get rs n ≡ Some r → (reloc_view settings s r).kind ≡ fix_kind s.target.triple.binary_format r.kind)
    → Pairs (FixupShows at (given addresses q)) (map (fixup_of settings s) rs) (filter_map (fixup_at (elf_shown (object_of settings s)) (definitions_in addresses q (elf_shown (object_of settings s))) 0 base) (map (moved (base - 0)) (map (reloc_view settings s) rs)))
fixups_by settings s q at addresses base [] leads kinds = tt
fixups_by settings s q at addresses base (r ∷ rs) leads kinds =
    let g = leads 0 r refl in
    rw g.is (record { offset = omega arith; kind = kinds 0 r refl; goal = g.shows; addend = λ kind e. refl }, fixups_by settings s q at addresses base rs (λ n. leads (suc n)) (λ n. kinds (suc n)))

-- -- one definition

pub linkage_same : (s : LinkState) (id : FuncOrDataId) → declared_linkage s id ≡ linkage_held s id
linkage_same s (Func n) = refl
linkage_same s (Data n) = refl

pub seen_other : (linkage : Linkage) → is_seen (Some linkage) ≡ true → linkage ≡ Local → ⊥
seen_other linkage e same = let both : is_seen (Some Local) ≡ true = ap (λ l. is_seen (Some l)) (sym same) ∙ e in cc

piece_shows : (settings : Settings) (s : LinkState) (q : ℕ) (at : FuncOrDataId → ℕ) (addresses : List AddressRow) (d : Definition) (of : IsDefinitionOf settings s d) → ElfPart settings s q at addresses → AreApplied (elf_shown (object_of settings s))
    → PieceShows at (given addresses q) (piece_of settings s of.place.definition) (piece_in (elf_shown (object_of settings s)) (definitions_in addresses q (elf_shown (object_of settings s))) d (section_view (object_of settings s) (home_of settings s of.place)))
piece_shows settings s q at addresses d of part applied =
    let o = object_of settings s in
    let v = elf_shown o in
    let ds = definitions_in addresses q v in
    let p = of.place in
    let id = p.definition.identifier in
    let made = placed-from settings s of.number p of.here in
    let shown = placed-symbol settings s of.number p part.settled part.plain part.few of.here in
    let symbol = of.symbol ∙ ap (symbol_view o) shown.symbol in
    let seen : is_seen (declared_linkage s id) ≡ is_seen (Some shown.stands.linkage) = ap is_seen (linkage_same s id ∙ shown.stands.held) in
    let bytes : bytes_at (section_view o (home_of settings s p)).bytes (d.symbol.address - 0) d.size ≡ contents_of p.definition.contents =
    let place : d.symbol.address - 0 ≡ p.offset = omega (arith, of.offset) in
    ap (λ n. bytes_at (section_view o (home_of settings s p)).bytes n d.size) place ∙ ap (bytes_at (section_view o (home_of settings s p)).bytes p.offset) of.size ∙ home-bytes settings s of.number p part.elf of.here in
    let size : size_of p.definition.contents ≡ length (bytes_at (section_view o (home_of settings s p)).bytes (d.symbol.address - 0) d.size) = sym (contents_length p.definition.contents) ∙ ap length (sym bytes) in
    record {
      address = ap (given addresses q) of.row ∙ given-at settings s q at addresses of.number p part of.here;
      exported = ap (λ (x : ViewSymbol). not x.is_local) symbol ∙ shown.is_plain.local ∙ sym seen;
      name = λ e. ap (λ (x : ViewSymbol). Some x.name) symbol ∙ sym (name-declared s id shown.stands.linkage shown.stands.name part.named shown.stands.held (seen_other shown.stands.linkage (sym seen ∙ e)) shown.stands.named);
      fixups =
          subst (λ rs. Pairs (FixupShows at (given addresses q)) (map (fixup_of settings s) p.definition.relocs) (filter_map (fixup_at v ds 0 d.symbol.address) rs)) (sym (held_relocs settings s q at addresses d of part applied))
          (fixups_by settings s q at addresses d.symbol.address p.definition.relocs (λ n r e. elf-goal settings s q at addresses of.number n p.definition r part made e) (λ n r e. kind_at settings s q at addresses of.number n p.definition r part made e));
      inside = λ ws h. fields-fit settings s _ p.definition.relocs ws (λ n r e. let low = lie_in settings s q at addresses of.number p.definition part made n r e in omega (arith, low, size)) h;
      contents = λ ws h. same-agrees ws _ (contents_of p.definition.contents) bytes;
    }

-- -- the whole

pub section_same : (a b : ViewSection) → Some a ≡ Some b → a ≡ b
section_same a b e = cc

pub all_pieces : (settings : Settings) (s : LinkState) → pieces_of settings s ≡ map (piece_of settings s) s.definitions
unfolding pieces_of
all_pieces settings s = refl

each_shown : (settings : Settings) (s : LinkState) (q : ℕ) (at : FuncOrDataId → ℕ) (addresses : List AddressRow) (j : ℕ) (v : Piece ℕ) → ElfPart settings s q at addresses → AreApplied (elf_shown (object_of settings s)) → slice_get (view_pieces addresses q (elf_shown (object_of settings s))) j ≡ Some v
    → IsShownOf (elf_row settings s) at (given addresses q) (map (piece_of settings s) s.definitions) v
each_shown settings s q at addresses j v part applied e =
    let o = object_of settings s in
    let from = piece-from addresses q (elf_shown o) j v e in
    let of = elf-definition-from settings s q at addresses from.number from.definition part from.here in
    let home = section-into o of.place.section (home_of settings s of.place) (section-there settings s of.number of.place part.plain of.here) in
    let section : from.section ≡ section_view o (home_of settings s of.place) = section_same from.section _ (sym from.there ∙ ap (slice_get (elf_shown o).sections) of.section ∙ home) in
    let is : v ≡ piece_in (elf_shown o) (definitions_in addresses q (elf_shown o)) from.definition (section_view o (home_of settings s of.place)) = from.is ∙ ap (piece_in (elf_shown o) (definitions_in addresses q (elf_shown o)) from.definition) section in
    record {
      number = of.number;
      piece = piece_of settings s of.place.definition;
      here = get_map (piece_of settings s) s.definitions of.number of.place.definition (placed-from settings s of.number of.place of.here);
      shows = subst (PieceShows at (given addresses q) (piece_of settings s of.place.definition)) (sym is) (piece_shows settings s q at addresses from.definition of part applied);
      under = ap (λ (x : Piece ℕ). x.key) is ∙ of.row;
    }

all_under : (settings : Settings) (s : LinkState) (q : ℕ) (at : FuncOrDataId → ℕ) (addresses : List AddressRow) (k : ℕ) (p : Piece FuncOrDataId) → ElfPart settings s q at addresses → slice_get (map (piece_of settings s) s.definitions) k ≡ Some p
    → IsUnder (view_pieces addresses q (elf_shown (object_of settings s))) (elf_row settings s p.key)
all_under settings s q at addresses k p part e =
    let o = object_of settings s in
    let made = get_map_from (piece_of settings s) s.definitions k p e in
    let place = placed-into settings s k made.0 made.1 in
    let among = elf-definition-into settings s q at addresses k place.0 part place.1 in
    let home = section-into o place.0.section (home_of settings s place.0) (section-there settings s k place.0 part.plain place.1) in
    let piece = piece-into addresses q (elf_shown o) among.number (definition_shown settings s at place.0) (section_view o (home_of settings s place.0)) among.here home in
    record { number = piece.number; piece = _; here = piece.here; key = ap (λ (d : Made). elf_row settings s d.identifier) place.2 ∙ ap (λ (x : Piece FuncOrDataId). elf_row settings s x.key) made.2 }

object_symbols : (settings : Settings) (s : LinkState) → symbols_of settings s (placed settings s) ≡ (object_of settings s).symbols
unfolding object_of
object_symbols settings s = refl

rows_once : (settings : Settings) (s : LinkState) (q : ℕ) (at : FuncOrDataId → ℕ) (addresses : List AddressRow) (i j : ℕ) (d e : Made) → ElfPart settings s q at addresses → slice_get s.definitions i ≡ Some d → slice_get s.definitions j ≡ Some e → elf_row settings s d.identifier ≡ elf_row settings s e.identifier → i ≡ j
rows_once settings s q at addresses i j d e part f g same =
    let one = placed-into settings s i d f in
    let two = placed-into settings s j e g in
    let first = placed-stands settings s i one.0 part.settled one.1 in
    let second = placed-stands settings s j two.0 part.settled two.1 in
    let first_number = identifier_number settings s first.place one.0.definition.identifier part.settled.sound first.at in
    let second_number = identifier_number settings s second.place two.0.definition.identifier part.settled.sound second.at in
    let symbols = object_symbols settings s in
    let rows : row_in (object_of settings s).symbols (suc first.place) ≡ row_in (object_of settings s).symbols (suc second.place) =
    ap (row_in (object_of settings s).symbols) (sym first_number) ∙ ap (λ (x : Made). elf_row settings s x.identifier) one.2 ∙ same ∙ ap (λ (x : Made). elf_row settings s x.identifier) (sym two.2) ∙ ap (row_in (object_of settings s).symbols) second_number in
    let numbers : suc first.place ≡ suc second.place =
    row-once (object_of settings s).symbols (suc first.place) (suc second.place) _ _ (ap (λ xs. slice_get xs (suc first.place)) (sym symbols) ∙ identifier_at settings s first.place one.0.definition.identifier first.at) (ap (λ xs. slice_get xs (suc second.place)) (sym symbols) ∙ identifier_at settings s second.place two.0.definition.identifier second.at) rows in
    let places : first.place ≡ second.place = omega (arith, numbers) in
    let both : Some one.0.definition.identifier ≡ Some two.0.definition.identifier = sym first.at ∙ ap (slice_get s.created) places ∙ second.at in
    let ids : one.0.definition.identifier ≡ two.0.definition.identifier = cc in
    part.settled.once i j d e f g (ap (λ (x : Made). x.identifier) (sym one.2) ∙ ids ∙ ap (λ (x : Made). x.identifier) two.2)

pieces_once : (settings : Settings) (s : LinkState) (q : ℕ) (at : FuncOrDataId → ℕ) (addresses : List AddressRow) (i j : ℕ) (p r : Piece FuncOrDataId) → ElfPart settings s q at addresses → slice_get (map (piece_of settings s) s.definitions) i ≡ Some p → slice_get (map (piece_of settings s) s.definitions) j ≡ Some r
    → elf_row settings s p.key ≡ elf_row settings s r.key → i ≡ j
pieces_once settings s q at addresses i j p r part e f same =
    let one = get_map_from (piece_of settings s) s.definitions i p e in
    let two = get_map_from (piece_of settings s) s.definitions j r f in
    rows_once settings s q at addresses i j one.0 two.0 part one.1 two.1 (ap (λ (x : Piece FuncOrDataId). elf_row settings s x.key) one.2 ∙ same ∙ ap (λ (x : Piece FuncOrDataId). elf_row settings s x.key) (sym two.2))

-- the view of an ELF part's image shows the part's definitions, where each relocation is of a kind that is applied
pub elf-object-shows : (settings : Settings) (s : LinkState) (q : ℕ) (at : FuncOrDataId → ℕ) (addresses : List AddressRow) → ElfPart settings s q at addresses → AreApplied (elf_shown (object_of settings s))
    → ObjectShows (elf_row settings s) at (given addresses q) (pieces_of settings s) (view_pieces addresses q (elf_shown (object_of settings s)))
elf-object-shows settings s q at addresses part applied =
    subst (λ ps. ObjectShows (elf_row settings s) at (given addresses q) ps (view_pieces addresses q (elf_shown (object_of settings s)))) (sym (all_pieces settings s))
    (object-shows (elf_row settings s) at (given addresses q) (map (piece_of settings s) s.definitions) (view_pieces addresses q (elf_shown (object_of settings s))) (λ j v e. each_shown settings s q at addresses j v part applied e) (λ k p e. all_under settings s q at addresses k p part e)
    (λ i j p r e f same. pieces_once settings s q at addresses i j p r part e f same) (pieces-once addresses q (elf_shown (object_of settings s))))
