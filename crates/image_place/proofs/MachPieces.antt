-- A Mach-O part's view shows the part's definitions.
use Rattle.std.proofs.Common.{◌≡◌, ℕ, suc, ◌+◌, ◌-◌, ◌≤◌, List, [], ◌∷◌, length, map, refl, ap, sym, ◌∙◌, arith, Some, not, slice_get, subst}
use Rattle.std.specs.Prelude.{filter}
use Rattle.std.specs.List.{filter_map}
use Rattle.byte_core.specs.Number.{bytes_at}
use Rattle.byte_core.proofs.Lists.{get_map, get_map_from}
use Rattle.object_core.specs.MachRows.{mach_row_in}
use Rattle.cranelift_module.specs.declared.identifiers.FuncOrDataId.{FuncOrDataId}
use Rattle.cranelift_module.specs.declared.reloc.ModuleReloc.{ModuleReloc}
use Rattle.cranelift_module.specs.Definitions.{Definition as Made, size_of, contents_of}
use Rattle.cranelift_module.specs.LinkState.{LinkState}
use Rattle.cranelift_object.specs.Settings.{Settings}
use Rattle.cranelift_object.specs.Placing.{placed}
use Rattle.cranelift_object.specs.Targets.{target_of}
use Rattle.cranelift_object.specs.Linked.{object_of, row_of, members}
use Rattle.cranelift_object.proofs.ShownLaws.{identifier_at, identifier_number}
use Rattle.image_view.specs.declared.view.ViewReloc.{ViewReloc}
use Rattle.image_place.specs.declared.rows.DefAddress.{DefAddress as AddressRow}
use Rattle.image_place.specs.Fixups.{Piece}
use Rattle.image_place.specs.Memory.{declared_linkage, is_seen, fix_kind, goal_of, fixup_of, piece_of, pieces_of}
use Rattle.image_place.specs.Shares.{Pairs}
use Rattle.image_place.specs.Shown.{FixupShows, PieceShows, ObjectShows, AgreesOutside}
use Rattle.image_view.specs.View.{ViewSymbol}
use Rattle.image_place.specs.Placed.{Definition, definitions_in, given, fixup_at, holds_field, piece_in, view_pieces}
use Rattle.image_place.proofs.RangeLaws.{moved, StandFrom, own_relocations}
use Rattle.image_place.proofs.Showing.{IsShownOf, IsUnder, object-shows}
use Rattle.image_place.proofs.FileSymbols.{placed-from, placed-into}
use Rattle.image_place.proofs.FileStanding.{member-into, member-from, standing_at, members-stand}
use Rattle.image_place.proofs.Applied.{AreApplied}
use Rattle.image_place.proofs.FileRanges.{fields-fit}
use Rattle.image_place.proofs.ViewDefinitions.{piece-from, piece-into, pieces-once}
use Rattle.image_place.proofs.ElfSections.{home_of, section-there}
use Rattle.image_place.proofs.ElfDefinitions.{object_symbols, placed-stands}
use Rattle.image_place.proofs.ElfGoals.{name-declared}
use Rattle.image_place.proofs.ElfPieces.{linkage_same, seen_other, section_same, all_pieces}
use Rattle.image_place.proofs.MachRows.{mach-row-once}
use Rattle.image_place.proofs.MachSymbols.{mach_shown, mach_symbol_view}
use Rattle.image_place.proofs.MachSections.{section-start}
use Rattle.image_place.proofs.MachDefinitions.{mach_row, MachPart, identifier-no-file, mach-placed, IsMachDefinition, mach-definition-from, mach_definition_shown, mach-definition-into, mach-given-at}
use Rattle.image_place.proofs.MachGoals.{MachLeadsTo, mach-goal}
use Rattle.image_place.proofs.MachBytes.{mach_home, home-there, mach_reloc_view, mach_relocs_view, mach-kind-at, home-relocations, mach-lie-in, mach-fields-inside}
use Rattle.image_place.proofs.MachContents.{mach-home-long, mach-home-agrees}

-- -- relocations

-- where the section of a definition begins
home_start : (settings : Settings) (s : LinkState) (q : ℕ) (at : FuncOrDataId → ℕ) (addresses : List AddressRow) (d : Definition) (of : IsMachDefinition settings s d) → MachPart settings s q at addresses → d.symbol.address ≡ (mach_home settings s of.place).start + of.place.offset
home_start settings s q at addresses d of part = of.address ∙ ap (λ n. n + of.place.offset) (sym (section-start (object_of settings s) of.place.section (home_of settings s of.place) (section-there settings s of.number of.place part.plain of.here)))

-- the relocations that a definition holds are its own
held_relocs : (settings : Settings) (s : LinkState) (q : ℕ) (at : FuncOrDataId → ℕ) (addresses : List AddressRow) (d : Definition) (of : IsMachDefinition settings s d) → MachPart settings s q at addresses → AreApplied (mach_shown (object_of settings s))
    → filter (λ r. holds_field (mach_home settings s of.place).start r r.kind d) (mach_home settings s of.place).relocations ≡ map (moved (d.symbol.address - (mach_home settings s of.place).start)) (mach_relocs_view settings s of.place)
held_relocs settings s q at addresses d of part applied =
    let p = of.place in
    let start = (mach_home settings s p).start in
    let ps = members (placed settings s) p.section in
    let member = member-into settings s p.section of.number p of.here refl in
    let stand : StandFrom (start + 0) (map (standing_at start (mach_relocs_view settings s)) ps) =
    members-stand settings s start p.section (mach_relocs_view settings s) (λ i x e. let from = member-from settings s p.section i x e in mach-fields-inside settings s q at addresses from.number x part applied from.here) in
    ap (filter (λ (r : ViewReloc). holds_field start r r.kind d)) (home-relocations settings s q at addresses of.number start p part applied of.here)
    ∙ own_relocations start (start + 0) d (map (standing_at start (mach_relocs_view settings s)) ps) member.number (standing_at start (mach_relocs_view settings s) p) (omega arith) stand (get_map (standing_at start (mach_relocs_view settings s)) ps member.number p member.here) (sym (home_start settings s q at addresses d of part)) (sym of.size)

-- -- fixups

fixups_by : (settings : Settings) (s : LinkState) (q : ℕ) (at : FuncOrDataId → ℕ) (addresses : List AddressRow) (start base : ℕ) (rs : List ModuleReloc) → start ≤ base
    → ((n : ℕ) (r : ModuleReloc) → slice_get rs n ≡ Some r → MachLeadsTo settings s q at addresses (mach_row_in (object_of settings s).symbols (row_of settings s (target_of settings s r.name))) (goal_of s (target_of settings s r.name)))
    → ((n : ℕ) (r : ModuleReloc) → slice_get rs n ≡ Some r → (mach_reloc_view settings s r).kind ≡ fix_kind s.target.triple.binary_format r.kind)
    → Pairs (FixupShows at (given addresses q)) (map (fixup_of settings s) rs) (filter_map (fixup_at (mach_shown (object_of settings s)) (definitions_in addresses q (mach_shown (object_of settings s))) start base) (map (moved (base - start)) (map (mach_reloc_view settings s) rs)))
fixups_by settings s q at addresses start base [] h leads kinds = tt
fixups_by settings s q at addresses start base (r ∷ rs) h leads kinds =
    let g = leads 0 r refl in
    rw g.is (record { offset = omega (arith, h); kind = kinds 0 r refl; goal = g.shows; addend = λ kind e. refl }, fixups_by settings s q at addresses start base rs h (λ n. leads (suc n)) (λ n. kinds (suc n)))

-- -- one definition

piece_shows : (settings : Settings) (s : LinkState) (q : ℕ) (at : FuncOrDataId → ℕ) (addresses : List AddressRow) (d : Definition) (of : IsMachDefinition settings s d) → MachPart settings s q at addresses → AreApplied (mach_shown (object_of settings s))
    → PieceShows at (given addresses q) (piece_of settings s of.place.definition) (piece_in (mach_shown (object_of settings s)) (definitions_in addresses q (mach_shown (object_of settings s))) d (mach_home settings s of.place))
piece_shows settings s q at addresses d of part applied =
    let o = object_of settings s in
    let v = mach_shown o in
    let ds = definitions_in addresses q v in
    let p = of.place in
    let id = p.definition.identifier in
    let home = mach_home settings s p in
    let made = placed-from settings s of.number p of.here in
    let shown = mach-placed settings s of.number p part.settled of.here in
    let symbol = of.symbol ∙ ap (mach_symbol_view o) shown.symbol in
    let seen : is_seen (declared_linkage s id) ≡ is_seen (Some shown.stands.linkage) = ap is_seen (linkage_same s id ∙ shown.stands.held) in
    let begins = home_start settings s q at addresses d of part in
    let place : d.symbol.address - home.start ≡ p.offset = omega (arith, begins) in
    let own_bytes : bytes_at home.bytes (d.symbol.address - home.start) d.size ≡ bytes_at home.bytes p.offset (size_of p.definition.contents) = ap (λ n. bytes_at home.bytes n d.size) place ∙ ap (bytes_at home.bytes p.offset) of.size in
    let long : length (bytes_at home.bytes (d.symbol.address - home.start) d.size) ≡ size_of p.definition.contents = ap length own_bytes ∙ mach-home-long settings s q at addresses of.number p part of.here in
    record {
      address = ap (given addresses q) of.row ∙ mach-given-at settings s q at addresses of.number p part of.here;
      exported = ap (λ (x : ViewSymbol). not x.is_local) symbol ∙ shown.is_plain.local ∙ sym seen;
      name = λ e. ap (λ (x : ViewSymbol). Some x.name) symbol ∙ ap (λ n. Some n) shown.is_plain.named ∙ sym (name-declared s id shown.stands.linkage shown.stands.name part.named shown.stands.held (seen_other shown.stands.linkage (sym seen ∙ e)) shown.stands.named);
      fixups =
          subst (λ rs. Pairs (FixupShows at (given addresses q)) (map (fixup_of settings s) p.definition.relocs) (filter_map (fixup_at v ds home.start d.symbol.address) rs)) (sym (held_relocs settings s q at addresses d of part applied))
          (fixups_by settings s q at addresses home.start d.symbol.address p.definition.relocs (omega (arith, begins)) (λ n r e. mach-goal settings s q at addresses of.number n p.definition r part made e) (λ n r e. mach-kind-at settings s r part.macho part.machine));
      inside = λ ws h. fields-fit settings s _ p.definition.relocs ws (λ n r e. let low = mach-lie-in settings s q at addresses of.number p.definition part made n r e in omega (arith, low, long)) h;
      contents = λ ws h. subst (λ xs. AgreesOutside ws xs (contents_of p.definition.contents)) (sym own_bytes) (mach-home-agrees settings s q at addresses of.number p ws part applied of.here h);
    }

-- -- the whole

each_shown : (settings : Settings) (s : LinkState) (q : ℕ) (at : FuncOrDataId → ℕ) (addresses : List AddressRow) (j : ℕ) (v : Piece ℕ) → MachPart settings s q at addresses → AreApplied (mach_shown (object_of settings s)) → slice_get (view_pieces addresses q (mach_shown (object_of settings s))) j ≡ Some v
    → IsShownOf (mach_row settings s) at (given addresses q) (map (piece_of settings s) s.definitions) v
each_shown settings s q at addresses j v part applied e =
    let o = object_of settings s in
    let from = piece-from addresses q (mach_shown o) j v e in
    let of = mach-definition-from settings s q at addresses from.number from.definition part from.here in
    let home = home-there settings s q at addresses of.number of.place part of.here in
    let section : from.section ≡ mach_home settings s of.place = section_same from.section _ (sym from.there ∙ ap (slice_get (mach_shown o).sections) of.section ∙ home) in
    let is : v ≡ piece_in (mach_shown o) (definitions_in addresses q (mach_shown o)) from.definition (mach_home settings s of.place) = from.is ∙ ap (piece_in (mach_shown o) (definitions_in addresses q (mach_shown o)) from.definition) section in
    record {
      number = of.number;
      piece = piece_of settings s of.place.definition;
      here = get_map (piece_of settings s) s.definitions of.number of.place.definition (placed-from settings s of.number of.place of.here);
      shows = subst (PieceShows at (given addresses q) (piece_of settings s of.place.definition)) (sym is) (piece_shows settings s q at addresses from.definition of part applied);
      under = ap (λ (x : Piece ℕ). x.key) is ∙ of.row;
    }

all_under : (settings : Settings) (s : LinkState) (q : ℕ) (at : FuncOrDataId → ℕ) (addresses : List AddressRow) (k : ℕ) (p : Piece FuncOrDataId) → MachPart settings s q at addresses → slice_get (map (piece_of settings s) s.definitions) k ≡ Some p
    → IsUnder (view_pieces addresses q (mach_shown (object_of settings s))) (mach_row settings s p.key)
all_under settings s q at addresses k p part e =
    let o = object_of settings s in
    let made = get_map_from (piece_of settings s) s.definitions k p e in
    let place = placed-into settings s k made.0 made.1 in
    let among = mach-definition-into settings s q at addresses k place.0 part place.1 in
    let home = home-there settings s q at addresses k place.0 part place.1 in
    let piece = piece-into addresses q (mach_shown o) among.number (mach_definition_shown settings s at place.0) (mach_home settings s place.0) among.here home in
    record { number = piece.number; piece = _; here = piece.here; key = ap (λ (d : Made). mach_row settings s d.identifier) place.2 ∙ ap (λ (x : Piece FuncOrDataId). mach_row settings s x.key) made.2 }

rows_once : (settings : Settings) (s : LinkState) (q : ℕ) (at : FuncOrDataId → ℕ) (addresses : List AddressRow) (i j : ℕ) (d e : Made) → MachPart settings s q at addresses → slice_get s.definitions i ≡ Some d → slice_get s.definitions j ≡ Some e → mach_row settings s d.identifier ≡ mach_row settings s e.identifier → i ≡ j
rows_once settings s q at addresses i j d e part f g same =
    let one = placed-into settings s i d f in
    let two = placed-into settings s j e g in
    let first = placed-stands settings s i one.0 part.settled one.1 in
    let second = placed-stands settings s j two.0 part.settled two.1 in
    let first_number = identifier_number settings s first.place one.0.definition.identifier part.settled.sound first.at in
    let second_number = identifier_number settings s second.place two.0.definition.identifier part.settled.sound second.at in
    let symbols = sym (object_symbols settings s) in
    let rows : mach_row_in (object_of settings s).symbols (suc first.place) ≡ mach_row_in (object_of settings s).symbols (suc second.place) =
    ap (mach_row_in (object_of settings s).symbols) (sym first_number) ∙ ap (λ (x : Made). mach_row settings s x.identifier) one.2 ∙ same ∙ ap (λ (x : Made). mach_row settings s x.identifier) (sym two.2) ∙ ap (mach_row_in (object_of settings s).symbols) second_number in
    let numbers : suc first.place ≡ suc second.place =
    mach-row-once (object_of settings s).symbols (suc first.place) (suc second.place) _ _ (ap (λ xs. slice_get xs (suc first.place)) (sym symbols) ∙ identifier_at settings s first.place one.0.definition.identifier first.at) (ap (λ xs. slice_get xs (suc second.place)) (sym symbols) ∙ identifier_at settings s second.place two.0.definition.identifier second.at)
    (identifier-no-file settings s one.0.definition.identifier first) (identifier-no-file settings s two.0.definition.identifier second) rows in
    let places : first.place ≡ second.place = omega (arith, numbers) in
    let both : Some one.0.definition.identifier ≡ Some two.0.definition.identifier = sym first.at ∙ ap (slice_get s.created) places ∙ second.at in
    let ids : one.0.definition.identifier ≡ two.0.definition.identifier = cc in
    part.settled.once i j d e f g (ap (λ (x : Made). x.identifier) (sym one.2) ∙ ids ∙ ap (λ (x : Made). x.identifier) two.2)

mach_pieces_once : (settings : Settings) (s : LinkState) (q : ℕ) (at : FuncOrDataId → ℕ) (addresses : List AddressRow) (i j : ℕ) (p r : Piece FuncOrDataId) → MachPart settings s q at addresses → slice_get (map (piece_of settings s) s.definitions) i ≡ Some p → slice_get (map (piece_of settings s) s.definitions) j ≡ Some r
    → mach_row settings s p.key ≡ mach_row settings s r.key → i ≡ j
mach_pieces_once settings s q at addresses i j p r part e f same =
    let one = get_map_from (piece_of settings s) s.definitions i p e in
    let two = get_map_from (piece_of settings s) s.definitions j r f in
    rows_once settings s q at addresses i j one.0 two.0 part one.1 two.1 (ap (λ (x : Piece FuncOrDataId). mach_row settings s x.key) one.2 ∙ same ∙ ap (λ (x : Piece FuncOrDataId). mach_row settings s x.key) (sym two.2))

-- the view of a Mach-O part's image shows the part's definitions, where each relocation is of a kind that is applied
pub mach-object-shows : (settings : Settings) (s : LinkState) (q : ℕ) (at : FuncOrDataId → ℕ) (addresses : List AddressRow) → MachPart settings s q at addresses → AreApplied (mach_shown (object_of settings s))
    → ObjectShows (mach_row settings s) at (given addresses q) (pieces_of settings s) (view_pieces addresses q (mach_shown (object_of settings s)))
mach-object-shows settings s q at addresses part applied =
    subst (λ ps. ObjectShows (mach_row settings s) at (given addresses q) ps (view_pieces addresses q (mach_shown (object_of settings s)))) (sym (all_pieces settings s))
    (object-shows (mach_row settings s) at (given addresses q) (map (piece_of settings s) s.definitions) (view_pieces addresses q (mach_shown (object_of settings s))) (λ j v e. each_shown settings s q at addresses j v part applied e) (λ k p e. all_under settings s q at addresses k p part e)
    (λ i j p r e f same. mach_pieces_once settings s q at addresses i j p r part e f same) (pieces-once addresses q (mach_shown (object_of settings s))))
