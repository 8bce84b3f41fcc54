-- The object of a valid Mach-O part is formed, where its labels lie inside their functions; so its files show it.
use Rattle.std.proofs.Common.{◌≡◌, ◌≢◌, ℕ, zero, suc, ◌+◌, ◌%◌, ◌==◌, ◌^◌, ◌<◌, ◌≤◌, List, [], ◌∷◌, length, map, refl, ap, sym, ◌∙◌, arith, eq-eqb, Option, Some, None, Bool, true, false, cond, slice_get, subst, inl, inr}
use Rattle.std.specs.Prelude.{unwrap_or, Result, Ok, Err}
use Rattle.std.specs.List.{All, list_any, enumerate_from}
use Rattle.byte_core.proofs.Lists.{get_append, get_map_from, get_within}
use Rattle.ir_core.specs.Target.{Target}
use Rattle.ir_core.specs.declared.reloc.KnownSymbol.TheVariants.{ElfGlobalOffsetTable, CoffTlsIndex}
use Rattle.ir_core.specs.declared.target.BinaryFormat.{BinaryFormat}
use Rattle.ir_core.specs.declared.target.BinaryFormat.TheVariants.{Macho}
use Rattle.object_core.specs.declared.kinds.StandardSection.{StandardSection}
use Rattle.object_core.specs.declared.kinds.StandardSection.TheVariants.{Text, Data as DataSection, ReadOnlyData, ReadOnlyDataWithRel, UninitializedData, Tls, UninitializedTls}
use Rattle.object_core.specs.declared.kinds.SymbolKind.{SymbolKind}
use Rattle.object_core.specs.declared.kinds.SymbolKind.TheVariants as kind
use Rattle.object_core.specs.declared.relocation.Relocation.{Relocation}
use Rattle.object_core.specs.Appending.{file_symbol}
use Rattle.object_core.specs.Object.{SymbolData, SectionData, ObjectData}
use Rattle.object_core.specs.Places.{end_of, joined}
use Rattle.object_core.specs.WellFormed.{IsFormedSymbol, IsFormedMachSection, IsFormedMachRelocation, PlaceFits, AreApart, has_zero_byte, is_file}
use Rattle.cranelift_module.specs.declared.error.SectionFault.{SectionFault}
use Rattle.cranelift_module.specs.declared.identifiers.FuncOrDataId.{FuncOrDataId}
use Rattle.cranelift_module.specs.declared.identifiers.FuncOrDataId.TheVariants.{Func}
use Rattle.cranelift_module.specs.declared.linkage.Linkage.{Linkage}
use Rattle.cranelift_module.specs.declared.reloc.ModuleReloc.{ModuleReloc}
use Rattle.cranelift_module.specs.Definitions.{Definition}
use Rattle.cranelift_module.specs.LinkState.{LinkState}
use Rattle.cranelift_module.specs.Refusal.{is_same_identifier, text_cause, section_cause, zero_byte, are_bytes, bytes_in}
use Rattle.cranelift_module.specs.SectionText.{SectionText, section_text}
use Rattle.cranelift_object.specs.Linked.{defined_at, named_symbol, identifier_symbol, extra_symbol, label_symbol, symbols_of, section_with, sections_of, members, piece_of, is_unstored_class, object_relocation, relocations_of, row_of, object_of}
use Rattle.cranelift_object.specs.Part.{PartData, part_state}
use Rattle.cranelift_object.specs.Placing.{Placed, placed, sections_used, room_of, extent_of}
use Rattle.cranelift_object.specs.SectionClass.{Class, section_class, class_by_text, standard_class_in, standard_section, has_own_section, own_class, asked_class}
use Rattle.cranelift_object.specs.Settings.{Settings}
use Rattle.cranelift_object.specs.Targets.{RelocationTarget, identifier, library, known, label, target_of, extras}
use Rattle.cranelift_object.proofs.ClassLaws.{used_all, All-slice_get}
use Rattle.cranelift_object.proofs.DefineLaws.{bytes_stored, good_least}
use Rattle.cranelift_object.proofs.FormedLaws.{no_zero, IsGood, good_relocs}
use Rattle.cranelift_object.proofs.FormedMach.{HasMachRoom}
use Rattle.cranelift_object.proofs.Pairs.{Pairwise, pairwise_get, pairwise_flat}
use Rattle.cranelift_object.proofs.PlaceLaws.{places_within}
use Rattle.cranelift_object.proofs.SectionLaws.{joined_length}
use Rattle.cranelift_object.proofs.SectionTexts.{HasRoomFor, text_room}
use Rattle.cranelift_object.proofs.ShownLaws.{is_of_identifier}
use Rattle.cranelift_object.proofs.TargetLaws.{IsHad}
use Rattle.image_place.specs.Laws.{HaveInnerLabels, AreMacho}
use Rattle.image_place.specs.ObjectFile.{part_object}
use Rattle.image_place.specs.Related.{IsPart}
use Rattle.image_place.proofs.Accepted.{definition-accepted}
use Rattle.image_place.proofs.Collected.{numbered-from, found-some}
use Rattle.image_place.proofs.ElfDefinitions.{object_symbols}
use Rattle.image_place.proofs.ElfLaw.{state_target, object_architecture, part-settled}
use Rattle.image_place.proofs.ElfSections.{ArePlainBodies, section-there, each_all}
use Rattle.image_place.proofs.FileFormats.{FileShows}
use Rattle.image_place.proofs.MachAccepted.{definition-body}
use Rattle.image_place.proofs.MachDefinitions.{identifier-no-file, extra-no-file}
use Rattle.image_place.proofs.MachExtras.{IsTargetOf, extra-from, label-small}
use Rattle.image_place.proofs.MachFields.{IsMachTarget, HasRow, mach-formed-relocation, own_relocations, mach-own-apart, mach-across}
use Rattle.image_place.proofs.MachFiles.{AreFormed, mach-file-shows}
use Rattle.image_place.proofs.MachSections.{flat-from}
use Rattle.image_place.proofs.FileStanding.{member-from, ascend-apart, member-end}
use Rattle.image_place.proofs.StandingLaws.{members-ascend}
use Rattle.image_place.proofs.FileSymbols.{definitions_placed, placed-from, position-there, defined-from, created-stands, declared-created, target_symbol, target-symbol}
use Rattle.image_place.proofs.FileTexts.{symbol_free, map_all}

some_same : {A : Type 0} (x y : A) → Some x ≡ Some y → x ≡ y
some_same x y e = cc

-- -- definitions

plain_bodies : (part : PartData) → IsPart part → ArePlainBodies (part_state part)
plain_bodies part h k d e = (definition-accepted part h.valid k d e).plain

-- a definition lies in a section of the object, within what was asked for
abbrev IsWithin : ObjectData → Placed → Type 0
IsWithin o p = (p.section < length o.sections) × (p.offset ≤ o.content_sum)

least_aligned : (part : PartData) → IsPart part → AreMacho part → All (λ (d : Definition). 1 ≤ d.align) (part_state part).definitions
least_aligned part h macho = each_all (λ (d : Definition). 1 ≤ d.align) (part_state part).definitions (λ k d e. good_least d.align (definition-body part h macho k d e).body.aligned)

placed_below : (part : PartData) → IsPart part → AreMacho part → (k : ℕ) (p : Placed) → slice_get (placed part.settings (part_state part)) k ≡ Some p → p.offset ≤ (part_object part).content_sum
unfolding placed object_of
placed_below part h macho k p e =
    let s = part_state part in
    let asked : Placed → Type 0 = λ x. x.offset ≤ (part_object part).content_sum in
    let all : All asked (placed part.settings s) = places_within part.settings s s.definitions (least_aligned part h macho) in
    All-slice_get asked (placed part.settings s) k p all e

placed_within : (part : PartData) → IsPart part → AreMacho part → (k : ℕ) (p : Placed) → slice_get (placed part.settings (part_state part)) k ≡ Some p → IsWithin (part_object part) p
placed_within part h macho k p e = (get_within (part_object part).sections p.section _ (section-there part.settings (part_state part) k p (plain_bodies part h) e), placed_below part h macho k p e)

-- -- symbols

-- where a symbol lies, and its value
record IsFitting (o : ObjectData) (x : SymbolData) : Type 0 where
  place : PlaceFits o x.kind x.section
  value : x.value ≤ o.content_sum + 4294967295

named_fits : (o : ObjectData) (format : BinaryFormat) (name : List ℕ) (linkage : Linkage) (k : SymbolKind) (at : Option Placed) → is_of_identifier k ≡ true → ((p : Placed) → at ≡ Some p → IsWithin o p) → IsFitting o (named_symbol format name linkage k at)
named_fits o format name linkage kind.Text None own within = record { place = tt; value = omega arith }
named_fits o format name linkage kind.Data None own within = record { place = tt; value = omega arith }
named_fits o format name linkage kind.Tls None own within = record { place = tt; value = omega arith }
named_fits o format name linkage kind.Text (Some p) own within = let inside = within p refl in record { place = inside.0; value = omega (arith, inside.1) }
named_fits o format name linkage kind.Data (Some p) own within = let inside = within p refl in record { place = inside.0; value = omega (arith, inside.1) }
named_fits o format name linkage kind.Tls (Some p) own within = let inside = within p refl in record { place = inside.0; value = omega (arith, inside.1) }
named_fits o format name linkage kind.Label at own within = absurd (cc)
named_fits o format name linkage kind.File at own within = absurd (cc)

defined_within : (part : PartData) (id : FuncOrDataId) (p : Placed) → IsPart part → AreMacho part → defined_at (placed part.settings (part_state part)) id ≡ Some p → IsWithin (part_object part) p
defined_within part id p h macho e = let there = defined-from part.settings (part_state part) id p e in placed_within part h macho there.number p there.here

identifier_fits : (part : PartData) (r : ℕ) (id : FuncOrDataId) → IsPart part → AreMacho part → slice_get (part_state part).created r ≡ Some id → IsFitting (part_object part) (identifier_symbol (part_state part) (placed part.settings (part_state part)) id)
identifier_fits part r id h macho e =
    let s = part_state part in
    let ps = placed part.settings s in
    let stands = created-stands part.settings s r id (part-settled part h) e in
    let fits = named_fits (part_object part) s.target.triple.binary_format stands.name stands.linkage stands.symbol_kind (defined_at ps id) stands.of_identifier (λ p at. defined_within part id p h macho at) in
    subst (IsFitting (part_object part)) (sym stands.symbol) fits

label_fits : (o : ObjectData) (function offset : ℕ) (at : Option Placed) (p : Placed) → at ≡ Some p → IsWithin o p → offset < 2 ^ 32 → IsFitting o (label_symbol function offset at)
label_fits o function offset at p e within small = rw e (record { place = within.0; value = omega (arith, within.1, small) })

defined_found : (ps : List Placed) (id : FuncOrDataId) → list_any (λ (d : Definition). is_same_identifier id d.identifier) (map (λ (p : Placed). p.definition) ps) ≡ true → (q : Placed) × (defined_at ps id ≡ Some q)
defined_found ps id h =
    let found = position-there (λ (d : Definition). is_same_identifier id d.identifier) (map (λ (p : Placed). p.definition) ps) h in
    let from = get_map_from (λ (p : Placed). p.definition) ps _ found.0 found.1 in
    let is = found-some (λ (p : Placed). is_same_identifier id p.definition.identifier) ps _ from.0 from.1 (ap (λ (d : Definition). is_same_identifier id d.identifier) from.2 ∙ found.2) in
    (is.element, is.is)

extra_fits : (parts : List PartData) (q : ℕ) (part : PartData) (t : RelocationTarget) → HaveInnerLabels parts → slice_get parts q ≡ Some part → IsPart part → AreMacho part → IsTargetOf part.settings (part_state part) t
    → IsFitting (part_object part) (extra_symbol (placed part.settings (part_state part)) t)
extra_fits parts q part (identifier id) labels here h macho from = record { place = tt; value = omega arith }
extra_fits parts q part (library text) labels here h macho from = record { place = tt; value = omega arith }
extra_fits parts q part (known ElfGlobalOffsetTable) labels here h macho from = record { place = tt; value = omega arith }
extra_fits parts q part (known CoffTlsIndex) labels here h macho from = record { place = tt; value = omega arith }
extra_fits parts q part (label function offset) labels here h macho from =
    let s = part_state part in
    let ps = placed part.settings s in
    let had : IsHad s (label function offset) = subst (IsHad s) from.is (target-symbol part.settings s from.place from.number from.definition from.relocation (part-settled part h) from.at from.there).had in
    let found = defined_found ps (Func function) (ap (list_any (λ (d : Definition). is_same_identifier (Func function) d.identifier)) (definitions_placed part.settings s) ∙ had.1) in
    label_fits (part_object part) function offset (defined_at ps (Func function)) found.0 found.1 (defined_within part (Func function) found.0 h macho found.1) (label-small parts q part function offset labels here h macho from)

front_fits : (part : PartData) (n : ℕ) (x : SymbolData) → IsPart part → AreMacho part → slice_get (file_symbol part.settings.file_name ∷ map (identifier_symbol (part_state part) (placed part.settings (part_state part))) (part_state part).created) n ≡ Some x → IsFitting (part_object part) x
front_fits part zero x h macho e = subst (IsFitting (part_object part)) (some_same (file_symbol part.settings.file_name) x e) (record { place = tt; value = omega arith })
front_fits part (suc r) x h macho e =
    let s = part_state part in
    let from = get_map_from (identifier_symbol s (placed part.settings s)) s.created r x e in
    subst (IsFitting (part_object part)) from.2 (identifier_fits part r from.0 h macho from.1)

symbol_fits : (parts : List PartData) (q : ℕ) (part : PartData) (n : ℕ) (x : SymbolData) → HaveInnerLabels parts → slice_get parts q ≡ Some part → IsPart part → AreMacho part → slice_get (symbols_of part.settings (part_state part) (placed part.settings (part_state part))) n ≡ Some x
    → IsFitting (part_object part) x
unfolding symbols_of
symbol_fits parts q part n x labels here h macho e =
    let s = part_state part in
    let ps = placed part.settings s in
    elim (get_append (file_symbol part.settings.file_name ∷ map (identifier_symbol s ps) s.created) (map (extra_symbol ps) (extras part.settings s)) n x e) [
      | inl front ↦ front_fits part n x h macho front
      | inr behind ↦
          (
          let from = get_map_from (extra_symbol ps) (extras part.settings s) behind.0 x behind.2 in
          subst (IsFitting (part_object part)) from.2 (extra_fits parts q part from.0 labels here h macho (extra-from part.settings s behind.0 from.0 from.1))
          )
    ]

formed_symbol : (parts : List PartData) (q : ℕ) (part : PartData) → HaveInnerLabels parts → slice_get parts q ≡ Some part → IsPart part → AreMacho part → (n : ℕ) (x : SymbolData) → slice_get (part_object part).symbols n ≡ Some x → IsFormedSymbol (part_object part) x
formed_symbol parts q part labels here h macho n x e =
    let there = ap (λ xs. slice_get xs n) (sym (object_symbols part.settings (part_state part))) ∙ e in
    let fits = symbol_fits parts q part n x labels here h macho there in
    record { name = symbol_free part h.valid (part-settled part h) n x there; place = fits.place; value = fits.value }

-- -- sections

standard_room : (standard : StandardSection) (own used : Bool) → HasMachRoom (standard_class_in Macho standard own used)
standard_room Text own used = record { segment_free = refl; name_free = refl; segment_room = omega arith; name_room = omega arith; flags = refl }
standard_room DataSection own used = record { segment_free = refl; name_free = refl; segment_room = omega arith; name_room = omega arith; flags = refl }
standard_room ReadOnlyData own used = record { segment_free = refl; name_free = refl; segment_room = omega arith; name_room = omega arith; flags = refl }
standard_room ReadOnlyDataWithRel own used = record { segment_free = refl; name_free = refl; segment_room = omega arith; name_room = omega arith; flags = refl }
standard_room UninitializedData own used = record { segment_free = refl; name_free = refl; segment_room = omega arith; name_room = omega arith; flags = refl }
standard_room Tls own used = record { segment_free = refl; name_free = refl; segment_room = omega arith; name_room = omega arith; flags = refl }
standard_room UninitializedTls own used = record { segment_free = refl; name_free = refl; segment_room = omega arith; name_room = omega arith; flags = refl }

own_room : (d : Definition) (retain : Bool) (asked : SectionText) → HasRoomFor asked → HasMachRoom (own_class d retain asked)
own_room d retain asked h = record { segment_free = h.segment_free; name_free = h.name_free; segment_room = h.segment_room; name_room = h.name_room; flags = h.flags }

asked_room : (d : Definition) (retain : Bool) (text : List ℕ) (asked : Result SectionText SectionFault) → section_text Macho text ≡ asked → has_zero_byte text ≡ false → text_cause (Some d.contents) asked ≡ None → HasMachRoom (asked_class d retain text asked)
asked_room d retain text (Ok asked) e free given = own_room d retain asked (text_room text asked free e)
asked_room d retain text (Err fault) e free given = absurd (cc)

room_by : (settings : Settings) (s : LinkState) (d : Definition) (text : Option (List ℕ)) → s.target.triple.binary_format ≡ Macho → zero_byte (unwrap_or text []) ≡ None → section_cause Macho (Some d.contents) text ≡ None → HasMachRoom (class_by_text settings s d text)
room_by settings s d None mach free given = rw mach (standard_room (standard_section s d d.identifier) (has_own_section settings d d.identifier) d.used)
room_by settings s d (Some text) mach free given = rw mach (asked_room d false text (section_text Macho text) refl (no_zero text free) given)

state_macho : (part : PartData) → IsPart part → AreMacho part → IsMachTarget (part_state part)
state_macho part h macho = record { format = ap (λ (t : Target). t.triple.binary_format) (state_target part.target part.calls) ∙ macho; architecture = ap (λ (t : Target). t.triple.architecture) (state_target part.target part.calls) ∙ h.architecture }

class_room : (part : PartData) → IsPart part → AreMacho part → (k : ℕ) (d : Definition) → slice_get (part_state part).definitions k ≡ Some d → HasMachRoom (section_class part.settings (part_state part) d)
class_room part h macho k d e =
    let s = part_state part in
    let body = (definition-body part h macho k d e).body in
    let format = (state_macho part h macho).format in
    room_by part.settings s d d.section format body.text (subst (λ f. section_cause f (Some d.contents) d.section ≡ None) format body.section)

-- the section of this number
record IsOfClass (part : PartData) (k : ℕ) (x : SectionData) : Type 0 where
  class : Class
  room : HasMachRoom class
  is : section_with part.settings (part_state part) class (members (placed part.settings (part_state part)) k) ≡ x

section_of : (part : PartData) → IsPart part → AreMacho part → (k : ℕ) (x : SectionData) → slice_get (part_object part).sections k ≡ Some x → IsOfClass part k x
unfolding object_of sections_of
section_of part h macho k x e =
    let s = part_state part in
    let ps = placed part.settings s in
    let classes = map (λ (p : Placed). section_class part.settings s p.definition) ps in
    let from = get_map_from (λ (c : ℕ × Class). section_with part.settings s c.1 (members ps c.0)) (enumerate_from 0 (sections_used classes)) k x e in
    let there = numbered-from 0 (sections_used classes) k from.0 from.1 in
    let rooms = used_all HasMachRoom classes (map_all HasMachRoom (λ (p : Placed). section_class part.settings s p.definition) ps (λ j p at. class_room part h macho j p.definition (placed-from part.settings s j p at))) in
    let number : from.0.0 ≡ k = omega (arith, there.0) in
    record { class = from.0.1; room = All-slice_get HasMachRoom (sections_used classes) k from.0.1 rooms there.1; is = ap (λ n. section_with part.settings s from.0.1 (members ps n)) (sym number) ∙ from.2 }

-- -- relocations

target_no_file : (part : PartData) (t : RelocationTarget) → IsPart part → IsHad (part_state part) t → is_file (target_symbol part.settings (part_state part) t).kind ≡ false
target_no_file part (identifier id) h had =
    let s = part_state part in
    let at = declared-created s id (part-settled part h).sound had in
    identifier-no-file part.settings s id (created-stands part.settings s at.0 id (part-settled part h) at.1)
target_no_file part (library text) h had = refl
target_no_file part (known symbol) h had = extra-no-file (placed part.settings (part_state part)) (known symbol)
target_no_file part (label function offset) h had = refl

has_row : (part : PartData) → IsPart part → (k n : ℕ) (d : Definition) (r : ModuleReloc) → slice_get (part_state part).definitions k ≡ Some d → slice_get d.relocs n ≡ Some r → HasRow part.settings (part_state part) (part_object part) r
has_row part h k n d r at there =
    let s = part_state part in
    let t = target_of part.settings s r.name in
    let has = target-symbol part.settings s k n d r (part-settled part h) at there in
    (target_symbol part.settings s t, ap (λ xs. slice_get xs (row_of part.settings s t)) (object_symbols part.settings s) ∙ has.here, target_no_file part t h has.had)

stored_long : (settings : Settings) (s : LinkState) (class : Class) (ps : List Placed) → is_unstored_class s class ≡ false → length (section_with settings s class ps).contents ≡ end_of (map (λ (x : Placed). extent_of s x.definition) ps)
stored_long settings s class ps stored = ap (λ b. length (cond b [] (joined (map (λ (p : Placed). piece_of s p.definition) ps)))) stored ∙ joined_length s ps

-- the bytes of a definition lie in those of its section
bytes_within : (part : PartData) → IsPart part → AreMacho part → (k i : ℕ) (x : SectionData) (p : Placed) → slice_get (part_object part).sections k ≡ Some x → slice_get (members (placed part.settings (part_state part)) k) i ≡ Some p → are_bytes (Some p.definition.contents) ≡ true
    → p.offset + room_of (part_state part) p.definition ≤ length x.contents
bytes_within part h macho k i x p e at given =
    let s = part_state part in
    let ps = placed part.settings s in
    let member = member-from part.settings s k i p at in
    let class = section_class part.settings s p.definition in
    let home : section_with part.settings s class (members ps k) ≡ x =
    some_same _ x (ap (λ n. Some (section_with part.settings s class (members ps n))) (sym member.section) ∙ sym (section-there part.settings s member.number p (plain_bodies part h) member.here) ∙ ap (slice_get (part_object part).sections) member.section ∙ e) in
    let body = (definition-body part h macho member.number p.definition (placed-from part.settings s member.number p member.here)).body in
    let long = stored_long part.settings s class (members ps k) (bytes_stored part.settings s p.definition given body.section) in
    omega (arith, member-end part.settings s k i p at, long, ap (λ (y : SectionData). length y.contents) home)

formed_relocation : (part : PartData) → IsPart part → AreMacho part → (k : ℕ) (x : SectionData) → slice_get (part_object part).sections k ≡ Some x → (m : ℕ) (r : Relocation) → slice_get (relocations_of part.settings (part_state part) (members (placed part.settings (part_state part)) k)) m ≡ Some r
    → IsFormedMachRelocation (part_object part) x r
formed_relocation part h macho k x e m r there =
    let s = part_state part in
    let flat = flat-from (own_relocations part.settings s) (members (placed part.settings s) k) m r there in
    let p = flat.element in
    let from = get_map_from (object_relocation part.settings s p.offset) p.definition.relocs flat.inner r flat.there in
    let member = member-from part.settings s k flat.outer p flat.here in
    let at = placed-from part.settings s member.number p member.here in
    let judged = (definition-accepted part h.valid member.number p.definition at).judged in
    let good = All-slice_get (IsGood s.target (bytes_in p.definition.contents)) p.definition.relocs flat.inner from.0 (good_relocs s.target (bytes_in p.definition.contents) [] p.definition.relocs judged) from.1 in
    subst (IsFormedMachRelocation (part_object part) x) from.2
    (mach-formed-relocation part.settings s (part_object part) x p from.0 (state_macho part h macho) (object_architecture part ∙ h.architecture) (bytes_within part h macho k flat.outer x p e flat.here) good (has_row part h member.number flat.inner p.definition from.0 at from.1))

pairwise_from : {A : Type 0} (R : A → A → Type 0) (xs : List A) → ((i j : ℕ) (x y : A) → i < j → slice_get xs i ≡ Some x → slice_get xs j ≡ Some y → R x y) → Pairwise R xs
pairwise_from R [] h = tt
pairwise_from R (x ∷ xs) h = (each_all (R x) xs (λ k y e. h 0 (suc k) x y (omega arith) refl e), pairwise_from R xs (λ i j y z less e f. h (suc i) (suc j) y z (omega (arith, less)) e f))

relocations_apart : (part : PartData) → IsPart part → AreMacho part → (k : ℕ) → Pairwise AreApart (relocations_of part.settings (part_state part) (members (placed part.settings (part_state part)) k))
relocations_apart part h macho k =
    let s = part_state part in
    let own = own_relocations part.settings s in
    let ps = members (placed part.settings s) k in
    let target = state_macho part h macho in
    let judged = λ (i : ℕ) (p : Placed) (e : slice_get ps i ≡ Some p). (let member = member-from part.settings s k i p e in (definition-accepted part h.valid member.number p.definition (placed-from part.settings s member.number p member.here)).judged) in
    pairwise_flat AreApart own ps (each_all (λ p. Pairwise AreApart (own p)) ps (λ i p e. mach-own-apart part.settings s p target (judged i p e)))
    (pairwise_from (λ p q. All (λ a. All (AreApart a) (own q)) (own p)) ps (λ i j p q less e f. mach-across part.settings s p q target (judged i p e) (ascend-apart s 0 ps i j p q (members-ascend part.settings s k) e f less)))

not_equal : (n m : ℕ) → (n == m) ≡ false → n ≢ m
not_equal n m h e = let k : true ≡ false = sym (eq-eqb n m e) ∙ h in absurd (cc)

formed_section : (part : PartData) → IsPart part → AreMacho part → (k : ℕ) (x : SectionData) → slice_get (part_object part).sections k ≡ Some x → IsFormedMachSection (part_object part) x
formed_section part h macho k x e =
    let s = part_state part in
    let ps = members (placed part.settings s) k in
    let of = section_of part h macho k x e in
    let listed : relocations_of part.settings s ps ≡ x.relocations = ap (λ (y : SectionData). y.relocations) of.is in
    record {
      segment = ap (λ (y : SectionData). has_zero_byte y.segment) (sym of.is) ∙ of.room.segment_free;
      name = ap (λ (y : SectionData). has_zero_byte y.name) (sym of.is) ∙ of.room.name_free;
      segment_room = omega (arith, of.room.segment_room, ap (λ (y : SectionData). length y.segment) of.is);
      name_room = omega (arith, of.room.name_room, ap (λ (y : SectionData). length y.name) of.is);
      kind = not_equal (x.macho_flags % 256) 0xc (ap (λ (y : SectionData). y.macho_flags % 256 == 0xc) (sym of.is) ∙ of.room.flags);
      relocations = λ m r found. formed_relocation part h macho k x e m r (ap (λ rs. slice_get rs m) listed ∙ found);
      apart = λ m n r q below a b. pairwise_get AreApart x.relocations m n r q (subst (Pairwise AreApart) listed (relocations_apart part h macho k)) below a b;
    }

-- -- the whole

pub are-formed : AreFormed
are-formed parts q part labels here h macho = record { symbols = formed_symbol parts q part labels here h macho; sections = formed_section part h macho }

-- the files of valid Mach-O parts show them
pub mach-files-show : FileShows AreMacho
mach-files-show = mach-file-shows are-formed
