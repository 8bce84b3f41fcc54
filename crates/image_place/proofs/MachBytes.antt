-- The relocations of a Mach-O part's sections in its view, and the bytes of its definitions there.
use Rattle.std.proofs.Common.{◌≡◌, ℕ, suc, ◌+◌, ◌-◌, ◌<◌, ◌≤◌, ◌⊎◌, inl, inr, List, [], ◌∷◌, ◌++◌, length, map, refl, ap, sym, ◌∙◌, arith, Some, slice_get}
use Rattle.std.proofs.lemmas.List.{map-append}
use Rattle.byte_core.proofs.Lists.{get_map, get_map_from}
use Rattle.ir_core.specs.declared.reloc.Reloc.{Reloc}
use Rattle.ir_core.specs.declared.target.Architecture.{Architecture}
use Rattle.ir_core.specs.declared.target.Architecture.TheVariants.{X86_64}
use Rattle.ir_core.specs.declared.target.BinaryFormat.{BinaryFormat}
use Rattle.ir_core.specs.declared.target.BinaryFormat.TheVariants.{Macho}
use Rattle.object_core.specs.declared.relocation.Relocation.{Relocation}
use Rattle.object_core.specs.LinkTable.{MachRelocation}
use Rattle.object_core.specs.MachRows.{section_number_in, mach_relocation, mach_row_in, mach_type_of}
use Rattle.object_macho.specs.Layout.{field_width, record_for}
use Rattle.cranelift_module.specs.declared.identifiers.FuncOrDataId.{FuncOrDataId}
use Rattle.cranelift_module.specs.declared.reloc.ModuleReloc.{ModuleReloc}
use Rattle.cranelift_module.specs.Definitions.{Definition as Made, size_of}
use Rattle.cranelift_module.specs.LinkState.{LinkState}
use Rattle.cranelift_module.specs.Refusal.{bytes_in}
use Rattle.cranelift_object.specs.Settings.{Settings}
use Rattle.cranelift_object.specs.Placing.{Placed, placed}
use Rattle.cranelift_object.specs.Targets.{target_of}
use Rattle.cranelift_object.specs.Linked.{object_of, row_of, relocations_of, object_relocation, relocation_flags, members}
use Rattle.cranelift_object.proofs.ClassLaws.{All-slice_get}
use Rattle.cranelift_object.proofs.FormedLaws.{IsGood, good_relocs, field_bytes}
use Rattle.image_view.specs.declared.kind.FixKind.{FixKind}
use Rattle.image_view.specs.declared.kind.FixKind.TheVariants.{Absolute8, Absolute4, Relative4}
use Rattle.image_view.specs.declared.view.ViewReloc.{ViewReloc}
use Rattle.image_place.specs.declared.rows.DefAddress.{DefAddress as AddressRow}
use Rattle.image_place.specs.Fixups.{fix_width, Patch}
use Rattle.image_place.specs.Memory.{fix_kind, fixup_of}
use Rattle.image_place.specs.Shares.{Pairs}
use Rattle.image_place.specs.Shown.{HasField, Outside}
use Rattle.image_view.specs.View.{ViewSection, mach_kind}
use Rattle.image_place.proofs.RangeLaws.{moved, moved_all, FieldsInside}
use Rattle.image_place.proofs.Applied.{AreApplied}
use Rattle.image_place.proofs.FileRanges.{width-kept, LieIn}
use Rattle.image_place.proofs.Showing.{pairs_left}
use Rattle.image_place.proofs.FileSymbols.{placed-from, among-flat}
use Rattle.image_place.proofs.FileStanding.{member-into, member-from, one-there, standing_at}
use Rattle.image_place.proofs.ElfSections.{home_of, section-there}
use Rattle.image_place.proofs.ElfPieces.{some_there}
use Rattle.image_place.proofs.MachKinds.{mach-kinds}
use Rattle.image_place.proofs.MachAddends.{IsApplied, applied-form}
use Rattle.image_place.proofs.MachSymbols.{mach_shown}
use Rattle.image_place.proofs.MachSections.{mach_section_shown, mach-section-into, mach_reloc_shown, IsOfKind, mach-relocations, mach-kind-shown, flat-from}
use Rattle.image_place.proofs.MachDefinitions.{MachPart}

-- what the view shows of the section of a placed definition
abbrev pub mach_home : Settings → LinkState → Placed → ViewSection
mach_home settings s p = mach_section_shown (object_of settings s) p.section (home_of settings s p)

object_machine : (settings : Settings) (s : LinkState) → (object_of settings s).architecture ≡ s.target.triple.architecture
unfolding object_of
object_machine settings s = refl

pub home-there : (settings : Settings) (s : LinkState) (q : ℕ) (at : FuncOrDataId → ℕ) (addresses : List AddressRow) (k : ℕ) (p : Placed) → MachPart settings s q at addresses → slice_get (placed settings s) k ≡ Some p
    → slice_get (mach_shown (object_of settings s)).sections (section_number_in (object_of settings s).sections p.section) ≡ Some (mach_home settings s p)
home-there settings s q at addresses k p part e = mach-section-into (object_of settings s) p.section (home_of settings s p) (object_machine settings s ∙ part.machine) (section-there settings s k p part.plain e)

-- -- kinds

-- what the view shows of a relocation, by its offset in its definition
abbrev pub mach_reloc_view : Settings → LinkState → ModuleReloc → ViewReloc
mach_reloc_view settings s r =
    let flags = relocation_flags s.target.triple.binary_format s.target.triple.architecture r.kind in
    record {
      offset = r.offset;
      symbol = mach_row_in (object_of settings s).symbols (row_of settings s (target_of settings s r.name));
      kind = mach_kind (record_for (mach_relocation (object_of settings s).symbols (object_relocation settings s 0 r)));
      number = mach_type_of flags;
      addend = r.addend;
    }

abbrev pub mach_relocs_view : Settings → LinkState → Placed → List ViewReloc
mach_relocs_view settings s p = map (mach_reloc_view settings s) p.definition.relocs

flags_are : (s : LinkState) (kind : Reloc) → s.target.triple.binary_format ≡ Macho → s.target.triple.architecture ≡ X86_64 → relocation_flags s.target.triple.binary_format s.target.triple.architecture kind ≡ relocation_flags Macho X86_64 kind
flags_are s kind e f = ap (λ (b : BinaryFormat). relocation_flags b s.target.triple.architecture kind) e ∙ ap (λ (a : Architecture). relocation_flags Macho a kind) f

pub mach-kind-at : (settings : Settings) (s : LinkState) (r : ModuleReloc) → s.target.triple.binary_format ≡ Macho → s.target.triple.architecture ≡ X86_64 → (mach_reloc_view settings s r).kind ≡ fix_kind s.target.triple.binary_format r.kind
mach-kind-at settings s r e f =
    mach-kinds r.kind (object_of settings s).symbols (object_relocation settings s 0 r) (flags_are s r.kind e f) ∙ ap (λ (b : BinaryFormat). fix_kind b r.kind) (sym e)

-- where a relocation of a section comes from
pub record IsOfMember (settings : Settings) (s : LinkState) (section : ℕ) (r : Relocation) : Type 0 where
  pub number : ℕ
  pub place : Placed
  pub here : slice_get (placed settings s) number ≡ Some place
  pub section_is : place.section ≡ section
  pub inner : ℕ
  pub reloc : ModuleReloc
  pub there : slice_get place.definition.relocs inner ≡ Some reloc
  pub is : object_relocation settings s place.offset reloc ≡ r
  pub applied : FixKind
  pub kind : fix_kind Macho reloc.kind ≡ Some applied
  pub flags : r.flags ≡ relocation_flags Macho X86_64 reloc.kind

pub relocation-from : (settings : Settings) (s : LinkState) (q : ℕ) (at : FuncOrDataId → ℕ) (addresses : List AddressRow) (k : ℕ) (p : Placed) → MachPart settings s q at addresses → AreApplied (mach_shown (object_of settings s)) → slice_get (placed settings s) k ≡ Some p
    → (m : ℕ) (r : Relocation) → slice_get (home_of settings s p).relocations m ≡ Some r → IsOfMember settings s p.section r
relocation-from settings s q at addresses k p part applied e m r f =
    let o = object_of settings s in
    let from = flat-from (λ (x : Placed). map (object_relocation settings s x.offset) x.definition.relocs) (members (placed settings s) p.section) m r f in
    let one = get_map_from (object_relocation settings s from.element.offset) from.element.definition.relocs from.inner r from.there in
    let member = member-from settings s p.section from.outer from.element from.here in
    let there = mach-kind-shown o p.section (home_of settings s p) m r f in
    let some = some_there there.0.kind (applied (section_number_in o.sections p.section) m (mach_home settings s p) there.0 (home-there settings s q at addresses k p part e) there.1) in
    let flags : r.flags ≡ relocation_flags Macho X86_64 one.0.kind = ap (λ (x : Relocation). x.flags) (sym one.2) ∙ flags_are s one.0.kind part.macho part.machine in
    record {
      number = member.number;
      place = from.element;
      here = member.here;
      section_is = member.section;
      inner = from.inner;
      reloc = one.0;
      there = one.1;
      is = one.2;
      applied = some.0;
      kind = sym (mach-kinds one.0.kind o.symbols r flags) ∙ sym there.2 ∙ some.1;
      flags = flags;
    }

of_kind : (settings : Settings) (s : LinkState) (section : ℕ) (r : Relocation) → IsOfMember settings s section r → IsOfKind r
of_kind settings s section r of = record { kind = of.reloc.kind; applied = of.applied; flags = of.flags; is = of.kind }

-- -- relocations

relocs_one : (settings : Settings) (s : LinkState) (offset : ℕ) (rs : List ModuleReloc) → map (mach_reloc_shown (object_of settings s)) (map (object_relocation settings s offset) rs) ≡ map (moved offset) (map (mach_reloc_view settings s) rs)
relocs_one settings s offset [] = refl
relocs_one settings s offset (r ∷ rs) = ap (λ xs. moved offset (mach_reloc_view settings s r) ∷ xs) (relocs_one settings s offset rs)

relocs_all : (settings : Settings) (s : LinkState) (start : ℕ) (ps : List Placed) → map (mach_reloc_shown (object_of settings s)) (relocations_of settings s ps) ≡ moved_all start (map (standing_at start (mach_relocs_view settings s)) ps)
relocs_all settings s start [] = refl
relocs_all settings s start (p ∷ ps) =
    let distance : p.offset ≡ start + p.offset - start = omega arith in
    rw (map-append, relocs_one settings s p.offset p.definition.relocs, relocs_all settings s start ps) (ap (λ n. map (moved n) (mach_relocs_view settings s p) ++ moved_all start (map (standing_at start (mach_relocs_view settings s)) ps)) distance)

-- the view shows the relocations of a section's definitions, with their addends
pub home-relocations : (settings : Settings) (s : LinkState) (q : ℕ) (at : FuncOrDataId → ℕ) (addresses : List AddressRow) (k start : ℕ) (p : Placed) → MachPart settings s q at addresses → AreApplied (mach_shown (object_of settings s)) → slice_get (placed settings s) k ≡ Some p
    → (mach_home settings s p).relocations ≡ moved_all start (map (standing_at start (mach_relocs_view settings s)) (members (placed settings s) p.section))
home-relocations settings s q at addresses k start p part applied e =
    mach-relocations (object_of settings s) p.section (home_of settings s p) (object_machine settings s ∙ part.machine) part.formed (section-there settings s k p part.plain e) (λ m r f. of_kind settings s p.section r (relocation-from settings s q at addresses k p part applied e m r f))
    ∙ relocs_all settings s start (members (placed settings s) p.section)

-- -- fields

pub mach-lie-in : (settings : Settings) (s : LinkState) (q : ℕ) (at : FuncOrDataId → ℕ) (addresses : List AddressRow) (k : ℕ) (d : Made) → MachPart settings s q at addresses → slice_get s.definitions k ≡ Some d → LieIn (size_of d.contents) d.relocs
mach-lie-in settings s q at addresses k d part e n r f = (field_bytes d.contents r (All-slice_get (IsGood s.target (bytes_in d.contents)) d.relocs n r (good_relocs s.target (bytes_in d.contents) [] d.relocs (part.judged k d e)) f).field).1

applied_at : (settings : Settings) (s : LinkState) (q : ℕ) (at : FuncOrDataId → ℕ) (addresses : List AddressRow) (k n : ℕ) (p : Placed) (r : ModuleReloc) → MachPart settings s q at addresses → AreApplied (mach_shown (object_of settings s)) → slice_get (placed settings s) k ≡ Some p → slice_get p.definition.relocs n ≡ Some r
    → (kind : FixKind) × ((mach_reloc_view settings s r).kind ≡ Some kind)
applied_at settings s q at addresses k n p r part applied e f =
    let member = member-into settings s p.section k p e refl in
    let among = among-flat (λ (x : Placed). map (object_relocation settings s x.offset) x.definition.relocs) (members (placed settings s) p.section) member.number n p (object_relocation settings s p.offset r) member.here (get_map (object_relocation settings s p.offset) p.definition.relocs n r f) in
    let of = relocation-from settings s q at addresses k p part applied e among.number (object_relocation settings s p.offset r) among.here in
    (of.applied, mach-kinds of.reloc.kind (object_of settings s).symbols (object_relocation settings s p.offset r) of.flags ∙ of.kind)

inside_by : (settings : Settings) (s : LinkState) (size : ℕ) (rs : List ModuleReloc) → LieIn size rs → ((n : ℕ) (r : ModuleReloc) → slice_get rs n ≡ Some r → (mach_reloc_view settings s r).kind ≡ fix_kind s.target.triple.binary_format r.kind)
    → ((n : ℕ) (r : ModuleReloc) → slice_get rs n ≡ Some r → (kind : FixKind) × ((mach_reloc_view settings s r).kind ≡ Some kind)) → FieldsInside size (map (mach_reloc_view settings s) rs)
inside_by settings s size [] lie kinds applied = tt
inside_by settings s size (r ∷ rs) lie kinds applied =
    let kind = applied 0 r refl in
    let width = width-kept s.target.triple.binary_format r.kind kind.0 (sym (kinds 0 r refl) ∙ kind.1) in
    ((kind.0, kind.1, omega (arith, width, lie 0 r refl)), inside_by settings s size rs (λ n. lie (suc n)) (λ n. kinds (suc n)) (λ n. applied (suc n)))

pub mach-fields-inside : (settings : Settings) (s : LinkState) (q : ℕ) (at : FuncOrDataId → ℕ) (addresses : List AddressRow) (k : ℕ) (p : Placed) → MachPart settings s q at addresses → AreApplied (mach_shown (object_of settings s)) → slice_get (placed settings s) k ≡ Some p
    → FieldsInside (size_of p.definition.contents) (mach_relocs_view settings s p)
mach-fields-inside settings s q at addresses k p part applied e =
    inside_by settings s (size_of p.definition.contents) p.definition.relocs (mach-lie-in settings s q at addresses k p.definition part (placed-from settings s k p e)) (λ n r f. mach-kind-at settings s r part.macho part.machine) (λ n r f. applied_at settings s q at addresses k n p r part applied e f)

width_by : (k : FixKind) (r : MachRelocation) → IsApplied k r → field_width r ≡ fix_width k
width_by Absolute8 r form = rw form.length_is refl
width_by Absolute4 r form = rw form.length_is refl
width_by Relative4 r form = rw form.length_is refl

place_case : (p o w : ℕ) → (p < o) ⊎ ((o + w ≤ p) ⊎ ((o ≤ p) × (p < o + w)))
place_case p o w = grind arith

some_same : {A : Type 0} (x y : A) → Some x ≡ Some y → x ≡ y
some_same x y e = cc

-- a place of a definition that lies outside of its fields lies outside of all fields of its section
pub outside_all : (settings : Settings) (s : LinkState) (q : ℕ) (at : FuncOrDataId → ℕ) (addresses : List AddressRow) (k : ℕ) (p : Placed) (ws : List Patch) (j : ℕ) → MachPart settings s q at addresses → AreApplied (mach_shown (object_of settings s)) → slice_get (placed settings s) k ≡ Some p
    → Pairs HasField (map (fixup_of settings s) p.definition.relocs) ws → j < size_of p.definition.contents → ((n : ℕ) (w : Patch) → slice_get ws n ≡ Some w → Outside j w)
    → (m : ℕ) (r : Relocation) → slice_get (home_of settings s p).relocations m ≡ Some r → (p.offset + j < r.offset) ⊎ (r.offset + field_width (mach_relocation (object_of settings s).symbols r) ≤ p.offset + j)
outside_all settings s q at addresses k p ws j part applied e fields less out m r f =
    let of = relocation-from settings s q at addresses k p part applied e m r f in
    let x = of.place in
    let rel = mach_relocation (object_of settings s).symbols r in
    let width : field_width rel ≡ fix_width of.applied = width_by of.applied rel (applied-form of.reloc.kind of.applied (object_of settings s).symbols r of.flags of.kind) in
    let kept = width-kept Macho of.reloc.kind of.applied of.kind in
    let place : x.offset + of.reloc.offset ≡ r.offset = ap (λ (z : Relocation). z.offset) of.is in
    let lies = mach-lie-in settings s q at addresses of.number x.definition part (placed-from settings s of.number x of.here) of.inner of.reloc of.there in
    elim (place_case (p.offset + j) r.offset (field_width rel)) [
      | inl low ↦ inl low
      | inr (inl high) ↦ inr high
      | inr (inr inside) ↦
          (
          let same : p ≡ x = one-there settings s p.section (p.offset + j) k of.number p x e of.here refl of.section_is (omega arith) (omega (arith, less)) (omega (arith, inside.0, place)) (omega (arith, inside.1, place, lies, width, kept)) in
          let own_there : slice_get p.definition.relocs of.inner ≡ Some of.reloc = ap (λ (z : Placed). slice_get z.definition.relocs of.inner) same ∙ of.there in
          let patch = pairs_left HasField (map (fixup_of settings s) p.definition.relocs) ws of.inner (fixup_of settings s of.reloc) fields (get_map (fixup_of settings s) p.definition.relocs of.inner of.reloc own_there) in
          let same_kind : patch.2.kind ≡ of.applied = some_same patch.2.kind of.applied (sym patch.2.is ∙ ap (λ (b : BinaryFormat). fix_kind b of.reloc.kind) part.macho ∙ of.kind) in
          let long : length patch.0.bytes ≡ fix_width of.applied = patch.2.width ∙ ap fix_width same_kind in
          let offset : p.offset ≡ x.offset = ap (λ (z : Placed). z.offset) same in
          elim (out of.inner patch.0 patch.1) [
            | inl low ↦ inl (omega (arith, low, patch.2.offset, place, offset))
            | inr high ↦ inr (omega (arith, high, patch.2.offset, place, offset, long, width))
          ]
          )
    ]
