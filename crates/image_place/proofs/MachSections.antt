-- The sections of a Mach-O part's view, and the bytes of definitions there.
use Rattle.std.proofs.Common.{◌≡◌, ℕ, zero, suc, ◌+◌, ◌<◌, ◌≤◌, ◌⊎◌, inl, inr, List, [], ◌∷◌, map, refl, ap, sym, ◌∙◌, arith, Some, slice_get, subst, take, drop}
use Rattle.std.specs.Prelude.{flat_map, unwrap_or}
use Rattle.byte_core.specs.Number.{bytes_at}
use Rattle.byte_core.proofs.Lists.{get_append, get_map, get_map_from}
use Rattle.ir_core.specs.declared.reloc.Reloc.{Reloc}
use Rattle.ir_core.specs.declared.target.Architecture.TheVariants.{X86_64}
use Rattle.ir_core.specs.declared.target.BinaryFormat.TheVariants.{Macho}
use Rattle.ir_core.specs.MachO.{x86_64_cputype, mach_cputype}
use Rattle.object_core.specs.declared.relocation.Relocation.{Relocation}
use Rattle.object_core.specs.Object.{SectionData, ObjectData}
use Rattle.object_core.specs.WellFormed.{IsFormedMacho}
use Rattle.object_core.specs.LinkTable.{MachRelocation, MachTableSection}
use Rattle.object_core.specs.MachRows.{header_order, section_number_in, section_address, addresses_in, address_in, mach_relocation, mach_section, mach_row_in, mach_type_of, macho_table_of}
use Rattle.object_macho.specs.Layout.{field_width, records_for, records_of, record_for, stored_contents}
use Rattle.object_macho.specs.AddendLaw.{KeepsAddends}
use Rattle.object_macho.specs.TableImage.{section_shown, image_for}
use Rattle.object_macho.proofs.AddendLaws.{sections_keep}
use Rattle.object_macho.proofs.Behind.{length-stored_contents}
use Rattle.object_macho.proofs.Moments.{moment_at}
use Rattle.object_macho.proofs.Orders.{section_holds}
use Rattle.cranelift_object.specs.Linked.{relocation_flags}
use Rattle.image_view.specs.declared.kind.FixKind.{FixKind}
use Rattle.image_view.specs.declared.view.ViewReloc.{ViewReloc}
use Rattle.image_place.specs.Memory.{fix_kind}
use Rattle.image_view.specs.View.{ViewSection, filled, mach_kind, field_addend, mach_view_reloc, mach_view_section, mach_view}
use Rattle.image_place.proofs.MachKinds.{mach-kinds}
use Rattle.image_place.proofs.MachAddends.{field-bytes, byte-kept, applied-form, addend-back}
use Rattle.image_place.proofs.MachSymbols.{mach_shown}

-- -- sections of the view

-- the row of a section in the table
abbrev pub table_section : ObjectData → ℕ → SectionData → MachTableSection
table_section o id x = mach_section o.symbols (record { before = take (section_number_in o.sections id) (header_order o.sections); here = x })

-- its bytes in the file
abbrev pub section_bytes : ObjectData → ℕ → SectionData → List ℕ
section_bytes o id x = stored_contents x86_64_cputype (table_section o id x)

-- what the view shows of a section
abbrev pub mach_section_shown : ObjectData → ℕ → SectionData → ViewSection
mach_section_shown o id x = mach_view_section (section_shown x86_64_cputype (table_section o id x))

table_into : (o : ObjectData) (id : ℕ) (x : SectionData) → slice_get o.sections id ≡ Some x → slice_get (macho_table_of o).sections (section_number_in o.sections id) ≡ Some (table_section o id x)
unfolding macho_table_of
table_into o id x e = moment_at (mach_section o.symbols) (header_order o.sections) (section_number_in o.sections id) x (section_holds o.sections id x e)

table_cputype : (o : ObjectData) → o.architecture ≡ X86_64 → (macho_table_of o).cputype ≡ x86_64_cputype
unfolding macho_table_of
table_cputype o h = ap mach_cputype h

view_sections : (o : ObjectData) → (mach_shown o).sections ≡ map mach_view_section (map (section_shown (macho_table_of o).cputype) (macho_table_of o).sections)
unfolding mach_view image_for
view_sections o = refl

pub mach-section-into : (o : ObjectData) (id : ℕ) (x : SectionData) → o.architecture ≡ X86_64 → slice_get o.sections id ≡ Some x → slice_get (mach_shown o).sections (section_number_in o.sections id) ≡ Some (mach_section_shown o id x)
mach-section-into o id x h e =
    let t = macho_table_of o in
    let n = section_number_in o.sections id in
    ap (λ xs. slice_get xs n) (view_sections o ∙ ap (λ c. map mach_view_section (map (section_shown c) t.sections)) (table_cputype o h))
    ∙ get_map mach_view_section (map (section_shown x86_64_cputype) t.sections) n (section_shown x86_64_cputype (table_section o id x)) (get_map (section_shown x86_64_cputype) t.sections n (table_section o id x) (table_into o id x e))

pub section-start : (o : ObjectData) (id : ℕ) (x : SectionData) → slice_get o.sections id ≡ Some x → (mach_section_shown o id x).start ≡ address_in o.sections id
unfolding addresses_in
section-start o id x e = ap (λ a. unwrap_or a 0) (sym (moment_at section_address (header_order o.sections) (section_number_in o.sections id) x (section_holds o.sections id x e)))

keeps_addends : (o : ObjectData) (id : ℕ) (x : SectionData) → o.architecture ≡ X86_64 → IsFormedMacho o → slice_get o.sections id ≡ Some x → KeepsAddends x86_64_cputype (table_section o id x)
keeps_addends o id x h formed e = subst (λ c. KeepsAddends c (table_section o id x)) (ap mach_cputype h) (sections_keep o formed (section_number_in o.sections id) (table_section o id x) (table_into o id x e))

-- -- relocations

-- what the view shows of a relocation of the object, where its addend is read back
abbrev pub mach_reloc_shown : ObjectData → Relocation → ViewReloc
mach_reloc_shown o r =
    record {
      offset = r.offset;
      symbol = mach_row_in o.symbols r.symbol;
      kind = mach_kind (record_for (mach_relocation o.symbols r));
      number = mach_type_of r.flags;
      addend = r.addend;
    }

plain_records : (rs : List MachRelocation) → flat_map (records_for x86_64_cputype) rs ≡ map record_for rs
plain_records [] = refl
plain_records (r ∷ rs) = ap (λ xs. record_for r ∷ xs) (plain_records rs)

section_records : (o : ObjectData) (id : ℕ) (x : SectionData) → (mach_section_shown o id x).relocations ≡ map (mach_view_reloc (section_bytes o id x)) (map record_for (map (mach_relocation o.symbols) x.relocations))
unfolding records_of
section_records o id x = ap (map (mach_view_reloc (section_bytes o id x))) (plain_records (map (mach_relocation o.symbols) x.relocations))

shown_all : (o : ObjectData) (bytes : List ℕ) (rs : List Relocation) → ((m : ℕ) (r : Relocation) → slice_get rs m ≡ Some r → field_addend bytes r.offset (mach_kind (record_for (mach_relocation o.symbols r))) ≡ r.addend)
    → map (mach_view_reloc bytes) (map record_for (map (mach_relocation o.symbols) rs)) ≡ map (mach_reloc_shown o) rs
shown_all o bytes [] h = refl
shown_all o bytes (r ∷ rs) h =
    let first : mach_view_reloc bytes (record_for (mach_relocation o.symbols r)) ≡ mach_reloc_shown o r = ap (λ a. record (mach_reloc_shown o r) { addend = a }) (h 0 r refl) in
    ap (λ v. v ∷ map (mach_view_reloc bytes) (map record_for (map (mach_relocation o.symbols) rs))) first ∙ ap (λ vs. mach_reloc_shown o r ∷ vs) (shown_all o bytes rs (λ m. h (suc m)))

-- the relocation has the numbers of a kind that is applied
pub record IsOfKind (r : Relocation) : Type 0 where
  pub kind : Reloc
  pub applied : FixKind
  pub flags : r.flags ≡ relocation_flags Macho X86_64 kind
  pub is : fix_kind Macho kind ≡ Some applied

addend_by : (o : ObjectData) (id : ℕ) (x : SectionData) (m : ℕ) (r : Relocation) → o.architecture ≡ X86_64 → IsFormedMacho o → slice_get o.sections id ≡ Some x → slice_get x.relocations m ≡ Some r → IsOfKind r
    → field_addend (section_bytes o id x) r.offset (mach_kind (record_for (mach_relocation o.symbols r))) ≡ r.addend
addend_by o id x m r h formed e f of =
    let s = table_section o id x in
    let q = mach_relocation o.symbols r in
    let keeps = keeps_addends o id x h formed e in
    let there : slice_get s.relocations m ≡ Some q = get_map (mach_relocation o.symbols) x.relocations m r f in
    let one = keeps.each m q there in
    ap (field_addend (section_bytes o id x) r.offset) (mach-kinds of.kind o.symbols r of.flags ∙ of.is)
    ∙ addend-back of.applied (section_bytes o id x) q (applied-form of.kind of.applied o.symbols r of.flags of.is) (omega (arith, one.field, length-stored_contents x86_64_cputype s)) (field-bytes x86_64_cputype s m q keeps there refl) one.room

-- the view shows each relocation of a section, with its addend
pub mach-relocations : (o : ObjectData) (id : ℕ) (x : SectionData) → o.architecture ≡ X86_64 → IsFormedMacho o → slice_get o.sections id ≡ Some x → ((m : ℕ) (r : Relocation) → slice_get x.relocations m ≡ Some r → IsOfKind r)
    → (mach_section_shown o id x).relocations ≡ map (mach_reloc_shown o) x.relocations
mach-relocations o id x h formed e kinds = section_records o id x ∙ shown_all o (section_bytes o id x) x.relocations (λ m r f. addend_by o id x m r h formed e f (kinds m r f))

-- a relocation is shown with its kind, whatever its addend
pub mach-kind-shown : (o : ObjectData) (id : ℕ) (x : SectionData) (m : ℕ) (r : Relocation) → slice_get x.relocations m ≡ Some r
    → (v : ViewReloc) × (slice_get (mach_section_shown o id x).relocations m ≡ Some v) × (v.kind ≡ mach_kind (record_for (mach_relocation o.symbols r)))
mach-kind-shown o id x m r e =
    let rs = map (mach_relocation o.symbols) x.relocations in
    let there = get_map (mach_view_reloc (section_bytes o id x)) (map record_for rs) m _ (get_map record_for rs m _ (get_map (mach_relocation o.symbols) x.relocations m r e)) in
    (mach_view_reloc (section_bytes o id x) (record_for (mach_relocation o.symbols r)), ap (λ xs. slice_get xs m) (section_records o id x) ∙ there, refl)

-- -- bytes

get_take : (xs : List ℕ) (n j : ℕ) → j < n → slice_get (take n xs) j ≡ slice_get xs j
get_take xs zero j h = absurd (omega (arith, h))
get_take [] (suc n) j h = refl
get_take (x ∷ xs) (suc n) zero h = refl
get_take (x ∷ xs) (suc n) (suc j) h = get_take xs n j (omega (arith, h))

get_drop : (xs : List ℕ) (k j : ℕ) → slice_get (drop k xs) j ≡ slice_get xs (k + j)
get_drop xs zero j = let same : j ≡ 0 + j = omega arith in ap (slice_get xs) same
get_drop [] (suc k) zero = refl
get_drop [] (suc k) (suc j) = refl
get_drop (x ∷ xs) (suc k) j = let next : suc (k + j) ≡ suc k + j = omega arith in get_drop xs k j ∙ ap (slice_get (x ∷ xs)) next

pub bytes-get : (xs : List ℕ) (k n j : ℕ) → j < n → slice_get (bytes_at xs k n) j ≡ slice_get xs (k + j)
unfolding bytes_at
bytes-get xs k n j h = get_take (drop k xs) n j h ∙ get_drop xs k j

pub filled-get : (size : ℕ) (b : List ℕ) (k y : ℕ) → slice_get b k ≡ Some y → slice_get (filled size b) k ≡ Some y
filled-get size [] k y e = absurd (cc)
filled-get size (x ∷ b) k y e = e

-- outside of the fields of a section stand its contents
pub section-byte : (o : ObjectData) (id : ℕ) (x : SectionData) (p y : ℕ) → slice_get x.contents p ≡ Some y → ((m : ℕ) (r : Relocation) → slice_get x.relocations m ≡ Some r → (p < r.offset) ⊎ (r.offset + field_width (mach_relocation o.symbols r) ≤ p))
    → slice_get (mach_section_shown o id x).bytes p ≡ Some y
section-byte o id x p y e out =
    let s = table_section o id x in
    let outside : (m : ℕ) (q : MachRelocation) → slice_get s.relocations m ≡ Some q → (p < q.offset) ⊎ (q.offset + field_width q ≤ p) = λ m q f.
    (let from = get_map_from (mach_relocation o.symbols) x.relocations m q f in
    subst (λ (z : MachRelocation). (p < z.offset) ⊎ (z.offset + field_width z ≤ p)) from.2 (out m from.0 from.1)) in
    filled-get x.size (section_bytes o id x) p y (byte-kept x86_64_cputype s p outside ∙ e)

-- -- relocations of definitions

-- an element of a list that is joined out of others
pub record IsFromFlat {A B : Type 0} (f : A → List B) (xs : List A) (y : B) : Type 0 where
  pub outer : ℕ
  pub inner : ℕ
  pub element : A
  pub here : slice_get xs outer ≡ Some element
  pub there : slice_get (f element) inner ≡ Some y

pub flat-from : {A B : Type 0} (f : A → List B) (xs : List A) (m : ℕ) (y : B) → slice_get (flat_map f xs) m ≡ Some y → IsFromFlat f xs y
flat-from f [] m y e = absurd (cc)
flat-from f (x ∷ xs) m y e =
    elim (get_append (f x) (flat_map f xs) m y e) [
      | inl h ↦ record { outer = 0; inner = m; element = x; here = refl; there = h }
      | inr r ↦ (let far = flat-from f xs r.0 y r.2 in record { outer = suc far.outer; inner = far.inner; element = far.element; here = far.here; there = far.there })
    ]
