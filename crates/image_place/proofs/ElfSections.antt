-- The sections of an ELF part's view, and the bytes of definitions there.
use Rattle.std.proofs.Common.{◌≡◌, ℕ, zero, suc, ◌+◌, ◌<◌, ◌&&◌, List, [], ◌∷◌, ◌++◌, length, map, refl, ap, sym, ◌∙◌, arith, Option, Some, None, Bool, true, false, not, cond, slice_get, replicate, take, drop, codes}
use Rattle.std.specs.Prelude.{filter}
use Rattle.std.specs.List.{All, enumerate_from}
use Rattle.std.proofs.lemmas.List.Elements.{All-nil, All-cons}
use Rattle.byte_core.specs.Number.{bytes_at}
use Rattle.byte_core.proofs.Lists.{get_left, get_map, get_within}
use Rattle.ir_core.specs.declared.target.BinaryFormat.TheVariants.{Elf}
use Rattle.object_core.specs.declared.kinds.SectionKind.TheVariants as kind
use Rattle.object_core.specs.Object.{SectionData, ObjectData}
use Rattle.object_core.specs.Places.{joined}
use Rattle.object_core.specs.Appending.{stored_in}
use Rattle.object_core.specs.Standard.{is_zero_fill, standard_kind}
use Rattle.object_core.specs.ElfRows.{elf_section, elf_table_of}
use Rattle.object_core.specs.LinkTable.{ElfTable, ElfTableSection}
use Rattle.image_read.specs.ElfImage.{ElfSectionData}
use Rattle.object_elf.specs.Layout.{is_relocated, note_part, symbol_part, section_names, symbol_names}
use Rattle.object_elf.specs.File.{symbol_contents}
use Rattle.object_elf.specs.TableImage.{shown, section_shown, records_shown, strings_shown, sections_shown, image_for}
use Rattle.cranelift_module.specs.declared.identifiers.FuncOrDataId.{FuncOrDataId}
use Rattle.cranelift_module.specs.declared.identifiers.FuncOrDataId.TheVariants.{Func, Data}
use Rattle.cranelift_module.specs.Call.{Contents, bytes, zeros}
use Rattle.cranelift_module.specs.Definitions.{Definition, contents_of, size_of, is_thread_local}
use Rattle.cranelift_module.specs.LinkState.{LinkState}
use Rattle.cranelift_object.specs.Settings.{Settings}
use Rattle.cranelift_object.specs.Kept.{IsPlainBody}
use Rattle.cranelift_object.specs.SectionClass.{Class, section_class, class_by_text, custom_kind, data_section, initialized_section, is_empty_list, standard_section}
use Rattle.cranelift_object.specs.Placing.{Placed, placed, sections_used}
use Rattle.cranelift_object.specs.Linked.{members, piece_of, stored_of, section_with, sections_of, is_unstored_class, object_of}
use Rattle.cranelift_object.proofs.ClassLaws.{IsShareable, shareable, placed_class, placed_definitions, All-slice_get}
use Rattle.cranelift_object.proofs.SectionLaws.{contents_length}
use Rattle.image_view.specs.View.{ViewSection, elf_view, elf_view_section, filled}
use Rattle.image_place.proofs.EntryLaws.{enumerated}
use Rattle.image_place.proofs.FileStanding.{member-into, member-bytes, member-end, room-over, zeros-at}
use Rattle.image_place.proofs.ElfSymbols.{elf_shown, section_count}

-- -- sections of the object

pub map_through : {A B C : Type 0} (f : B → C) (g : A → B) (xs : List A) → map (λ x. f (g x)) xs ≡ map f (map g xs)
map_through f g [] = refl
map_through f g (x ∷ xs) = ap (λ ys. f (g x) ∷ ys) (map_through f g xs)

classes_placed : (settings : Settings) (s : LinkState) → map (λ (p : Placed). section_class settings s p.definition) (placed settings s) ≡ map (section_class settings s) s.definitions
unfolding placed
classes_placed settings s =
    map_through (section_class settings s) (λ (p : Placed). p.definition) (placed settings s) ∙ ap (map (section_class settings s)) (placed_definitions settings s s.definitions)

-- each function is defined by bytes, in no section of a text
abbrev pub ArePlainBodies : LinkState → Type 0
ArePlainBodies s = (k : ℕ) (d : Definition) → slice_get s.definitions k ≡ Some d → IsPlainBody d.identifier d.contents d.section d.used

pub each_all : {A : Type 0} (P : A → Type 0) (xs : List A) → ((k : ℕ) (x : A) → slice_get xs k ≡ Some x → P x) → All P xs
each_all P [] h = All-nil P
each_all P (x ∷ xs) h = All-cons P x xs (h 0 x refl) (each_all P xs (λ k. h (suc k)))

class_of_placed : (settings : Settings) (s : LinkState) (k : ℕ) (p : Placed) → ArePlainBodies s → slice_get (placed settings s) k ≡ Some p
    → slice_get (sections_used (map (section_class settings s) s.definitions)) p.section ≡ Some (section_class settings s p.definition)
unfolding placed
class_of_placed settings s k p plain e =
    let all = each_all (λ (d : Definition). IsShareable s.target.triple.binary_format (section_class settings s d)) s.definitions (λ j d at. shareable settings s d (plain j d at)) in
    All-slice_get (λ (x : Placed). slice_get (sections_used (map (section_class settings s) s.definitions)) x.section ≡ Some (section_class settings s x.definition)) (placed settings s) k p (placed_class settings s s.definitions all) e

-- the section of a placed definition
abbrev pub home_of : Settings → LinkState → Placed → SectionData
home_of settings s p = section_with settings s (section_class settings s p.definition) (members (placed settings s) p.section)

pub section-there : (settings : Settings) (s : LinkState) (k : ℕ) (p : Placed) → ArePlainBodies s → slice_get (placed settings s) k ≡ Some p → slice_get (object_of settings s).sections p.section ≡ Some (home_of settings s p)
unfolding object_of sections_of
section-there settings s k p plain e =
    let used = sections_used (map (λ (x : Placed). section_class settings s x.definition) (placed settings s)) in
    let here : slice_get used p.section ≡ Some (section_class settings s p.definition) = ap (λ cs. slice_get (sections_used cs) p.section) (classes_placed settings s) ∙ class_of_placed settings s k p plain e in
    let start : 0 + p.section ≡ p.section = omega arith in
    get_map (λ (c : ℕ × Class). section_with settings s c.1 (members (placed settings s) c.0)) (enumerate_from 0 used) p.section (0 + p.section, section_class settings s p.definition) (enumerated 0 used p.section (section_class settings s p.definition) here)
    ∙ ap (λ n. Some (section_with settings s (section_class settings s p.definition) (members (placed settings s) n))) start

-- -- sections of the view

-- what the view shows of a section
abbrev pub section_view : ObjectData → SectionData → ViewSection
section_view o x = elf_view_section (section_shown (elf_section o.symbols x))

middle : ElfTable → List ElfSectionData
middle t = shown note_part [] [] ∷ map (records_shown t) (filter (λ (x : ℕ × ElfTableSection). is_relocated x.1) (enumerate_from 1 t.sections))

tables : ElfTable → List ElfSectionData
tables t = shown (symbol_part t) (symbol_contents t.symbols).bytes [] ∷ strings_shown (codes ".strtab") (symbol_names t) ∷ strings_shown (codes ".shstrtab") (section_names t) ∷ []

sections_parts : (t : ElfTable) → sections_shown t ≡ (map section_shown t.sections ++ middle t) ++ tables t
unfolding sections_shown middle tables
sections_parts t = refl

own_section : (t : ElfTable) (k : ℕ) (x : ElfTableSection) → slice_get t.sections k ≡ Some x → slice_get (sections_shown t) k ≡ Some (section_shown x)
own_section t k x e =
    ap (λ xs. slice_get xs k) (sections_parts t) ∙ get_left (map section_shown t.sections ++ middle t) (tables t) k (section_shown x) (get_left (map section_shown t.sections) (middle t) k (section_shown x) (get_map section_shown t.sections k x e))

table_section : (o : ObjectData) (k : ℕ) (x : SectionData) → slice_get o.sections k ≡ Some x → slice_get (elf_table_of o).sections k ≡ Some (elf_section o.symbols x)
unfolding elf_table_of
table_section o k x e = get_map (elf_section o.symbols) o.sections k x e

section_of_image : (o : ObjectData) (k : ℕ) (x : SectionData) → slice_get o.sections k ≡ Some x → slice_get (image_for (elf_table_of o)).sections k ≡ Some (section_shown (elf_section o.symbols x))
unfolding image_for
section_of_image o k x e = own_section (elf_table_of o) k (elf_section o.symbols x) (table_section o k x e)

view_sections : (o : ObjectData) → (elf_shown o).sections ≡ map elf_view_section (image_for (elf_table_of o)).sections
unfolding elf_view
view_sections o = refl

pub section-into : (o : ObjectData) (k : ℕ) (x : SectionData) → slice_get o.sections k ≡ Some x → slice_get (elf_shown o).sections k ≡ Some (section_view o x)
section-into o k x e =
    ap (λ xs. slice_get xs k) (view_sections o) ∙ get_map elf_view_section (image_for (elf_table_of o)).sections k (section_shown (elf_section o.symbols x)) (section_of_image o k x e)

pub section-counted : (o : ObjectData) (k : ℕ) (x : SectionData) → slice_get o.sections k ≡ Some x → k < section_count o
section-counted o k x e = get_within (image_for (elf_table_of o)).sections k (section_shown (elf_section o.symbols x)) (section_of_image o k x e)

-- -- zeros

never : {A : Type 0} (b : Bool) → b ≡ false → b ≡ true → A
never b e h = absurd (let both : false ≡ true = sym e ∙ h in cc)

custom_stored : (b : Bool) → is_zero_fill (cond b kind.ReadOnlyData kind.Data) ≡ false
custom_stored true = refl
custom_stored false = refl

initialized_stored : (writable plain : Bool) → is_zero_fill (standard_kind (initialized_section writable plain)) ≡ false
initialized_stored true plain = refl
initialized_stored false true = refl
initialized_stored false false = refl

data_zero : (tls : Bool) (d : Definition) (c : Contents) → is_zero_fill (standard_kind (data_section tls d c)) ≡ true → contents_of c ≡ replicate (size_of c) 0
data_zero tls d (zeros n) h = refl
data_zero true d (bytes xs) h = absurd (cc)
data_zero false d (bytes xs) h = never (is_zero_fill (standard_kind (initialized_section d.writable (is_empty_list d.relocs)))) (initialized_stored d.writable (is_empty_list d.relocs)) h

standard_zero : (s : LinkState) (d : Definition) (id : FuncOrDataId) → is_zero_fill (standard_kind (standard_section s d id)) ≡ true → contents_of d.contents ≡ replicate (size_of d.contents) 0
standard_zero s d (Func n) h = absurd (cc)
standard_zero s d (Data n) h = data_zero (is_thread_local (slice_get s.objects n)) d d.contents h

class_zero : (settings : Settings) (s : LinkState) (d : Definition) (text : Option (List ℕ)) → s.target.triple.binary_format ≡ Elf → is_unstored_class s (class_by_text settings s d text) ≡ true → contents_of d.contents ≡ replicate (size_of d.contents) 0
class_zero settings s d (Some text) elf h =
    never (is_zero_fill (custom_kind d)) (custom_stored (not d.writable && is_empty_list d.relocs)) (rw elf at h)
class_zero settings s d None elf h = standard_zero s d d.identifier (rw elf at h)

-- -- bytes

nothing_there : (k n : ℕ) → take {A = ℕ} n (drop k []) ≡ []
nothing_there zero zero = refl
nothing_there zero (suc n) = refl
nothing_there (suc k) zero = refl
nothing_there (suc k) (suc n) = refl

filled_bytes : (size : ℕ) (b : List ℕ) (k : ℕ) (xs : List ℕ) → bytes_at b k (length xs) ≡ xs → bytes_at (filled size b) k (length xs) ≡ xs
unfolding bytes_at
filled_bytes size [] k [] e = refl
filled_bytes size [] k (x ∷ xs) e = absurd (let none : [] ≡ x ∷ xs = sym (nothing_there k (length (x ∷ xs))) ∙ e in cc)
filled_bytes size (y ∷ b) k xs e = e

home_by : (settings : Settings) (s : LinkState) (k : ℕ) (p : Placed) (b : Bool) → s.target.triple.binary_format ≡ Elf → slice_get (placed settings s) k ≡ Some p → is_unstored_class s (section_class settings s p.definition) ≡ b
    → bytes_at (filled (home_of settings s p).size (cond b [] (joined (map (λ (x : Placed). piece_of s x.definition) (members (placed settings s) p.section))))) p.offset (size_of p.definition.contents) ≡ contents_of p.definition.contents
home_by settings s k p true elf e h =
    let member = member-into settings s p.section k p e refl in
    zeros-at (home_of settings s p).size p.offset (size_of p.definition.contents) (omega (arith, member-end settings s p.section member.number p member.here, room-over s.target.triple.binary_format (size_of p.definition.contents)))
    ∙ sym (class_zero settings s p.definition p.definition.section elf h)
home_by settings s k p false elf e h =
    let member = member-into settings s p.section k p e refl in
    let b = joined (map (λ (x : Placed). piece_of s x.definition) (members (placed settings s) p.section)) in
    let stored : stored_of s p.definition ≡ contents_of p.definition.contents = ap (λ f. stored_in f (contents_of p.definition.contents)) elf in
    let there : bytes_at b p.offset (length (contents_of p.definition.contents)) ≡ contents_of p.definition.contents =
    ap (λ xs. bytes_at b p.offset (length xs)) (sym stored) ∙ member-bytes settings s p.section member.number p member.here ∙ stored in
    ap (bytes_at (filled (home_of settings s p).size b) p.offset) (sym (contents_length p.definition.contents)) ∙ filled_bytes (home_of settings s p).size b p.offset (contents_of p.definition.contents) there

pub home-bytes : (settings : Settings) (s : LinkState) (k : ℕ) (p : Placed) → s.target.triple.binary_format ≡ Elf → slice_get (placed settings s) k ≡ Some p
    → bytes_at (section_view (object_of settings s) (home_of settings s p)).bytes p.offset (size_of p.definition.contents) ≡ contents_of p.definition.contents
home-bytes settings s k p elf e = home_by settings s k p (is_unstored_class s (section_class settings s p.definition)) elf e refl
