-- The file of a table is read as the image of the table.
use Rattle.std.proofs.Common.{◌≡◌, ◌≢◌, ℕ, zero, suc, ◌+◌, ◌-◌, ◌*◌, ◌/◌, ◌<◌, ◌≤◌, ◌==◌, ◌&&◌, List, [], ◌∷◌, ◌++◌, length, take}
use Rattle.std.proofs.Common.{map, refl, ap, sym, ◌∙◌, arith, Option, Some, Bool, true, false, slice_get, inl, inr, cond, codes, append-nil, length-append, unwrap_or, subst}
use Rattle.std.specs.Prelude.{filter, count_by, flat_map}
use Rattle.std.specs.List.{enumerate_from, range_with_len}
use Rattle.std.proofs.lemmas.Bool.{and_parts, eqb-true, eq-eqb, not-false}
use Rattle.std.proofs.lemmas.List.{length-map, nil_from_length}
use Rattle.std.proofs.lemmas.List.Sums.{sum_by-cons, sum_by-take-le}
use Rattle.byte_core.specs.Number.{bytes_at}
use Rattle.byte_core.specs.LaidOut.{Aligned}
use Rattle.byte_core.proofs.Standing.{bytes_stand}
use Rattle.byte_core.proofs.Lists.{get_append, get_map, get_map_from, get_filter, get_within, passing}
use Rattle.byte_core.specs.Strings.{strings_size}
use Rattle.object_core.specs.LinkTable.{ElfTable, ElfTableSection}
use Rattle.image_read.specs.ElfFile.{header_of, ElfHeader, ElfSectionRow, ElfRelocationRow, section_row, stored_bytes, relocation_row, relocation_row_at, entries, row_numbers, symbol_table, has_bytes}
use Rattle.image_read.specs.ElfImage.{ElfSectionData, ElfSymbolData, section_data, records_for, symbol_data, symbols_in, locals_in, elf_image_of, IsElf}
use Rattle.object_elf.specs.Layout.{Part, is_relocated, section_names, symbol_names, content_part, note_part, relocation_part, symbol_part, string_part, parts_of, symbol_table_row, is_stored, start_of}
use Rattle.object_elf.specs.ElfHolds.{row_for, part_offset, record_for, relocations_row}
use Rattle.object_elf.specs.File.{elf_file, contents_of, relocation_contents, symbol_contents, string_contents}
use Rattle.object_elf.specs.Fitting.{FitsElf}
use Rattle.object_elf.specs.TableImage.{shown, section_shown, records_shown, strings_shown, sections_shown, symbol_shown, image_for, ReadsOnly}
use Rattle.object_elf.proofs.PartCases.{front_count, relocates, part_case, length-enumerated, part_at_section, part_at_note, part_at_relocations}
use Rattle.object_elf.proofs.PartCases.{part_at_symbols, part_at_symbol_strings, part_at_section_strings, length-parts_of, contents_at_relocations, contents_at_symbols, contents_at_symbol_strings, contents_at_section_strings}
use Rattle.object_elf.proofs.SectionRows.{part_here}
use Rattle.object_elf.proofs.Contents.{section_contents_here, relocation_here}
use Rattle.object_elf.proofs.Reading.{RowOf, row_of, row_of_part, header_is, shnum_is, section_row_is, section_name_is}
use Rattle.object_elf.proofs.ReadingTables.{four_relocates, table_row_is, table_entries, symbol_row_is, symbol_name_is}
use Rattle.object_elf.proofs.Uniqueness.{stored_yes}
use Rattle.object_elf.proofs.Holds.{here_or_later, symbol_table_is, file_is_elf}

-- ---- lists by their numbers

-- the list of the values of numbers, where each is told
pub map_range : {Y : Type 0} (f : ℕ → Y) (a n : ℕ) (ys : List Y) → length ys ≡ n → ((k : ℕ) (y : Y) → slice_get ys k ≡ Some y → f (a + k) ≡ y) → map f (range_with_len a n) ≡ ys
map_range f a zero [] m h = refl
map_range f a zero (y ∷ ys) m h = absurd (omega (arith, m))
map_range f a (suc n) [] m h = absurd (omega (arith, m))
map_range f a (suc n) (y ∷ ys) m h =
    let first : f a ≡ y = let place : a + 0 ≡ a = omega arith in ap f (sym place) ∙ h 0 y refl in
    let rest : map f (range_with_len (a + 1) n) ≡ ys = map_range f (a + 1) n ys (omega (arith, m)) (λ k x e. let place : a + 1 + k ≡ a + suc k = omega arith in ap f place ∙ h (suc k) x e) in
    rw (first, rest) refl

pub flat_none : {Y : Type 0} (f : ℕ → List Y) (a n : ℕ) → ((j : ℕ) → a ≤ j → j < a + n → f j ≡ []) → flat_map f (range_with_len a n) ≡ []
flat_none f a zero h = refl
flat_none f a (suc n) h = rw (h a (omega arith) (omega arith)) (flat_none f (a + 1) n (λ j g l. h j (omega (arith, g)) (omega (arith, l))))

-- one number alone has values
pub flat_one : {Y : Type 0} (f : ℕ → List Y) (a n k : ℕ) → a ≤ k → k < a + n → ((j : ℕ) → a ≤ j → j < a + n → j ≢ k → f j ≡ []) → flat_map f (range_with_len a n) ≡ f k
flat_one f a zero k h l others = absurd (omega arith)
flat_one f a (suc n) k h l others =
    elim (here_or_later a k h) [
      | inl same ↦
          let none : flat_map f (range_with_len (a + 1) n) ≡ [] = flat_none f (a + 1) n (λ j g m. others j (omega (arith, g)) (omega (arith, m)) (λ e. omega (arith, e, g, same))) in
          rw (none, append-nil) (ap f same)
      | inr later ↦ rw (others a (omega arith) (omega arith) (λ e. omega (arith, e, later))) (flat_one f (a + 1) n k later (omega (arith, l)) (λ j g m. others j (omega (arith, g)) (omega (arith, m))))
    ]

-- ---- a section with its number

abbrev has_relocations : ℕ × ElfTableSection → Bool
has_relocations s = is_relocated s.1

abbrev numbered : ElfTable → List (ℕ × ElfTableSection)
numbered t = filter has_relocations (enumerate_from 1 t.sections)

enumerated : (m : ℕ) (ss : List ElfTableSection) (i : ℕ) (x : ℕ × ElfTableSection) → slice_get (enumerate_from m ss) i ≡ Some x → (x.0 ≡ m + i) × (slice_get ss i ≡ Some x.1)
enumerated m [] zero x e = absurd (cc)
enumerated m [] (suc i) x e = absurd (cc)
enumerated m (s ∷ ss) zero x e = let same : (m, s) ≡ x = cc in rw (← same) (omega arith, refl)
enumerated m (s ∷ ss) (suc i) x e = let later = enumerated (m + 1) ss i x e in (omega (arith, later.0), later.1)

enumerate_get : (m : ℕ) (ss : List ElfTableSection) (i : ℕ) (s : ElfTableSection) → slice_get ss i ≡ Some s → slice_get (enumerate_from m ss) i ≡ Some (m + i, s)
enumerate_get m [] zero s e = absurd (cc)
enumerate_get m [] (suc i) s e = absurd (cc)
enumerate_get m (x ∷ ss) zero s e = let same : x ≡ s = cc in let here : m + 0 ≡ m = omega arith in rw (here, same) refl
enumerate_get m (x ∷ ss) (suc i) s e = let here : m + 1 + i ≡ m + suc i = omega arith in enumerate_get (m + 1) ss i s e ∙ ap (λ n. Some (n, s)) here

count_enumerated : (m n : ℕ) (ss : List ElfTableSection) → count_by has_relocations (take n (enumerate_from m ss)) ≡ count_by is_relocated (take n ss)
count_enumerated m zero ss = refl
count_enumerated m (suc n) [] = refl
count_enumerated m (suc n) (s ∷ ss) =
    omega (
      arith,
      sum_by-cons (λ x. cond (has_relocations x) 1 0) (m, s) (take n (enumerate_from (m + 1) ss)),
      sum_by-cons (λ x. cond (is_relocated x) 1 0) s (take n ss),
      count_enumerated (m + 1) n ss,
    )

-- the part of the relocations of a section
records_part : (t : ElfTable) (n : ℕ) (s : ElfTableSection) → slice_get t.sections n ≡ Some s → is_relocated s ≡ true → slice_get (parts_of t) (length t.sections + (1 + count_by is_relocated (take n t.sections))) ≡ Some (relocation_part t (1 + n, s))
records_part t n s e h =
    let there = get_filter has_relocations (enumerate_from 1 t.sections) n (1 + n, s) (enumerate_get 1 t.sections n s e) h in
    let place : count_by has_relocations (take n (enumerate_from 1 t.sections)) ≡ count_by is_relocated (take n t.sections) = count_enumerated 1 n t.sections in
    part_at_relocations t (count_by is_relocated (take n t.sections)) (length t.sections + (1 + count_by is_relocated (take n t.sections))) (relocation_part t (1 + n, s))
    (get_map (relocation_part t) (numbered t) (count_by is_relocated (take n t.sections)) (1 + n, s) (ap (slice_get (numbered t)) (sym place) ∙ there)) refl

-- ---- the sections of the image, by their places

record IsRecords (t : ElfTable) (k : ℕ) (x : ElfSectionData) : Type 0 where
  number : ℕ
  section : ElfTableSection
  at : slice_get t.sections number ≡ Some section
  has : is_relocated section ≡ true
  place : length t.sections + (1 + count_by is_relocated (take number t.sections)) ≡ k
  part : slice_get (parts_of t) k ≡ Some (relocation_part t (1 + number, section))
  same : records_shown t (1 + number, section) ≡ x

data ShownCase (t : ElfTable) (k : ℕ) (x : ElfSectionData) : Type 0 where
  is_content : (s : ElfTableSection) → slice_get t.sections k ≡ Some s → section_shown s ≡ x → ShownCase t k x
  is_note : length t.sections ≡ k → shown note_part [] [] ≡ x → ShownCase t k x
  is_records : IsRecords t k x → ShownCase t k x
  is_symbols : front_count t ≡ k → shown (symbol_part t) (symbol_contents t.symbols).bytes [] ≡ x → ShownCase t k x
  is_symbol_strings : front_count t + 1 ≡ k → strings_shown (codes ".strtab") (symbol_names t) ≡ x → ShownCase t k x
  is_section_strings : front_count t + 2 ≡ k → strings_shown (codes ".shstrtab") (section_names t) ≡ x → ShownCase t k x

abbrev middle_shown : ElfTable → List ElfSectionData
middle_shown t = shown note_part [] [] ∷ map (records_shown t) (numbered t)

abbrev tables_shown : ElfTable → List ElfSectionData
tables_shown t = shown (symbol_part t) (symbol_contents t.symbols).bytes [] ∷ strings_shown (codes ".strtab") (symbol_names t) ∷ strings_shown (codes ".shstrtab") (section_names t) ∷ []

abbrev front_shown : ElfTable → List ElfSectionData
front_shown t = map section_shown t.sections ++ middle_shown t

length-front_shown : (t : ElfTable) → length (front_shown t) ≡ front_count t
length-front_shown t = omega (arith, length-append (map section_shown t.sections) (middle_shown t), length-map t.sections section_shown, length-map (numbered t) (records_shown t), length-enumerated 1 t.sections)

length-sections_shown : (t : ElfTable) → length (sections_shown t) ≡ length (parts_of t)
unfolding sections_shown
length-sections_shown t = omega (arith, length-append (front_shown t) (tables_shown t), length-front_shown t, length-parts_of t)

pair_is : (y : ℕ × ElfTableSection) (n : ℕ) (s : ElfTableSection) → n ≡ y.0 → Some y.1 ≡ Some s → y ≡ (n, s)
pair_is y n s e h = let same : y.1 ≡ s = cc in rw (e, ← same) refl

-- the part of relocations at a place, by the section whose records they are
records_of_pair : (t : ElfTable) (j k : ℕ) (y : ℕ × ElfTableSection) (x : ElfSectionData) → length t.sections + (1 + j) ≡ k → slice_get (numbered t) j ≡ Some y → records_shown t y ≡ x → IsRecords t k x
records_of_pair t j k y x place e same =
    let part = get_map (relocation_part t) (numbered t) j y e in
    let r = relocates t 1 t.sections j (relocation_part t y) part in
    let found = passing has_relocations (enumerate_from 1 t.sections) j y e in
    let one = enumerated 1 t.sections found.place y found.at in
    let row : 1 + r.number ≡ y.0 = ap (λ (p : Part). p.info) r.part in
    let number : found.place ≡ r.number = omega (arith, row, one.0) in
    let own : y ≡ (1 + r.number, r.section) = pair_is y (1 + r.number) r.section row (sym one.1 ∙ ap (slice_get t.sections) number ∙ r.at) in
    record {
      number = r.number;
      section = r.section;
      at = r.at;
      has = r.has;
      place = omega (arith, place, r.place);
      part = part_at_relocations t j k (relocation_part t (1 + r.number, r.section)) (part ∙ ap (λ p. Some p) (sym r.part)) place;
      same = ap (records_shown t) (sym own) ∙ same;
    }

middle_shown_case : (t : ElfTable) (j k : ℕ) (x : ElfSectionData) → length t.sections + j ≡ k → slice_get (middle_shown t) j ≡ Some x → ShownCase t k x
middle_shown_case t zero k x n e = is_note (omega (arith, n)) (cc)
middle_shown_case t (suc j) k x n e =
    let y = get_map_from (records_shown t) (numbered t) j x e in
    is_records (records_of_pair t j k y.0 x (omega (arith, n)) y.1 y.2)

front_shown_case : (t : ElfTable) (k : ℕ) (x : ElfSectionData) → slice_get (front_shown t) k ≡ Some x → ShownCase t k x
front_shown_case t k x e =
    elim (get_append (map section_shown t.sections) (middle_shown t) k x e) [
      | inl h ↦ let r = get_map_from section_shown t.sections k x h in is_content r.0 r.1 r.2
      | inr r ↦ middle_shown_case t r.0 k x (omega (arith, r.1, length-map t.sections section_shown)) r.2
    ]

table_shown_case : (t : ElfTable) (j k : ℕ) (x : ElfSectionData) → front_count t + j ≡ k → slice_get (tables_shown t) j ≡ Some x → ShownCase t k x
table_shown_case t zero k x n e = is_symbols (omega (arith, n)) (cc)
table_shown_case t (suc zero) k x n e = is_symbol_strings n (cc)
table_shown_case t (suc (suc zero)) k x n e = is_section_strings n (cc)
table_shown_case t (suc (suc (suc j))) k x n e = absurd (cc)

shown_case : (t : ElfTable) (k : ℕ) (x : ElfSectionData) → slice_get (sections_shown t) k ≡ Some x → ShownCase t k x
unfolding sections_shown
shown_case t k x e =
    elim (get_append (front_shown t) (tables_shown t) k x e) [
      | inl h ↦ front_shown_case t k x h
      | inr r ↦ let n : front_count t + r.0 ≡ k = omega (arith, r.1, length-front_shown t) in table_shown_case t r.0 k x n r.2
    ]

-- ---- the records of a row

-- a row whose records are those of a section
record Names (t : ElfTable) (k j : ℕ) : Type 0 where
  number : ℕ
  section : ElfTableSection
  at : slice_get t.sections number ≡ Some section
  has : is_relocated section ≡ true
  target : number + 1 ≡ k
  row : relocations_row t number ≡ j

abbrev names_row : ElfTable → ℕ → ℕ → Bool
names_row t k j = (section_row (elf_file t) j).sh_type == 4 && (section_row (elf_file t) j).info == k

row_names : (t : ElfTable) → FitsElf t → (k j : ℕ) → RowOf t j → names_row t k j ≡ true → Names t k j
row_names t f k j r e =
    let both = and_parts ((section_row (elf_file t) j).sh_type == 4) ((section_row (elf_file t) j).info == k) e in
    let four : r.part.sh_type ≡ 4 = ap (λ (x : ElfSectionRow). x.sh_type) (sym r.row) ∙ eqb-true (section_row (elf_file t) j).sh_type 4 both.0 in
    let info : r.part.info ≡ k = ap (λ (x : ElfSectionRow). x.info) (sym r.row) ∙ eqb-true (section_row (elf_file t) j).info k both.1 in
    let c = four_relocates t r.number r.part f (part_case t r.number r.part r.at) four in
    let from = c.2 in
    let own : 1 + from.number ≡ r.part.info = ap (λ (p : Part). p.info) from.part in
    record { number = from.number; section = from.section; at = from.at; has = from.has; target = omega (arith, own, info); row = omega (arith, c.1, from.place, r.behind) }

records_if : (t : ElfTable) (k j : ℕ) (b : Bool) → names_row t k j ≡ b → (b ≡ true → ⊥) → records_for (elf_file t) k j ≡ []
records_if t k j true e other = absurd (other refl)
records_if t k j false e other = rw e refl

-- the rows of the file
row_count : (t : ElfTable) → FitsElf t → (header_of (elf_file t)).shnum - 1 ≡ length (parts_of t)
row_count t f = omega (arith, shnum_is t f)

row_of_number : (t : ElfTable) → FitsElf t → (j : ℕ) → 1 ≤ j → j < 1 + ((header_of (elf_file t)).shnum - 1) → RowOf t j
row_of_number t f j h l = row_of t f j h (omega (arith, l, shnum_is t f))

-- no row has records of row k
no_records : (t : ElfTable) → FitsElf t → (k : ℕ) → ((j : ℕ) → Names t k j → ⊥) → flat_map (records_for (elf_file t) k) (row_numbers (elf_file t)) ≡ []
no_records t f k none =
    flat_none (records_for (elf_file t) k) 1 ((header_of (elf_file t)).shnum - 1) (λ j h l. records_if t k j (names_row t k j) refl (λ e. none j (row_names t f k j (row_of_number t f j h l) e)))

section_row_of_records : (t : ElfTable) → FitsElf t → (n : ℕ) (s : ElfTableSection) → slice_get t.sections n ≡ Some s → is_relocated s ≡ true
    → section_row (elf_file t) (relocations_row t n) ≡ row_for t (length t.sections + (1 + count_by is_relocated (take n t.sections))) (relocation_part t (1 + n, s))
section_row_of_records t f n s e h = row_of_part t f (length t.sections + (1 + count_by is_relocated (take n t.sections))) (relocations_row t n) (relocation_part t (1 + n, s)) (records_part t n s e h) (omega arith)

size_of_records : (n : ℕ) → 24 * n / 24 ≡ n
size_of_records n = omega arith

record_is : (t : ElfTable) → FitsElf t → (n m : ℕ) (s : ElfTableSection) (x : ElfRelocationRow) → slice_get t.sections n ≡ Some s → slice_get (map record_for s.relocations) m ≡ Some x → relocation_row (elf_file t) (relocations_row t n) (0 + m) ≡ x
record_is t f n m s x e h =
    let r = get_map_from record_for s.relocations m x h in
    let place : (section_row (elf_file t) (relocations_row t n)).offset + 24 * (0 + m) ≡ part_offset (elf_file t) t (relocations_row t n) + 24 * m = omega (arith, ap (λ (y : ElfSectionRow). y.offset) (section_row_is t f (relocations_row t n))) in
    ap (relocation_row_at (elf_file t)) place ∙ relocation_here t f n s e m r.0 r.1 ∙ r.2

own_row : (t : ElfTable) → FitsElf t → (n : ℕ) (s : ElfTableSection) → slice_get t.sections n ≡ Some s → is_relocated s ≡ true → names_row t (n + 1) (relocations_row t n) ≡ true
own_row t f n s e h =
    let place : 1 + n ≡ n + 1 = omega arith in
    rw (section_row_of_records t f n s e h) (eq-eqb (1 + n) (n + 1) place)

own_records : (t : ElfTable) → FitsElf t → (n : ℕ) (s : ElfTableSection) → slice_get t.sections n ≡ Some s → is_relocated s ≡ true → records_for (elf_file t) (n + 1) (relocations_row t n) ≡ map record_for s.relocations
own_records t f n s e h =
    let count : entries (section_row (elf_file t) (relocations_row t n)) ≡ length s.relocations = ap entries (section_row_of_records t f n s e h) ∙ size_of_records (length s.relocations) in
    let all : map (relocation_row (elf_file t) (relocations_row t n)) (range_with_len 0 (entries (section_row (elf_file t) (relocations_row t n)))) ≡ map record_for s.relocations =
    map_range (relocation_row (elf_file t) (relocations_row t n)) 0 (entries (section_row (elf_file t) (relocations_row t n))) (map record_for s.relocations) (length-map s.relocations record_for ∙ sym count) (λ m x g. record_is t f n m s x e g) in
    rw (own_row t f n s e h) all

no_relocations : (s : ElfTableSection) → is_relocated s ≡ false → s.relocations ≡ []
no_relocations s e = nil_from_length s.relocations (eqb-true (length s.relocations) 0 (not-false (length s.relocations == 0) e))

section_records_by : (t : ElfTable) → FitsElf t → (n : ℕ) (s : ElfTableSection) (b : Bool) → slice_get t.sections n ≡ Some s → is_relocated s ≡ b → flat_map (records_for (elf_file t) (n + 1)) (row_numbers (elf_file t)) ≡ map record_for s.relocations
section_records_by t f n s true e h =
    let few : count_by is_relocated (take n t.sections) ≤ count_by is_relocated t.sections = sum_by-take-le (λ x. cond (is_relocated x) 1 0) t.sections n in
    let inside : relocations_row t n < 1 + ((header_of (elf_file t)).shnum - 1) = omega (arith, few, row_count t f, length-parts_of t) in
    flat_one (records_for (elf_file t) (n + 1)) 1 ((header_of (elf_file t)).shnum - 1) (relocations_row t n) (omega arith) inside
    (λ j g l other. records_if t (n + 1) j (names_row t (n + 1) j) refl
    (λ yes.
    let names = row_names t f (n + 1) j (row_of_number t f j g l) yes in
    let same : names.number ≡ n = omega (arith, names.target) in
    other (sym names.row ∙ ap (relocations_row t) same)))
    ∙ own_records t f n s e h
section_records_by t f n s false e h =
    no_records t f (n + 1)
    (λ j names.
    let same : names.number ≡ n = omega (arith, names.target) in
    let at : Some names.section ≡ Some s = sym names.at ∙ ap (slice_get t.sections) same ∙ e in
    let one : names.section ≡ s = cc in
    let never : true ≡ false = sym names.has ∙ ap is_relocated one ∙ h in
    absurd (cc))
    ∙ ap (map record_for) (sym (no_relocations s h))

section_records : (t : ElfTable) → FitsElf t → (n : ℕ) (s : ElfTableSection) → slice_get t.sections n ≡ Some s → flat_map (records_for (elf_file t) (n + 1)) (row_numbers (elf_file t)) ≡ map record_for s.relocations
section_records t f n s e = section_records_by t f n s (is_relocated s) e refl

-- nothing relocates the rows behind the sections
later_records : (t : ElfTable) → FitsElf t → (k : ℕ) → length t.sections ≤ k → flat_map (records_for (elf_file t) (k + 1)) (row_numbers (elf_file t)) ≡ []
later_records t f k h = no_records t f (k + 1) (λ j names. omega (arith, h, names.target, get_within t.sections names.number names.section names.at))

-- ---- each section

abbrev built : Option (List ℕ) → ElfSectionRow → List ℕ → List ElfRelocationRow → ElfSectionData
built name row contents relocations =
    record {
      name = unwrap_or name [];
      sh_type = row.sh_type;
      flags = row.flags;
      address = row.address;
      size = row.size;
      link = row.link;
      info = row.info;
      align = row.align;
      entsize = row.entsize;
      contents = contents;
      relocations = relocations;
    }

shown_is : (t : ElfTable) → FitsElf t → (k : ℕ) (p : Part) (contents : List ℕ) (relocations : List ElfRelocationRow) → slice_get (parts_of t) k ≡ Some p → stored_bytes (elf_file t) (section_row (elf_file t) (k + 1)) ≡ contents
    → flat_map (records_for (elf_file t) (k + 1)) (row_numbers (elf_file t)) ≡ relocations → section_data (elf_file t) (k + 1) ≡ shown p contents relocations
shown_is t f k p contents relocations e bytes records =
    let b = elf_file t in
    let row = section_row b (k + 1) in
    let all = flat_map (records_for b (k + 1)) (row_numbers b) in
    ap (λ n. built n row (stored_bytes b row) all) (section_name_is t f k (k + 1) p e refl)
    ∙ ap (λ c. built (Some p.name) row c all) bytes
    ∙ ap (λ r. built (Some p.name) row contents r) records
    ∙ ap (λ r. built (Some p.name) r contents relocations) (row_of_part t f k (k + 1) p e refl)

same_contents : (t : ElfTable) (k : ℕ) (c d : Aligned) → slice_get (contents_of t) k ≡ Some c → slice_get (contents_of t) k ≡ Some d → c ≡ d
same_contents t k c d e h = cc

-- a part that is stored shows its contents
stored_part : (t : ElfTable) → FitsElf t → (k : ℕ) (p : Part) (c : Aligned) → slice_get (parts_of t) k ≡ Some p → slice_get (contents_of t) k ≡ Some c → has_bytes (row_for t k p) ≡ true → is_stored p ≡ true
    → stored_bytes (elf_file t) (section_row (elf_file t) (k + 1)) ≡ c.bytes
stored_part t f k p c e at has stored =
    let h = part_here t f k p e in
    ap (stored_bytes (elf_file t)) (row_of_part t f k (k + 1) p e refl)
    ∙ stored_yes (elf_file t) (row_for t k p) has
    ∙ bytes_stand (elf_file t) h.contents.bytes (start_of (parts_of t) k p) p.size h.here (sym (h.fits.size stored))
    ∙ ap (λ (x : Aligned). x.bytes) (same_contents t k h.contents c h.at at)

no_bytes : (b : List ℕ) (p : ℕ) → bytes_at b p 0 ≡ []
unfolding bytes_at
no_bytes b p = refl

note_bytes : (t : ElfTable) → FitsElf t → (k : ℕ) → slice_get (parts_of t) k ≡ Some note_part → stored_bytes (elf_file t) (section_row (elf_file t) (k + 1)) ≡ []
note_bytes t f k e = ap (stored_bytes (elf_file t)) (row_of_part t f k (k + 1) note_part e refl) ∙ no_bytes (elf_file t) (start_of (parts_of t) k note_part)

content_bytes : (t : ElfTable) → FitsElf t → (k : ℕ) (s : ElfTableSection) → slice_get t.sections k ≡ Some s → stored_bytes (elf_file t) (section_row (elf_file t) (k + 1)) ≡ s.contents
content_bytes t f k s e = ap (stored_bytes (elf_file t)) (section_row_is t f (k + 1)) ∙ section_contents_here t f k s e

records_is : (t : ElfTable) → FitsElf t → (k : ℕ) (x : ElfSectionData) → IsRecords t k x → section_data (elf_file t) (k + 1) ≡ x
records_is t f k x r =
    shown_is t f k (relocation_part t (1 + r.number, r.section)) (relocation_contents r.section).bytes [] r.part
    (stored_part t f k (relocation_part t (1 + r.number, r.section)) (relocation_contents r.section) r.part (contents_at_relocations t r.number k r.section r.at r.has r.place) refl refl)
    (later_records t f k (omega (arith, r.place)))
    ∙ r.same

section_by_case : (t : ElfTable) → FitsElf t → (k : ℕ) (x : ElfSectionData) → ShownCase t k x → section_data (elf_file t) (k + 1) ≡ x
section_by_case t f k x (is_content s e same) = shown_is t f k (content_part s) s.contents (map record_for s.relocations) (part_at_section t k s e) (content_bytes t f k s e) (section_records t f k s e) ∙ same
section_by_case t f k x (is_note place same) = shown_is t f k note_part [] [] (part_at_note t k place) (note_bytes t f k (part_at_note t k place)) (later_records t f k (omega (arith, place))) ∙ same
section_by_case t f k x (is_records r) = records_is t f k x r
section_by_case t f k x (is_symbols place same) =
    shown_is t f k (symbol_part t) (symbol_contents t.symbols).bytes [] (part_at_symbols t k place) (stored_part t f k (symbol_part t) (symbol_contents t.symbols) (part_at_symbols t k place) (contents_at_symbols t k place) refl refl)
    (later_records t f k (omega (arith, place)))
    ∙ same
section_by_case t f k x (is_symbol_strings place same) =
    let p = string_part (codes ".strtab") (strings_size (symbol_names t)) in
    shown_is t f k p (string_contents (symbol_names t)).bytes [] (part_at_symbol_strings t k place) (stored_part t f k p (string_contents (symbol_names t)) (part_at_symbol_strings t k place) (contents_at_symbol_strings t k place) refl refl)
    (later_records t f k (omega (arith, place)))
    ∙ same
section_by_case t f k x (is_section_strings place same) =
    let p = string_part (codes ".shstrtab") (strings_size (section_names t)) in
    shown_is t f k p (string_contents (section_names t)).bytes [] (part_at_section_strings t k place) (stored_part t f k p (string_contents (section_names t)) (part_at_section_strings t k place) (contents_at_section_strings t k place) refl refl)
    (later_records t f k (omega (arith, place)))
    ∙ same

-- ---- the image

sections_are : (t : ElfTable) → FitsElf t → map (section_data (elf_file t)) (row_numbers (elf_file t)) ≡ sections_shown t
sections_are t f =
    map_range (section_data (elf_file t)) 1 ((header_of (elf_file t)).shnum - 1) (sections_shown t) (length-sections_shown t ∙ sym (row_count t f))
    (λ k x e. let place : 1 + k ≡ k + 1 = omega arith in ap (section_data (elf_file t)) place ∙ section_by_case t f k x (shown_case t k x e))

symbol_by_place : (t : ElfTable) → FitsElf t → (k : ℕ) (x : ElfSymbolData) → slice_get (map symbol_shown t.symbols) k ≡ Some x → symbol_data (elf_file t) (symbol_table_row t) (1 + k) ≡ x
symbol_by_place t f k x e =
    let s = get_map_from symbol_shown t.symbols k x e in
    let place : 1 + k ≡ suc k = omega arith in
    ap (symbol_data (elf_file t) (symbol_table_row t)) place ∙ rw (symbol_name_is t f k s.0 s.1, symbol_row_is t f k s.0 s.1) s.2

symbols_are : (t : ElfTable) → FitsElf t → symbols_in (elf_file t) (symbol_table (elf_file t)) ≡ map symbol_shown t.symbols
symbols_are t f =
    ap (symbols_in (elf_file t)) (symbol_table_is t f)
    ∙ map_range (symbol_data (elf_file t) (symbol_table_row t)) 1 (entries (section_row (elf_file t) (symbol_table_row t)) - 1) (map symbol_shown t.symbols) (omega (arith, length-map t.symbols symbol_shown, table_entries t f)) (symbol_by_place t f)

locals_are : (t : ElfTable) → FitsElf t → locals_in (elf_file t) (symbol_table (elf_file t)) ≡ t.locals
locals_are t f = ap (locals_in (elf_file t)) (symbol_table_is t f) ∙ ap (λ (r : ElfSectionRow). r.info) (table_row_is t f)

pub file_image : (t : ElfTable) → FitsElf t → elf_image_of (elf_file t) ≡ image_for t
unfolding elf_image_of image_for
file_image t f =
    let machine : (header_of (elf_file t)).machine ≡ t.machine = ap (λ (h : ElfHeader). h.machine) (header_is t f) in
    let flags : (header_of (elf_file t)).flags ≡ t.flags = ap (λ (h : ElfHeader). h.flags) (header_is t f) in
    rw (machine, flags, sections_are t f, symbols_are t f, locals_are t f) refl

-- ---- a file that holds a table of bytes

pub only_image : (t : ElfTable) (b : List ℕ) → FitsElf t → b ≡ elf_file t → ReadsOnly b (image_for t)
only_image t b f same =
    let image : elf_image_of b ≡ image_for t = ap elf_image_of same ∙ file_image t f in
    record {
      reads = record { file = subst IsElf (sym same) (file_is_elf t f); rows = sym image };
      only = λ other h. h.rows ∙ image;
    }
