-- The file of each table that fits holds the table.
use Rattle.std.proofs.Common.{◌≡◌, ℕ, zero, suc, ◌+◌, ◌-◌, ◌*◌, ◌/◌, ◌<◌, ◌≤◌, ◌==◌, [], ◌∷◌, length, take, refl, ap, sym, ◌∙◌, arith, Option, Some, Bool, true, false, slice_get, ◌⊎◌, inl, inr, cond}
use Rattle.std.specs.Prelude.{find, count_by}
use Rattle.std.specs.List.{range_with_len}
use Rattle.std.proofs.lemmas.Bool.{ne_eqb, eq-eqb}
use Rattle.byte_core.specs.Number.{bytes_at}
use Rattle.byte_core.proofs.Standing.{stands_left, bytes_stand}
use Rattle.object_core.specs.LinkTable.{ElfTable, ElfTableSection}
use Rattle.image_read.specs.ElfFile.{ElfHeader, header_of, ElfSectionRow, section_row, symbol_table, entries, relocation_row, relocation_row_at}
use Rattle.image_read.specs.ElfImage.{IsRelocations, IsElf}
use Rattle.object_elf.specs.Layout.{is_relocated, symbol_table_row, relocation_part}
use Rattle.object_elf.specs.ElfHolds.{ElfHolds, row_for, part_offset, record_for, relocations_row}
use Rattle.object_elf.specs.File.{elf_file}
use Rattle.object_elf.specs.Fitting.{FitsElf}
use Rattle.byte_core.proofs.Lists.{get_exists, get_within}
use Rattle.object_elf.proofs.PartCases.{part_case, length-parts_of}
use Rattle.object_elf.proofs.Places.{header_here, length-elf_file}
use Rattle.object_elf.proofs.SectionRows.{section_row_here, null_section_here}
use Rattle.object_elf.proofs.SymbolRows.{symbol_row_here, null_symbol_here}
use Rattle.object_elf.proofs.Contents.{section_contents_here, relocation_here, symbol_texts_here, section_texts_here, padding_here, padding_end_here}
use Rattle.object_elf.proofs.Reading.{RowOf, row_of, header_is, shnum_is, shoff_is, section_row_is, names_are_strings}
use Rattle.object_elf.proofs.ReadingTables.{four_relocates, section_is_section, row_two, table_row_is, table_entries, tables_are_tables}

-- ---- the symbol table is found

-- the first of a stretch of numbers that passes
find_here : (test : ℕ → Bool) (a k : ℕ) (rest : Option ℕ) → (a ≡ k) ⊎ (a + 1 ≤ k) → test k ≡ true → ((j : ℕ) → a ≤ j → j < k → test j ≡ false) → (a + 1 ≤ k → rest ≡ Some k) → cond (test a) (Some a) rest ≡ Some k
find_here test a k rest (inl same) passes none later = rw (same, passes) refl
find_here test a k rest (inr h) passes none later = rw (none a (omega arith) (omega arith)) (later h)

pub here_or_later : (a k : ℕ) → a ≤ k → (a ≡ k) ⊎ (a + 1 ≤ k)
here_or_later a k h = grind (arith)

find_from : (test : ℕ → Bool) (a n k : ℕ) → a ≤ k → k < a + n → test k ≡ true → ((j : ℕ) → a ≤ j → j < k → test j ≡ false) → find test (range_with_len a n) ≡ Some k
find_from test a zero k h l passes none = absurd (omega arith)
find_from test a (suc n) k h l passes none =
    find_here test a k (find test (range_with_len (a + 1) n)) (here_or_later a k h) passes none
    (λ later. find_from test (a + 1) n k later (omega (arith, l)) passes (λ j g m. none j (omega (arith, g)) m))

abbrev is_table : ElfTable → ℕ → Bool
is_table t k = (section_row (elf_file t) k).sh_type == 2

table_yes : (t : ElfTable) → FitsElf t → is_table t (symbol_table_row t) ≡ true
table_yes t f = eq-eqb (section_row (elf_file t) (symbol_table_row t)).sh_type 2 (ap (λ (r : ElfSectionRow). r.sh_type) (table_row_is t f))

table_none : (t : ElfTable) → FitsElf t → (j : ℕ) → 1 ≤ j → j < symbol_table_row t → is_table t j ≡ false
table_none t f j h l =
    ne_eqb (section_row (elf_file t) j).sh_type 2
    (λ two. let same : j ≡ symbol_table_row t = row_two t f j h (omega (arith, l, shnum_is t f, length-parts_of t)) two in omega (arith, same, l))

pub symbol_table_is : (t : ElfTable) → FitsElf t → symbol_table (elf_file t) ≡ Some (symbol_table_row t)
unfolding symbol_table
symbol_table_is t f =
    find_from (is_table t) 1 ((header_of (elf_file t)).shnum - 1) (symbol_table_row t) (omega arith) (omega (arith, shnum_is t f, length-parts_of t)) (table_yes t f) (table_none t f)

-- ---- relocations

-- row k has the records of section n
abbrev relocation_row_for : ElfTable → ℕ → ℕ → ElfTableSection → ElfSectionRow
relocation_row_for t k n s = row_for t k (relocation_part t (1 + n, s))

records_fit : (t : ElfTable) → FitsElf t → (n row m : ℕ) (s : ElfTableSection) → slice_get t.sections n ≡ Some s → row ≡ relocations_row t n → m < length s.relocations → (relocation_row (elf_file t) row m).symbol < length t.symbols + 1
records_fit t f n row m s e h l =
    let r = get_exists s.relocations m l in
    let here : relocation_row (elf_file t) row m ≡ record_for r.0 =
    ap (λ off. relocation_row_at (elf_file t) (off + 24 * m)) (ap (λ (x : ElfSectionRow). x.offset) (section_row_is t f row) ∙ ap (part_offset (elf_file t) t) h) ∙ relocation_here t f n s e m r.0 r.1 in
    let fits = (f.sections n s e).relocations m r.0 r.1 in
    rw here (omega (arith, fits.symbol))

size_of_records : (n : ℕ) → 24 * n / 24 ≡ n
size_of_records n = omega arith

relocations_are : (t : ElfTable) → FitsElf t → (k j n : ℕ) (s : ElfTableSection) → slice_get t.sections n ≡ Some s → section_row (elf_file t) (k + 1) ≡ relocation_row_for t k n s → length t.sections + (1 + j) ≡ k
    → count_by is_relocated (take n t.sections) ≡ j → IsRelocations (elf_file t) (k + 1)
relocations_are t f k j n s e row place count = record {
  entry = ap (λ (r : ElfSectionRow). r.entsize) row;
  whole = rw row (omega arith);
  table = rw row (symbol_table_is t f);
  target_behind_null = rw row (omega arith);
  target = rw row (omega (arith, get_within t.sections n s e, shnum_is t f, length-parts_of t));
  records = λ m l.
      let few : m < length s.relocations = omega (arith, size_of_records (length s.relocations), rw row at l) in
      let fits = records_fit t f n (k + 1) m s e (omega (arith, place, count)) few in
      let link : (section_row (elf_file t) (k + 1)).link ≡ symbol_table_row t = ap (λ (r : ElfSectionRow). r.link) row in
      let bound : entries (section_row (elf_file t) (section_row (elf_file t) (k + 1)).link) ≡ length t.symbols + 1 = ap (λ n. entries (section_row (elf_file t) n)) link ∙ table_entries t f in
      omega (arith, fits, bound);
}

relocations_of_part : (t : ElfTable) → FitsElf t → (k : ℕ) → RowOf t k → (section_row (elf_file t) k).sh_type ≡ 4 → IsRelocations (elf_file t) k
relocations_of_part t f k r e =
    let four : r.part.sh_type ≡ 4 = ap (λ (x : ElfSectionRow). x.sh_type) (sym r.row) ∙ e in
    let c = four_relocates t r.number r.part f (part_case t r.number r.part r.at) four in
    let from = c.2 in
    let row : section_row (elf_file t) (r.number + 1) ≡ row_for t r.number r.part = ap (section_row (elf_file t)) r.behind ∙ r.row in
    rw (← r.behind) (relocations_are t f r.number c.0 from.number from.section from.at (row ∙ ap (row_for t r.number) (sym from.part)) c.1 from.place)

pub relocations_are_relocations : (t : ElfTable) → FitsElf t → (k : ℕ) → 1 ≤ k → k < (header_of (elf_file t)).shnum → (section_row (elf_file t) k).sh_type ≡ 4 → IsRelocations (elf_file t) k
relocations_are_relocations t f k h l e = relocations_of_part t f k (row_of t f k h l) e

-- ---- all of it

ident_here : (t : ElfTable) → bytes_at (elf_file t) 0 7 ≡ 0x7f ∷ 0x45 ∷ 0x4c ∷ 0x46 ∷ 2 ∷ 1 ∷ 1 ∷ []
ident_here t =
    bytes_stand (elf_file t) (0x7f ∷ 0x45 ∷ 0x4c ∷ 0x46 ∷ 2 ∷ 1 ∷ 1 ∷ []) 0 7 (stands_left (elf_file t) (0x7f ∷ 0x45 ∷ 0x4c ∷ 0x46 ∷ 2 ∷ 1 ∷ 1 ∷ []) _ 0 (header_here t)) refl

pub file_is_elf : (t : ElfTable) → FitsElf t → IsElf (elf_file t)
file_is_elf t f = record {
  header = omega (arith, length-elf_file t f);
  ident = ident_here t;
  kind = ap (λ (h : ElfHeader). h.e_type) (header_is t f);
  ehsize = ap (λ (h : ElfHeader). h.ehsize) (header_is t f);
  shentsize = ap (λ (h : ElfHeader). h.shentsize) (header_is t f);
  some = omega (arith, shnum_is t f);
  rows = omega (arith, shoff_is t f, shnum_is t f, length-elf_file t f);
  names = names_are_strings t f;
  sections = section_is_section t f;
  tables = tables_are_tables t f;
  relocations = relocations_are_relocations t f;
}

pub file_holds : (t : ElfTable) → FitsElf t → ElfHolds (elf_file t) t
file_holds t f = record {
  file = file_is_elf t f;
  header = header_is t f;
  no_section = null_section_here t f;
  sections = section_row_here t f;
  contents = section_contents_here t f;
  no_symbol = null_symbol_here t f;
  symbols = symbol_row_here t f;
  relocations = relocation_here t f;
  symbol_texts = symbol_texts_here t f;
  section_texts = section_texts_here t f;
  padding = padding_here t f;
  padding_end = padding_end_here t f;
  end = length-elf_file t f;
}
