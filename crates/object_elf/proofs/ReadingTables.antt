-- The file of a table meets the conditions of reading: sections, symbol table and relocations.
use Rattle.std.proofs.Common.{◌≡◌, ◌≢◌, ℕ, zero, suc, ◌+◌, ◌*◌, ◌/◌, ◌<◌, ◌≤◌, ◌==◌, length, refl, ap, sym, ◌∙◌, arith, Some, true, not, slice_get, ◌⊎◌, inl, inr, subst, codes}
use Rattle.std.proofs.lemmas.Bool.{and_parts}
use Rattle.byte_core.proofs.Standing.{stands_inside}
use Rattle.byte_core.specs.Strings.{strings_size}
use Rattle.object_core.specs.LinkTable.{ElfTable, ElfTableSection, ElfTableSymbol}
use Rattle.image_read.specs.ElfFile.{header_of, ElfSectionRow, section_row, symbol_row, symbol_row_at, symbol_name, entries}
use Rattle.image_read.specs.ElfImage.{IsStrings, IsSection, IsSymbol, IsSymbolTable}
use Rattle.object_elf.specs.Layout.{Part, symbol_table_row, symbol_names, parts_of, is_stored, start_of, symbol_part, string_part}
use Rattle.object_elf.specs.ElfHolds.{row_for, part_offset, symbol_for}
use Rattle.object_elf.specs.File.{elf_file}
use Rattle.object_elf.specs.Fitting.{FitsElf, HasContents}
use Rattle.byte_core.proofs.Lists.{get_exists, get_map}
use Rattle.object_elf.proofs.PartCases.{front_count, PartCase, part_case, Relocates, length-parts_of, part_at_symbols, part_at_symbol_strings}
use Rattle.object_elf.proofs.PartCases.PartCase.{is_content, is_note, is_relocations, is_symbols, is_symbol_strings, is_section_strings}
use Rattle.object_elf.proofs.SectionRows.{PartHere, part_here}
use Rattle.object_elf.proofs.SymbolRows.{symbol_row_here}
use Rattle.object_elf.proofs.Contents.{symbol_texts_stand}
use Rattle.byte_core.proofs.StringTables.{name_here}
use Rattle.object_elf.proofs.Reading.{row_of, row_of_part, shnum_is, section_row_is, section_name_is, strings_row}

-- ---- the types of the parts

content_type : (s : ElfTableSection) → HasContents s → (s.sh_type ≡ 1) ⊎ (s.sh_type ≡ 8)
content_type s (inl h) = inl h.0
content_type s (inr h) = inr h.0

-- a content section is neither of these
content_is_not : (s : ElfTableSection) (n : ℕ) → HasContents s → 1 ≢ n → 8 ≢ n → s.sh_type ≢ n
content_is_not s n h one eight e = elim (content_type s h) [ inl t ↦ one (sym t ∙ e) | inr t ↦ eight (sym t ∙ e) ]

-- the types of a part: a content section's, 1 of the note, 4 of relocations, 2 of the symbol table, 3 of strings
not_nine : (t : ElfTable) (k : ℕ) (p : Part) → FitsElf t → PartCase t k p → p.sh_type ≢ 9
not_nine t k p f (is_content s at same) = rw (← same) (content_is_not s 9 (f.sections k s at).contents (λ e. omega arith) (λ e. omega arith))
not_nine t k p f (is_note same) = rw (← same) (λ e. omega arith)
not_nine t k p f (is_relocations j at r) = rw (← r.part) (λ e. omega arith)
not_nine t k p f (is_symbols at same) = rw (← same) (λ e. omega arith)
not_nine t k p f (is_symbol_strings at same) = rw (← same) (λ e. omega arith)
not_nine t k p f (is_section_strings at same) = rw (← same) (λ e. omega arith)

-- a part of another type
never : {P : Type 0} (p q : Part) (n : ℕ) → q ≡ p → p.sh_type ≡ n → q.sh_type ≢ n → P
never p q n same e other = absurd (other (ap (λ (x : Part). x.sh_type) same ∙ e))

two_is_table : (t : ElfTable) (k : ℕ) (p : Part) → FitsElf t → PartCase t k p → p.sh_type ≡ 2 → front_count t ≡ k
two_is_table t k p f (is_content s at same) e = absurd (content_is_not s 2 (f.sections k s at).contents (λ x. omega arith) (λ x. omega arith) (ap (λ (q : Part). q.sh_type) same ∙ e))
two_is_table t k p f (is_note same) e = never p _ 2 same e (λ x. omega arith)
two_is_table t k p f (is_relocations j at r) e = never p _ 2 r.part e (λ x. omega arith)
two_is_table t k p f (is_symbols at same) e = at
two_is_table t k p f (is_symbol_strings at same) e = never p _ 2 same e (λ x. omega arith)
two_is_table t k p f (is_section_strings at same) e = never p _ 2 same e (λ x. omega arith)

abbrev pub IsRelocationPart : ElfTable → ℕ → Part → Type 0
IsRelocationPart t k p = (j : ℕ) × (length t.sections + (1 + j) ≡ k) × Relocates t 1 t.sections j p

pub four_relocates : (t : ElfTable) (k : ℕ) (p : Part) → FitsElf t → PartCase t k p → p.sh_type ≡ 4 → IsRelocationPart t k p
four_relocates t k p f (is_content s at same) e = absurd (content_is_not s 4 (f.sections k s at).contents (λ x. omega arith) (λ x. omega arith) (ap (λ (q : Part). q.sh_type) same ∙ e))
four_relocates t k p f (is_note same) e = never p _ 4 same e (λ x. omega arith)
four_relocates t k p f (is_relocations j at r) e = (j, at, r)
four_relocates t k p f (is_symbols at same) e = never p _ 4 same e (λ x. omega arith)
four_relocates t k p f (is_symbol_strings at same) e = never p _ 4 same e (λ x. omega arith)
four_relocates t k p f (is_section_strings at same) e = never p _ 4 same e (λ x. omega arith)

-- ---- sections

stored_inside : (t : ElfTable) (k : ℕ) (p : Part) → (h : PartHere t k p) → is_stored p ≡ true → start_of (parts_of t) k p + p.size ≤ length (elf_file t)
stored_inside t k p h s = omega (arith, stands_inside (elf_file t) h.contents.bytes (start_of (parts_of t) k p) h.here, h.fits.size s)

pub section_is_section : (t : ElfTable) → FitsElf t → (k : ℕ) → 1 ≤ k → k < (header_of (elf_file t)).shnum → IsSection (elf_file t) k
section_is_section t f k h l =
    let r = row_of t f k h l in
    record {
      inside = rw r.row (λ s. stored_inside t r.number r.part (part_here t f r.number r.part r.at) (and_parts (not (r.part.sh_type == 0)) (not (r.part.sh_type == 8)) s).1);
      name = rw (section_name_is t f r.number k r.part r.at r.behind) refl;
      kind = rw r.row (not_nine t r.number r.part f (part_case t r.number r.part r.at));
    }

-- ---- the symbol table

-- its header
abbrev pub table_row : ElfTable → ElfSectionRow
table_row t = row_for t (front_count t) (symbol_part t)

pub table_row_is : (t : ElfTable) → FitsElf t → section_row (elf_file t) (symbol_table_row t) ≡ table_row t
table_row_is t f = row_of_part t f (front_count t) (symbol_table_row t) (symbol_part t) (part_at_symbols t (front_count t) refl) (omega arith)

pub row_two : (t : ElfTable) → FitsElf t → (k : ℕ) → 1 ≤ k → k < (header_of (elf_file t)).shnum → (section_row (elf_file t) k).sh_type ≡ 2 → k ≡ symbol_table_row t
row_two t f k h l e =
    let r = row_of t f k h l in
    let two : r.part.sh_type ≡ 2 = ap (λ (x : ElfSectionRow). x.sh_type) (sym r.row) ∙ e in
    omega (arith, r.behind, two_is_table t r.number r.part f (part_case t r.number r.part r.at) two)

entries_are : (n : ℕ) → 24 * n / 24 ≡ n
entries_are n = omega arith

pub table_entries : (t : ElfTable) → FitsElf t → entries (section_row (elf_file t) (symbol_table_row t)) ≡ length t.symbols + 1
table_entries t f = ap (λ (r : ElfSectionRow). r.size / 24) (table_row_is t f) ∙ entries_are (length t.symbols + 1)

-- the place of the table that its header tells
table_offset : (t : ElfTable) → FitsElf t → (section_row (elf_file t) (symbol_table_row t)).offset ≡ part_offset (elf_file t) t (symbol_table_row t)
table_offset t f = ap (λ (r : ElfSectionRow). r.offset) (section_row_is t f (symbol_table_row t))

symbol_strings_are : (t : ElfTable) → FitsElf t → IsStrings (elf_file t) (symbol_table_row t + 1)
symbol_strings_are t f =
    strings_row t f (front_count t + 1) (symbol_table_row t + 1) (strings_size (symbol_names t)) (codes ".strtab") (part_at_symbol_strings t (front_count t + 1) refl) (omega arith) (omega (arith, length-parts_of t))

pub symbol_row_is : (t : ElfTable) → FitsElf t → (k : ℕ) (s : ElfTableSymbol) → slice_get t.symbols k ≡ Some s → symbol_row (elf_file t) (symbol_table_row t) (suc k) ≡ symbol_for t k s
symbol_row_is t f k s e =
    let place : (section_row (elf_file t) (symbol_table_row t)).offset + 24 * suc k ≡ part_offset (elf_file t) t (symbol_table_row t) + 24 * (k + 1) = omega (arith, table_offset t f) in
    ap (symbol_row_at (elf_file t)) place ∙ symbol_row_here t f k s e

strings_row_is : (t : ElfTable) → FitsElf t → section_row (elf_file t) (symbol_table_row t + 1) ≡ row_for t (front_count t + 1) (string_part (codes ".strtab") (strings_size (symbol_names t)))
strings_row_is t f = row_of_part t f (front_count t + 1) (symbol_table_row t + 1) _ (part_at_symbol_strings t (front_count t + 1) refl) (omega arith)

pub symbol_name_is : (t : ElfTable) → FitsElf t → (k : ℕ) (s : ElfTableSymbol) → slice_get t.symbols k ≡ Some s → symbol_name (elf_file t) (symbol_table_row t) (suc k) ≡ Some s.name
symbol_name_is t f k s e =
    let told : part_offset (elf_file t) t (symbol_table_row t + 1) ≡ start_of (parts_of t) (front_count t + 1) (string_part (codes ".strtab") (strings_size (symbol_names t))) =
    ap (λ (r : ElfSectionRow). r.offset) (sym (section_row_is t f (symbol_table_row t + 1)) ∙ strings_row_is t f) in
    rw (symbol_row_is t f k s e, table_row_is t f, strings_row_is t f)
    (name_here (elf_file t) (symbol_names t) (start_of (parts_of t) (front_count t + 1) (string_part (codes ".strtab") (strings_size (symbol_names t)))) k s.name
    (rw told at (symbol_texts_stand t f)) (get_map (λ (x : ElfTableSymbol). x.name) t.symbols k s e) (f.symbols k s e).name)

abbrev IsPlace : ℕ → ℕ → Type 0
IsPlace shnum shndx = (shndx < shnum) ⊎ ((0xff00 ≤ shndx) × (shndx ≤ 0xfffe))

symbol_place : (t : ElfTable) (n shnum : ℕ) → shnum ≡ length (parts_of t) + 1 → (n ≤ length t.sections) ⊎ (n ≡ 0xfff1) → IsPlace shnum n
symbol_place t n shnum e (inl h) = inl (omega (arith, h, e, length-parts_of t))
symbol_place t n shnum e (inr h) = inr (omega (arith, h), omega (arith, h))

symbol_is_symbol : (t : ElfTable) → FitsElf t → (m : ℕ) → 1 ≤ m → m < length t.symbols + 1 → IsSymbol (elf_file t) (symbol_table_row t) m
symbol_is_symbol t f zero h l = absurd (omega (arith, h))
symbol_is_symbol t f (suc k) h l =
    let s = get_exists t.symbols k (omega (arith, l)) in
    record {
      name = rw (symbol_name_is t f k s.0 s.1) refl;
      place = rw (symbol_row_is t f k s.0 s.1) (symbol_place t s.0.shndx (header_of (elf_file t)).shnum (shnum_is t f) (f.symbols k s.0 s.1).section);
    }

table_is_table : (t : ElfTable) → FitsElf t → IsSymbolTable (elf_file t) (symbol_table_row t)
table_is_table t f = record {
  only = row_two t f;
  entry = ap (λ (r : ElfSectionRow). r.entsize) (table_row_is t f);
  whole = rw (table_row_is t f) (omega arith);
  some = rw (table_row_is t f) (omega arith);
  few = rw (table_row_is t f) (omega (arith, f.symbol_count));
  strings = rw (table_row_is t f) (symbol_strings_are t f);
  locals = rw (table_entries t f) (rw (table_row_is t f) f.locals);
  symbols = λ m h l. symbol_is_symbol t f m h (rw (table_entries t f) at l);
}

pub tables_are_tables : (t : ElfTable) → FitsElf t → (k : ℕ) → 1 ≤ k → k < (header_of (elf_file t)).shnum → (section_row (elf_file t) k).sh_type ≡ 2 → IsSymbolTable (elf_file t) k
tables_are_tables t f k h l e = let same : symbol_table_row t ≡ k = sym (row_two t f k h l e) in subst (IsSymbolTable (elf_file t)) same (table_is_table t f)
