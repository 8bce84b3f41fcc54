-- The file of a table meets the conditions of reading: header, sections and their names.
use Rattle.std.proofs.Common.{◌≡◌, ℕ, zero, suc, ◌+◌, ◌*◌, ◌<◌, ◌≤◌, List, length, refl, ap, sym, ◌∙◌, arith, Some, slice_get, lit<, codes}
use Rattle.byte_core.proofs.Standing.{StandsAt}
use Rattle.byte_core.specs.Strings.{strings_size}
use Rattle.object_core.specs.LinkTable.{ElfTable}
use Rattle.image_read.specs.ElfFile.{ElfHeader, header_of, ElfSectionRow, section_row, section_row_at, section_name}
use Rattle.image_read.specs.ElfImage.{IsStrings}
use Rattle.object_elf.specs.Layout.{Part, symbol_table_row, section_names, parts_of, start_of, headers_start, string_part}
use Rattle.object_elf.specs.ElfHolds.{header_for, row_for, row_at, part_offset}
use Rattle.object_elf.specs.File.{elf_file}
use Rattle.object_elf.specs.Fitting.{FitsElf}
use Rattle.byte_core.proofs.Lists.{get_exists}
use Rattle.object_elf.proofs.Rows.{FitsHeader, header_stands}
use Rattle.object_elf.proofs.PartCases.{front_count, part_case, length-parts_of, part_at_section_strings}
use Rattle.object_elf.proofs.Places.{header_here}
use Rattle.object_elf.proofs.SectionRows.{section_row_here}
use Rattle.object_elf.proofs.Contents.{section_texts_stand}
use Rattle.byte_core.proofs.StringTables.{name_here}
use Rattle.object_elf.proofs.Names.{part_text, part_name_get}

header_fits : (t : ElfTable) → FitsElf t → FitsHeader (header_for t)
header_fits t f = record {
  ident = refl;
  e_type = lit< tt;
  machine = f.machine;
  version = lit< tt;
  entry = lit< tt;
  phoff = lit< tt;
  shoff = omega (arith, f.file);
  flags = f.flags;
  ehsize = lit< tt;
  phentsize = lit< tt;
  phnum = lit< tt;
  shentsize = lit< tt;
  shnum = omega (arith, f.section_count);
  shstrndx = omega (arith, f.section_count);
}

pub header_is : (t : ElfTable) → FitsElf t → header_of (elf_file t) ≡ header_for t
header_is t f = header_stands (elf_file t) (header_for t) (header_fits t f) (header_here t)

pub shnum_is : (t : ElfTable) → FitsElf t → (header_of (elf_file t)).shnum ≡ length (parts_of t) + 1
shnum_is t f = ap (λ (h : ElfHeader). h.shnum) (header_is t f)

pub shstrndx_is : (t : ElfTable) → FitsElf t → (header_of (elf_file t)).shstrndx ≡ length (parts_of t)
shstrndx_is t f = ap (λ (h : ElfHeader). h.shstrndx) (header_is t f)

pub shoff_is : (t : ElfTable) → FitsElf t → (header_of (elf_file t)).shoff ≡ headers_start t
shoff_is t f = ap (λ (h : ElfHeader). h.shoff) (header_is t f)

-- a header is read where the layout puts it
pub section_row_is : (t : ElfTable) → FitsElf t → (k : ℕ) → section_row (elf_file t) k ≡ row_at (elf_file t) t k
section_row_is t f k = ap (λ off. section_row_at (elf_file t) (off + 64 * k)) (shoff_is t f)

-- the header of a row behind the null row is that of a part
pub record RowOf (t : ElfTable) (k : ℕ) : Type 0 where
  pub number : ℕ
  pub part : Part
  pub behind : number + 1 ≡ k
  pub at : slice_get (parts_of t) number ≡ Some part
  pub row : section_row (elf_file t) k ≡ row_for t number part

pub row_of_part : (t : ElfTable) → FitsElf t → (k row : ℕ) (p : Part) → slice_get (parts_of t) k ≡ Some p → k + 1 ≡ row → section_row (elf_file t) row ≡ row_for t k p
row_of_part t f k row p e n = section_row_is t f row ∙ ap (λ r. row_at (elf_file t) t r) (sym n) ∙ section_row_here t f k p e

row_of_next : (t : ElfTable) → FitsElf t → (k : ℕ) → suc k < length (parts_of t) + 1 → RowOf t (suc k)
row_of_next t f k h =
    let p = get_exists (parts_of t) k (omega (arith, h)) in
    let n : k + 1 ≡ suc k = omega arith in
    record { number = k; part = p.0; behind = n; at = p.1; row = row_of_part t f k (suc k) p.0 p.1 n }

pub row_of : (t : ElfTable) → FitsElf t → (k : ℕ) → 1 ≤ k → k < (header_of (elf_file t)).shnum → RowOf t k
row_of t f zero h l = absurd (omega (arith, h))
row_of t f (suc k) h l = row_of_next t f k (rw (← shnum_is t f) l)

-- ---- string sections

pub strings_row : (t : ElfTable) → FitsElf t → (k row size : ℕ) (name : List ℕ) → slice_get (parts_of t) k ≡ Some (string_part name size) → k + 1 ≡ row → row < length (parts_of t) + 1 → IsStrings (elf_file t) row
strings_row t f k row size name e n h = record {
  behind_null = omega (arith, n);
  row = rw (shnum_is t f) h;
  kind = ap (λ (r : ElfSectionRow). r.sh_type) (row_of_part t f k row (string_part name size) e n);
}

pub names_are_strings : (t : ElfTable) → FitsElf t → IsStrings (elf_file t) (header_of (elf_file t)).shstrndx
names_are_strings t f =
    let n : front_count t + 2 + 1 ≡ (header_of (elf_file t)).shstrndx = omega (arith, shstrndx_is t f, length-parts_of t) in
    strings_row t f (front_count t + 2) (header_of (elf_file t)).shstrndx (strings_size (section_names t)) (codes ".shstrtab") (part_at_section_strings t (front_count t + 2) refl) n
    (omega (arith, shstrndx_is t f))

-- the name of a row is read
pub section_name_is : (t : ElfTable) → FitsElf t → (k row : ℕ) (p : Part) → slice_get (parts_of t) k ≡ Some p → k + 1 ≡ row → section_name (elf_file t) row ≡ Some p.name
section_name_is t f k row p e n =
    let b = elf_file t in
    let strings : section_row b (header_of b).shstrndx ≡ row_for t (front_count t + 2) (string_part (codes ".shstrtab") (strings_size (section_names t))) =
    row_of_part t f (front_count t + 2) (header_of b).shstrndx (string_part (codes ".shstrtab") (strings_size (section_names t))) (part_at_section_strings t (front_count t + 2) refl) (omega (arith, shstrndx_is t f, length-parts_of t)) in
    let told : part_offset b t (symbol_table_row t + 2) ≡ start_of (parts_of t) (front_count t + 2) (string_part (codes ".shstrtab") (strings_size (section_names t))) =
    ap (λ (r : ElfSectionRow). r.offset) (sym (section_row_is t f (symbol_table_row t + 2)) ∙ row_of_part t f (front_count t + 2) (symbol_table_row t + 2) _ (part_at_section_strings t (front_count t + 2) refl) (omega arith)) in
    let here : StandsAt b _ (part_offset b t (symbol_table_row t + 2)) = section_texts_stand t f in
    rw (strings, row_of_part t f k row p e n) (name_here b (section_names t) (start_of (parts_of t) (front_count t + 2) (string_part (codes ".shstrtab") (strings_size (section_names t)))) k p.name (rw told at here) (part_name_get t k p e) (part_text t k p f (part_case t k p e)))
