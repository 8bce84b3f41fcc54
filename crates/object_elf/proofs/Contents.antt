-- Contents, relocations, names and padding of the file of a table.
use Rattle.std.proofs.Common.{◌≡◌, ℕ, zero, suc, ◌+◌, ◌-◌, ◌*◌, ◌==◌, List, [], ◌∷◌, length, take, refl, ap, sym, ◌∙◌, arith, inl, inr, Some, true, not, slice_get}
use Rattle.std.specs.Prelude.{count_by}
use Rattle.std.proofs.lemmas.List.{nil_from_length}
use Rattle.std.proofs.Math.Dec.{eqb-suc-zero}
use Rattle.byte_core.specs.Number.{bytes_at}
use Rattle.byte_core.proofs.Standing.{StandsAt, row_stands, bytes_stand}
use Rattle.byte_core.proofs.LaidOut.{zeros, length-zeros}
use Rattle.byte_core.specs.Strings.{IsZero, string_bytes_of}
use Rattle.object_core.specs.LinkTable.{ElfTable, ElfTableSection, ElfRelocation}
use Rattle.image_read.specs.ElfFile.{ElfSectionRow, relocation_row_at, stored_bytes}
use Rattle.object_elf.specs.Layout.{Part, content_part, is_relocated, symbol_table_row, section_names, symbol_names, parts_of, end_of_parts, start_of, headers_start}
use Rattle.object_elf.specs.ElfHolds.{record_for, row_at, part_offset, relocations_row}
use Rattle.object_elf.specs.File.{section_contents, relocation_contents, relocation_row_bytes, string_contents, elf_file, contents_of}
use Rattle.object_elf.specs.Fitting.{FitsElf, FitsRelocation, HasContents}
use Rattle.object_elf.proofs.Rows.{FitsRelocationRow, relocation_row_stands, length-relocation_row_bytes}
use Rattle.object_elf.proofs.Parts.{fit_contents, fit_table}
use Rattle.object_elf.proofs.PartCases.{front_count, part_at_section, contents_at_section, contents_at_relocations, contents_at_symbol_strings, contents_at_section_strings}
use Rattle.object_elf.proofs.Places.{stands_in, gap_here}
use Rattle.object_elf.proofs.SectionRows.{section_row_here, contents_at_offset}

-- a section that is stored has its bytes by its own size, and one that isn't has none
stored_here : (b : List ℕ) (row : ElfSectionRow) (s : ElfTableSection) → row.sh_type ≡ s.sh_type → row.size ≡ s.size → HasContents s → bytes_at b row.offset (length s.contents) ≡ s.contents → stored_bytes b row ≡ s.contents
stored_here b row s kind size (inl h) here = rw (kind ∙ h.0, size ∙ h.1) here
stored_here b row s kind size (inr h) here = rw (kind ∙ h.0) (sym (nil_from_length s.contents h.1))

bytes_here : (t : ElfTable) → FitsElf t → (k : ℕ) (s : ElfTableSection) → slice_get t.sections k ≡ Some s → bytes_at (elf_file t) (part_offset (elf_file t) t (k + 1)) (length s.contents) ≡ s.contents
bytes_here t f k s e =
    bytes_stand (elf_file t) s.contents (part_offset (elf_file t) t (k + 1)) (length s.contents)
    (contents_at_offset t f k (k + 1) (section_contents s) (contents_at_section t k s e) refl) refl

pub section_contents_here : (t : ElfTable) → FitsElf t → (k : ℕ) (s : ElfTableSection) → slice_get t.sections k ≡ Some s → stored_bytes (elf_file t) (row_at (elf_file t) t (k + 1)) ≡ s.contents
section_contents_here t f k s e =
    let told = section_row_here t f k (content_part s) (part_at_section t k s e) in
    stored_here (elf_file t) (row_at (elf_file t) t (k + 1)) s (ap (λ (r : ElfSectionRow). r.sh_type) told) (ap (λ (r : ElfSectionRow). r.size) told) (f.sections k s e).contents (bytes_here t f k s e)

-- ---- relocations

has_some : {X : Type 0} (xs : List X) (k : ℕ) (x : X) → slice_get xs k ≡ Some x → not (length xs == 0) ≡ true
has_some [] zero x e = absurd (cc)
has_some [] (suc k) x e = absurd (cc)
has_some (y ∷ xs) k x e = ap not (eqb-suc-zero (length xs))

row_fits : (t : ElfTable) (r : ElfRelocation) → FitsElf t → FitsRelocation t r → FitsRelocationRow (record_for r)
row_fits t r f g = record { offset = g.offset; symbol = omega (arith, g.symbol, f.symbol_count); r_type = g.r_type; addend = g.addend }

pub relocation_here : (t : ElfTable) → FitsElf t → (k : ℕ) (s : ElfTableSection) → slice_get t.sections k ≡ Some s → (m : ℕ) (r : ElfRelocation) → slice_get s.relocations m ≡ Some r
    → relocation_row_at (elf_file t) (part_offset (elf_file t) t (relocations_row t k) + 24 * m) ≡ record_for r
relocation_here t f k s e m r h =
    let n = length t.sections + (1 + count_by is_relocated (take k t.sections)) in
    let row : n + 1 ≡ relocations_row t k = omega arith in
    let p = part_offset (elf_file t) t (relocations_row t k) in
    let table = contents_at_offset t f n (relocations_row t k) (relocation_contents s) (contents_at_relocations t k n s e (has_some s.relocations m r h) refl) row in
    relocation_row_stands (elf_file t) (record_for r) (p + 24 * m) (row_fits t r f ((f.sections k s e).relocations m r h))
    (row_stands (λ x. relocation_row_bytes (record_for x)) 24 (λ x. length-relocation_row_bytes (record_for x)) (elf_file t) s.relocations m r p (p + 24 * m) table h refl)

-- ---- names

pub symbol_texts_stand : (t : ElfTable) → FitsElf t → StandsAt (elf_file t) (string_bytes_of (symbol_names t)) (part_offset (elf_file t) t (symbol_table_row t + 1))
symbol_texts_stand t f =
    let n : front_count t + 1 + 1 ≡ symbol_table_row t + 1 = omega arith in
    contents_at_offset t f (front_count t + 1) (symbol_table_row t + 1) (string_contents (symbol_names t)) (contents_at_symbol_strings t (front_count t + 1) refl) n

pub section_texts_stand : (t : ElfTable) → FitsElf t → StandsAt (elf_file t) (string_bytes_of (section_names t)) (part_offset (elf_file t) t (symbol_table_row t + 2))
section_texts_stand t f =
    let n : front_count t + 2 + 1 ≡ symbol_table_row t + 2 = omega arith in
    contents_at_offset t f (front_count t + 2) (symbol_table_row t + 2) (string_contents (section_names t)) (contents_at_section_strings t (front_count t + 2) refl) n

pub symbol_texts_here : (t : ElfTable) → FitsElf t → bytes_at (elf_file t) (part_offset (elf_file t) t (symbol_table_row t + 1)) (length (string_bytes_of (symbol_names t))) ≡ string_bytes_of (symbol_names t)
symbol_texts_here t f = bytes_stand _ _ _ _ (symbol_texts_stand t f) refl

pub section_texts_here : (t : ElfTable) → FitsElf t → bytes_at (elf_file t) (part_offset (elf_file t) t (symbol_table_row t + 2)) (length (string_bytes_of (section_names t))) ≡ string_bytes_of (section_names t)
section_texts_here t f = bytes_stand _ _ _ _ (section_texts_stand t f) refl

-- ---- padding

zeros_read : (b : List ℕ) (p q : ℕ) → StandsAt b (zeros (q - p)) p → IsZero b p q
zeros_read b p q s = bytes_stand b (zeros (q - p)) p (q - p) s (length-zeros (q - p))

gap_moved : (t : ElfTable) (k : ℕ) (p q : Part) → q ≡ p → IsZero (elf_file t) (end_of_parts (take k (parts_of t))) (start_of (parts_of t) k q) → IsZero (elf_file t) (end_of_parts (take k (parts_of t))) (start_of (parts_of t) k p)
gap_moved t k p q same z = rw (← same) z

pub padding_here : (t : ElfTable) → FitsElf t → (k : ℕ) (p : Part) → slice_get (parts_of t) k ≡ Some p → IsZero (elf_file t) (end_of_parts (take k (parts_of t))) (start_of (parts_of t) k p)
padding_here t f k p e =
    let c = fit_contents (parts_of t) (contents_of t) k p (fit_table t f) e in
    let s = stands_in t f k c.0 c.1 in
    let at = s.at in
    let same : s.part ≡ p = cc in
    gap_moved t k p s.part same (zeros_read (elf_file t) (end_of_parts (take k (parts_of t))) (start_of (parts_of t) k s.part) s.gap)

pub padding_end_here : (t : ElfTable) → FitsElf t → IsZero (elf_file t) (end_of_parts (parts_of t)) (headers_start t)
padding_end_here t f = zeros_read (elf_file t) (end_of_parts (parts_of t)) (headers_start t) (gap_here t f)
