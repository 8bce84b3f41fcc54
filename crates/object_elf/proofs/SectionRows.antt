-- The section headers of the file of a table.
use Rattle.std.proofs.Common.{◌≡◌, ℕ, zero, suc, ◌+◌, ◌*◌, ◌^◌, ◌<◌, ◌≤◌, List, [], ◌∷◌, length, take, map, refl, ap, arith, Some, true, slice_get, inl, inr, lit<}
use Rattle.std.specs.Prelude.{fold, sum_by}
use Rattle.std.proofs.lemmas.List.Sums.{sum_by-cons, sum_by-take-le}
use Rattle.byte_core.specs.LaidOut.{Aligned}
use Rattle.byte_core.proofs.Standing.{StandsAt, stands_inside, row_stands}
use Rattle.byte_core.specs.Strings.{name_place, strings_size}
use Rattle.object_core.specs.LinkTable.{ElfTable, ElfTableSection}
use Rattle.image_read.specs.ElfFile.{ElfSectionRow}
use Rattle.object_elf.specs.Layout.{Part, section_names, parts_of, is_stored, start_after, end_after, end_of_parts, start_of, headers_start, content_part, symbol_part}
use Rattle.object_elf.specs.ElfHolds.{null_section, row_for, row_at, part_offset}
use Rattle.object_elf.specs.File.{section_row_with, section_row_bytes, section_rows, section_rows_from, contents_of, elf_file}
use Rattle.object_elf.specs.Fitting.{FitsElf, FitsSection}
use Rattle.byte_core.proofs.Lists.{get_within}
use Rattle.object_elf.proofs.Rows.{FitsSectionRow, section_row_stands, length-section_row_bytes}
use Rattle.object_elf.proofs.Parts.{FitsPart, fit_contents, fit_table}
use Rattle.object_elf.specs.PartView.{part_name}
use Rattle.object_elf.proofs.PartCases.{front_count, PartCase, part_case, Relocates, names_of_parts, length-parts_of}
use Rattle.object_elf.proofs.PartCases.PartCase.{is_content, is_note, is_relocations, is_symbols, is_symbol_strings, is_section_strings}
use Rattle.object_elf.proofs.Places.{length-elf_file, rows_here, stands_in}

abbrev name_size : List ℕ → ℕ
name_size name = length name + 1

-- the header of part k, with the places of its name and contents
rows_from_get : (place end : ℕ) (ps : List Part) (k : ℕ) (p : Part) → slice_get ps k ≡ Some p
    → slice_get (section_rows_from place end ps) k ≡ Some (section_row_with (place + sum_by name_size (take k (map part_name ps))) (start_after (fold end_after end (take k ps)) p) p)
unfolding section_rows_from
rows_from_get place end [] zero p e = absurd (cc)
rows_from_get place end [] (suc k) p e = absurd (cc)
rows_from_get place end (q ∷ ps) zero p e =
    let same : q ≡ p = cc in
    let here : place ≡ place + 0 = omega arith in
    rw same (ap (λ n. Some (section_row_with n (start_after end p) p)) here)
rows_from_get place end (q ∷ ps) (suc k) p e =
    let here : place + sum_by name_size (q.name ∷ take k (map part_name ps)) ≡ place + (length q.name + 1) + sum_by name_size (take k (map part_name ps)) =
    omega (arith, sum_by-cons name_size q.name (take k (map part_name ps))) in
    rw here (rows_from_get (place + (length q.name + 1)) (end_after end q) ps k p e)

pub section_row_get : (t : ElfTable) (k : ℕ) (p : Part) → slice_get (parts_of t) k ≡ Some p → slice_get (section_rows (parts_of t)) (suc k) ≡ Some (row_for t k p)
unfolding end_of_parts
section_row_get t k p e = rw (← names_of_parts t) (rows_from_get 1 64 (parts_of t) k p e)

-- ---- its numbers have room

abbrev PartFits : Part → Type 0
PartFits p = (p.sh_type < 2 ^ 32) × (p.flags < 2 ^ 64) × (p.link < 2 ^ 32) × (p.info < 2 ^ 32) × (p.align < 2 ^ 64) × (p.entsize < 2 ^ 64)

count_fits : (t : ElfTable) → FitsElf t → front_count t + 4 < 65280
count_fits t f = omega (arith, f.section_count, length-parts_of t)

content_fits : (t : ElfTable) (s : ElfTableSection) → FitsSection t s → PartFits (content_part s)
content_fits t s f = (elim f.contents [ inl h ↦ omega (arith, h.0) | inr h ↦ omega (arith, h.0) ], f.flags, lit< tt, lit< tt, f.align, lit< tt)

relocation_fits : (t : ElfTable) (j : ℕ) (p : Part) → FitsElf t → Relocates t 1 t.sections j p → PartFits p
relocation_fits t j p f r =
    rw (← r.part) (lit< tt, lit< tt, omega (arith, count_fits t f), omega (arith, count_fits t f, get_within t.sections r.number r.section r.at), lit< tt, lit< tt)

symbol_fits : (t : ElfTable) → FitsElf t → PartFits (symbol_part t)
symbol_fits t f = (lit< tt, lit< tt, omega (arith, count_fits t f), omega (arith, f.locals, f.symbol_count), lit< tt, lit< tt)

part_fits : (t : ElfTable) (k : ℕ) (p : Part) → FitsElf t → PartCase t k p → PartFits p
part_fits t k p f (is_content s at same) = rw (← same) (content_fits t s (f.sections k s at))
part_fits t k p f (is_note same) = rw (← same) (lit< tt, lit< tt, lit< tt, lit< tt, lit< tt, lit< tt)
part_fits t k p f (is_relocations j at r) = relocation_fits t j p f r
part_fits t k p f (is_symbols at same) = rw (← same) (symbol_fits t f)
part_fits t k p f (is_symbol_strings at same) = rw (← same) (lit< tt, lit< tt, lit< tt, lit< tt, lit< tt, lit< tt)
part_fits t k p f (is_section_strings at same) = rw (← same) (lit< tt, lit< tt, lit< tt, lit< tt, lit< tt, lit< tt)

-- a part is one of those at its place
same_part : (t : ElfTable) (k : ℕ) (p q : Part) → slice_get (parts_of t) k ≡ Some p → slice_get (parts_of t) k ≡ Some q → q ≡ p
same_part t k p q e h = cc

-- a part with its contents in the file
pub record PartHere (t : ElfTable) (k : ℕ) (p : Part) : Type 0 where
  pub contents : Aligned
  pub at : slice_get (contents_of t) k ≡ Some contents
  pub fits : FitsPart p contents
  pub here : StandsAt (elf_file t) contents.bytes (start_of (parts_of t) k p)

moved : (t : ElfTable) (k : ℕ) (p q : Part) (bytes : List ℕ) → q ≡ p → StandsAt (elf_file t) bytes (start_of (parts_of t) k q) → StandsAt (elf_file t) bytes (start_of (parts_of t) k p)
moved t k p q bytes same s = rw (← same) s

pub part_here : (t : ElfTable) → FitsElf t → (k : ℕ) (p : Part) → slice_get (parts_of t) k ≡ Some p → PartHere t k p
part_here t f k p e =
    let c = fit_contents (parts_of t) (contents_of t) k p (fit_table t f) e in
    let s = stands_in t f k c.0 c.1 in
    let same : s.part ≡ p = same_part t k p s.part e s.at in
    record { contents = c.0; at = c.1; fits = c.2; here = moved t k p s.part c.0.bytes same s.here }

here_within : (t : ElfTable) (k : ℕ) (p : Part) → FitsElf t → (h : PartHere t k p) → start_of (parts_of t) k p + length h.contents.bytes < 2 ^ 64
here_within t k p f h = omega (arith, stands_inside (elf_file t) h.contents.bytes (start_of (parts_of t) k p) h.here, length-elf_file t f, f.file)

stored_size : (t : ElfTable) (k : ℕ) (p : Part) → FitsElf t → PartHere t k p → is_stored p ≡ true → p.size < 2 ^ 64
stored_size t k p f h s = omega (arith, here_within t k p f h, h.fits.size s)

relocations_stored : (t : ElfTable) (j : ℕ) (p : Part) → Relocates t 1 t.sections j p → is_stored p ≡ true
relocations_stored t j p r = rw (← r.part) refl

size_fits : (t : ElfTable) (k : ℕ) (p : Part) → FitsElf t → PartHere t k p → PartCase t k p → p.size < 2 ^ 64
size_fits t k p f h (is_content s at same) = rw (← same) (f.sections k s at).size
size_fits t k p f h (is_note same) = stored_size t k p f h (rw (← same) refl)
size_fits t k p f h (is_relocations j at r) = stored_size t k p f h (relocations_stored t j p r)
size_fits t k p f h (is_symbols at same) = stored_size t k p f h (rw (← same) refl)
size_fits t k p f h (is_symbol_strings at same) = stored_size t k p f h (rw (← same) refl)
size_fits t k p f h (is_section_strings at same) = stored_size t k p f h (rw (← same) refl)

pub name_place-le : (names : List (List ℕ)) (k : ℕ) → name_place names k ≤ strings_size names
name_place-le names k = omega (arith, sum_by-take-le name_size names k)

row_fits : (t : ElfTable) (k : ℕ) (p : Part) → FitsElf t → slice_get (parts_of t) k ≡ Some p → FitsSectionRow (row_for t k p)
row_fits t k p f e =
    let h = part_here t f k p e in
    let numbers = part_fits t k p f (part_case t k p e) in
    record {
      name = omega (arith, name_place-le (section_names t) k, f.section_names_size);
      sh_type = numbers.0;
      flags = numbers.1;
      address = lit< tt;
      offset = omega (arith, here_within t k p f h);
      size = size_fits t k p f h (part_case t k p e);
      link = numbers.2;
      info = numbers.3;
      align = numbers.4;
      entsize = numbers.5;
    }

-- ---- they are read where they stand

pub section_row_here : (t : ElfTable) → FitsElf t → (k : ℕ) (p : Part) → slice_get (parts_of t) k ≡ Some p → row_at (elf_file t) t (k + 1) ≡ row_for t k p
section_row_here t f k p e =
    let place : headers_start t + 64 * suc k ≡ headers_start t + 64 * (k + 1) = omega arith in
    section_row_stands (elf_file t) (row_for t k p) (headers_start t + 64 * (k + 1)) (row_fits t k p f e)
    (row_stands section_row_bytes 64 length-section_row_bytes (elf_file t) (section_rows (parts_of t)) (suc k) (row_for t k p) (headers_start t) (headers_start t + 64 * (k + 1)) (rows_here t f) (section_row_get t k p e) place)

null_fits : FitsSectionRow null_section
null_fits = record { name = lit< tt; sh_type = lit< tt; flags = lit< tt; address = lit< tt; offset = lit< tt; size = lit< tt; link = lit< tt; info = lit< tt; align = lit< tt; entsize = lit< tt }

pub null_section_here : (t : ElfTable) → FitsElf t → row_at (elf_file t) t 0 ≡ null_section
null_section_here t f =
    let place : headers_start t + 64 * 0 ≡ headers_start t + 64 * 0 = refl in
    section_row_stands (elf_file t) null_section (headers_start t + 64 * 0) null_fits
    (row_stands section_row_bytes 64 length-section_row_bytes (elf_file t) (section_rows (parts_of t)) 0 null_section (headers_start t) (headers_start t + 64 * 0) (rows_here t f) refl place)

-- contents k stand at the offset that the header of their part tells
pub contents_at_offset : (t : ElfTable) → FitsElf t → (k row : ℕ) (c : Aligned) → slice_get (contents_of t) k ≡ Some c → k + 1 ≡ row → StandsAt (elf_file t) c.bytes (part_offset (elf_file t) t row)
contents_at_offset t f k row c e n =
    let s = stands_in t f k c e in
    let told : part_offset (elf_file t) t (k + 1) ≡ start_of (parts_of t) k s.part = ap (λ (r : ElfSectionRow). r.offset) (section_row_here t f k s.part s.at) in
    rw (← n, told) s.here
