-- The symbol table of the file of a table.
use Rattle.std.proofs.Common.{◌≡◌, ℕ, zero, suc, ◌+◌, ◌*◌, ◌^◌, ◌<◌, ◌≤◌, List, [], ◌∷◌, length, take, map, refl, ap, arith, Some, slice_get, ◌⊎◌, inl, inr, lit<}
use Rattle.std.specs.Prelude.{sum_by}
use Rattle.std.proofs.lemmas.List.Sums.{sum_by-cons}
use Rattle.byte_core.proofs.Standing.{StandsAt, row_stands}
use Rattle.object_core.specs.LinkTable.{ElfTable, ElfTableSymbol}
use Rattle.image_read.specs.ElfFile.{symbol_row_at}
use Rattle.object_elf.specs.Layout.{symbol_names, symbol_table_row}
use Rattle.object_elf.specs.ElfHolds.{null_symbol, symbol_for, part_offset}
use Rattle.object_elf.specs.File.{symbol_row_with, symbol_row_bytes, symbol_rows_from, symbol_contents, elf_file}
use Rattle.object_elf.specs.Fitting.{FitsElf, FitsSymbol}
use Rattle.object_elf.proofs.Rows.{FitsSymbolRow, symbol_row_stands, length-symbol_row_bytes}
use Rattle.object_elf.proofs.PartCases.{front_count, contents_at_symbols, length-parts_of}
use Rattle.object_elf.proofs.SectionRows.{contents_at_offset, name_place-le}

abbrev name_size : List ℕ → ℕ
name_size name = length name + 1

abbrev symbol_name : ElfTableSymbol → List ℕ
symbol_name s = s.name

-- the row of symbol k, with the place of its name
symbol_rows_get : (place : ℕ) (ss : List ElfTableSymbol) (k : ℕ) (s : ElfTableSymbol) → slice_get ss k ≡ Some s
    → slice_get (symbol_rows_from place ss) k ≡ Some (symbol_row_with (place + sum_by name_size (take k (map symbol_name ss))) s)
unfolding symbol_rows_from
symbol_rows_get place [] zero s e = absurd (cc)
symbol_rows_get place [] (suc k) s e = absurd (cc)
symbol_rows_get place (r ∷ ss) zero s e =
    let same : r ≡ s = cc in
    let here : place ≡ place + 0 = omega arith in
    rw same (ap (λ n. Some (symbol_row_with n s)) here)
symbol_rows_get place (r ∷ ss) (suc k) s e =
    let here : place + sum_by name_size (r.name ∷ take k (map symbol_name ss)) ≡ place + (length r.name + 1) + sum_by name_size (take k (map symbol_name ss)) =
    omega (arith, sum_by-cons name_size r.name (take k (map symbol_name ss))) in
    rw here (symbol_rows_get (place + (length r.name + 1)) ss k s e)

-- ---- they are read where they stand

table_here : (t : ElfTable) → FitsElf t → StandsAt (elf_file t) (symbol_contents t.symbols).bytes (part_offset (elf_file t) t (symbol_table_row t))
table_here t f =
    let n : front_count t + 1 ≡ symbol_table_row t = omega arith in
    contents_at_offset t f (front_count t) (symbol_table_row t) (symbol_contents t.symbols) (contents_at_symbols t (front_count t) refl) n

section_fits : (t : ElfTable) (n : ℕ) → FitsElf t → (n ≤ length t.sections) ⊎ (n ≡ 0xfff1) → n < 2 ^ 16
section_fits t n f (inl h) = omega (arith, h, f.section_count, length-parts_of t)
section_fits t n f (inr h) = omega (arith, h)

row_fits : (t : ElfTable) (k : ℕ) (s : ElfTableSymbol) → FitsElf t → FitsSymbol t s → FitsSymbolRow (symbol_for t k s)
row_fits t k s f g = record {
  name = omega (arith, name_place-le (symbol_names t) k, f.symbol_names_size);
  info = g.info;
  other = g.other;
  shndx = section_fits t s.shndx f g.section;
  value = g.value;
  size = g.size;
}

null_fits : FitsSymbolRow null_symbol
null_fits = record { name = lit< tt; info = lit< tt; other = lit< tt; shndx = lit< tt; value = lit< tt; size = lit< tt }

pub null_symbol_here : (t : ElfTable) → FitsElf t → symbol_row_at (elf_file t) (part_offset (elf_file t) t (symbol_table_row t)) ≡ null_symbol
null_symbol_here t f =
    let p = part_offset (elf_file t) t (symbol_table_row t) in
    symbol_row_stands (elf_file t) null_symbol p null_fits
    (row_stands symbol_row_bytes 24 length-symbol_row_bytes (elf_file t) (null_symbol ∷ symbol_rows_from 1 t.symbols) 0 null_symbol p p (table_here t f) refl (omega arith))

pub symbol_row_here : (t : ElfTable) → FitsElf t → (k : ℕ) (s : ElfTableSymbol) → slice_get t.symbols k ≡ Some s
    → symbol_row_at (elf_file t) (part_offset (elf_file t) t (symbol_table_row t) + 24 * (k + 1)) ≡ symbol_for t k s
symbol_row_here t f k s e =
    let p = part_offset (elf_file t) t (symbol_table_row t) in
    let place : p + 24 * suc k ≡ p + 24 * (k + 1) = omega arith in
    symbol_row_stands (elf_file t) (symbol_for t k s) (p + 24 * (k + 1)) (row_fits t k s f (f.symbols k s e))
    (row_stands symbol_row_bytes 24 length-symbol_row_bytes (elf_file t) (null_symbol ∷ symbol_rows_from 1 t.symbols) (suc k) (symbol_for t k s) p (p + 24 * (k + 1)) (table_here t f) (symbol_rows_get 1 t.symbols k s e) place)
