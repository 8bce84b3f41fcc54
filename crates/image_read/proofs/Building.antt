-- The rows that a reader makes are those of the definitions.
use Rattle.std.proofs.Common.{◌≡◌, ◌≢◌, ℕ, suc, ◌+◌, ◌-◌, ◌*◌, ◌≤◌, ◌<◌, ◌==◌, ◌&&◌, true, false, Option, Some, None, List, [], ◌++◌, length, map, unwrap_or, get_or, slice_set, refl, ap, sym, ◌∙◌, arith, append-nil}
use Rattle.std.specs.List.{range_with_len, flat_map}
use Rattle.byte_core.specs.Number.{text_at}
use Rattle.image_read.specs.ElfFile.{header_of, row_numbers, symbol_table, section_row, symbol_row_at, ElfRelocationRow}
use Rattle.image_read.specs.ElfImage.{elf_image_of, symbols_in, IsElf, IsSection, ElfSymbolData, ElfSectionData, symbol_data, section_data, records_for}
use Rattle.image_read.specs.ElfRows.{image_with, EachRow, HasHeader, HasStrings, HoldsStrings, SameSection, SameSymbol, IsOpen, IsTableOf, IsTheTable, IsSoundTable, AreSoundRelocations, stored_row, bare_section, section_before, with_records, records_of}
use Rattle.image_read.specs.declared.elf.rows.SectionRow.{SectionRow}
use Rattle.image_read.specs.declared.elf.rows.SymbolRow.{SymbolRow}
use Rattle.image_read.specs.declared.elf.symbols.SymbolTable.{SymbolTable}
use Rattle.std.proofs.lemmas.List.FromFn.{length-map-range_with_len, get_or-map-range_with_len}
use Rattle.image_read.proofs.Judging.{text_of, symbol_place, name_of_symbol}
use Rattle.image_read.proofs.Lists.{range_more, same_rows, set_row}

abbrev named_symbol : List ℕ → SymbolRow → ElfSymbolData
named_symbol name row = record { name = name; info = row.info; other = row.other; shndx = row.shndx; value = row.value; size = row.size }

pub symbol_is : (b : List ℕ) (t : SymbolTable) (m : ℕ) (row : SymbolRow) (name : List ℕ) → IsOpen b t
    → SameSymbol row (symbol_row_at b (t.row.offset + 24 * m)) → name ≡ unwrap_or (text_at t.strings.now row.name (length t.strings.now)) []
    → named_symbol name row ≡ symbol_data b t.number m
symbol_is b t m row name opened same named =
    let here = symbol_place b t m row opened same in
    rw (named, name_of_symbol b t m row opened same, here.info, here.other, here.shndx, here.value, here.size) refl

pub section_is : (b : List ℕ) (k : ℕ) (row : SectionRow) (s name contents : List ℕ) → SameSection row (section_row b k)
    → HoldsStrings b (header_of b).shstrndx s → name ≡ unwrap_or (text_at s row.name (length s)) []
    → contents ≡ stored_row b row → bare_section row name contents ≡ section_before b 1 k
section_is b k row s name contents same names named stored =
    rw (named, stored, text_of b (header_of b).shstrndx s row.name (section_row b k).name names same.name, same.sh_type, same.flags, same.address, same.offset, same.size, same.link, same.info, same.align, same.entsize) refl

pub elf_from : (b : List ℕ) → HasHeader b → HasStrings b (header_of b).shstrndx → EachRow (IsSection b) 1 (header_of b).shnum
    → EachRow (IsSoundTable b) 1 (header_of b).shnum
    → EachRow (AreSoundRelocations b) 1 (header_of b).shnum → IsElf b
elf_from b h names sections tables relocations =
    record {
      header = h.header;
      ident = h.ident;
      kind = h.kind;
      ehsize = h.ehsize;
      shentsize = h.shentsize;
      some = h.some;
      rows = h.rows;
      names = names.section;
      sections = sections.at;
      tables = λ k from below kind. (tables.at k from below).table kind;
      relocations = λ k from below kind. (relocations.at k from below).records kind;
    }

pub image_with_table : (b : List ℕ) (o : Option SymbolTable) (t : SymbolTable) (sections : List ElfSectionData) (symbols : List ElfSymbolData)
    → IsTableOf b o → o ≡ Some t → sections ≡ map (section_data b) (row_numbers b)
    → symbols ≡ symbols_in b (Some t.number) → image_with b sections symbols t.row.info ≡ elf_image_of b
unfolding elf_image_of
image_with_table b o t sections symbols found same rows names =
    let the : IsTheTable b t = rw same at found in
    rw (rows, names, the.found, the.table.row.info) refl

pub image_without_table : (b : List ℕ) (o : Option SymbolTable) (sections : List ElfSectionData) → IsTableOf b o → o ≡ None
    → sections ≡ map (section_data b) (row_numbers b) → image_with b sections [] 0 ≡ elf_image_of b
unfolding elf_image_of
image_without_table b o sections found same rows =
    let none : symbol_table b ≡ None = rw same at found in
    rw (rows, none) refl

-- -- relocations, one section after the other

pub before_more : (b : List ℕ) (k j : ℕ) → 1 ≤ j → section_before b (j + 1) k ≡ with_records (section_before b j k) (records_for b k j)
before_more b k j h =
    let count : j + 1 - 1 ≡ suc (j - 1) = omega arith in
    let last : 1 + (j - 1) ≡ j = omega arith in
    let more : flat_map (records_for b k) (range_with_len 1 (j + 1 - 1)) ≡ flat_map (records_for b k) (range_with_len 1 (j - 1)) ++ records_for b k j =
    rw (count, range_more (records_for b k) 1 (j - 1), last) refl in
    ap (λ (records : List ElfRelocationRow). record (section_data b k) { relocations = records }) more

other_section : (b : List ℕ) (k j : ℕ) → ((section_row b j).sh_type == 4 && (section_row b j).info == k) ≡ false → 1 ≤ j
    → section_before b j k ≡ section_before b (j + 1) k
other_section b k j test h =
    let none : records_for b k j ≡ [] = rw test refl in
    let same : section_before b j k ≡ with_records (section_before b j k) (records_for b k j) =
    ap (λ (records : List ElfRelocationRow). record (section_data b k) { relocations = records }) (rw (none, append-nil) refl) in
    same ∙ sym (before_more b k j h)

both_false : (x y k : ℕ) → x ≢ 4 → (x == 4 && y == k) ≡ false
both_false x y k h = grind (arith)

other_false : (x y k : ℕ) → k ≢ y → (x == 4 && y == k) ≡ false
other_false x y k h = grind (arith)

both_true : (x y : ℕ) → x ≡ 4 → (x == 4 && y == y) ≡ true
both_true x y h = grind (arith)

-- a section of another type changes nothing
pub no_relocations : (b : List ℕ) (j : ℕ) (row : SectionRow) (xs : List ElfSectionData) → SameSection row (section_row b j) → row.sh_type ≢ 4 → 1 ≤ j
    → xs ≡ map (section_before b j) (row_numbers b)
    → xs ≡ map (section_before b (j + 1)) (row_numbers b)
no_relocations b j row xs same kind h before =
    let other : (section_row b j).sh_type ≢ 4 = λ e. kind (same.sh_type ∙ e) in
    before ∙ same_rows (section_before b j) (section_before b (j + 1)) 1 ((header_of b).shnum - 1) (λ k. other_section b k j (both_false (section_row b j).sh_type (section_row b j).info k other) h)

-- the section that a relocation section relocates is among the sections
pub target_inside : (b : List ℕ) (j : ℕ) (row : SectionRow) (xs : List ElfSectionData) → IsElf b → SameSection row (section_row b j) → row.sh_type ≡ 4
    → 1 ≤ j → j < (header_of b).shnum
    → xs ≡ map (section_before b j) (row_numbers b) → row.info - 1 < length xs
target_inside b j row xs elf same kind h below before =
    let records = elf.relocations j h below (sym same.sh_type ∙ kind) in
    let count : length xs ≡ (header_of b).shnum - 1 = rw before (length-map-range_with_len (section_before b j) 1 ((header_of b).shnum - 1)) in
    omega (arith, count, records.target, records.target_behind_null, same.info)

-- it alone changes: the records are behind those before
pub target_changed : (b : List ℕ) (j : ℕ) (row : SectionRow) (xs : List ElfSectionData) (d new : ElfSectionData) → IsElf b
    → SameSection row (section_row b j) → row.sh_type ≡ 4 → 1 ≤ j → j < (header_of b).shnum
    → xs ≡ map (section_before b j) (row_numbers b) → new ≡ with_records (get_or xs (row.info - 1) d) (records_of b j)
    → slice_set xs (row.info - 1) new ≡ map (section_before b (j + 1)) (row_numbers b)
target_changed b j row xs d new elf same kind h below before appended =
    let target = (section_row b j).info in
    let count = (header_of b).shnum - 1 in
    let records = elf.relocations j h below (sym same.sh_type ∙ kind) in
    let inside : row.info - 1 < count = omega (arith, records.target, records.target_behind_null, same.info) in
    let place : 1 + (row.info - 1) ≡ target = omega (arith, records.target_behind_null, same.info) in
    let was : get_or xs (row.info - 1) d ≡ section_before b j target =
    rw before (get_or-map-range_with_len (section_before b j) 1 count (row.info - 1) target d inside place) in
    let told : records_for b target j ≡ records_of b j = rw (both_true (section_row b j).sh_type target (sym same.sh_type ∙ kind)) refl in
    let now : new ≡ section_before b (j + 1) target =
    appended ∙ (ap (λ (s : ElfSectionData). with_records s (records_of b j)) was ∙ (ap (with_records (section_before b j target)) (sym told) ∙ sym (before_more b target j h))) in
    let others : (k : ℕ) → k ≢ target → section_before b j k ≡ section_before b (j + 1) k =
    λ k apart. other_section b k j (other_false (section_row b j).sh_type target k apart) h in
    rw (now, before) (set_row (section_before b j) (section_before b (j + 1)) 1 count (row.info - 1) target inside place others)
