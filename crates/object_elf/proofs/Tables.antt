-- The table of an object, by its sections and symbols.
use Rattle.std.proofs.Common.{◌≡◌, ℕ, ◌+◌, ◌==◌, List, [], ◌∷◌, ◌++◌, length, map, refl, ap, sym, ◌∙◌, arith, length-append, Bool, true, false, not, cond, codes}
use Rattle.std.specs.Prelude.{filter, count_by, sum_by}
use Rattle.std.specs.List.{enumerate_from}
use Rattle.std.proofs.lemmas.List.{length-map, map-append}
use Rattle.std.proofs.lemmas.List.Sums.{sum_by-cons, sum_by-append, length-filter}
use Rattle.byte_core.specs.Strings.{strings_size}
use Rattle.object_core.specs.Object.{SymbolData, SectionData, ObjectData, is_local, is_global}
use Rattle.object_core.specs.ElfRows.{elf_symbol, elf_section, elf_relocation, elf_table_of}
use Rattle.object_core.specs.LinkTable.{ElfTable, ElfTableSection, ElfTableSymbol}
use Rattle.object_elf.specs.Layout.{is_relocated, symbol_table_row, section_names, symbol_names, content_part, note_part, relocation_part, relocation_name, symbol_part, symbol_part_with, string_part, parts_of}
use Rattle.object_elf.specs.Counts.{elf_counts}
use Rattle.object_elf.specs.Writing as rows
use Rattle.object_elf.specs.Writing.{has_relocations, chosen}
use Rattle.object_elf.specs.PartView.{content_part_of, relocation_part_of, relocation_parts_from, has_records}
use Rattle.object_elf.specs.PlainCounts.{plain_counts, symbol_name_size, section_name_size}
use Rattle.object_elf.proofs.PartCases.{front_count, length-parts_of}
use Rattle.object_elf.proofs.RowNumbers.{local_and_global}

-- ---- sections

pub relocated_is : (ss : List SymbolData) (s : SectionData) → is_relocated (elf_section ss s) ≡ has_relocations s
relocated_is ss s = ap (λ n. not (n == 0)) (length-map s.relocations (elf_relocation ss))

pub count_relocated : (ss : List SymbolData) (xs : List SectionData) → count_by is_relocated (map (elf_section ss) xs) ≡ count_by has_relocations xs
count_relocated ss [] = refl
count_relocated ss (x ∷ xs) =
    sum_by-cons (λ s. cond (is_relocated s) 1 0) (elf_section ss x) (map (elf_section ss) xs)
    ∙ ap (λ b. cond b 1 0 + count_by is_relocated (map (elf_section ss) xs)) (relocated_is ss x)
    ∙ ap (λ n. cond (has_relocations x) 1 0 + n) (count_relocated ss xs)
    ∙ sym (sum_by-cons (λ s. cond (has_relocations s) 1 0) x xs)

pub content_parts_are : (ss : List SymbolData) (xs : List SectionData) → map content_part (map (elf_section ss) xs) ≡ map content_part_of xs
content_parts_are ss [] = refl
content_parts_are ss (x ∷ xs) = ap (λ ps. content_part_of x ∷ ps) (content_parts_are ss xs)

abbrev is_relocated_pair : ℕ × ElfTableSection → Bool
is_relocated_pair s = is_relocated s.1

relocation_part_is : (t : ElfTable) (link n : ℕ) (ss : List SymbolData) (s : SectionData) → symbol_table_row t ≡ link → relocation_part t (n, elf_section ss s) ≡ relocation_part_of link (n, s)
relocation_part_is t link n ss s e = rw (e, length-map s.relocations (elf_relocation ss)) refl

relocation_parts_past : (t : ElfTable) (link n : ℕ) (ss : List SymbolData) (s : SectionData) (es : List (ℕ × ElfTableSection)) (ps : List (ℕ × SectionData)) (b : Bool) → symbol_table_row t ≡ link
    → map (relocation_part t) es ≡ map (relocation_part_of link) ps → map (relocation_part t) (cond b ((n, elf_section ss s) ∷ es) es) ≡ map (relocation_part_of link) (cond b ((n, s) ∷ ps) ps)
relocation_parts_past t link n ss s es ps true e h = ap (λ p. p ∷ map (relocation_part t) es) (relocation_part_is t link n ss s e) ∙ ap (λ l. relocation_part_of link (n, s) ∷ l) h
relocation_parts_past t link n ss s es ps false e h = h

pub relocation_parts_are : (t : ElfTable) (link n : ℕ) (ss : List SymbolData) (xs : List SectionData) → symbol_table_row t ≡ link
    → map (relocation_part t) (filter is_relocated_pair (enumerate_from n (map (elf_section ss) xs))) ≡ relocation_parts_from link n xs
relocation_parts_are t link n ss [] e = refl
relocation_parts_are t link n ss (x ∷ xs) e =
    let es = filter is_relocated_pair (enumerate_from (n + 1) (map (elf_section ss) xs)) in
    ap (λ b. map (relocation_part t) (cond b ((n, elf_section ss x) ∷ es) es)) (relocated_is ss x)
    ∙ relocation_parts_past t link n ss x es (filter has_records (enumerate_from (n + 1) xs)) (has_relocations x) e (relocation_parts_are t link (n + 1) ss xs e)

-- ---- names

abbrev name_size : List ℕ → ℕ
name_size name = length name + 1

abbrev names_size : List (List ℕ) → ℕ
names_size names = sum_by name_size names

abbrev content_name : ElfTableSection → List ℕ
content_name s = s.name

names_past : (x : SectionData) (n : List ℕ) (rest : List (List ℕ)) (b : Bool) → n ≡ codes ".rela" ++ x.name → names_size (cond b (n ∷ rest) rest) ≡ cond b (length x.name + 6) 0 + names_size rest
names_past x n rest true e = omega (arith, sum_by-cons name_size n rest, ap length e)
names_past x n rest false e = omega arith

map_cond : (f : ElfTableSection → List ℕ) (x : ElfTableSection) (xs : List ElfTableSection) (b : Bool) → map f (cond b (x ∷ xs) xs) ≡ cond b (f x ∷ map f xs) (map f xs)
map_cond f x xs true = refl
map_cond f x xs false = refl

size_cond : (x : SectionData) (b : Bool) → cond b (length x.name + 1 + (length x.name + 6)) (length x.name + 1) ≡ length x.name + 1 + cond b (length x.name + 6) 0
size_cond x true = refl
size_cond x false = omega arith

section_names_are : (ss : List SymbolData) (xs : List SectionData)
    → names_size (map content_name (map (elf_section ss) xs)) + names_size (map relocation_name (filter is_relocated (map (elf_section ss) xs))) ≡ sum_by section_name_size xs
section_names_are ss [] = refl
section_names_are ss (x ∷ xs) =
    let rest = filter is_relocated (map (elf_section ss) xs) in
    let later = map relocation_name rest in
    let first : names_size (x.name ∷ map content_name (map (elf_section ss) xs)) ≡ length x.name + 1 + names_size (map content_name (map (elf_section ss) xs)) = sum_by-cons name_size x.name (map content_name (map (elf_section ss) xs)) in
    let second : names_size (map relocation_name (cond (is_relocated (elf_section ss x)) (elf_section ss x ∷ rest) rest)) ≡ cond (has_relocations x) (length x.name + 6) 0 + names_size later =
    ap names_size (map_cond relocation_name (elf_section ss x) rest (is_relocated (elf_section ss x)))
    ∙ ap (λ b. names_size (cond b (relocation_name (elf_section ss x) ∷ later) later)) (relocated_is ss x)
    ∙ names_past x (relocation_name (elf_section ss x)) later (has_relocations x) refl in
    omega (arith, first, second, section_names_are ss xs, sum_by-cons section_name_size x xs, size_cond x (has_relocations x))

record_past : (x : SectionData) (fs : List SectionData) (b : Bool) → sum_by rows.record_name_size (cond b (x ∷ fs) fs) ≡ cond b (length x.name + 6) 0 + sum_by rows.record_name_size fs
record_past x fs true = sum_by-cons rows.record_name_size x fs
record_past x fs false = omega arith

-- the names of the sections and those of their relocations
pub names_split : (xs : List SectionData) → sum_by rows.own_name_size xs + sum_by rows.record_name_size (filter has_relocations xs) ≡ sum_by section_name_size xs
names_split [] = refl
names_split (x ∷ xs) =
    omega (
      arith,
      sum_by-cons rows.own_name_size x xs,
      record_past x (filter has_relocations xs) (has_relocations x),
      sum_by-cons section_name_size x xs,
      size_cond x (has_relocations x),
      names_split xs,
    )

pub section_names_size_is : (o : ObjectData) → strings_size (section_names (elf_table_of o)) ≡ 43 + sum_by section_name_size o.sections
unfolding section_names elf_table_of
section_names_size_is o =
    let xs = map (elf_section o.symbols) o.sections in
    let front = map content_name xs in
    let middle = codes ".note.GNU-stack" ∷ map relocation_name (filter is_relocated xs) in
    let back = codes ".symtab" ∷ codes ".strtab" ∷ codes ".shstrtab" ∷ [] in
    omega (
      arith,
      sum_by-append name_size (front ++ middle) back,
      sum_by-append name_size front middle,
      sum_by-cons name_size (codes ".note.GNU-stack") (map relocation_name (filter is_relocated xs)),
      section_names_are o.symbols o.sections,
    )

abbrev symbol_name : ElfTableSymbol → List ℕ
symbol_name s = s.name

abbrev row_names : List SymbolData → List (List ℕ)
row_names ss = map symbol_name (map elf_symbol ss)

both_past : (s : SymbolData) (ls gs : List SymbolData) (b : Bool) → names_size (row_names (cond b (s ∷ ls) ls)) + names_size (row_names (cond (not b) (s ∷ gs) gs)) ≡ length s.name + 1 + (names_size (row_names ls) + names_size (row_names gs))
both_past s ls gs true = omega (arith, sum_by-cons name_size s.name (row_names ls))
both_past s ls gs false = omega (arith, sum_by-cons name_size s.name (row_names gs))

both_names : (ss : List SymbolData) → names_size (row_names (filter is_local ss)) + names_size (row_names (filter is_global ss)) ≡ sum_by symbol_name_size ss
both_names [] = refl
both_names (s ∷ ss) = omega (arith, both_past s (filter is_local ss) (filter is_global ss) (is_local s), both_names ss, sum_by-cons symbol_name_size s ss)

pub symbol_names_size_is : (o : ObjectData) → strings_size (symbol_names (elf_table_of o)) ≡ 1 + sum_by symbol_name_size o.symbols
unfolding elf_table_of
symbol_names_size_is o =
    let split : row_names (filter is_local o.symbols ++ filter is_global o.symbols) ≡ row_names (filter is_local o.symbols) ++ row_names (filter is_global o.symbols) =
    ap (map symbol_name) (map-append elf_symbol (filter is_local o.symbols) (filter is_global o.symbols)) ∙ map-append symbol_name (map elf_symbol (filter is_local o.symbols)) (map elf_symbol (filter is_global o.symbols)) in
    omega (arith, ap names_size split, sum_by-append name_size (row_names (filter is_local o.symbols)) (row_names (filter is_global o.symbols)), both_names o.symbols)

-- ---- texts

pub own_names_are : (ss : List SymbolData) (xs : List SectionData) → map content_name (map (elf_section ss) xs) ≡ map rows.own_name xs
own_names_are ss [] = refl
own_names_are ss (x ∷ xs) = ap (λ names. x.name ∷ names) (own_names_are ss xs)

record_names_past : (ss : List SymbolData) (x : SectionData) (ts : List ElfTableSection) (fs : List SectionData) (b : Bool) → map relocation_name ts ≡ map rows.record_name fs
    → map relocation_name (cond b (elf_section ss x ∷ ts) ts) ≡ map rows.record_name (cond b (x ∷ fs) fs)
record_names_past ss x ts fs true e = ap (λ names. rows.record_name x ∷ names) e
record_names_past ss x ts fs false e = e

pub record_names_are : (ss : List SymbolData) (xs : List SectionData) → map relocation_name (filter is_relocated (map (elf_section ss) xs)) ≡ map rows.record_name (filter has_relocations xs)
record_names_are ss [] = refl
record_names_are ss (x ∷ xs) =
    let ts = filter is_relocated (map (elf_section ss) xs) in
    ap (λ b. map relocation_name (cond b (elf_section ss x ∷ ts) ts)) (relocated_is ss x) ∙ record_names_past ss x ts (filter has_relocations xs) (has_relocations x) (record_names_are ss xs)

-- ---- counts

pub symbol_count_is : (o : ObjectData) → length (elf_table_of o).symbols ≡ length o.symbols
unfolding elf_table_of
symbol_count_is o =
    omega (
      arith,
      length-map (filter is_local o.symbols ++ filter is_global o.symbols) elf_symbol,
      length-append (filter is_local o.symbols) (filter is_global o.symbols),
      length-filter is_local o.symbols,
      length-filter is_global o.symbols,
      local_and_global o.symbols,
    )

pub section_count_is : (o : ObjectData) → length (elf_table_of o).sections ≡ length o.sections
unfolding elf_table_of
section_count_is o = length-map o.sections (elf_section o.symbols)

pub front_count_is : (o : ObjectData) → front_count (elf_table_of o) ≡ length o.sections + (1 + count_by has_relocations o.sections)
unfolding elf_table_of
front_count_is o = omega (arith, length-map o.sections (elf_section o.symbols), count_relocated o.symbols o.sections)

pub counts_are : (o : ObjectData) → elf_counts (elf_table_of o) o.content_sum ≡ plain_counts o
unfolding elf_counts
counts_are o =
    let sections : length (parts_of (elf_table_of o)) + 1 ≡ length o.sections + count_by has_relocations o.sections + 5 = omega (arith, length-parts_of (elf_table_of o), front_count_is o) in
    let symbols : length (elf_table_of o).symbols + 1 ≡ length o.symbols + 1 = ap (λ n. n + 1) (symbol_count_is o) in
    let names : strings_size (symbol_names (elf_table_of o)) + strings_size (section_names (elf_table_of o)) ≡ 1 + sum_by symbol_name_size o.symbols + (43 + sum_by section_name_size o.sections) =
    omega (arith, symbol_names_size_is o, section_names_size_is o) in
    rw (sections, symbols, names) refl

-- ---- parts

pub table_row_is : (o : ObjectData) → symbol_table_row (elf_table_of o) ≡ length o.sections + 2 + count_by has_relocations o.sections
table_row_is o = omega (arith, front_count_is o)

-- the parts of an object's file
pub parts_are : (o : ObjectData) (link : ℕ) → symbol_table_row (elf_table_of o) ≡ link
    → parts_of (elf_table_of o)
    ≡ map content_part_of o.sections
    ++ note_part ∷ relocation_parts_from link 1 o.sections
    ++ symbol_part (elf_table_of o) ∷ string_part (codes ".strtab") (strings_size (symbol_names (elf_table_of o))) ∷ string_part (codes ".shstrtab") (strings_size (section_names (elf_table_of o))) ∷ []
unfolding parts_of elf_table_of
parts_are o link e =
    rw (content_parts_are o.symbols o.sections, relocation_parts_are (elf_table_of o) link 1 o.symbols o.sections e) refl

-- the part of the symbol table, by the numbers of the object
pub symbol_part_is : (o : ObjectData) (row : ℕ) → symbol_table_row (elf_table_of o) ≡ row → symbol_part (elf_table_of o) ≡ symbol_part_with row (length o.symbols) (1 + count_by is_local o.symbols)
unfolding elf_table_of
symbol_part_is o row e = rw (e, symbol_count_is o) refl

-- ---- both kinds of symbols

chosen_past : (s : SymbolData) (ls gs : List SymbolData) (b : Bool) → rows.names_size (map elf_symbol (cond b (s ∷ ls) ls)) + rows.names_size (map elf_symbol (cond (not b) (s ∷ gs) gs)) ≡ length s.name + 1 + (rows.names_size (map elf_symbol ls) + rows.names_size (map elf_symbol gs))
chosen_past s ls gs true = omega (arith, sum_by-cons rows.name_size (elf_symbol s) (map elf_symbol ls))
chosen_past s ls gs false = omega (arith, sum_by-cons rows.name_size (elf_symbol s) (map elf_symbol gs))

pub chosen_sizes : (ss : List SymbolData) → rows.names_size (chosen true ss) + rows.names_size (chosen false ss) ≡ sum_by symbol_name_size ss
chosen_sizes [] = refl
chosen_sizes (s ∷ ss) = omega (arith, chosen_past s (filter is_local ss) (filter is_global ss) (is_local s), chosen_sizes ss, sum_by-cons symbol_name_size s ss)

pub chosen_counts : (ss : List SymbolData) → length (chosen true ss) + length (chosen false ss) ≡ length ss
chosen_counts ss =
    omega (
      arith,
      length-map (filter is_local ss) elf_symbol,
      length-map (filter is_global ss) elf_symbol,
      length-filter is_local ss,
      length-filter is_global ss,
      local_and_global ss,
    )
