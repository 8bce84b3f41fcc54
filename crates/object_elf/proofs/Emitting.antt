-- The pieces that are written one after the other are the file of the table.
use Rattle.std.proofs.Common.{◌≡◌, ℕ, ◌+◌, ◌-◌, ◌*◌, ◌<◌, ◌≤◌, List, [], ◌∷◌, ◌++◌, length, take, map, refl, ap, sym, ◌∙◌, arith, append_assoc, append-nil, length-append, Bool, true, false, cond, suc, slice_get, Some, replicate, codes}
use Rattle.std.specs.Prelude.{flat_map, filter, sum_by, count_by, slice_index}
use Rattle.std.specs.Int.{next_multiple_of}
use Rattle.std.proofs.lemmas.Grind.{flat_map-append}
use Rattle.std.proofs.lemmas.List.{map-append}
use Rattle.std.proofs.lemmas.List.Sums.{sum_by-cons}
use Rattle.byte_core.specs.Number.{little_bytes}
use Rattle.byte_core.specs.Fields.{field_bytes}
use Rattle.byte_core.specs.LaidOut.{Aligned, LaysOut, end_of_aligned, laid_out}
use Rattle.byte_core.proofs.LaidOut.{lays_as, lays_bytes, lays_more, length-laid_out, end_of_aligned-append}
use Rattle.byte_core.proofs.Writing.{filled_whole}
use Rattle.byte_core.proofs.Standing.{length-rows}
use Rattle.byte_core.specs.Strings.{string_bytes_of, strings_size, with_zero}
use Rattle.object_core.specs.Object.{SymbolData, SectionData, ObjectData, is_local, is_global}
use Rattle.object_core.specs.LinkTable.{ElfTable, ElfTableSection, ElfTableSymbol}
use Rattle.object_core.specs.declared.relocation.Relocation.{Relocation}
use Rattle.ir_core.specs.declared.target.BinaryFormat.TheVariants.{Elf}
use Rattle.object_core.specs.Appending.{AreSections}
use Rattle.object_core.specs.WellFormed.{IsFormedElf}
use Rattle.object_core.specs.ElfRows.{elf_machine, elf_symbol, elf_section, elf_relocation, elf_table_of, row_in}
use Rattle.object_elf.specs.Layout.{is_relocated, section_names, symbol_names, parts_of, end_of_parts, headers_start}
use Rattle.object_elf.specs.ElfHolds.{null_symbol, header_with, header_for, record_for}
use Rattle.object_elf.specs.File.{relocation_row_bytes, header_bytes, section_row_bytes, symbol_row_bytes, symbol_rows_from, symbol_contents, string_contents, section_contents, relocation_contents, section_rows, contents_of, elf_file}
use Rattle.object_elf.specs.Fitting.{FitsElf, HasContents}
use Rattle.object_elf.specs.Plan.{rows_of}
use Rattle.object_elf.specs.PlainCounts.{symbol_name_size, section_name_size}
use Rattle.object_elf.specs.Writing.{chosen, chosen_names, name_size, names_size, rows_in_order, row_names, own_name, record_name, AreRowsOf, NameSymbols, record_by, record_bytes_by, records_at, has_relocations, contents_at, body_of}
use Rattle.object_elf.proofs.PartCases.{length-parts_of}
use Rattle.object_elf.proofs.Fit.{machine_is, flags_are, formed_names, table_has}
use Rattle.object_elf.proofs.Planning.{rows_are_rows}
use Rattle.object_elf.proofs.Tables.{relocated_is, front_count_is, own_names_are, record_names_are, chosen_counts, symbol_names_size_is, section_names_size_is}
use Rattle.std.proofs.lemmas.Option.{get_or_from_slice_get}
use Rattle.object_elf.proofs.Rows.{length-symbol_row_bytes}
use Rattle.byte_core.proofs.StringTables.{length-string_bytes_of}
use Rattle.object_elf.proofs.Parts.{fit_by, length-symbol_rows_from}
use Rattle.object_elf.proofs.Places.{whole_end_is, whole_end_by, length-header_bytes}

-- ---- the symbol table

null_row : replicate 24 0 ≡ symbol_row_bytes null_symbol
unfolding field_bytes little_bytes
null_row = refl

rows_append : (place : ℕ) (xs ys : List ElfTableSymbol) → symbol_rows_from place (xs ++ ys) ≡ symbol_rows_from place xs ++ symbol_rows_from (place + names_size xs) ys
unfolding symbol_rows_from
rows_append place [] ys = let same : place + 0 ≡ place = omega arith in rw same refl
rows_append place (x ∷ xs) ys =
    let next : place + (length x.name + 1) + names_size xs ≡ place + names_size (x ∷ xs) = omega (arith, sum_by-cons name_size x xs) in
    rw (rows_append (place + (length x.name + 1)) xs ys, next) refl

in_order : (ss : List SymbolData) → rows_in_order ss ≡ chosen true ss ++ chosen false ss
in_order ss = map-append elf_symbol (filter is_local ss) (filter is_global ss)

-- the null row, the local rows and the others are the table
pub table_bytes : (ss : List SymbolData) (padded nulled locals all : List ℕ) (place : ℕ) → nulled ≡ padded ++ replicate 24 0 → locals ≡ nulled ++ flat_map symbol_row_bytes (symbol_rows_from 1 (chosen true ss))
    → place ≡ 1 + names_size (chosen true ss) → all ≡ locals ++ flat_map symbol_row_bytes (symbol_rows_from place (chosen false ss)) → all ≡ padded ++ (symbol_contents (rows_in_order ss)).bytes
table_bytes ss padded nulled locals all place n l p a =
    let both : flat_map symbol_row_bytes (symbol_rows_from 1 (rows_in_order ss)) ≡ flat_map symbol_row_bytes (symbol_rows_from 1 (chosen true ss)) ++ flat_map symbol_row_bytes (symbol_rows_from place (chosen false ss)) =
    ap (λ rows. flat_map symbol_row_bytes (symbol_rows_from 1 rows)) (in_order ss)
    ∙ ap (flat_map symbol_row_bytes) (rows_append 1 (chosen true ss) (chosen false ss) ∙ ap (λ q. symbol_rows_from 1 (chosen true ss) ++ symbol_rows_from q (chosen false ss)) (sym p))
    ∙ flat_map-append symbol_row_bytes (symbol_rows_from 1 (chosen true ss)) (symbol_rows_from place (chosen false ss)) in
    a
    ∙ ap (λ m. m ++ flat_map symbol_row_bytes (symbol_rows_from place (chosen false ss))) (l ∙ ap (λ m. m ++ flat_map symbol_row_bytes (symbol_rows_from 1 (chosen true ss))) (n ∙ ap (λ m. padded ++ m) null_row))
    ∙ append_assoc (padded ++ symbol_row_bytes null_symbol) (flat_map symbol_row_bytes (symbol_rows_from 1 (chosen true ss))) (flat_map symbol_row_bytes (symbol_rows_from place (chosen false ss)))
    ∙ ap (λ m. padded ++ symbol_row_bytes null_symbol ++ m) (sym both)
    ∙ append_assoc padded (symbol_row_bytes null_symbol) (flat_map symbol_row_bytes (symbol_rows_from 1 (rows_in_order ss)))

-- its names
pub table_names : (ss : List SymbolData) (old zero locals all : List ℕ) → zero ≡ old ++ 0 ∷ [] → locals ≡ zero ++ chosen_names true ss → all ≡ locals ++ chosen_names false ss → all ≡ old ++ string_bytes_of (row_names (rows_in_order ss))
unfolding string_bytes_of
table_names ss old zero locals all z l a =
    let both : flat_map with_zero (row_names (rows_in_order ss)) ≡ chosen_names true ss ++ chosen_names false ss =
    ap (λ rows. flat_map with_zero (row_names rows)) (in_order ss)
    ∙ ap (flat_map with_zero) (map-append (λ (s : ElfTableSymbol). s.name) (chosen true ss) (chosen false ss))
    ∙ flat_map-append with_zero (row_names (chosen true ss)) (row_names (chosen false ss)) in
    a
    ∙ ap (λ m. m ++ chosen_names false ss) (l ∙ ap (λ m. m ++ chosen_names true ss) z)
    ∙ append_assoc (old ++ 0 ∷ []) (chosen_names true ss) (chosen_names false ss)
    ∙ ap (λ m. old ++ 0 ∷ [] ++ m) (sym both)
    ∙ append_assoc old (0 ∷ []) (flat_map with_zero (row_names (rows_in_order ss)))

-- ---- the whole file

-- what stands between the file header and the names of the sections
abbrev table_body : ElfTable → List Aligned
table_body t = map section_contents t.sections ++ map relocation_contents (filter is_relocated t.sections) ++ symbol_contents t.symbols ∷ string_contents (symbol_names t) ∷ []

lays_as_new : (old new same : List ℕ) (cs : List Aligned) → same ≡ new → LaysOut old new cs → LaysOut old same cs
lays_as_new old new same cs e f = record { bytes = e ∙ f.bytes }

-- the stack note takes no bytes
skip_note : (t : ElfTable) (h body : List ℕ) → LaysOut h body (table_body t) → LaysOut h (body ++ string_bytes_of (section_names t)) (contents_of t)
unfolding contents_of laid_out
skip_note t h body s =
    let cs = map section_contents t.sections in
    let rs = map relocation_contents (filter is_relocated t.sections) in
    let ts = symbol_contents t.symbols ∷ string_contents (symbol_names t) ∷ [] in
    let m1 = h ++ laid_out (length h) cs in
    let m2 = m1 ++ laid_out (length m1) rs in
    let m3 = m2 ++ laid_out (length m2) ts in
    let first : LaysOut h m1 cs = record { bytes = refl } in
    let second : LaysOut m1 m2 rs = record { bytes = refl } in
    let third : LaysOut m2 m3 ts = record { bytes = refl } in
    let whole = lays_more h m2 m3 (cs ++ rs) ts (lays_more h m1 m2 cs rs first second) third in
    let same : m3 ≡ body = whole.bytes ∙ sym s.bytes in
    let note = lays_bytes m1 m1 [] (sym (append-nil m1)) in
    let front = lays_more h m1 m2 cs (record { align = 1; bytes = [] } ∷ rs) first (lays_more m1 m1 m2 (record { align = 1; bytes = [] } ∷ []) rs note second) in
    let names = lays_bytes m3 (body ++ string_bytes_of (section_names t)) (string_bytes_of (section_names t)) (ap (λ l. l ++ string_bytes_of (section_names t)) (sym same)) in
    lays_more h m2 (body ++ string_bytes_of (section_names t)) (cs ++ record { align = 1; bytes = [] } ∷ rs) (symbol_contents t.symbols ∷ string_contents (symbol_names t) ∷ string_contents (section_names t) ∷ []) front
    (lays_more m2 m3 (body ++ string_bytes_of (section_names t)) ts (string_contents (section_names t) ∷ []) third names)

file_is : (t : ElfTable) → FitsElf t → (h body named padded file : List ℕ) → h ≡ header_bytes (header_for t) → LaysOut h body (table_body t) → named ≡ body ++ string_bytes_of (section_names t)
    → padded ≡ named ++ replicate (next_multiple_of (length named) 8 - length named) 0 → file ≡ padded ++ flat_map section_row_bytes (section_rows (parts_of t)) → file ≡ elf_file t
unfolding elf_file
file_is t f h body named padded file e s n p r =
    let all = lays_as_new h (body ++ string_bytes_of (section_names t)) named (contents_of t) n (skip_note t h body s) in
    let size : length h ≡ 64 = ap length e ∙ length-header_bytes (header_for t) refl in
    let end : length named ≡ end_of_parts (parts_of t) =
    ap length all.bytes ∙ length-append h (laid_out (length h) (contents_of t)) ∙ length-laid_out (length h) (contents_of t) ∙ ap (λ at. end_of_aligned at (contents_of t)) size ∙ whole_end_is t f in
    let padding : next_multiple_of (length named) 8 - length named ≡ headers_start t - end_of_parts (parts_of t) = ap (λ n. next_multiple_of n 8 - n) end in
    let contents : named ≡ header_bytes (header_for t) ++ laid_out 64 (contents_of t) = all.bytes ∙ ap (λ at. h ++ laid_out at (contents_of t)) size ∙ ap (λ l. l ++ laid_out 64 (contents_of t)) e in
    r
    ∙ ap (λ l. l ++ flat_map section_row_bytes (section_rows (parts_of t))) (p ∙ ap (λ n. named ++ replicate n 0) padding ∙ ap (λ l. l ++ replicate (headers_start t - end_of_parts (parts_of t)) 0) contents)
    ∙ append_assoc (header_bytes (header_for t) ++ laid_out 64 (contents_of t)) (replicate (headers_start t - end_of_parts (parts_of t)) 0) (flat_map section_row_bytes (section_rows (parts_of t)))
    ∙ append_assoc (header_bytes (header_for t)) (laid_out 64 (contents_of t)) (replicate (headers_start t - end_of_parts (parts_of t)) 0 ++ flat_map section_row_bytes (section_rows (parts_of t)))

-- ---- the body of an object

abbrev aligned_8 : List ℕ → Aligned
aligned_8 bytes = record { align = 8; bytes = bytes }

contents_are : (ss : List SymbolData) (xs : List SectionData) → map section_contents (map (elf_section ss) xs) ≡ map contents_at xs
contents_are ss [] = refl
contents_are ss (x ∷ xs) = ap (λ l. contents_at x ∷ l) (contents_are ss xs)

record_is : (ss : List SymbolData) (rows : List ℕ) (r : Relocation) → AreRowsOf rows ss → r.symbol < length ss → record_for (elf_relocation ss r) ≡ record_by rows r
record_is ss rows r a h = let row : slice_index rows r.symbol ≡ row_in ss r.symbol = get_or_from_slice_get rows r.symbol (row_in ss r.symbol) 0 (a r.symbol h) in rw row refl

records_are : (ss : List SymbolData) (rows : List ℕ) (rs : List Relocation) → AreRowsOf rows ss → NameSymbols (length ss) rs → flat_map (λ r. relocation_row_bytes (record_for r)) (map (elf_relocation ss) rs) ≡ record_bytes_by rows rs
records_are ss rows [] a h = refl
records_are ss rows (r ∷ rs) a h =
    ap (λ x. relocation_row_bytes x ++ flat_map (λ y. relocation_row_bytes (record_for y)) (map (elf_relocation ss) rs)) (record_is ss rows r a (h 0 r refl))
    ∙ ap (λ l. relocation_row_bytes (record_by rows r) ++ l) (records_are ss rows rs a (λ k x e. h (suc k) x e))

relocated_past : (ss : List SymbolData) (rows : List ℕ) (s : SectionData) (ts : List ElfTableSection) (us : List SectionData) (b : Bool) → relocation_contents (elf_section ss s) ≡ records_at rows s
    → map relocation_contents ts ≡ map (records_at rows) us → map relocation_contents (cond b (elf_section ss s ∷ ts) ts) ≡ map (records_at rows) (cond b (s ∷ us) us)
relocated_past ss rows s ts us true e h = ap (λ c. c ∷ map relocation_contents ts) e ∙ ap (λ l. records_at rows s ∷ l) h
relocated_past ss rows s ts us false e h = h

relocated_are : (ss : List SymbolData) (rows : List ℕ) (xs : List SectionData) → AreRowsOf rows ss → ((k : ℕ) (s : SectionData) → slice_get xs k ≡ Some s → NameSymbols (length ss) s.relocations)
    → map relocation_contents (filter is_relocated (map (elf_section ss) xs)) ≡ map (records_at rows) (filter has_relocations xs)
relocated_are ss rows [] a h = refl
relocated_are ss rows (x ∷ xs) a h =
    let ts = filter is_relocated (map (elf_section ss) xs) in
    ap (λ b. map relocation_contents (cond b (elf_section ss x ∷ ts) ts)) (relocated_is ss x)
    ∙ relocated_past ss rows x ts (filter has_relocations xs) (has_relocations x) (ap (λ bytes. aligned_8 bytes) (records_are ss rows x.relocations a (h 0 x refl))) (relocated_are ss rows xs a (λ k s e. h (suc k) s e))

-- the body of an object is that of its table
body_is : (o : ObjectData) (rows : List ℕ) → AreRowsOf rows o.symbols → ((k : ℕ) (s : SectionData) → slice_get o.sections k ≡ Some s → NameSymbols (length o.symbols) s.relocations) → body_of o rows ≡ table_body (elf_table_of o)
unfolding elf_table_of
body_is o rows a h =
    let tail = symbol_contents (rows_in_order o.symbols) ∷ string_contents (row_names (rows_in_order o.symbols)) ∷ [] in
    ap (λ l. l ++ map (records_at rows) (filter has_relocations o.sections) ++ tail) (sym (contents_are o.symbols o.sections))
    ∙ ap (λ l. map section_contents (map (elf_section o.symbols) o.sections) ++ l ++ tail) (sym (relocated_are o.symbols rows o.sections a h))

-- contents, records, symbols and names one after the other
pub body_laid : (o : ObjectData) (rows h o1 o2 o3 o4 : List ℕ) → LaysOut h o1 (map contents_at o.sections) → LaysOut o1 o2 (map (records_at rows) (filter has_relocations o.sections)) → LaysOut o2 o3 (symbol_contents (rows_in_order o.symbols) ∷ [])
    → o4 ≡ o3 ++ string_bytes_of (row_names (rows_in_order o.symbols)) → LaysOut h o4 (body_of o rows)
body_laid o rows h o1 o2 o3 o4 c r s n =
    let cs = map contents_at o.sections in
    let rs = map (records_at rows) (filter has_relocations o.sections) in
    let table = symbol_contents (rows_in_order o.symbols) ∷ [] in
    let names = string_contents (row_names (rows_in_order o.symbols)) ∷ [] in
    lays_more h o2 o4 (cs ++ rs) (symbol_contents (rows_in_order o.symbols) ∷ names) (lays_more h o1 o2 cs rs c r) (lays_more o2 o3 o4 table names s (lays_bytes o3 o4 (string_bytes_of (row_names (rows_in_order o.symbols))) n))

-- ---- names of the sections

join : (old z a n r t : List ℕ) → ((((old ++ z) ++ a) ++ n) ++ r) ++ t ≡ old ++ (z ++ ((a ++ (n ++ r)) ++ t))
join old z a n r t = simp append_assoc

abbrev table_names_of : List (List ℕ)
table_names_of = codes ".symtab" ∷ codes ".strtab" ∷ codes ".shstrtab" ∷ []

names_are : (o : ObjectData) → section_names (elf_table_of o) ≡ map own_name o.sections ++ codes ".note.GNU-stack" ∷ map record_name (filter has_relocations o.sections) ++ table_names_of
unfolding section_names elf_table_of
names_are o = rw (own_names_are o.symbols o.sections, record_names_are o.symbols o.sections) refl

-- the names that are written one after the other
pub section_texts : (o : ObjectData) (old zero own note records all : List ℕ) → zero ≡ old ++ 0 ∷ [] → own ≡ zero ++ flat_map with_zero (map own_name o.sections) → note ≡ own ++ with_zero (codes ".note.GNU-stack")
    → records ≡ note ++ flat_map with_zero (map record_name (filter has_relocations o.sections)) → all ≡ records ++ flat_map with_zero table_names_of → all ≡ old ++ string_bytes_of (section_names (elf_table_of o))
unfolding string_bytes_of
section_texts o old zero own note records all z a n r t =
    let own_names = map own_name o.sections in
    let rs = map record_name (filter has_relocations o.sections) in
    let name = with_zero (codes ".note.GNU-stack") in
    let texts = flat_map with_zero own_names in
    let more = flat_map with_zero rs in
    let tables = flat_map with_zero table_names_of in
    let bytes : flat_map with_zero (section_names (elf_table_of o)) ≡ (texts ++ (name ++ more)) ++ tables =
    ap (flat_map with_zero) (names_are o)
    ∙ flat_map-append with_zero (own_names ++ codes ".note.GNU-stack" ∷ rs) table_names_of
    ∙ ap (λ l. l ++ tables) (flat_map-append with_zero own_names (codes ".note.GNU-stack" ∷ rs)) in
    t
    ∙ ap (λ l. l ++ tables) (r ∙ ap (λ l. l ++ more) (n ∙ ap (λ l. l ++ name) (a ∙ ap (λ l. l ++ texts) z)))
    ∙ join old (0 ∷ []) texts name more tables
    ∙ ap (λ l. old ++ (0 ∷ [] ++ l)) (sym bytes)

-- ---- the numbers of the layout

pub part_count_is : (o : ObjectData) → length (parts_of (elf_table_of o)) ≡ length o.sections + count_by has_relocations o.sections + 4
part_count_is o = omega (arith, length-parts_of (elf_table_of o), front_count_is o)

pub header_is_of : (o : ObjectData) (machine flags start count : ℕ) → machine ≡ elf_machine o.architecture → flags ≡ o.e_flags → start ≡ headers_start (elf_table_of o) → count ≡ length (parts_of (elf_table_of o))
    → header_with machine flags start count ≡ header_for (elf_table_of o)
header_is_of o machine flags start count m f s n = rw (m, f, s, n, machine_is o, flags_are o) refl

-- ---- where the pieces end

length-in_order : (ss : List SymbolData) → length (rows_in_order ss) ≡ length ss
length-in_order ss = omega (arith, ap length (in_order ss), length-append (chosen true ss) (chosen false ss), chosen_counts ss)

length-table : (ss : List SymbolData) → length (symbol_contents (rows_in_order ss)).bytes ≡ 24 * (length ss + 1)
length-table ss =
    omega (arith, length-rows symbol_row_bytes 24 length-symbol_row_bytes (null_symbol ∷ symbol_rows_from 1 (rows_in_order ss)), length-symbol_rows_from 1 (rows_in_order ss), length-in_order ss)

length-texts : (o : ObjectData) → length (string_bytes_of (row_names (rows_in_order o.symbols))) ≡ 1 + sum_by symbol_name_size o.symbols
unfolding elf_table_of
length-texts o = length-string_bytes_of (row_names (rows_in_order o.symbols)) ∙ symbol_names_size_is o

-- where the body ends
pub body_end : (o : ObjectData) (rows : List ℕ) (at : ℕ)
    → end_of_aligned at (body_of o rows) ≡ next_multiple_of (end_of_aligned (end_of_aligned at (map contents_at o.sections)) (map (records_at rows) (filter has_relocations o.sections))) 8 + 24 * (length o.symbols + 1) + (1 + sum_by symbol_name_size o.symbols)
unfolding end_of_aligned
body_end o rows at =
    let cs = map contents_at o.sections in
    let rs = map (records_at rows) (filter has_relocations o.sections) in
    let tables = symbol_contents (rows_in_order o.symbols) ∷ string_contents (row_names (rows_in_order o.symbols)) ∷ [] in
    omega (
      arith,
      end_of_aligned-append at (cs ++ rs) tables,
      ap (λ e. end_of_aligned e tables) (end_of_aligned-append at cs rs),
      length-table o.symbols,
      length-texts o,
    )

note_end : (e : ℕ) (rs : List Aligned) → end_of_aligned e (record { align = 1; bytes = [] } ∷ rs) ≡ end_of_aligned e rs
unfolding end_of_aligned
note_end e rs = let same : next_multiple_of e 1 + 0 ≡ e = omega arith in ap (λ at. end_of_aligned at rs) same

-- the names of the sections are behind the body
names_end : (t : ElfTable) (at : ℕ) → end_of_aligned at (contents_of t) ≡ end_of_aligned at (table_body t) + strings_size (section_names t)
unfolding contents_of end_of_aligned
names_end t at =
    let cs = map section_contents t.sections in
    let rs = map relocation_contents (filter is_relocated t.sections) in
    let tables = symbol_contents t.symbols ∷ string_contents (symbol_names t) ∷ [] in
    let all = symbol_contents t.symbols ∷ string_contents (symbol_names t) ∷ string_contents (section_names t) ∷ [] in
    let note = record { align = 1; bytes = [] } ∷ rs in
    let front : end_of_aligned at (cs ++ note) ≡ end_of_aligned at (cs ++ rs) = end_of_aligned-append at cs note ∙ note_end (end_of_aligned at cs) rs ∙ sym (end_of_aligned-append at cs rs) in
    omega (
      arith,
      end_of_aligned-append at (cs ++ note) all ∙ ap (λ e. end_of_aligned e all) front,
      end_of_aligned-append at (cs ++ rs) tables,
      length-string_bytes_of (section_names t),
    )

-- where the parts of an object's file end
parts_end : (o : ObjectData) (rows : List ℕ) → ((k : ℕ) (s : ElfTableSection) → slice_get (elf_table_of o).sections k ≡ Some s → HasContents s) → body_of o rows ≡ table_body (elf_table_of o)
    → end_of_parts (parts_of (elf_table_of o)) ≡ end_of_aligned 64 (body_of o rows) + (43 + sum_by section_name_size o.sections)
parts_end o rows has same =
    sym (whole_end_by (elf_table_of o) (fit_by (elf_table_of o) has))
    ∙ names_end (elf_table_of o) 64
    ∙ ap (λ l. end_of_aligned 64 l + strings_size (section_names (elf_table_of o))) (sym same)
    ∙ ap (λ n. end_of_aligned 64 (body_of o rows) + n) (section_names_size_is o)

-- the body of an object whose symbols have these rows is that of its table
body_by : (o : ObjectData) (rows : List ℕ) → IsFormedElf o → rows ≡ rows_of o.symbols → body_of o rows ≡ table_body (elf_table_of o)
body_by o rows formed e = ap (body_of o) e ∙ body_is o (rows_of o.symbols) (rows_are_rows o.symbols) (formed_names o formed (length o.symbols) refl)

pub ends : (o : ObjectData) (rows : List ℕ) → o.format ≡ Elf → AreSections o.format o.sections o.content_sum → IsFormedElf o → rows ≡ rows_of o.symbols
    → end_of_parts (parts_of (elf_table_of o)) ≡ end_of_aligned 64 (body_of o rows) + (43 + sum_by section_name_size o.sections)
ends o rows elf sound formed e = parts_end o rows (table_has o elf sound) (body_by o rows formed e)

-- the body has room where the parts have
pub body_room : (o : ObjectData) (rows : List ℕ) (at n : ℕ) → o.format ≡ Elf → AreSections o.format o.sections o.content_sum → IsFormedElf o → rows ≡ rows_of o.symbols → at ≡ 64 → end_of_parts (parts_of (elf_table_of o)) ≤ n
    → end_of_aligned at (body_of o rows) ≤ n
body_room o rows at n elf sound formed e start room = omega (arith, ap (λ p. end_of_aligned p (body_of o rows)) start, ends o rows elf sound formed e, room)

-- ---- the file of an object

pub object_file : (o : ObjectData) (rows h body named padded file out : List ℕ) (end : ℕ) → FitsElf (elf_table_of o) → IsFormedElf o → rows ≡ rows_of o.symbols → h ≡ header_bytes (header_for (elf_table_of o)) → LaysOut h body (body_of o rows)
    → named ≡ body ++ string_bytes_of (section_names (elf_table_of o)) → padded ≡ named ++ replicate (next_multiple_of (length named) 8 - length named) 0
    → file ≡ padded ++ flat_map section_row_bytes (section_rows (parts_of (elf_table_of o))) → file ≡ take end out → length out ≡ end → out ≡ elf_file (elf_table_of o)
object_file o rows h body named padded file out end fits formed e head laid names padding headers front whole =
    let bytes = file_is (elf_table_of o) fits h body named padded file head (lays_as h body (body_of o rows) (table_body (elf_table_of o)) (body_by o rows formed e) laid) names padding headers in
    filled_whole out (elf_file (elf_table_of o)) end (sym front ∙ bytes) whole
