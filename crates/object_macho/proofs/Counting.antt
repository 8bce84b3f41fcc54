-- The counts of a table are those of its object.
use Rattle.std.proofs.Common.{◌≡◌, ℕ, ◌+◌, ◌*◌, List, [], ◌∷◌, ◌++◌, Bool, true, false, not, cond, ◌&&◌, length, take, map, refl, ap, sym, ◌∙◌, arith, length-append}
use Rattle.std.specs.Prelude.{filter, count_by, sum_by}
use Rattle.std.specs.Int.{next_multiple_of}
use Rattle.std.proofs.lemmas.List.Sums.{sum_by-cons, sum_by-append, length-filter}
use Rattle.ir_core.specs.Moments.{moments_after, moments}
use Rattle.ir_core.specs.MachO.{mach_cputype}
use Rattle.object_core.specs.declared.kinds.SymbolKind.{SymbolKind}
use Rattle.object_core.specs.declared.kinds.SymbolKind.TheVariants as kind
use Rattle.object_core.specs.declared.symbol.Symbol.{Symbol}
use Rattle.object_core.specs.Object.{SymbolData, SectionData, ObjectData, plain_symbol, is_local_symbol, is_in_section, has_own_scope, is_local_kind, is_local, is_global}
use Rattle.object_core.specs.Places.{end_of}
use Rattle.object_core.specs.WellFormed.{is_file}
use Rattle.object_core.specs.LinkTable.{MachTableSection, MachTableSymbol}
use Rattle.object_core.specs.MachRows.{is_mach_stored, header_order, section_extent, is_mach_local, mach_symbol_name_of, mach_symbol, mach_section, macho_table_of}
use Rattle.object_macho.specs.Layout.{records_of, end_of_sections, contents_size, record_count, version_size, mach_names, mach_length}
use Rattle.object_macho.specs.Counts.{MachCounts, mach_counts}
use Rattle.object_macho.specs.PlainCounts.{has_row, row_name_size, section_records, stored_end, plain_counts}
use Rattle.object_macho.proofs.Behind.{take_all}
use Rattle.object_macho.proofs.CommandPieces.{table_version}
use Rattle.object_macho.proofs.Filling.{count_symbols, count_case}
use Rattle.object_macho.proofs.Fit.{rows_of, ends_agree, stored_rows, sums_agree}
use Rattle.object_macho.proofs.Formed.{section_counts}
use Rattle.object_macho.proofs.Moments.{length-seen}
use Rattle.object_macho.proofs.Orders.{symbol_rows, length-symbol_order}
use Rattle.object_macho.proofs.SectionLoops.{length-table_sections, count_order}

-- -- sums over the rows of symbols

pub file_kind : (k : SymbolKind) (own : Bool) → is_file k ≡ true → is_local_kind k own ≡ true
file_kind kind.File own h = refl
file_kind kind.Label own h = refl
file_kind kind.Text own h = absurd (cc)
file_kind kind.Data own h = absurd (cc)
file_kind kind.Tls own h = absurd (cc)

rows_case : (f : SymbolData → ℕ) (s : SymbolData) (ss : List SymbolData) (local file : Bool) → (file ≡ true → local ≡ true)
    → sum_by f (filter is_mach_local ss) + sum_by f (filter is_global ss) ≡ sum_by (λ x. cond (has_row x) (f x) 0) ss
    → sum_by f (cond (local && not file) (s ∷ filter is_mach_local ss) (filter is_mach_local ss)) + sum_by f (cond (not local) (s ∷ filter is_global ss) (filter is_global ss)) ≡ cond (not file) (f s) 0 + sum_by (λ x. cond (has_row x) (f x) 0) ss
rows_case f s ss true true h e = omega (arith, e)
rows_case f s ss true false h e = omega (arith, e, sum_by-cons f s (filter is_mach_local ss))
rows_case f s ss false true h e = absurd (let no = h refl in cc)
rows_case f s ss false false h e = omega (arith, e, sum_by-cons f s (filter is_global ss))

parts_sum : (f : SymbolData → ℕ) (ss : List SymbolData) → sum_by f (filter is_mach_local ss) + sum_by f (filter is_global ss) ≡ sum_by (λ x. cond (has_row x) (f x) 0) ss
parts_sum f [] = refl
parts_sum f (s ∷ ss) = rows_case f s ss (is_local s) (is_file s.kind) (file_kind s.kind (is_in_section s.section && has_own_scope s.scope)) (parts_sum f ss) ∙ sym (sum_by-cons (λ x. cond (has_row x) (f x) 0) s ss)

-- a sum over the rows is one over the symbols that are no files
rows_sum : (f : SymbolData → ℕ) (ss : List SymbolData) → sum_by f (symbol_rows ss) ≡ sum_by (λ x. cond (has_row x) (f x) 0) ss
rows_sum f ss = sum_by-append f (filter is_mach_local ss) (filter is_global ss) ∙ parts_sum f ss

one_each : SymbolData → ℕ
one_each s = 1

ones : (ss : List SymbolData) → sum_by one_each ss ≡ length ss
unfolding one_each
ones [] = refl
ones (s ∷ ss) = omega (arith, sum_by-cons one_each s ss, ones ss)

count_rows : (ss : List SymbolData) → length (symbol_rows ss) ≡ count_by has_row ss
unfolding one_each
count_rows ss = sym (ones (symbol_rows ss)) ∙ rows_sum one_each ss

pub table_symbols : (o : ObjectData) → length (macho_table_of o).symbols ≡ count_by has_row o.symbols
table_symbols o = sym (count_symbols o) ∙ length-symbol_order o.symbols ∙ count_rows o.symbols

sum_map : {A B : Type 0} (f : B → ℕ) (g : A → B) (xs : List A) → sum_by f (map g xs) ≡ sum_by (λ x. f (g x)) xs
sum_map f g [] = refl
sum_map f g (x ∷ xs) = sum_by-cons f (g x) (map g xs) ∙ ap (λ n. f (g x) + n) (sum_map f g xs) ∙ sym (sum_by-cons (λ y. f (g y)) x xs)

table_names : (o : ObjectData) → sum_by (λ (name : List ℕ). length name + 1) (mach_names (macho_table_of o)) ≡ sum_by row_name_size o.symbols
unfolding macho_table_of
table_names o =
    sum_map (λ (name : List ℕ). length name + 1) (λ (s : MachTableSymbol). s.name) (map (mach_symbol o.sections) (symbol_rows o.symbols))
    ∙ sum_map (λ (s : MachTableSymbol). length s.name + 1) (mach_symbol o.sections) (symbol_rows o.symbols)
    ∙ rows_sum (λ s. length (mach_symbol_name_of s.kind s.name) + 1) o.symbols

-- -- sums over the sections

records_from : (o : ObjectData) (cputype : ℕ) (before xs : List SectionData) → sum_by (λ (s : MachTableSection). length (records_of cputype s)) (map (mach_section o.symbols) (moments_after before xs)) ≡ sum_by (section_records cputype) xs
records_from o cputype before [] = refl
records_from o cputype before (x ∷ xs) =
    let row = mach_section o.symbols (record { before = before; here = x }) in
    omega (
      arith,
      sum_by-cons (λ (s : MachTableSection). length (records_of cputype s)) row (map (mach_section o.symbols) (moments_after (before ++ x ∷ []) xs)),
      sum_by-cons (section_records cputype) x xs,
      records_from o cputype (before ++ x ∷ []) xs,
      section_counts o cputype x row refl,
    )

pub table_records : (o : ObjectData) → record_count (macho_table_of o).cputype (macho_table_of o).sections ≡ sum_by (section_records (mach_cputype o.architecture)) o.sections
unfolding macho_table_of moments
table_records o =
    records_from o (mach_cputype o.architecture) [] (header_order o.sections) ∙ sums_agree (section_records (mach_cputype o.architecture)) o.sections

pub table_contents : (o : ObjectData) → contents_size (macho_table_of o) ≡ stored_end o.sections
unfolding macho_table_of moments
table_contents o =
    let stored = filter is_mach_stored o.sections in
    let rows = rows_of o.symbols stored in
    let count : length rows ≡ length stored = length-seen (mach_section o.symbols) stored in
    ap end_of_sections (stored_rows o.symbols o.sections)
    ∙ ap end_of_sections (sym (take_all rows))
    ∙ ap (λ n. end_of_sections (take n rows)) count
    ∙ ends_agree o.symbols stored (length stored) (omega arith)
    ∙ ap (λ xs. end_of (map section_extent xs)) (take_all stored)

pub table_sections : (o : ObjectData) → length (macho_table_of o).sections ≡ length o.sections
table_sections o = length-table_sections o ∙ count_order o

-- -- the counts

pub table_length : (o : ObjectData) → (plain_counts o).file ≡ mach_length (macho_table_of o)
unfolding plain_counts
table_length o =
    let t = macho_table_of o in
    let start : 32 + (72 + 80 * length o.sections) + version_size o.build_version + 24 + stored_end o.sections ≡ 32 + (72 + 80 * length t.sections) + version_size t.build_version + 24 + contents_size t =
    omega (arith, table_sections o, ap version_size (table_version o), table_contents o) in
    omega (arith, ap (λ n. next_multiple_of n 8) start, table_records o, table_symbols o, table_names o)

counts_by : (a b : MachCounts) → a.sections ≡ b.sections → a.symbols ≡ b.symbols → a.contents ≡ b.contents → a.file ≡ b.file → a ≡ b
counts_by a b s y c f = rw (s, y, c, f) refl

pub counts_are : (o : ObjectData) → plain_counts o ≡ mach_counts (macho_table_of o) o.content_sum
unfolding plain_counts mach_counts
counts_are o = counts_by (plain_counts o) (mach_counts (macho_table_of o) o.content_sum) (sym (table_sections o)) (sym (table_symbols o)) refl (table_length o)

-- rows are counted over symbols without their names
pub count_with_rows : (ss : List SymbolData) → count_by (λ (b : Symbol). not (is_file b.kind)) (map plain_symbol ss) ≡ count_by has_row ss
count_with_rows ss = count_case plain_symbol (λ (b : Symbol). not (is_file b.kind)) ss

pub count_local_rows : (ss : List SymbolData) → count_by (λ (b : Symbol). is_local_symbol b && not (is_file b.kind)) (map plain_symbol ss) ≡ count_by is_mach_local ss
count_local_rows ss = count_case plain_symbol (λ (b : Symbol). is_local_symbol b && not (is_file b.kind)) ss

pub local_and_global : (ss : List SymbolData) → count_by is_mach_local ss + count_by is_global ss ≡ count_by has_row ss
local_and_global ss = omega (arith, length-filter is_mach_local ss, length-filter is_global ss, length-append (filter is_mach_local ss) (filter is_global ss), count_rows ss)
