-- The rows of sections, in loops over the order of their headers.
use Rattle.std.proofs.Common.{◌≡◌, ℕ, zero, suc, ◌+◌, ◌*◌, ◌<◌, ◌≤◌, ◌^◌, ◌==◌, Bool, true, false, cond, List, [], ◌∷◌, ◌++◌, length, take, map, Some, refl, ap, sym, ◌∙◌, arith, append_assoc}
use Rattle.std.specs.Prelude.{slice_get, slice_index, flat_map, count_by}
use Rattle.std.proofs.lemmas.List.{length-map}
use Rattle.std.proofs.lemmas.List.Sums.{sum_by_push, length-filter}
use Rattle.std.proofs.lemmas.Option.{get_or_from_slice_get}
use Rattle.ir_core.specs.Moments.{moments}
use Rattle.ir_core.specs.MachO.{mach_cputype}
use Rattle.object_core.specs.Object.{SectionData, SectionBody, ObjectData}
use Rattle.object_core.specs.LinkTable.{MachTableSection, MachTable}
use Rattle.object_core.specs.MachRows.{is_mach_stored, is_mach_zero_fill, header_order, section_address, addresses_in, mach_symbol, mach_section, macho_table_of}
use Rattle.object_macho.specs.Layout.{records_of, record_count, is_stored, data_start, records_start}
use Rattle.object_macho.specs.MachHolds.{section_for}
use Rattle.object_macho.specs.File.{section_headers_from}
use Rattle.object_macho.specs.Rows.{section_with}
use Rattle.object_macho.specs.declared.rows.SectionPlaces.{SectionPlaces}
use Rattle.object_macho.specs.Fitting.{FitsMach}
use Rattle.object_macho.specs.Plan.{section_order}
use Rattle.object_macho.proofs.Moments.{moment_at, length-seen}
use Rattle.object_macho.proofs.Orders.{symbol_rows, length-section_order, length-header_order, length_parts}
use Rattle.object_macho.proofs.Reading.{inside, counts_grow, stored_ends, length-mach_file}
use Rattle.object_macho.proofs.Behind.{take_next, memory_of}

abbrev pub section_row : ObjectData → ℕ → SectionData → MachTableSection
section_row o n s = mach_section o.symbols (record { before = take n (header_order o.sections); here = s })

pub table_section_at : (o : ObjectData) (n : ℕ) (s : SectionData) → slice_get (header_order o.sections) n ≡ Some s → slice_get (macho_table_of o).sections n ≡ Some (section_row o n s)
unfolding macho_table_of
table_section_at o n s e = moment_at (mach_section o.symbols) (header_order o.sections) n s e

pub length-table_sections : (o : ObjectData) → length (macho_table_of o).sections ≡ length (section_order o.sections)
unfolding macho_table_of
length-table_sections o = length-seen (mach_section o.symbols) (header_order o.sections) ∙ sym (length-section_order o.sections)

pub few_rows : (o : ObjectData) → FitsMach (macho_table_of o) → length (symbol_rows o.symbols) < 2 ^ 24
unfolding macho_table_of
few_rows o f = omega (arith, f.symbol_count, length-map (symbol_rows o.symbols) (mach_symbol o.sections))

small_by : (t : MachTable) → FitsMach t → (k : ℕ) (s : MachTableSection) (b : Bool) → slice_get t.sections k ≡ Some s → is_stored s ≡ b → length s.contents ≡ cond b s.size 0 → length s.contents < 2 ^ 32
small_by t f k s true e stored h = omega (arith, stored_ends t f k s e stored, length-mach_file t f, f.file)
small_by t f k s false e stored h = omega (arith, h)

-- the contents of a section are short
pub small_contents : (t : MachTable) → FitsMach t → (k : ℕ) (s : MachTableSection) → slice_get t.sections k ≡ Some s → length s.contents < 2 ^ 32
small_contents t f k s e = small_by t f k s (is_stored s) e refl (f.sections k s e).contents

flat_append : {A B : Type 0} (f : A → List B) (xs ys : List A) → flat_map f (xs ++ ys) ≡ flat_map f xs ++ flat_map f ys
flat_append f [] ys = refl
flat_append f (x ∷ xs) ys = ap (λ zs. f x ++ zs) (flat_append f xs ys) ∙ sym (append_assoc (f x) (flat_map f xs) (flat_map f ys))

-- lists that are joined twice
pub flat_twice : {A B C : Type 0} (f : B → List C) (g : A → List B) (xs : List A) → flat_map (λ x. flat_map f (g x)) xs ≡ flat_map f (flat_map g xs)
flat_twice f g [] = refl
flat_twice f g (x ∷ xs) = ap (λ zs. flat_map f (g x) ++ zs) (flat_twice f g xs) ∙ sym (flat_append f (g x) (flat_map g xs))

-- -- headers

headers_get : (t : MachTable) (j : ℕ) (ss : List MachTableSection) (k : ℕ) (s : MachTableSection) → slice_get ss k ≡ Some s → slice_get (section_headers_from t j ss) k ≡ Some (section_for t (j + k) s)
unfolding section_headers_from
headers_get t j [] k s e = absurd (cc)
headers_get t j (x ∷ ss) zero s e =
    let same : x ≡ s = cc in
    let place : j ≡ j + 0 = omega arith in
    ap (λ (y : MachTableSection). Some (section_for t j y)) same ∙ ap (λ n. Some (section_for t n s)) place
headers_get t j (x ∷ ss) (suc k) s e =
    let place : j + 1 + k ≡ j + suc k = omega arith in
    headers_get t (j + 1) ss k s e ∙ ap (λ n. Some (section_for t n s)) place

pub header_at : (t : MachTable) (n : ℕ) (s : MachTableSection) → slice_get t.sections n ≡ Some s → slice_get (section_headers_from t 0 t.sections) n ≡ Some (section_for t n s)
header_at t n s e = let place : 0 + n ≡ n = omega arith in headers_get t 0 t.sections n s e ∙ ap (λ k. Some (section_for t k s)) place

length-headers_from : (t : MachTable) (k : ℕ) (ss : List MachTableSection) → length (section_headers_from t k ss) ≡ length ss
unfolding section_headers_from
length-headers_from t k [] = refl
length-headers_from t k (s ∷ ss) = ap suc (length-headers_from t (k + 1) ss)

pub length-headers : (o : ObjectData) → length (section_headers_from (macho_table_of o) 0 (macho_table_of o).sections) ≡ length (section_order o.sections)
length-headers o = length-headers_from (macho_table_of o) 0 (macho_table_of o).sections ∙ length-table_sections o

-- what the writer has of a section, and what its header says
pub record Same (t : MachTable) (n : ℕ) (row : MachTableSection) (segment name : List ℕ) (b : SectionBody) (p : SectionPlaces) : Type 0 where
  pub name_is : name ≡ row.name
  pub segment_is : segment ≡ row.segment
  pub size : b.size ≡ row.size
  pub align : b.align ≡ row.align
  pub flags : b.macho_flags ≡ row.flags
  pub address : p.address ≡ row.address
  pub offset : p.offset ≡ cond (is_stored row) (data_start t + row.address) 0
  pub reloff : p.reloff ≡ cond (length row.relocations == 0) 0 (records_start t n)
  pub nreloc : p.nreloc ≡ length (records_of t.cputype row)

pub header_same : (t : MachTable) (n : ℕ) (row : MachTableSection) (segment name : List ℕ) (b : SectionBody) (p : SectionPlaces) → Same t n row segment name b p → section_with segment name b p.address p.offset p.reloff p.nreloc ≡ section_for t n row
header_same t n row segment name b p s = rw (s.name_is, s.segment_is, s.size, s.align, s.flags, s.address, s.offset, s.reloff, s.nreloc) refl

pub address_at : (o : ObjectData) (addresses : List ℕ) (n : ℕ) (s : SectionData) → addresses ≡ addresses_in o.sections → slice_get (header_order o.sections) n ≡ Some s → slice_index addresses n ≡ (section_row o n s).address
unfolding addresses_in
address_at o addresses n s e h = ap (λ (xs : List ℕ). slice_index xs n) e ∙ get_or_from_slice_get (map section_address (moments (header_order o.sections))) n _ 0 (moment_at section_address (header_order o.sections) n s h)

pub records_next : (t : MachTable) (n : ℕ) (row : MachTableSection) → slice_get t.sections n ≡ Some row → records_start t (n + 1) ≡ records_start t n + 8 * length (records_of t.cputype row)
records_next t n row e =
    let next : n + 1 ≡ suc n = omega arith in
    omega (
      arith,
      ap (λ k. record_count t.cputype (take k t.sections)) next,
      ap (record_count t.cputype) (take_next t.sections n row e),
      sum_by_push (λ (x : MachTableSection). length (records_of t.cputype x)) (take n t.sections) row,
    )

pub records_within : (t : MachTable) → FitsMach t → (n : ℕ) (row : MachTableSection) → slice_get t.sections n ≡ Some row → records_start t n + 8 * length (records_of t.cputype row) < 2 ^ 32
records_within t f n row e = let i = inside t in omega (arith, counts_grow t.cputype t.sections n row e, i.records, i.symbols, i.strings, f.file)

pub offset_fits : (t : MachTable) → FitsMach t → (n : ℕ) (row : MachTableSection) → slice_get t.sections n ≡ Some row → is_stored row ≡ true → data_start t + row.address < 2 ^ 32
offset_fits t f n row e stored = omega (arith, stored_ends t f n row e stored, length-mach_file t f, f.file)

pub size_fits : (t : MachTable) → FitsMach t → (n : ℕ) (row : MachTableSection) → slice_get t.sections n ≡ Some row → row.size < 2 ^ 64
size_fits t f n row e = omega (arith, memory_of t f n row e, f.memory)

pub table_cputype : (o : ObjectData) → (macho_table_of o).cputype ≡ mach_cputype o.architecture
unfolding macho_table_of
table_cputype o = refl

pub count_order : (o : ObjectData) → length (section_order o.sections) ≡ length o.sections
count_order o = length-section_order o.sections ∙ length-header_order o.sections

-- no more sections are stored than there are
pub few_stored : (o : ObjectData) → count_by is_mach_stored o.sections ≤ length o.sections
few_stored o = omega (arith, length-filter is_mach_stored o.sections, length_parts is_mach_zero_fill o.sections)
