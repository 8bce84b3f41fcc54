-- The header, the commands and the rows of the file of a table are read as they were laid out.
use Rattle.std.proofs.Common.{◌≡◌, ℕ, zero, suc, ◌+◌, ◌-◌, ◌*◌, ◌%◌, ◌^◌, ◌<◌, ◌≤◌, ◌==◌, ◌⊎◌, inl, inr, List, [], ◌∷◌, ◌++◌, Bool, true, false, cond, length, take, Option, Some, None, refl, ap, sym, ◌∙◌, subst, arith, lit<, length-append}
use Rattle.std.specs.Prelude.{flat_map, filter, slice_get, sum_by, IsTrue}
use Rattle.std.specs.Int.{next_multiple_of, w64, cast_unsigned, w32}
use Rattle.std.proofs.lemmas.List.Sums.{sum_by-cons}
use Rattle.std.proofs.lemmas.List.{take-map, nil_from_length}
use Rattle.std.proofs.lemmas.Nat.Bits.{bit_at-trailing_zeros}
use Rattle.byte_core.specs.Number.{bytes_at, text_at}
use Rattle.byte_core.specs.LaidOut.{laid_out, end_of_aligned}
use Rattle.byte_core.specs.Strings.{string_bytes_of, strings_size, name_place, IsZero}
use Rattle.byte_core.proofs.Standing.{StandsAt, stands_whole, stands_left, stands_right, stands_within, stands_as, stands_inside, bytes_stand, row_stands}
use Rattle.byte_core.proofs.LaidOut.{zeros, length-zeros, contents_stand}
use Rattle.byte_core.proofs.Lists.{get_left, get_right, get_append, get_map}
use Rattle.object_core.specs.declared.kinds.MachOBuildVersion.{MachOBuildVersion}
use Rattle.object_core.specs.LinkTable.{MachRelocation, MachTableSection, MachTableSymbol, MachTable}
use Rattle.image_read.specs.MachFile.{mach_header_of, command_at, segment_at, mach_section_row_at, build_version_at, symtab_at, mach_symbol_row_at, MachRelocationRow, mach_relocation_row_at}
use Rattle.object_macho.specs.Layout.{stored_contents, addend_record, record_for, wants_record, records_for, records_of, record_count, is_stored, end_of_sections, contents_size, command_count, version_place, symtab_place, data_start, relocations_start, records_start, symbols_start, strings_start, mach_names, mach_length}
use Rattle.object_macho.specs.MachHolds.{mach_header_for, segment_command, segment_for, section_for, version_command, version_for, symtab_command, symtab_for, mach_symbol_for}
use Rattle.object_macho.specs.File.{command_bytes, build_version_bytes, mach_section_bytes, mach_symbol_bytes, mach_record_bytes, section_headers_from, mach_symbol_rows_from, version_bytes, aligned_contents, commands_bytes, mach_file}
use Rattle.object_macho.specs.Fitting.{FitsMach, FitsMachSection, FitsMachRelocation}
use Rattle.object_macho.proofs.ReadRows.{FitsHeader, header_stands, command_stands, length-command, FitsSegment, segment_stands, version_stands, symtab_stands, FitsSectionRow, section_row_stands, length-section_row, length-zero_filled, FitsSymbolRow, symbol_row_stands, length-symbol_row, FitsRecord, record_stands, length-record}
use Rattle.byte_core.proofs.StringTables.{length-string_bytes_of, name_here, name_place-lt}
use Rattle.object_macho.proofs.Behind.{length-stored_contents, length-contents, front_of, ends_before, memory_of}
use Rattle.object_macho.proofs.Places.{contents_of, all_records, gap_part, behind_commands, behind_gap, behind_symbols, records_part, symbols_part, strings_part, length-commands, length-records_part, length-symbols_part, header_here, segment_command_here, segment_here, headers_here, version_here, symtab_command_here, symtab_here, contents_here, gap_here, records_here, symbols_here, strings_here}

-- -- places are those of a file

-- the places in order, each within the file
pub record AreInside (t : MachTable) : Type 0 where
  pub start : data_start t ≤ relocations_start t
  pub contents : data_start t + contents_size t ≤ relocations_start t
  pub records : relocations_start t + 8 * record_count t.cputype t.sections ≡ symbols_start t
  pub symbols : symbols_start t + 16 * length t.symbols ≡ strings_start t
  pub strings : strings_start t + strings_size (mach_names t) ≡ mach_length t

pub inside : (t : MachTable) → AreInside t
inside t = record { start = omega arith; contents = omega arith; records = refl; symbols = refl; strings = refl }

few_commands : (version : Option MachOBuildVersion) → command_count version < 2 ^ 32
few_commands None = lit< tt
few_commands (Some v) = lit< tt

-- -- header and commands

header_fits : (t : MachTable) → FitsMach t → FitsHeader (mach_header_for t)
header_fits t f = record {
  magic = refl;
  cputype = f.cputype;
  cpusubtype = f.cpusubtype;
  filetype = lit< tt;
  ncmds = few_commands t.build_version;
  sizeofcmds = omega (arith, f.file, (inside t).start);
  flags = lit< tt;
  reserved = lit< tt;
}

pub header_is : (t : MachTable) → FitsMach t → mach_header_of (mach_file t) ≡ mach_header_for t
header_is t f = header_stands (mach_file t) (mach_header_for t) (header_fits t f) (header_here t)

pub segment_begins : (t : MachTable) → FitsMach t → command_at (mach_file t) 32 ≡ segment_command t
segment_begins t f = command_stands (mach_file t) (segment_command t) 32 (lit< tt) (omega (arith, f.section_count)) (segment_command_here t)

segment_fits : (t : MachTable) → FitsMach t → FitsSegment (segment_for t)
segment_fits t f = record {
  name = refl;
  vmaddr = lit< tt;
  vmsize = f.memory;
  fileoff = omega (arith, f.file, (inside t).start);
  filesize = omega (arith, f.file, (inside t).contents);
  maxprot = lit< tt;
  initprot = lit< tt;
  nsects = omega (arith, f.section_count);
  flags = lit< tt;
}

pub segment_is : (t : MachTable) → FitsMach t → segment_at (mach_file t) 32 ≡ segment_for t
segment_is t f = segment_stands (mach_file t) (segment_for t) 32 40 (segment_fits t f) refl (segment_here t)

version_bytes_here : (t : MachTable) → FitsMach t → (v : MachOBuildVersion) → t.build_version ≡ Some v → StandsAt (mach_file t) (command_bytes version_command ++ build_version_bytes (version_for v)) (version_place t)
version_bytes_here t f v e = stands_as (mach_file t) (version_bytes t.build_version) (version_bytes (Some v)) (version_place t) (version_place t) (version_here t f) (ap version_bytes e) refl

pub version_begins : (t : MachTable) → FitsMach t → (v : MachOBuildVersion) → t.build_version ≡ Some v → command_at (mach_file t) (version_place t) ≡ version_command
version_begins t f v e =
    command_stands (mach_file t) version_command (version_place t) (lit< tt) (lit< tt)
    (stands_left (mach_file t) (command_bytes version_command) (build_version_bytes (version_for v)) (version_place t) (version_bytes_here t f v e))

pub version_is : (t : MachTable) → FitsMach t → (v : MachOBuildVersion) → t.build_version ≡ Some v → build_version_at (mach_file t) (version_place t) ≡ version_for v
version_is t f v e =
    let fits = f.version v e in
    version_stands (mach_file t) (version_for v) (version_place t) (version_place t + 8) fits.platform fits.minos fits.sdk (lit< tt) refl
    (stands_right (mach_file t) (command_bytes version_command) (build_version_bytes (version_for v)) (version_place t) (version_place t + 8) (version_bytes_here t f v e) (omega (arith, length-command version_command)))

pub symtab_begins : (t : MachTable) → FitsMach t → command_at (mach_file t) (symtab_place t) ≡ symtab_command
symtab_begins t f = command_stands (mach_file t) symtab_command (symtab_place t) (lit< tt) (lit< tt) (symtab_command_here t f)

pub symtab_is : (t : MachTable) → FitsMach t → symtab_at (mach_file t) (symtab_place t) ≡ symtab_for t
symtab_is t f =
    let i = inside t in
    symtab_stands (mach_file t) (symtab_for t) (symtab_place t) (symtab_place t + 8) (omega (arith, f.file, i.symbols, i.strings)) (omega (arith, f.symbol_count)) (omega (arith, f.file, i.strings)) (omega (arith, f.file, i.strings)) refl
    (symtab_here t f)

-- -- sections

-- the header of section k
header_stands_in : (t : MachTable) (b : List ℕ) (j : ℕ) (ss : List MachTableSection) (k p q : ℕ) (s : MachTableSection) → ((i : ℕ) (x : MachTableSection) → slice_get ss i ≡ Some x → FitsMachSection t x)
    → StandsAt b (flat_map mach_section_bytes (section_headers_from t j ss)) p → slice_get ss k ≡ Some s → p + 80 * k ≡ q → StandsAt b (mach_section_bytes (section_for t (j + k) s)) q
unfolding section_headers_from
header_stands_in t b j [] k p q s f h e n = absurd (cc)
header_stands_in t b j (x ∷ ss) zero p q s f h e n =
    let same : x ≡ s = cc in
    let number : j ≡ j + 0 = omega arith in
    let here : p ≡ q = omega (arith, n) in
    let stand = stands_left b (mach_section_bytes (section_for t j x)) (flat_map mach_section_bytes (section_headers_from t (j + 1) ss)) p h in
    stands_as b _ _ p q stand (ap (λ (y : MachTableSection). mach_section_bytes (section_for t j y)) same ∙ ap (λ n. mach_section_bytes (section_for t n s)) number) here
header_stands_in t b j (x ∷ ss) (suc k) p q s f h e n =
    let fits = f 0 x refl in
    let size = length-section_row (section_for t j x) (length-zero_filled x.name fits.name.room) (length-zero_filled x.segment fits.segment.room) in
    let rest = stands_right b (mach_section_bytes (section_for t j x)) (flat_map mach_section_bytes (section_headers_from t (j + 1) ss)) p (p + 80) h (omega (arith, size)) in
    let number : j + 1 + k ≡ j + suc k = omega arith in
    let stand = header_stands_in t b (j + 1) ss k (p + 80) q s (λ i y g. f (suc i) y g) rest e (omega (arith, n)) in
    stands_as b _ _ q q stand (ap (λ n. mach_section_bytes (section_for t n s)) number) refl

-- the records before section k, and its own, are among all of them
pub counts_grow : (cputype : ℕ) (ss : List MachTableSection) (k : ℕ) (s : MachTableSection) → slice_get ss k ≡ Some s → record_count cputype (take k ss) + length (records_of cputype s) ≤ record_count cputype ss
counts_grow cputype [] k s e = absurd (cc)
counts_grow cputype (x ∷ ss) zero s e =
    let same : x ≡ s = cc in
    let own = ap (λ (y : MachTableSection). length (records_of cputype y)) same in
    omega (arith, own, sum_by-cons (λ (y : MachTableSection). length (records_of cputype y)) x ss)
counts_grow cputype (x ∷ ss) (suc k) s e =
    let rest = counts_grow cputype ss k s e in
    omega (arith, rest, sum_by-cons (λ (y : MachTableSection). length (records_of cputype y)) x ss, sum_by-cons (λ (y : MachTableSection). length (records_of cputype y)) x (take k ss))

offset_fits : (t : MachTable) (s : MachTableSection) (b : Bool) → (b ≡ true → data_start t + s.address < 2 ^ 32) → cond b (data_start t + s.address) 0 < 2 ^ 32
offset_fits t s true h = h refl
offset_fits t s false h = lit< tt

place_fits : (n : ℕ) (b : Bool) → n < 2 ^ 32 → cond b 0 n < 2 ^ 32
place_fits n true h = lit< tt
place_fits n false h = h

-- a stored section lies in the contents
pub stored_within : (t : MachTable) → FitsMach t → (k : ℕ) (s : MachTableSection) → slice_get t.sections k ≡ Some s → is_stored s ≡ true → StandsAt (mach_file t) (stored_contents t.cputype s) (data_start t + s.address)
stored_within t f k s e stored =
    let ss = filter is_stored t.sections in
    let front = front_of t f k s e stored in
    let c = aligned_contents t.cputype s in
    let at = contents_stand (laid_out 0 (contents_of t)) 0 (contents_of t) k c (stands_whole (laid_out 0 (contents_of t))) (get_map (aligned_contents t.cputype) ss k s front) in
    let place : next_multiple_of (end_of_aligned 0 (take k (contents_of t))) s.align ≡ s.address =
    ap (λ xs. next_multiple_of (end_of_aligned 0 xs) s.align) (take-map (aligned_contents t.cputype) k ss) ∙ ap (λ n. next_multiple_of n s.align) (ends_before t f k s front) ∙ sym (f.places k s e) in
    stands_as (mach_file t) (stored_contents t.cputype s) (stored_contents t.cputype s) _ (data_start t + s.address) (stands_within (mach_file t) (laid_out 0 (contents_of t)) (stored_contents t.cputype s) (data_start t) _ (contents_here t f) at.here) refl (ap (λ n. data_start t + n) place)

pub stored_ends : (t : MachTable) → FitsMach t → (k : ℕ) (s : MachTableSection) → slice_get t.sections k ≡ Some s → is_stored s ≡ true → data_start t + s.address + length s.contents ≤ length (mach_file t)
stored_ends t f k s e stored = omega (arith, stands_inside (mach_file t) (stored_contents t.cputype s) (data_start t + s.address) (stored_within t f k s e stored), length-stored_contents t.cputype s)

pub length-mach_file : (t : MachTable) → FitsMach t → length (mach_file t) ≡ mach_length t
unfolding mach_file
length-mach_file t f =
    omega (
      arith,
      length-append (commands_bytes t) (behind_commands t),
      length-append (laid_out 0 (contents_of t)) (gap_part t ++ behind_gap t),
      length-append (gap_part t) (behind_gap t),
      length-append (records_part t) (behind_symbols t),
      length-append (symbols_part t) (strings_part t),
      length-commands t f,
      length-contents t f,
      length-zeros (relocations_start t - (data_start t + contents_size t)),
      length-records_part t,
      length-symbols_part t,
      length-string_bytes_of (mach_names t),
    )

section_fits : (t : MachTable) (k : ℕ) (s : MachTableSection) → FitsMach t → slice_get t.sections k ≡ Some s → FitsMachSection t s → FitsSectionRow (section_for t k s)
section_fits t k s f e g =
    let i = inside t in
    let grow = counts_grow t.cputype t.sections k s e in
    let memory = memory_of t f k s e in
    record {
      name = length-zero_filled s.name g.name.room;
      segment = length-zero_filled s.segment g.segment.room;
      address = omega (arith, memory, f.memory);
      size = omega (arith, memory, f.memory);
      offset = offset_fits t s (is_stored s) (λ stored. omega (arith, stored_ends t f k s e stored, length-mach_file t f, f.file));
      align = omega (arith, (bit_at-trailing_zeros w64 s.align g.some g.align).0);
      reloff = place_fits (records_start t k) (length s.relocations == 0) (omega (arith, grow, i.records, i.symbols, i.strings, f.file));
      nreloc = omega (arith, grow, i.records, i.symbols, i.strings, f.file);
      flags = g.flags;
      reserved1 = lit< tt;
      reserved2 = lit< tt;
      reserved3 = lit< tt;
    }

pub section_is : (t : MachTable) → FitsMach t → (k : ℕ) (s : MachTableSection) → slice_get t.sections k ≡ Some s → mach_section_row_at (mach_file t) (32 + 72 + 80 * k) ≡ section_for t k s
section_is t f k s e =
    let number : 0 + k ≡ k = omega arith in
    let stand = header_stands_in t (mach_file t) 0 t.sections k 104 (32 + 72 + 80 * k) s f.sections (headers_here t) e (omega arith) in
    section_row_stands (mach_file t) (section_for t k s) (32 + 72 + 80 * k) (section_fits t k s f e (f.sections k s e))
    (stands_as (mach_file t) _ _ _ _ stand (ap (λ n. mach_section_bytes (section_for t n s)) number) refl)

-- -- contents and padding

no_bytes : (b : List ℕ) (p : ℕ) (cputype : ℕ) (s : MachTableSection) → length s.contents ≡ 0 → bytes_at b p (length s.contents) ≡ stored_contents cputype s
unfolding bytes_at
no_bytes b p cputype s none =
    let empty = nil_from_length (stored_contents cputype s) (length-stored_contents cputype s ∙ none) in
    rw (none, empty) refl

contents_by : (t : MachTable) → FitsMach t → (k : ℕ) (s : MachTableSection) (b : Bool) → slice_get t.sections k ≡ Some s → is_stored s ≡ b → length s.contents ≡ cond b s.size 0
    → bytes_at (mach_file t) (data_start t + s.address) (length s.contents) ≡ stored_contents t.cputype s
contents_by t f k s true e stored n = bytes_stand (mach_file t) (stored_contents t.cputype s) (data_start t + s.address) (length s.contents) (stored_within t f k s e stored) (length-stored_contents t.cputype s)
contents_by t f k s false e stored n = no_bytes (mach_file t) (data_start t + s.address) t.cputype s n

pub contents_are : (t : MachTable) → FitsMach t → (k : ℕ) (s : MachTableSection) → slice_get t.sections k ≡ Some s → bytes_at (mach_file t) (data_start t + s.address) (length s.contents) ≡ stored_contents t.cputype s
contents_are t f k s e = contents_by t f k s (is_stored s) e refl (f.sections k s e).contents

zeros_read : (b : List ℕ) (p q : ℕ) → StandsAt b (zeros (q - p)) p → IsZero b p q
zeros_read b p q s = bytes_stand b (zeros (q - p)) p (q - p) s (length-zeros (q - p))

pub padding_is : (t : MachTable) → FitsMach t → (k : ℕ) (s : MachTableSection) → slice_get t.sections k ≡ Some s → IsTrue (is_stored s) → IsZero (mach_file t) (data_start t + end_of_sections (take k t.sections)) (data_start t + s.address)
padding_is t f k s e told =
    let ss = filter is_stored t.sections in
    let front = front_of t f k s e told in
    let c = aligned_contents t.cputype s in
    let at = contents_stand (laid_out 0 (contents_of t)) 0 (contents_of t) k c (stands_whole (laid_out 0 (contents_of t))) (get_map (aligned_contents t.cputype) ss k s front) in
    let end : end_of_aligned 0 (take k (contents_of t)) ≡ end_of_sections (take k t.sections) = ap (end_of_aligned 0) (take-map (aligned_contents t.cputype) k ss) ∙ ends_before t f k s front in
    let gap : next_multiple_of (end_of_aligned 0 (take k (contents_of t))) s.align - end_of_aligned 0 (take k (contents_of t)) ≡ data_start t + s.address - (data_start t + end_of_sections (take k t.sections)) =
    omega (arith, ap (λ n. next_multiple_of n s.align) end, end, f.places k s e) in
    zeros_read (mach_file t) (data_start t + end_of_sections (take k t.sections)) (data_start t + s.address)
    (stands_as (mach_file t) _ _ _ _ (stands_within (mach_file t) (laid_out 0 (contents_of t)) _ (data_start t) _ (contents_here t f) at.gap) (ap zeros gap) (ap (λ n. data_start t + n) end))

pub padding_end_is : (t : MachTable) → FitsMach t → IsZero (mach_file t) (data_start t + contents_size t) (relocations_start t)
padding_end_is t f = zeros_read (mach_file t) (data_start t + contents_size t) (relocations_start t) (gap_here t f)

-- -- symbols and their names

pub symbol_rows_get : (t : MachTable) (j : ℕ) (ss : List MachTableSymbol) (k : ℕ) (s : MachTableSymbol) → slice_get ss k ≡ Some s → slice_get (mach_symbol_rows_from t j ss) k ≡ Some (mach_symbol_for t (j + k) s)
unfolding mach_symbol_rows_from
symbol_rows_get t j [] k s e = absurd (cc)
symbol_rows_get t j (x ∷ ss) zero s e =
    let same : x ≡ s = cc in
    let place : j ≡ j + 0 = omega arith in
    ap (λ (y : MachTableSymbol). Some (mach_symbol_for t j y)) same ∙ ap (λ n. Some (mach_symbol_for t n s)) place
symbol_rows_get t j (x ∷ ss) (suc k) s e =
    let place : j + 1 + k ≡ j + suc k = omega arith in
    symbol_rows_get t (j + 1) ss k s e ∙ ap (λ n. Some (mach_symbol_for t n s)) place

name_get : (t : MachTable) (k : ℕ) (s : MachTableSymbol) → slice_get t.symbols k ≡ Some s → slice_get (mach_names t) k ≡ Some s.name
name_get t k s e = get_map (λ (x : MachTableSymbol). x.name) t.symbols k s e

symbol_fits : (t : MachTable) → FitsMach t → (k : ℕ) (s : MachTableSymbol) → slice_get t.symbols k ≡ Some s → FitsSymbolRow (mach_symbol_for t k s)
symbol_fits t f k s e =
    let g = f.symbols k s e in
    let i = inside t in
    record { strx = omega (arith, name_place-lt (mach_names t) k s.name (name_get t k s e), i.strings, f.file); n_type = g.n_type; sect = omega (arith, g.sect, f.section_count); desc = g.desc; value = g.value }

pub symbol_is : (t : MachTable) → FitsMach t → (k : ℕ) (s : MachTableSymbol) → slice_get t.symbols k ≡ Some s → mach_symbol_row_at (mach_file t) (symbols_start t + 16 * k) ≡ mach_symbol_for t k s
symbol_is t f k s e =
    let number : 0 + k ≡ k = omega arith in
    let get = symbol_rows_get t 0 t.symbols k s e ∙ ap (λ n. Some (mach_symbol_for t n s)) number in
    symbol_row_stands (mach_file t) (mach_symbol_for t k s) (symbols_start t + 16 * k) (symbol_fits t f k s e)
    (row_stands mach_symbol_bytes 16 length-symbol_row (mach_file t) (mach_symbol_rows_from t 0 t.symbols) k (mach_symbol_for t k s) (symbols_start t) (symbols_start t + 16 * k) (symbols_here t f) get refl)

pub name_is : (t : MachTable) → FitsMach t → (k : ℕ) (s : MachTableSymbol) → slice_get t.symbols k ≡ Some s → text_at (mach_file t) (strings_start t + name_place (mach_names t) k) (strings_start t + strings_size (mach_names t)) ≡ Some s.name
name_is t f k s e = name_here (mach_file t) (mach_names t) (strings_start t) k s.name (strings_here t f) (name_get t k s e) (f.symbols k s e).name

pub strings_are : (t : MachTable) → FitsMach t → bytes_at (mach_file t) (strings_start t) (strings_size (mach_names t)) ≡ string_bytes_of (mach_names t)
strings_are t f = bytes_stand (mach_file t) (string_bytes_of (mach_names t)) (strings_start t) (strings_size (mach_names t)) (strings_here t f) (length-string_bytes_of (mach_names t))

-- -- records

get_flat : {A B : Type 0} (f : A → List B) (xs : List A) (k m : ℕ) (x : A) (y : B) → slice_get xs k ≡ Some x → slice_get (f x) m ≡ Some y → slice_get (flat_map f xs) (sum_by (λ z. length (f z)) (take k xs) + m) ≡ Some y
get_flat f [] k m x y e h = absurd (cc)
get_flat f (z ∷ zs) zero m x y e h =
    let same : z ≡ x = cc in
    let place : m ≡ 0 + m = omega arith in
    rw (← place) (get_left (f z) (flat_map f zs) m y (ap (λ w. slice_get (f w) m) same ∙ h))
get_flat f (z ∷ zs) (suc k) m x y e h =
    get_right (f z) (flat_map f zs) (sum_by (λ w. length (f w)) (take k zs) + m) (sum_by (λ w. length (f w)) (z ∷ take k zs) + m) y (get_flat f zs k m x y e h) (omega (arith, sum_by-cons (λ w. length (f w)) z (take k zs)))

-- an element of the lists that are joined
record FlatItem {A B : Type 0} (f : A → List B) (xs : List A) (y : B) : Type 0 where
  number : ℕ
  item : A
  at : slice_get xs number ≡ Some item
  place : ℕ
  here : slice_get (f item) place ≡ Some y

flat_later : {A B : Type 0} (f : A → List B) (z : A) (zs : List A) (y : B) → FlatItem f zs y → FlatItem f (z ∷ zs) y
flat_later f z zs y i = record { number = suc i.number; item = i.item; at = i.at; place = i.place; here = i.here }

flat_item : {A B : Type 0} (f : A → List B) (xs : List A) (m : ℕ) (y : B) → slice_get (flat_map f xs) m ≡ Some y → FlatItem f xs y
flat_item f [] m y e = absurd (cc)
flat_item f (z ∷ zs) m y e =
    elim (get_append (f z) (flat_map f zs) m y e) [
      | inl h ↦ record { number = 0; item = z; at = refl; place = m; here = h }
      | inr r ↦ flat_later f z zs y (flat_item f zs r.0 y r.2)
    ]

records_by : (b : Bool) (r : MachRelocation) (j : ℕ) (x : MachRelocationRow) → slice_get (cond b (addend_record r ∷ record_for r ∷ []) (record_for r ∷ [])) j ≡ Some x → (x ≡ record_for r) ⊎ (x ≡ addend_record r)
records_by true r zero x e = inr (cc)
records_by true r (suc zero) x e = inl (cc)
records_by true r (suc (suc j)) x e = absurd (cc)
records_by false r zero x e = inl (cc)
records_by false r (suc j) x e = absurd (cc)

low_24 : (n : ℕ) → n % 2 ^ 24 < 2 ^ 24
low_24 n = omega arith

-- what holds of a record of the file
pub record IsRecord (t : MachTable) (x : MachRelocationRow) : Type 0 where
  pub fits : FitsRecord x
  pub address : x.address < 2 ^ 31
  pub symbol : IsTrue x.is_extern → x.symbolnum < length t.symbols

own_record : (t : MachTable) (r : MachRelocation) → FitsMach t → FitsMachRelocation t r → IsRecord t (record_for r)
own_record t r f g = record {
  fits = record { address = omega (arith, g.offset); symbolnum = omega (arith, g.symbol, f.symbol_count); length = g.length; r_type = g.r_type };
  address = g.offset;
  symbol = λ _. g.symbol;
}

other_record : (t : MachTable) (r : MachRelocation) → FitsMachRelocation t r → IsRecord t (addend_record r)
other_record t r g = record {
  fits = record { address = omega (arith, g.offset); symbolnum = low_24 (cast_unsigned w32 r.addend); length = lit< tt; r_type = lit< tt };
  address = g.offset;
  symbol = λ h. absurd (cc);
}

record_case : (t : MachTable) (r : MachRelocation) (x : MachRelocationRow) → FitsMach t → FitsMachRelocation t r → (x ≡ record_for r) ⊎ (x ≡ addend_record r) → IsRecord t x
record_case t r x f g (inl e) = subst (IsRecord t) (sym e) (own_record t r f g)
record_case t r x f g (inr e) = subst (IsRecord t) (sym e) (other_record t r g)

pub record_of : (t : MachTable) → FitsMach t → (k : ℕ) (s : MachTableSection) → slice_get t.sections k ≡ Some s → (m : ℕ) (x : MachRelocationRow) → slice_get (records_of t.cputype s) m ≡ Some x → IsRecord t x
unfolding records_of
record_of t f k s e m x h =
    let i = flat_item (records_for t.cputype) s.relocations m x h in
    record_case t i.item x f ((f.sections k s e).relocations i.number i.item i.at) (records_by (wants_record t.cputype i.item) i.item i.place x i.here)

pub record_is : (t : MachTable) → FitsMach t → (k : ℕ) (s : MachTableSection) → slice_get t.sections k ≡ Some s → (m : ℕ) (r : MachRelocationRow) → slice_get (records_of t.cputype s) m ≡ Some r
    → mach_relocation_row_at (mach_file t) (records_start t k + 8 * m) ≡ r
record_is t f k s e m r h =
    record_stands (mach_file t) r (records_start t k + 8 * m) (record_of t f k s e m r h).fits
    (row_stands mach_record_bytes 8 length-record (mach_file t) (all_records t) (record_count t.cputype (take k t.sections) + m) r (relocations_start t) (records_start t k + 8 * m) (records_here t f) (get_flat (records_of t.cputype) t.sections k m s r e h) (omega arith))
