-- The bytes of a written file are bytes, where those of its table are.
use Rattle.std.proofs.Common.{◌≡◌, ℕ, ◌+◌, ◌-◌, ◌<◌, ◌++◌, ◌∷◌, List, [], Bool, true, false, cond, map, length, replicate, refl, arith, ◌&&◌, Option, Some, None}
use Rattle.std.proofs.lemmas.List.Elements.{All-nil, All-cons, All-append, All-map, All-filter, All-head, All-tail, All-weaker}
use Rattle.std.specs.Prelude.{nat_le, nat_lt, filter, flat_map, slice_get, slice_index_or, unwrap_or}
use Rattle.std.specs.Int.{cast_unsigned}
use Rattle.std.specs.List.{All, enumerate_from, filter_map, cons_option}
use Rattle.byte_core.specs.Fields.{field_bytes}
use Rattle.byte_core.specs.LaidOut.{laid_out}
use Rattle.byte_core.specs.Strings.{string_bytes_of, zero_filled}
use Rattle.byte_core.proofs.Bytes.{IsByte, AreBytes, HoldsBytes, bytes-zeros, every, bytes-flat_map, bytes-index, bytes-little_bytes, bytes-field_bytes, bytes-string_bytes_of, bytes-laid_out}
use Rattle.ir_core.specs.MachO.{is_in_field, stored_number}
use Rattle.object_core.specs.declared.kinds.MachOBuildVersion.{MachOBuildVersion}
use Rattle.object_core.specs.LinkTable.{MachTable, MachTableSection, MachTableSymbol, MachRelocation}
use Rattle.image_read.specs.MachFile.{MachSymbolRow, MachRelocationRow}
use Rattle.object_macho.specs.Layout.{field_width, number_width, stored_bytes, stored_byte, byte_for, stored_contents, records_of, is_stored, contents_size, data_start, relocations_start, mach_names}
use Rattle.object_macho.specs.MachHolds.{mach_header_for, segment_command, segment_for, section_for, version_command, version_for, symtab_command, symtab_for}
use Rattle.object_macho.specs.File.{field, mach_header_bytes, mach_header_fields, command_bytes, segment_bytes, mach_section_bytes, mach_section_fields, build_version_bytes, symtab_bytes, mach_symbol_bytes, mach_record_bytes, record_word, section_headers_from, mach_symbol_rows_from, version_bytes, aligned_contents, commands_bytes, mach_file}
use Rattle.object_macho.specs.Fitting.{IsOfBytes}

-- the contents that are written, and the names, are bytes
pub record AreWrittenBytes (t : MachTable) : Type 0 where
  pub contents : All (λ (s : MachTableSection). AreBytes (stored_contents t.cputype s)) t.sections
  pub segments : All (λ (s : MachTableSection). AreBytes s.segment) t.sections
  pub section_names : All (λ (s : MachTableSection). AreBytes s.name) t.sections
  pub symbol_names : All (λ (s : MachTableSymbol). AreBytes s.name) t.symbols

-- -- contents

byte_or : (o : Option ℕ) (rest : List ℕ) (x : ℕ) → ((y : ℕ) → o ≡ Some y → IsByte y) → IsByte (unwrap_or (slice_get rest 0) x) → IsByte (unwrap_or (slice_get (cons_option o rest) 0) x)
byte_or None rest x h later = later
byte_or (Some y) rest x h later = h y refl

first_byte : (f : MachRelocation → Option ℕ) (rs : List MachRelocation) (x : ℕ) → ((r : MachRelocation) (y : ℕ) → f r ≡ Some y → IsByte y) → IsByte x → IsByte (unwrap_or (slice_get (filter_map f rs) 0) x)
first_byte f [] x h own = own
first_byte f (r ∷ rs) x h own = byte_or (f r) (filter_map f rs) x (h r) (first_byte f rs x h own)

byte_if : (b : Bool) (n y : ℕ) → IsByte n → cond b (Some n) None ≡ Some y → IsByte y
byte_if true n y h e = let same : n ≡ y = cc in omega (arith, h, same)
byte_if false n y h e = absurd (cc)

bytes-stored_byte : (cputype p : ℕ) (r : MachRelocation) (y : ℕ) → stored_byte cputype p r ≡ Some y → IsByte y
bytes-stored_byte cputype p r y e =
    byte_if (is_in_field cputype r.r_type && (nat_le r.offset p && nat_lt p (r.offset + field_width r))) (slice_index_or (stored_bytes r) (p - r.offset) 0) y
    (bytes-index (stored_bytes r) (p - r.offset) (bytes-little_bytes (field_width r) (cast_unsigned (number_width r.length) (stored_number r.pcrel r.addend)))) e

bytes-patched : (cputype a : ℕ) (rs : List MachRelocation) (xs : List ℕ) → AreBytes xs → AreBytes (map (byte_for cputype rs) (enumerate_from a xs))
bytes-patched cputype a rs [] h = All-nil IsByte
bytes-patched cputype a rs (x ∷ xs) h =
    All-cons IsByte (byte_for cputype rs (a, x)) (map (byte_for cputype rs) (enumerate_from (a + 1) xs)) (first_byte (stored_byte cputype a) rs x (bytes-stored_byte cputype a) (All-head IsByte x xs h)) (bytes-patched cputype (a + 1) rs xs (All-tail IsByte x xs h))

bytes-stored_contents : (cputype : ℕ) (s : MachTableSection) → AreBytes s.contents → AreBytes (stored_contents cputype s)
unfolding stored_contents
bytes-stored_contents cputype s h = bytes-patched cputype 0 s.relocations s.contents h

written_bytes : (t : MachTable) → IsOfBytes t → AreWrittenBytes t
written_bytes t h = record {
  contents = All-weaker (λ (s : MachTableSection). AreBytes s.contents) (λ (s : MachTableSection). AreBytes (stored_contents t.cputype s)) (bytes-stored_contents t.cputype) t.sections h.contents;
  segments = h.segments;
  section_names = h.section_names;
  symbol_names = h.symbol_names;
}

bytes-contents : (t : MachTable) → AreWrittenBytes t → All HoldsBytes (map (aligned_contents t.cputype) (filter is_stored t.sections))
bytes-contents t h = All-map HoldsBytes (aligned_contents t.cputype) (filter is_stored t.sections) (All-filter is_stored (λ (s : MachTableSection). AreBytes (stored_contents t.cputype s)) t.sections h.contents)

-- -- names

bytes-filled : (name : List ℕ) → AreBytes name → AreBytes (zero_filled 16 name)
bytes-filled name h = All-append IsByte name (replicate (16 - length name) 0) h (bytes-zeros (16 - length name))

-- -- header and commands

bytes-header : (t : MachTable) → AreBytes (mach_header_bytes (mach_header_for t))
bytes-header t =
    let magic : AreBytes (0xcf ∷ 0xfa ∷ 0xed ∷ 0xfe ∷ []) =
    All-cons IsByte 0xcf (0xfa ∷ 0xed ∷ 0xfe ∷ []) (omega arith) (All-cons IsByte 0xfa (0xed ∷ 0xfe ∷ []) (omega arith) (All-cons IsByte 0xed (0xfe ∷ []) (omega arith) (All-cons IsByte 0xfe [] (omega arith) (All-nil IsByte))))
    in
    All-append IsByte (mach_header_for t).magic (field_bytes (mach_header_fields (mach_header_for t))) magic (bytes-field_bytes (mach_header_fields (mach_header_for t)))

bytes-section : (t : MachTable) (k : ℕ) (s : MachTableSection) → AreBytes s.segment → AreBytes s.name → AreBytes (mach_section_bytes (section_for t k s))
bytes-section t k s segment name =
    let row = section_for t k s in
    All-append IsByte row.name (row.segment ++ field_bytes (mach_section_fields row)) (bytes-filled s.name name) (All-append IsByte row.segment (field_bytes (mach_section_fields row)) (bytes-filled s.segment segment) (bytes-field_bytes (mach_section_fields row)))

bytes-sections : (t : MachTable) (k : ℕ) (ss : List MachTableSection) → All (λ (s : MachTableSection). AreBytes s.segment) ss → All (λ (s : MachTableSection). AreBytes s.name) ss → AreBytes (flat_map mach_section_bytes (section_headers_from t k ss))
unfolding section_headers_from
bytes-sections t k [] segments names = All-nil IsByte
bytes-sections t k (s ∷ ss) segments names =
    All-append IsByte (mach_section_bytes (section_for t k s)) (flat_map mach_section_bytes (section_headers_from t (k + 1) ss))
    (bytes-section t k s (All-head (λ (x : MachTableSection). AreBytes x.segment) s ss segments) (All-head (λ (x : MachTableSection). AreBytes x.name) s ss names))
    (bytes-sections t (k + 1) ss (All-tail (λ (x : MachTableSection). AreBytes x.segment) s ss segments) (All-tail (λ (x : MachTableSection). AreBytes x.name) s ss names))

bytes-version : (v : Option MachOBuildVersion) → AreBytes (version_bytes v)
bytes-version None = All-nil IsByte
bytes-version (Some v) = All-append IsByte (command_bytes version_command) (build_version_bytes (version_for v)) (bytes-field_bytes _) (bytes-field_bytes _)

bytes-segment : (t : MachTable) → AreBytes (segment_bytes (segment_for t))
bytes-segment t = All-append IsByte (replicate 16 0) _ (bytes-zeros 16) (bytes-field_bytes _)

bytes-commands : (t : MachTable) → AreWrittenBytes t → AreBytes (commands_bytes t)
bytes-commands t h =
    let last : AreBytes (command_bytes symtab_command ++ symtab_bytes (symtab_for t)) = All-append IsByte (command_bytes symtab_command) (symtab_bytes (symtab_for t)) (bytes-field_bytes _) (bytes-field_bytes _) in
    let version = All-append IsByte (version_bytes t.build_version) _ (bytes-version t.build_version) last in
    let sections = All-append IsByte (flat_map mach_section_bytes (section_headers_from t 0 t.sections)) _ (bytes-sections t 0 t.sections h.segments h.section_names) version in
    let segment = All-append IsByte (segment_bytes (segment_for t)) _ (bytes-segment t) sections in
    All-append IsByte (mach_header_bytes (mach_header_for t)) _ (bytes-header t) (All-append IsByte (command_bytes (segment_command t)) _ (bytes-field_bytes _) segment)

-- -- the file

bytes-record : (r : MachRelocationRow) → AreBytes (mach_record_bytes r)
bytes-record r = bytes-field_bytes (field 4 r.address ∷ field 4 (record_word r) ∷ [])

bytes-symbol : (r : MachSymbolRow) → AreBytes (mach_symbol_bytes r)
bytes-symbol r = bytes-field_bytes (field 4 r.strx ∷ field 1 r.n_type ∷ field 1 r.sect ∷ field 2 r.desc ∷ field 8 r.value ∷ [])

pub bytes-written : (t : MachTable) → AreWrittenBytes t → AreBytes (mach_file t)
unfolding mach_file
bytes-written t h =
    let records = flat_map (records_of t.cputype) t.sections in
    let rows = mach_symbol_rows_from t 0 t.symbols in
    let names = bytes-string_bytes_of (mach_names t) (All-map AreBytes (λ (s : MachTableSymbol). s.name) t.symbols h.symbol_names) in
    let symbols = All-append IsByte (flat_map mach_symbol_bytes rows) (string_bytes_of (mach_names t)) (bytes-flat_map mach_symbol_bytes rows (every (λ (r : MachSymbolRow). AreBytes (mach_symbol_bytes r)) bytes-symbol rows)) names in
    let tables = All-append IsByte (flat_map mach_record_bytes records) _ (bytes-flat_map mach_record_bytes records (every (λ (r : MachRelocationRow). AreBytes (mach_record_bytes r)) bytes-record records)) symbols in
    let padded = All-append IsByte (replicate (relocations_start t - (data_start t + contents_size t)) 0) _ (bytes-zeros _) tables in
    let contents = All-append IsByte (laid_out 0 (map (aligned_contents t.cputype) (filter is_stored t.sections))) _ (bytes-laid_out 0 (map (aligned_contents t.cputype) (filter is_stored t.sections)) (bytes-contents t h)) padded in
    All-append IsByte (commands_bytes t) _ (bytes-commands t h) contents

pub bytes-mach_file : (t : MachTable) → IsOfBytes t → All (λ x. x < 256) (mach_file t)
bytes-mach_file t h = bytes-written t (written_bytes t h)
