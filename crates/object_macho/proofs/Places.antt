-- Where the parts of the file of a table stand.
use Rattle.std.proofs.Common.{◌≡◌, ℕ, suc, ◌+◌, ◌-◌, ◌*◌, List, [], ◌∷◌, ◌++◌, length, map, replicate, Option, Some, None, refl, ap, arith, length-append}
use Rattle.std.specs.Prelude.{flat_map, filter, slice_get}
use Rattle.std.proofs.lemmas.List.Concat.{length-flat_map}
use Rattle.byte_core.specs.LaidOut.{Aligned, laid_out}
use Rattle.byte_core.specs.Strings.{string_bytes_of}
use Rattle.byte_core.proofs.Standing.{StandsAt, stands_front, stands_behind, stands_left, stands_right, length-rows}
use Rattle.byte_core.proofs.LaidOut.{length-zeros}
use Rattle.object_core.specs.declared.kinds.MachOBuildVersion.{MachOBuildVersion}
use Rattle.object_core.specs.LinkTable.{MachTableSection, MachTableSymbol, MachTable}
use Rattle.image_read.specs.MachFile.{MachRelocationRow}
use Rattle.object_macho.specs.Layout.{records_of, record_count, is_stored, contents_size, version_size, version_place, symtab_place, data_start, relocations_start, symbols_start, strings_start, mach_names}
use Rattle.object_macho.specs.MachHolds.{mach_header_for, segment_command, segment_for, section_for, version_command, version_for, symtab_command, symtab_for}
use Rattle.object_macho.specs.File.{mach_header_bytes, command_bytes, segment_bytes, mach_section_bytes, build_version_bytes, symtab_bytes, mach_symbol_bytes, mach_record_bytes, section_headers_from, mach_symbol_rows_from, version_bytes, aligned_contents, commands_bytes, mach_file}
use Rattle.object_macho.specs.Fitting.{FitsMach, FitsMachSection}
use Rattle.object_macho.proofs.ReadRows.{length-header, length-command, length-segment, length-version, length-symtab, length-section_row, length-symbol_row, length-record, length-zero_filled}
use Rattle.object_macho.proofs.Behind.{length-contents}

-- -- the parts

abbrev pub header_part : MachTable → List ℕ
header_part t = mach_header_bytes (mach_header_for t)

abbrev pub headers_part : MachTable → List ℕ
headers_part t = flat_map mach_section_bytes (section_headers_from t 0 t.sections)

abbrev pub symtab_part : MachTable → List ℕ
symtab_part t = command_bytes symtab_command ++ symtab_bytes (symtab_for t)

abbrev pub contents_of : MachTable → List Aligned
contents_of t = map (aligned_contents t.cputype) (filter is_stored t.sections)

abbrev pub gap_part : MachTable → List ℕ
gap_part t = replicate (relocations_start t - (data_start t + contents_size t)) 0

abbrev pub all_records : MachTable → List MachRelocationRow
all_records t = flat_map (records_of t.cputype) t.sections

abbrev pub records_part : MachTable → List ℕ
records_part t = flat_map mach_record_bytes (all_records t)

abbrev pub symbols_part : MachTable → List ℕ
symbols_part t = flat_map mach_symbol_bytes (mach_symbol_rows_from t 0 t.symbols)

abbrev pub strings_part : MachTable → List ℕ
strings_part t = string_bytes_of (mach_names t)

abbrev behind_version : MachTable → List ℕ
behind_version t = version_bytes t.build_version ++ symtab_part t

abbrev behind_segment : MachTable → List ℕ
behind_segment t = headers_part t ++ behind_version t

abbrev pub behind_symbols : MachTable → List ℕ
behind_symbols t = symbols_part t ++ strings_part t

abbrev pub behind_gap : MachTable → List ℕ
behind_gap t = records_part t ++ behind_symbols t

abbrev pub behind_commands : MachTable → List ℕ
behind_commands t = laid_out 0 (contents_of t) ++ (gap_part t ++ behind_gap t)

-- -- their lengths

length-headers_from : (t : MachTable) (k : ℕ) (ss : List MachTableSection) → ((j : ℕ) (s : MachTableSection) → slice_get ss j ≡ Some s → FitsMachSection t s) → length (flat_map mach_section_bytes (section_headers_from t k ss)) ≡ 80 * length ss
unfolding section_headers_from
length-headers_from t k [] f = omega arith
length-headers_from t k (s ∷ ss) f =
    let here = f 0 s refl in
    omega (
      arith,
      length-append (mach_section_bytes (section_for t k s)) (flat_map mach_section_bytes (section_headers_from t (k + 1) ss)),
      length-section_row (section_for t k s) (length-zero_filled s.name here.name.room) (length-zero_filled s.segment here.segment.room),
      length-headers_from t (k + 1) ss (λ j x e. f (suc j) x e),
    )

pub length-headers : (t : MachTable) → FitsMach t → length (headers_part t) ≡ 80 * length t.sections
length-headers t f = length-headers_from t 0 t.sections f.sections

pub length-version_bytes : (version : Option MachOBuildVersion) → length (version_bytes version) ≡ version_size version
length-version_bytes None = refl
length-version_bytes (Some v) = omega (arith, length-append (command_bytes version_command) (build_version_bytes (version_for v)), length-command version_command, length-version (version_for v))

pub length-segment_part : (t : MachTable) → length (segment_bytes (segment_for t)) ≡ 64
length-segment_part t = let z : ℕ = 0 in length-segment (segment_for t) refl

pub length-symtab_part : (t : MachTable) → length (symtab_part t) ≡ 24
length-symtab_part t = omega (arith, length-append (command_bytes symtab_command) (symtab_bytes (symtab_for t)), length-command symtab_command, length-symtab (symtab_for t))

pub length-all_records : (t : MachTable) → length (all_records t) ≡ record_count t.cputype t.sections
length-all_records t = length-flat_map (records_of t.cputype) t.sections

length-symbol_rows_from : (t : MachTable) (k : ℕ) (ss : List MachTableSymbol) → length (mach_symbol_rows_from t k ss) ≡ length ss
unfolding mach_symbol_rows_from
length-symbol_rows_from t k [] = refl
length-symbol_rows_from t k (s ∷ ss) = ap suc (length-symbol_rows_from t (k + 1) ss)

pub length-records_part : (t : MachTable) → length (records_part t) ≡ 8 * record_count t.cputype t.sections
length-records_part t = omega (arith, length-rows mach_record_bytes 8 length-record (all_records t), length-all_records t)

pub length-symbols_part : (t : MachTable) → length (symbols_part t) ≡ 16 * length t.symbols
length-symbols_part t = omega (arith, length-rows mach_symbol_bytes 16 length-symbol_row (mach_symbol_rows_from t 0 t.symbols), length-symbol_rows_from t 0 t.symbols)

-- -- where they stand

head_here : (t : MachTable) → StandsAt (mach_file t) (commands_bytes t) 0
unfolding mach_file
head_here t = stands_front (commands_bytes t) (behind_commands t)

pub header_here : (t : MachTable) → StandsAt (mach_file t) (header_part t) 0
header_here t = stands_left (mach_file t) (header_part t) (command_bytes (segment_command t) ++ (segment_bytes (segment_for t) ++ behind_segment t)) 0 (head_here t)

behind_header : (t : MachTable) → StandsAt (mach_file t) (command_bytes (segment_command t) ++ (segment_bytes (segment_for t) ++ behind_segment t)) 32
behind_header t = stands_right (mach_file t) (header_part t) (command_bytes (segment_command t) ++ (segment_bytes (segment_for t) ++ behind_segment t)) 0 32 (head_here t) (omega (arith, length-header (mach_header_for t) refl))

pub segment_command_here : (t : MachTable) → StandsAt (mach_file t) (command_bytes (segment_command t)) 32
segment_command_here t = stands_left (mach_file t) (command_bytes (segment_command t)) (segment_bytes (segment_for t) ++ behind_segment t) 32 (behind_header t)

segment_on : (t : MachTable) → StandsAt (mach_file t) (segment_bytes (segment_for t) ++ behind_segment t) 40
segment_on t = stands_right (mach_file t) (command_bytes (segment_command t)) (segment_bytes (segment_for t) ++ behind_segment t) 32 40 (behind_header t) (omega (arith, length-command (segment_command t)))

pub segment_here : (t : MachTable) → StandsAt (mach_file t) (segment_bytes (segment_for t)) 40
segment_here t = stands_left (mach_file t) (segment_bytes (segment_for t)) (behind_segment t) 40 (segment_on t)

headers_on : (t : MachTable) → StandsAt (mach_file t) (behind_segment t) 104
headers_on t = stands_right (mach_file t) (segment_bytes (segment_for t)) (behind_segment t) 40 104 (segment_on t) (omega (arith, length-segment_part t))

pub headers_here : (t : MachTable) → StandsAt (mach_file t) (headers_part t) 104
headers_here t = stands_left (mach_file t) (headers_part t) (behind_version t) 104 (headers_on t)

version_on : (t : MachTable) → FitsMach t → StandsAt (mach_file t) (behind_version t) (version_place t)
version_on t f = stands_right (mach_file t) (headers_part t) (behind_version t) 104 (version_place t) (headers_on t) (omega (arith, length-headers t f))

pub version_here : (t : MachTable) → FitsMach t → StandsAt (mach_file t) (version_bytes t.build_version) (version_place t)
version_here t f = stands_left (mach_file t) (version_bytes t.build_version) (symtab_part t) (version_place t) (version_on t f)

symtab_on : (t : MachTable) → FitsMach t → StandsAt (mach_file t) (symtab_part t) (symtab_place t)
symtab_on t f = stands_right (mach_file t) (version_bytes t.build_version) (symtab_part t) (version_place t) (symtab_place t) (version_on t f) (omega (arith, length-version_bytes t.build_version))

pub symtab_command_here : (t : MachTable) → FitsMach t → StandsAt (mach_file t) (command_bytes symtab_command) (symtab_place t)
symtab_command_here t f = stands_left (mach_file t) (command_bytes symtab_command) (symtab_bytes (symtab_for t)) (symtab_place t) (symtab_on t f)

pub symtab_here : (t : MachTable) → FitsMach t → StandsAt (mach_file t) (symtab_bytes (symtab_for t)) (symtab_place t + 8)
symtab_here t f = stands_right (mach_file t) (command_bytes symtab_command) (symtab_bytes (symtab_for t)) (symtab_place t) (symtab_place t + 8) (symtab_on t f) (omega (arith, length-command symtab_command))

pub length-commands : (t : MachTable) → FitsMach t → length (commands_bytes t) ≡ data_start t
length-commands t f =
    omega (
      arith,
      length-append (header_part t) (command_bytes (segment_command t) ++ (segment_bytes (segment_for t) ++ behind_segment t)),
      length-append (command_bytes (segment_command t)) (segment_bytes (segment_for t) ++ behind_segment t),
      length-append (segment_bytes (segment_for t)) (behind_segment t),
      length-append (headers_part t) (behind_version t),
      length-append (version_bytes t.build_version) (symtab_part t),
      length-header (mach_header_for t) refl,
      length-command (segment_command t),
      length-segment_part t,
      length-headers t f,
      length-version_bytes t.build_version,
      length-symtab_part t,
    )

contents_on : (t : MachTable) → FitsMach t → StandsAt (mach_file t) (behind_commands t) (data_start t)
unfolding mach_file
contents_on t f = stands_behind (commands_bytes t) (behind_commands t) (data_start t) (length-commands t f)

pub contents_here : (t : MachTable) → FitsMach t → StandsAt (mach_file t) (laid_out 0 (contents_of t)) (data_start t)
contents_here t f = stands_left (mach_file t) (laid_out 0 (contents_of t)) (gap_part t ++ behind_gap t) (data_start t) (contents_on t f)

gap_on : (t : MachTable) → FitsMach t → StandsAt (mach_file t) (gap_part t ++ behind_gap t) (data_start t + contents_size t)
gap_on t f = stands_right (mach_file t) (laid_out 0 (contents_of t)) (gap_part t ++ behind_gap t) (data_start t) (data_start t + contents_size t) (contents_on t f) (omega (arith, length-contents t f))

pub gap_here : (t : MachTable) → FitsMach t → StandsAt (mach_file t) (gap_part t) (data_start t + contents_size t)
gap_here t f = stands_left (mach_file t) (gap_part t) (behind_gap t) (data_start t + contents_size t) (gap_on t f)

records_on : (t : MachTable) → FitsMach t → StandsAt (mach_file t) (behind_gap t) (relocations_start t)
records_on t f = stands_right (mach_file t) (gap_part t) (behind_gap t) (data_start t + contents_size t) (relocations_start t) (gap_on t f) (omega (arith, length-zeros (relocations_start t - (data_start t + contents_size t))))

pub records_here : (t : MachTable) → FitsMach t → StandsAt (mach_file t) (records_part t) (relocations_start t)
records_here t f = stands_left (mach_file t) (records_part t) (behind_symbols t) (relocations_start t) (records_on t f)

symbols_on : (t : MachTable) → FitsMach t → StandsAt (mach_file t) (behind_symbols t) (symbols_start t)
symbols_on t f = stands_right (mach_file t) (records_part t) (behind_symbols t) (relocations_start t) (symbols_start t) (records_on t f) (omega (arith, length-records_part t))

pub symbols_here : (t : MachTable) → FitsMach t → StandsAt (mach_file t) (symbols_part t) (symbols_start t)
symbols_here t f = stands_left (mach_file t) (symbols_part t) (strings_part t) (symbols_start t) (symbols_on t f)

pub strings_here : (t : MachTable) → FitsMach t → StandsAt (mach_file t) (strings_part t) (strings_start t)
strings_here t f = stands_right (mach_file t) (symbols_part t) (strings_part t) (symbols_start t) (strings_start t) (symbols_on t f) (omega (arith, length-symbols_part t))
