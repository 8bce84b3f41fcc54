-- The contents, the records and the places of a written Mach-O file. The order of the parts is this project's own.
use Rattle.std.specs.Prelude.{ℕ, ◌+◌, ◌-◌, ◌*◌, ◌%◌, ◌^◌, ◌==◌, Bool, true, false, not, ◌&&◌, nat_le, nat_lt, List, [], ◌∷◌, length, map, filter, flat_map, fold, take, slice_get, slice_index_or, sum_by, Option, Some, None, unwrap_or, if◌then◌else◌}
use Rattle.std.specs.List.{enumerate_from, filter_map}
use Rattle.std.specs.Int.{Width, cast_unsigned, w32, w64, next_multiple_of}
use Rattle.byte_core.specs.Number.{little_bytes}
use Rattle.byte_core.specs.Strings.{strings_size}
use Rattle.object_core.specs.declared.kinds.MachOBuildVersion.{MachOBuildVersion}
use Rattle.ir_core.specs.MachO.{is_zero_fill_type, is_in_field, is_in_record, stored_number, is_zero_addend}
use Rattle.object_core.specs.LinkTable.{MachRelocation, MachTableSection, MachTable}
use Rattle.image_read.specs.MachFile.{MachRelocationRow}

-- -- contents: the addends that fields keep are written into them

-- how many bytes the field has
abbrev pub field_width : MachRelocation → ℕ
field_width r = 2 ^ r.length

-- the number in it is of 32 or of 64 bits
abbrev pub number_width : ℕ → Width
number_width length = if length == 3 then w64 else w32

-- the bytes of the number in the field
abbrev pub stored_bytes : MachRelocation → List ℕ
stored_bytes r = little_bytes (field_width r) (cast_unsigned (number_width r.length) (stored_number r.pcrel r.addend))

-- the byte that a relocation stores at place p of its section, where its field keeps the addend and p lies in it
abbrev pub stored_byte : ℕ → ℕ → MachRelocation → Option ℕ
stored_byte cputype p r = if is_in_field cputype r.r_type && (nat_le r.offset p && nat_lt p (r.offset + field_width r)) then Some (slice_index_or (stored_bytes r) (p - r.offset) 0) else None

-- the byte at place p: that of the number whose field it lies in, else that of the contents
abbrev pub byte_for : ℕ → List MachRelocation → ℕ × ℕ → ℕ
byte_for cputype relocations place = unwrap_or (slice_get (filter_map (stored_byte cputype place.0) relocations) 0) place.1

-- the bytes of a section as the file has them
unfoldable pub stored_contents : ℕ → MachTableSection → List ℕ
stored_contents cputype s = map (byte_for cputype s.relocations) (enumerate_from 0 s.contents)

-- -- records

-- the record of a relocation names its symbol's row
abbrev pub record_for : MachRelocation → MachRelocationRow
record_for r = record { address = r.offset; symbolnum = r.symbol; pcrel = r.pcrel; length = r.length; is_extern = true; r_type = r.r_type }

-- ARM64_RELOC_ADDEND 10: the addend as 24 bits in two's complement in the place of a row
abbrev pub addend_record : MachRelocation → MachRelocationRow
addend_record r = record { address = r.offset; symbolnum = cast_unsigned w32 r.addend % 2 ^ 24; pcrel = false; length = 2; is_extern = false; r_type = 10 }

-- the addend is one of those that stand in a record, and not 0
abbrev pub wants_record : ℕ → MachRelocation → Bool
wants_record cputype r = is_in_record cputype r.r_type && not (is_zero_addend r.addend)

abbrev pub records_for : ℕ → MachRelocation → List MachRelocationRow
records_for cputype r = if wants_record cputype r then addend_record r ∷ record_for r ∷ [] else record_for r ∷ []

-- the records of a section, in order of its relocations
unfoldable pub records_of : ℕ → MachTableSection → List MachRelocationRow
records_of cputype s = flat_map (records_for cputype) s.relocations

-- how many records these sections have
abbrev pub record_count : ℕ → List MachTableSection → ℕ
record_count cputype sections = sum_by (λ s. length (records_of cputype s)) sections

-- -- places

abbrev pub is_stored : MachTableSection → Bool
is_stored s = not (is_zero_fill_type s.flags)

-- where the last of these sections ends in memory, 0 where there is none
unfoldable pub end_of_sections : List MachTableSection → ℕ
end_of_sections sections = fold (λ end s. s.address + s.size) 0 sections

-- how many bytes of the file the contents take
abbrev pub contents_size : MachTable → ℕ
contents_size t = end_of_sections (filter is_stored t.sections)

-- LC_BUILD_VERSION has 24 bytes, where there is one
abbrev pub version_size : Option MachOBuildVersion → ℕ
version_size None = 0
version_size (Some v) = 24

-- how many load commands there are
abbrev pub command_count : Option MachOBuildVersion → ℕ
command_count None = 2
command_count (Some v) = 3

-- LC_SEGMENT_64 has 72 bytes and 80 for each section
abbrev pub segment_size : MachTable → ℕ
segment_size t = 72 + 80 * length t.sections

abbrev pub version_place : MachTable → ℕ
version_place t = 32 + segment_size t

abbrev pub symtab_place : MachTable → ℕ
symtab_place t = version_place t + version_size t.build_version

-- where the contents start: behind the header's 32 bytes, the commands before LC_SYMTAB, and its 24 bytes
abbrev pub data_start : MachTable → ℕ
data_start t = symtab_place t + 24

abbrev pub relocations_start : MachTable → ℕ
relocations_start t = next_multiple_of (data_start t + contents_size t) 8

-- where the records of section k start
abbrev pub records_start : MachTable → ℕ → ℕ
records_start t k = relocations_start t + 8 * record_count t.cputype (take k t.sections)

abbrev pub symbols_start : MachTable → ℕ
symbols_start t = relocations_start t + 8 * record_count t.cputype t.sections

abbrev pub strings_start : MachTable → ℕ
strings_start t = symbols_start t + 16 * length t.symbols

abbrev pub mach_names : MachTable → List (List ℕ)
mach_names t = map (λ s. s.name) t.symbols

-- the length of the file
abbrev pub mach_length : MachTable → ℕ
mach_length t = strings_start t + strings_size (mach_names t)
