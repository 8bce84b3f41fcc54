-- The numbers that are compared with the limits, by the sections and symbols of an object.
use Rattle.std.specs.Prelude.{ℕ, ◌+◌, ◌*◌, not, Bool, List, length, map, filter, count_by, sum_by, if◌then◌else◌}
use Rattle.std.specs.Int.{next_multiple_of}
use Rattle.ir_core.specs.MachO.{mach_cputype}
use Rattle.object_core.specs.Object.{SymbolData, SectionData, ObjectData}
use Rattle.object_core.specs.Places.{end_of}
use Rattle.object_core.specs.WellFormed.{is_file}
use Rattle.object_core.specs.MachRows.{is_mach_stored, section_extent, mach_symbol_name_of}
use Rattle.object_macho.specs.Layout.{version_size}
use Rattle.object_macho.specs.Counts.{MachCounts}
use Rattle.object_macho.specs.Orders.{record_counts}

-- the symbol has a row: it is no file
abbrev pub has_row : SymbolData → Bool
has_row s = not (is_file s.kind)

-- the bytes of a symbol's name in the string table, none for a file
abbrev pub row_name_size : SymbolData → ℕ
row_name_size s = if has_row s then length (mach_symbol_name_of s.kind s.name) + 1 else 0

-- the records of a section's relocations
abbrev pub section_records : ℕ → SectionData → ℕ
section_records cputype s = record_counts cputype s.relocations

-- where the sections that take bytes of the file end, counted from the first of them
abbrev pub stored_end : List SectionData → ℕ
stored_end sections = end_of (map section_extent (filter is_mach_stored sections))

-- where the records start, behind the header, the commands and the contents
abbrev pub records_place : ObjectData → ℕ
records_place o = next_multiple_of (32 + (72 + 80 * length o.sections) + version_size o.build_version + 24 + stored_end o.sections) 8

-- the bytes of the file
abbrev pub file_size : ObjectData → ℕ
file_size o = records_place o + 8 * sum_by (section_records (mach_cputype o.architecture)) o.sections + 16 * count_by has_row o.symbols + (1 + sum_by row_name_size o.symbols)

-- the counts of an object
unfoldable pub plain_counts : ObjectData → MachCounts
plain_counts o = record { sections = length o.sections; symbols = count_by has_row o.symbols; contents = o.content_sum; file = file_size o }
