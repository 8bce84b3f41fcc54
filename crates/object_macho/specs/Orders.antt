-- What is written of an object's symbols and relocations, one after the other.
use Rattle.std.specs.Prelude.{Bool, true, false, not, ◌&&◌, ◌≡◌, ℕ, ◌+◌, ◌^◌, ◌<◌, List, length, flat_map, sum_by, slice_get, slice_index, Some}
use Rattle.object_core.specs.declared.kinds.SymbolSection.{SymbolSection}
use Rattle.object_core.specs.declared.kinds.SymbolSection.TheVariants as section
use Rattle.object_core.specs.declared.relocation.Relocation.{Relocation}
use Rattle.ir_core.specs.MachO.{is_zero_fill_type}
use Rattle.object_core.specs.declared.symbol.Symbol.{Symbol}
use Rattle.object_core.specs.Object.{SymbolData, SectionData, plain_symbol, is_local_symbol}
use Rattle.object_core.specs.WellFormed.{is_file}
use Rattle.object_macho.specs.Layout.{records_for}
use Rattle.object_macho.specs.File.{mach_record_bytes}
use Rattle.object_macho.specs.Rows.{relocation_with, FitsRecords}

-- the records of a relocation, by the rows of the symbols
abbrev pub record_bytes_by : ℕ → List ℕ → Relocation → List ℕ
record_bytes_by cputype rows r = flat_map mach_record_bytes (records_for cputype (relocation_with (slice_index rows r.symbol) r))

-- how many records a relocation has
abbrev pub record_count_of : ℕ → Relocation → ℕ
record_count_of cputype r = length (records_for cputype (relocation_with 0 r))

abbrev pub record_counts : ℕ → List Relocation → ℕ
record_counts cputype rs = sum_by (record_count_of cputype) rs

-- a relocation names a symbol whose row has room in a record
pub record FitsRelocationBy (cputype : ℕ) (rows : List ℕ) (r : Relocation) : Type 0 where
  pub within : r.symbol < length rows
  pub row : slice_index rows r.symbol < 2 ^ 24
  pub fits : FitsRecords cputype r

abbrev pub FitRelocationsBy : ℕ → List ℕ → List Relocation → Type 0
FitRelocationsBy cputype rows rs = (k : ℕ) (r : Relocation) → slice_get rs k ≡ Some r → FitsRelocationBy cputype rows r

-- -- symbols by the numbers of sections

-- the section of a symbol is one of so many
abbrev pub IsAmong : ℕ → SymbolSection → Type 0
IsAmong count (section.Section id) = id < count
IsAmong count _ = Unit {0}

abbrev pub sect_by : List ℕ → SymbolSection → ℕ
sect_by numbers (section.Section id) = slice_index numbers id + 1
sect_by numbers _ = 0

abbrev pub value_by : List ℕ → List ℕ → SymbolSection → ℕ → ℕ
value_by numbers addresses (section.Section id) value = slice_index addresses (slice_index numbers id) + value
value_by numbers addresses _ value = 0

-- the section takes bytes of the file, or it doesn't
abbrev pub is_flags_in : Bool → ℕ → Bool
is_flags_in true flags = not (is_zero_fill_type flags)
is_flags_in false flags = is_zero_fill_type flags

abbrev pub is_section_in : Bool → SectionData → Bool
is_section_in stored s = is_flags_in stored s.macho_flags

-- the symbol is a local one but the file's, or one of the others
abbrev pub is_row_in : Bool → Symbol → Bool
is_row_in true s = is_local_symbol s && not (is_file s.kind)
is_row_in false s = not (is_local_symbol s)

abbrev pub is_symbol_in : Bool → SymbolData → Bool
is_symbol_in local s = is_row_in local (plain_symbol s)

-- each section has a number, each number an address, and the numbers have room in a symbol
pub record AreNumbers (numbers addresses : List ℕ) : Type 0 where
  pub each : (id : ℕ) → id < length numbers → slice_index numbers id < length addresses
  pub few : length addresses < 256
