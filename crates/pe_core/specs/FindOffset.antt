-- Where in a file the places of its image lie, by Microsoft's PE Format, "Section Table"; the roundings are this project's choice.
use Rattle.std.specs.Prelude.{ℕ, ◌+◌, ◌-◌, ◌*◌, ◌/◌, ◌==◌, ◌&&◌, nat_le, nat_lt, min, Bool, List, find, Option, Some, None, option_map, Result, if◌then◌else◌}
use Rattle.std.specs.Int.{next_multiple_of, is_power_of_two}
use Rattle.pe_core.specs.declared.section_table.SectionTable.{SectionTable}
use Rattle.pe_core.specs.declared.section_table.ParseOptions.{ParseOptions}
use Rattle.pe_core.specs.declared.pe_error.Case.TheVariants.{NoOffset}
use Rattle.pe_core.specs.declared.pe_error.Error.{Error}
use Rattle.pe_core.specs.Steps.{value_or}

-- how many bytes of a section are in memory: its raw size, but no more than its virtual size in whole pages of 4,096, where one is given
abbrev pub extent_of : SectionTable → ℕ
extent_of s = if s.virtual_size == 0 then s.size_of_raw_data else min s.size_of_raw_data (next_multiple_of s.virtual_size 4096)

-- a section holds an address from its own on, as far as its extent goes
abbrev pub is_held : ℕ → SectionTable → Bool
is_held rva s = nat_le s.virtual_address rva && nat_lt rva (s.virtual_address + extent_of s)

-- as far behind the section's pointer, rounded down to 512, as the address is behind the section's
abbrev pub place_of : ℕ → SectionTable → ℕ
place_of rva s = rva - s.virtual_address + s.pointer_to_raw_data / 512 * 512

-- the offset of a relative virtual address: itself where it isn't resolved, else its place in the first section that holds it, and none under a file alignment that is no power of two
unfoldable pub offset_of : ℕ → List SectionTable → ℕ → ParseOptions → Option ℕ
offset_of rva sections file_alignment opts =
    if opts.resolve_rva then (if is_power_of_two file_alignment then option_map (place_of rva) (find (is_held rva) sections) else None)
    else Some rva

-- the offset of a relative virtual address, or the refusal that keeps it
abbrev pub offset_or_refusal : ℕ → List SectionTable → ℕ → ParseOptions → Result ℕ Error
offset_or_refusal rva sections file_alignment opts = value_or (offset_of rva sections file_alignment opts) (NoOffset rva)
