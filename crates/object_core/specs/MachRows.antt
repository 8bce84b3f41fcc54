-- The Mach-O rows that an object stands for: Apple's mach-o/loader.h, mach-o/nlist.h and mach-o/reloc.h.
use Rattle.std.specs.Prelude.{ℕ, ◌+◌, Bool, false, not, ◌&&◌, List, ◌∷◌, ◌++◌, map, filter, take, count_by, slice_get, Option, Some, None, unwrap_or, if◌then◌else◌}
use Rattle.ir_core.specs.Moments.{Moment, moments}
use Rattle.ir_core.specs.declared.target.Architecture.{Architecture}
use Rattle.ir_core.specs.declared.target.Architecture.TheVariants.{X86_64}
use Rattle.ir_core.specs.declared.target.BinaryFormat.TheVariants.{Macho}
use Rattle.object_core.specs.declared.kinds.SymbolKind.{SymbolKind}
use Rattle.object_core.specs.declared.kinds.SymbolKind.TheVariants as kind
use Rattle.object_core.specs.declared.kinds.SymbolScope.{SymbolScope}
use Rattle.object_core.specs.declared.kinds.SymbolScope.TheVariants as scope
use Rattle.object_core.specs.declared.kinds.SymbolSection.{SymbolSection}
use Rattle.object_core.specs.declared.kinds.SymbolSection.TheVariants as section
use Rattle.object_core.specs.declared.relocation.Relocation.{Relocation}
use Rattle.object_core.specs.declared.relocation.RelocationFlags.{RelocationFlags}
use Rattle.object_core.specs.declared.relocation.RelocationFlags.TheVariants as flags
use Rattle.object_core.specs.declared.symbol.Symbol.{Symbol}
use Rattle.object_core.specs.Object.{SymbolData, SectionData, ObjectData, plain_symbol, is_in_section, is_local_symbol, is_local, is_global}
use Rattle.object_core.specs.Appending.{is_unstored}
use Rattle.object_core.specs.Places.{Extent, place_behind}
use Rattle.ir_core.specs.MachO.{mach_cputype}
use Rattle.object_core.specs.WellFormed.{is_file}
use Rattle.object_core.specs.LinkTable.{MachRelocation, MachTableSection, MachTableSymbol, MachTable}

-- -- the processor

-- CPU_SUBTYPE_X86_64_ALL 3, CPU_SUBTYPE_ARM64_ALL 0
abbrev pub mach_cpusubtype : Architecture → ℕ
mach_cpusubtype X86_64 = 3
mach_cpusubtype _ = 0

-- -- sections: those with bytes by creation, then the zero-fill ones by creation

abbrev pub is_mach_stored : SectionData → Bool
is_mach_stored s = not (is_unstored Macho s)

abbrev pub is_mach_zero_fill : SectionData → Bool
is_mach_zero_fill s = is_unstored Macho s

unfoldable pub header_order : List SectionData → List SectionData
header_order sections = filter is_mach_stored sections ++ filter is_mach_zero_fill sections

-- the number of a section, counted from 0 in that order
abbrev pub header_number : List SectionData → ℕ → Option SectionData → ℕ
header_number sections id None = 0
header_number sections id (Some s) = if is_mach_stored s then count_by is_mach_stored (take id sections) else count_by is_mach_stored sections + count_by is_mach_zero_fill (take id sections)

unfoldable pub section_number_in : List SectionData → ℕ → ℕ
section_number_in sections id = header_number sections id (slice_get sections id)

abbrev pub section_extent : SectionData → Extent
section_extent s = record { align = s.align; size = s.size }

-- a section's address: the least multiple of its alignment that isn't below the end of the one before
abbrev pub section_address : Moment SectionData → ℕ
section_address m = place_behind (map section_extent m.before) m.here.align

-- the addresses of the sections in the order of their headers
unfoldable pub addresses_in : List SectionData → List ℕ
addresses_in sections = map section_address (moments (header_order sections))

-- the address of the section of this number in the object
abbrev pub address_in : List SectionData → ℕ → ℕ
address_in sections id = unwrap_or (slice_get (addresses_in sections) (section_number_in sections id)) 0

-- -- symbols: the local ones but the file's, then the others, each by creation

abbrev pub is_mach_local : SymbolData → Bool
is_mach_local s = is_local s && not (is_file s.kind)

-- the row of a symbol, counted from 0
abbrev pub mach_row_of_symbol : List SymbolData → ℕ → Option SymbolData → ℕ
mach_row_of_symbol symbols id None = 0
mach_row_of_symbol symbols id (Some s) = if is_local s then count_by is_mach_local (take id symbols) else count_by is_mach_local symbols + count_by is_global (take id symbols)

unfoldable pub mach_row_in : List SymbolData → ℕ → ℕ
mach_row_in symbols id = mach_row_of_symbol symbols id (slice_get symbols id)

-- a label has its own name, any other symbol an underscore in front
abbrev pub mach_symbol_name_of : SymbolKind → List ℕ → List ℕ
mach_symbol_name_of kind.Label name = name
mach_symbol_name_of _ name = 0x5f ∷ name

-- N_PEXT 0x10 for a symbol beyond this compilation that only the linked file sees
abbrev pub hidden_bit : SymbolScope → Bool → ℕ
hidden_bit scope.Linkage weak = if weak then 0 else 0x10
hidden_bit _ weak = 0

-- N_EXT 1 beyond this compilation, with N_PEXT
abbrev pub extern_bits : Symbol → ℕ
extern_bits s = if is_local_symbol s then 0 else 1 + hidden_bit s.scope s.weak

-- N_SECT 0xe in a section, else N_UNDF 0
abbrev pub mach_type : Symbol → ℕ
mach_type s = (if is_in_section s.section then 0x0e else 0) + extern_bits s

-- N_WEAK_DEF 0x80 for a weak definition, N_WEAK_REF 0x40 for a weak name that is undefined
abbrev pub weak_bit : Symbol → ℕ
weak_bit s = if is_local_symbol s then 0 else if not s.weak then 0 else if is_in_section s.section then 0x80 else 0x40

-- the weak bit, and N_NO_DEAD_STRIP 0x20
abbrev pub mach_desc : Symbol → ℕ
mach_desc s = weak_bit s + (if s.no_dead_strip then 0x20 else 0)

-- the section's number from 1 on, NO_SECT 0
abbrev pub mach_sect : List SectionData → SymbolSection → ℕ
mach_sect sections (section.Section id) = section_number_in sections id + 1
mach_sect sections _ = 0

-- the address of the section and the place there
abbrev pub mach_value : List SectionData → SymbolSection → ℕ → ℕ
mach_value sections (section.Section id) value = address_in sections id + value
mach_value sections _ value = 0

abbrev pub mach_symbol : List SectionData → SymbolData → MachTableSymbol
mach_symbol sections s =
    record {
      name = mach_symbol_name_of s.kind s.name;
      n_type = mach_type (plain_symbol s);
      sect = mach_sect sections s.section;
      desc = mach_desc (plain_symbol s);
      value = mach_value sections s.section s.value;
    }

-- -- relocations

abbrev pub mach_type_of : RelocationFlags → ℕ
mach_type_of (flags.Elf _) = 0
mach_type_of (flags.MachO r_type _ _) = r_type

abbrev pub mach_pcrel_of : RelocationFlags → Bool
mach_pcrel_of (flags.Elf _) = false
mach_pcrel_of (flags.MachO _ r_pcrel _) = r_pcrel

abbrev pub mach_length_of : RelocationFlags → ℕ
mach_length_of (flags.Elf _) = 0
mach_length_of (flags.MachO _ _ r_length) = r_length

abbrev pub mach_relocation : List SymbolData → Relocation → MachRelocation
mach_relocation symbols r =
    record {
      offset = r.offset;
      symbol = mach_row_in symbols r.symbol;
      r_type = mach_type_of r.flags;
      pcrel = mach_pcrel_of r.flags;
      length = mach_length_of r.flags;
      addend = r.addend;
    }

-- -- the whole

abbrev pub mach_section : List SymbolData → Moment SectionData → MachTableSection
mach_section symbols m =
    let s = m.here in
    record {
      segment = s.segment;
      name = s.name;
      address = section_address m;
      size = s.size;
      align = s.align;
      flags = s.macho_flags;
      contents = s.contents;
      relocations = map (mach_relocation symbols) s.relocations;
    }

-- the rows of a Mach-O object
unfoldable pub macho_table_of : ObjectData → MachTable
macho_table_of o =
    record {
      cputype = mach_cputype o.architecture;
      cpusubtype = mach_cpusubtype o.architecture;
      build_version = o.build_version;
      sections = map (mach_section o.symbols) (moments (header_order o.sections));
      symbols = map (mach_symbol o.sections) (filter is_mach_local o.symbols ++ filter is_global o.symbols);
    }
