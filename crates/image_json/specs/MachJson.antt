-- What is told of a Mach-O image as JSON: objects with their keys in the order of their bytes, names and contents in
-- lower-case hexadecimal, and a row of a table as a list of its numbers.
use Rattle.std.specs.Prelude.{ℕ, List, [], ◌∷◌, ◌++◌, codes}
use Rattle.serde_json.specs.Data.{Data, string, object, no_members, member}
use Rattle.serde_json.specs.Written.{compact_text}
use Rattle.json_form.specs.Written.{number_value, list_value}
use Rattle.image_read.specs.MachFile.{MachRelocationRow}
use Rattle.image_read.specs.MachImage.{MachSectionData, MachSymbolData, MachImageData}
use Rattle.image_json.specs.RowJson.{hex_value, flag_value, row_value, next_numbers}

abbrev pub mach_relocation_value : MachRelocationRow → Data
mach_relocation_value r =
    row_value (
    number_value r.address
    ∷ number_value r.symbolnum
    ∷ flag_value r.pcrel
    ∷ number_value r.length
    ∷ flag_value r.is_extern
    ∷ number_value r.r_type
    ∷ []
    )

abbrev pub mach_section_value : MachSectionData → Data
mach_section_value s =
    row_value (
    hex_value s.segment
    ∷ hex_value s.name
    ∷ number_value s.address
    ∷ number_value s.align
    ∷ number_value s.flags
    ∷ number_value s.size
    ∷ hex_value s.contents
    ∷ list_value mach_relocation_value s.relocations
    ∷ []
    )

abbrev pub mach_symbol_value : MachSymbolData → Data
mach_symbol_value s = row_value (hex_value s.name ∷ number_value s.n_type ∷ number_value s.sect ∷ number_value s.desc ∷ number_value s.value ∷ [])

-- the processor type and subtype
abbrev pub cpu_value : MachImageData → Data
cpu_value i = row_value (number_value i.cputype ∷ number_value i.cpusubtype ∷ [])

-- an image, its sections and symbols in order
unfoldable pub mach_value : MachImageData → Data
mach_value i =
    object (
    member (codes "cpu") (cpu_value i) (
    member (codes "flags") (number_value i.flags) (
    member (codes "format") (string (codes "macho")) (
    member (codes "sections") (list_value mach_section_value i.sections) (
    member (codes "symbols") (list_value mach_symbol_value i.symbols)
    no_members)))))

-- the same as text, without white space
abbrev pub mach_text : MachImageData → List ℕ
mach_text i = compact_text (mach_value i)

-- -- pieces

-- the start of a section's list: its names and its numbers
abbrev pub mach_header_text : MachSectionData → List ℕ
mach_header_text s =
    91 ∷ (compact_text (hex_value s.segment) ++ 44 ∷ (compact_text (hex_value s.name) ++ next_numbers (s.address ∷ s.align ∷ s.flags ∷ s.size ∷ [])))

-- the members of an image before its sections
abbrev pub mach_numbers_text : MachImageData → List ℕ
mach_numbers_text i =
    codes "{\"cpu\":[" ++ (compact_text (number_value i.cputype)
    ++ (next_numbers (i.cpusubtype ∷ [])
    ++ (codes "],\"flags\":" ++ (compact_text (number_value i.flags) ++ codes ",\"format\":\"macho\""))))
