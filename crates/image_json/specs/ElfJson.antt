-- What is told of an ELF image as JSON: objects with their keys in the order of their bytes, names and contents in lower-case
-- hexadecimal, and a row of a table as a list of its numbers.
use Rattle.std.specs.Prelude.{ℕ, List, [], ◌∷◌, ◌++◌, codes}
use Rattle.serde_json.specs.Data.{Data, string, object, no_members, member}
use Rattle.serde_json.specs.Written.{compact_text}
use Rattle.json_form.specs.Written.{number_value, list_value}
use Rattle.image_read.specs.ElfFile.{ElfRelocationRow}
use Rattle.image_read.specs.ElfImage.{ElfSectionData, ElfSymbolData, ElfImageData}
use Rattle.image_json.specs.RowJson.{hex_value, integer_value, row_value, next_numbers}

abbrev pub relocation_value : ElfRelocationRow → Data
relocation_value r = row_value (number_value r.offset ∷ number_value r.symbol ∷ number_value r.r_type ∷ integer_value r.addend ∷ [])

abbrev pub section_value : ElfSectionData → Data
section_value s =
    row_value (
    hex_value s.name
    ∷ number_value s.sh_type
    ∷ number_value s.flags
    ∷ number_value s.align
    ∷ number_value s.size
    ∷ hex_value s.contents
    ∷ list_value relocation_value s.relocations
    ∷ []
    )

abbrev pub symbol_value : ElfSymbolData → Data
symbol_value s = row_value (hex_value s.name ∷ number_value s.info ∷ number_value s.other ∷ number_value s.shndx ∷ number_value s.value ∷ number_value s.size ∷ [])

-- an image, its sections and symbols in order
unfoldable pub elf_value : ElfImageData → Data
elf_value i =
    object (
    member (codes "flags") (number_value i.flags) (
    member (codes "format") (string (codes "elf")) (
    member (codes "local_symbols") (number_value i.local_symbols) (
    member (codes "machine") (number_value i.machine) (
    member (codes "sections") (list_value section_value i.sections) (
    member (codes "symbols") (list_value symbol_value i.symbols)
    no_members))))))

-- the same as text, without white space
abbrev pub elf_text : ElfImageData → List ℕ
elf_text i = compact_text (elf_value i)

-- -- pieces

-- the start of a section's list: its name and its numbers
abbrev pub header_text : ElfSectionData → List ℕ
header_text s = 91 ∷ (compact_text (hex_value s.name) ++ next_numbers (s.sh_type ∷ s.flags ∷ s.align ∷ s.size ∷ []))

-- the members of an image before its sections
abbrev pub numbers_text : ElfImageData → List ℕ
numbers_text i =
    codes "{\"flags\":" ++ (compact_text (number_value i.flags)
    ++ (codes ",\"format\":\"elf\",\"local_symbols\":" ++ (compact_text (number_value i.local_symbols)
    ++ (codes ",\"machine\":" ++ compact_text (number_value i.machine)))))
