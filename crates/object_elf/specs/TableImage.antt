-- The image of the file of a link table: what a reader sees of it, in the table's own rows. The order of the sections is this
-- project's own.
use Rattle.std.specs.Prelude.{◌≡◌, ℕ, List, [], ◌∷◌, ◌++◌, map, filter, codes}
use Rattle.std.specs.List.{enumerate_from}
use Rattle.byte_core.specs.Strings.{string_bytes_of, strings_size}
use Rattle.object_core.specs.LinkTable.{ElfTable, ElfTableSection, ElfTableSymbol}
use Rattle.image_read.specs.ElfFile.{ElfRelocationRow}
use Rattle.image_read.specs.ElfImage.{ElfSectionData, ElfSymbolData, ElfImageData, ElfReads}
use Rattle.object_elf.specs.Layout.{Part, is_relocated, content_part, note_part, relocation_part, symbol_part, string_part, section_names, symbol_names}
use Rattle.object_elf.specs.ElfHolds.{record_for}
use Rattle.object_elf.specs.File.{relocation_contents, symbol_contents}

-- a part of the file with its bytes and the relocations of them
abbrev pub shown : Part → List ℕ → List ElfRelocationRow → ElfSectionData
shown p contents relocations =
    record {
      name = p.name;
      sh_type = p.sh_type;
      flags = p.flags;
      address = 0;
      size = p.size;
      link = p.link;
      info = p.info;
      align = p.align;
      entsize = p.entsize;
      contents = contents;
      relocations = relocations;
    }

-- a section of the table has its own relocations, row for row
abbrev pub section_shown : ElfTableSection → ElfSectionData
section_shown s = shown (content_part s) s.contents (map record_for s.relocations)

-- the section with the records of one of these sections, which is in this header row
abbrev pub records_shown : ElfTable → ℕ × ElfTableSection → ElfSectionData
records_shown t s = shown (relocation_part t s) (relocation_contents s.1).bytes []

abbrev pub strings_shown : List ℕ → List (List ℕ) → ElfSectionData
strings_shown name names = shown (string_part name (strings_size names)) (string_bytes_of names) []

-- the table's sections, the stack note, the relocation sections, the symbol table and the names
unfoldable pub sections_shown : ElfTable → List ElfSectionData
sections_shown t =
    map section_shown t.sections
    ++ shown note_part [] [] ∷ map (records_shown t) (filter (λ (s : ℕ × ElfTableSection). is_relocated s.1) (enumerate_from 1 t.sections))
    ++ shown (symbol_part t) (symbol_contents t.symbols).bytes [] ∷ strings_shown (codes ".strtab") (symbol_names t) ∷ strings_shown (codes ".shstrtab") (section_names t) ∷ []

abbrev pub symbol_shown : ElfTableSymbol → ElfSymbolData
symbol_shown s = record { name = s.name; info = s.info; other = s.other; shndx = s.shndx; value = s.value; size = s.size }

-- the image of a table; its symbols are the table's, row for row
unfoldable pub image_for : ElfTable → ElfImageData
image_for t = record { machine = t.machine; flags = t.flags; sections = sections_shown t; symbols = map symbol_shown t.symbols; local_symbols = t.locals }

-- the file is read as this image, and as no other
pub record ReadsOnly (b : List ℕ) (image : ElfImageData) : Type 0 where
  pub reads : ElfReads b image
  pub only : (other : ElfImageData) → ElfReads b other → other ≡ image
