-- The bytes of a written ELF file, part by part: System V gABI, "ELF Header", "Sections", "Symbol Table", "Relocation".
use Rattle.std.specs.Prelude.{ℕ, ◌+◌, ◌-◌, ◌==◌, List, [], ◌∷◌, ◌++◌, length, map, filter, flat_map, replicate, if◌then◌else◌}
use Rattle.std.specs.Int.{cast_unsigned, w64}
use Rattle.byte_core.specs.declared.fields.Field.{Field}
use Rattle.byte_core.specs.Fields.{field_bytes}
use Rattle.byte_core.specs.LaidOut.{Aligned, laid_out}
use Rattle.byte_core.specs.Strings.{string_bytes_of}
use Rattle.object_core.specs.LinkTable.{ElfTable, ElfTableSection, ElfTableSymbol}
use Rattle.image_read.specs.ElfFile.{ElfHeader, ElfSectionRow, ElfSymbolRow, ElfRelocationRow}
use Rattle.object_elf.specs.Layout.{Part, is_relocated, section_names, symbol_names, parts_of, end_of_parts, start_after, end_after, headers_start}
use Rattle.object_elf.specs.ElfHolds.{header_for, null_section, null_symbol, record_for}

-- -- rows

-- a number of w bytes
abbrev pub field : ℕ → ℕ → Field
field w value = record { width = w; value = value }

-- the numbers of the file header behind e_ident
abbrev pub header_fields : ElfHeader → List Field
header_fields h =
    field 2 h.e_type
    ∷ field 2 h.machine
    ∷ field 4 h.version
    ∷ field 8 h.entry
    ∷ field 8 h.phoff
    ∷ field 8 h.shoff
    ∷ field 4 h.flags
    ∷ field 2 h.ehsize
    ∷ field 2 h.phentsize
    ∷ field 2 h.phnum
    ∷ field 2 h.shentsize
    ∷ field 2 h.shnum
    ∷ field 2 h.shstrndx
    ∷ []

abbrev pub header_bytes : ElfHeader → List ℕ
header_bytes h = h.ident ++ field_bytes (header_fields h)

abbrev pub section_row_fields : ElfSectionRow → List Field
section_row_fields r = field 4 r.name ∷ field 4 r.sh_type ∷ field 8 r.flags ∷ field 8 r.address ∷ field 8 r.offset ∷ field 8 r.size ∷ field 4 r.link ∷ field 4 r.info ∷ field 8 r.align ∷ field 8 r.entsize ∷ []

abbrev pub section_row_bytes : ElfSectionRow → List ℕ
section_row_bytes r = field_bytes (section_row_fields r)

abbrev pub symbol_row_fields : ElfSymbolRow → List Field
symbol_row_fields r = field 4 r.name ∷ field 1 r.info ∷ field 1 r.other ∷ field 2 r.shndx ∷ field 8 r.value ∷ field 8 r.size ∷ []

abbrev pub symbol_row_bytes : ElfSymbolRow → List ℕ
symbol_row_bytes r = field_bytes (symbol_row_fields r)

abbrev pub relocation_row_fields : ElfRelocationRow → List Field
relocation_row_fields r = field 8 r.offset ∷ field 4 r.r_type ∷ field 4 r.symbol ∷ field 8 (cast_unsigned w64 r.addend) ∷ []

abbrev pub relocation_row_bytes : ElfRelocationRow → List ℕ
relocation_row_bytes r = field_bytes (relocation_row_fields r)

-- -- contents of the parts

-- a section's bytes; a zero-fill section has none and stands anywhere
abbrev pub section_contents : ElfTableSection → Aligned
section_contents s = record { align = if s.sh_type == 8 then 1 else s.align; bytes = s.contents }

-- the records of a section
abbrev pub relocation_contents : ElfTableSection → Aligned
relocation_contents s = record { align = 8; bytes = flat_map (λ r. relocation_row_bytes (record_for r)) s.relocations }

-- the row of a symbol whose name has this place
abbrev pub symbol_row_with : ℕ → ElfTableSymbol → ElfSymbolRow
symbol_row_with place s = record { name = place; info = s.info; other = s.other; shndx = s.shndx; value = s.value; size = s.size }

-- the rows of symbols whose names stand one after the other from a place on
unfoldable pub symbol_rows_from : ℕ → List ElfTableSymbol → List ElfSymbolRow
symbol_rows_from place [] = []
symbol_rows_from place (s ∷ ss) = symbol_row_with place s ∷ symbol_rows_from (place + (length s.name + 1)) ss

-- the null symbol and the symbols
abbrev pub symbol_contents : List ElfTableSymbol → Aligned
symbol_contents symbols = record { align = 8; bytes = flat_map symbol_row_bytes (null_symbol ∷ symbol_rows_from 1 symbols) }

abbrev pub string_contents : List (List ℕ) → Aligned
string_contents names = record { align = 1; bytes = string_bytes_of names }

-- the contents of the parts of the file, in their order
unfoldable pub contents_of : ElfTable → List Aligned
contents_of t =
    map section_contents t.sections
    ++ record { align = 1; bytes = [] } ∷ map relocation_contents (filter is_relocated t.sections)
    ++ symbol_contents t.symbols ∷ string_contents (symbol_names t) ∷ string_contents (section_names t) ∷ []

-- -- section headers

-- the header of a part whose name and contents have these places
abbrev pub section_row_with : ℕ → ℕ → Part → ElfSectionRow
section_row_with place offset p = record { name = place; sh_type = p.sh_type; flags = p.flags; address = 0; offset = offset; size = p.size; link = p.link; info = p.info; align = p.align; entsize = p.entsize }

-- the headers of parts behind a part that ends here, whose names stand one after the other from a place on
unfoldable pub section_rows_from : ℕ → ℕ → List Part → List ElfSectionRow
section_rows_from place end [] = []
section_rows_from place end (p ∷ ps) = section_row_with place (start_after end p) p ∷ section_rows_from (place + (length p.name + 1)) (end_after end p) ps

-- the null section and the parts
abbrev pub section_rows : List Part → List ElfSectionRow
section_rows parts = null_section ∷ section_rows_from 1 64 parts

-- -- the file

-- the file of a table: header, contents of the parts, section headers
unfoldable pub elf_file : ElfTable → List ℕ
elf_file t = header_bytes (header_for t) ++ (laid_out 64 (contents_of t) ++ (replicate (headers_start t - end_of_parts (parts_of t)) 0 ++ flat_map section_row_bytes (section_rows (parts_of t))))
