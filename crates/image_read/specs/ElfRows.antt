-- What a reader of an ELF64 file asks of its rows, one after the other, and what it keeps of them.
use Rattle.std.specs.Prelude.{◌≡◌, ◌≢◌, ℕ, ◌+◌, ◌-◌, ◌*◌, ◌%◌, ◌^◌, ◌≤◌, ◌<◌, ◌==◌, ◌&&◌, not, if◌then◌else◌, IsTrue, List, [], ◌∷◌, ◌++◌, length, Option, Some, None, flat_map, map}
use Rattle.std.specs.List.{range_with_len}
use Rattle.byte_core.specs.Number.{bytes_at}
use Rattle.image_read.specs.ElfFile.{header_of, ElfSectionRow, ElfSymbolRow, ElfRelocationRow, section_row, relocation_row, entries, symbol_table}
use Rattle.image_read.specs.ElfImage.{ElfImageData, ElfSymbolData, IsStrings, IsSymbolTable, IsRelocations, ElfSectionData, section_data, records_for}
use Rattle.image_read.specs.declared.elf.rows.SectionRow.{SectionRow}
use Rattle.image_read.specs.declared.elf.rows.SymbolRow.{SymbolRow}
use Rattle.image_read.specs.declared.elf.symbols.SymbolTable.{SymbolTable}

-- each number from a up to n, n left out, has the property
pub record EachRow (P : ℕ → Type 0) (a n : ℕ) : Type 0 where
  pub at : (k : ℕ) → a ≤ k → k < n → P k

-- the header is that of a relocatable ELF64 file, little-endian, and the section headers lie in the file: "ELF Header"
pub record HasHeader (b : List ℕ) : Type 0 where
  pub header : 64 ≤ length b
  pub ident : bytes_at b 0 7 ≡ 0x7f ∷ 0x45 ∷ 0x4c ∷ 0x46 ∷ 2 ∷ 1 ∷ 1 ∷ []
  pub kind : (header_of b).e_type ≡ 1
  pub ehsize : (header_of b).ehsize ≡ 64
  pub shentsize : (header_of b).shentsize ≡ 64
  pub some : 1 ≤ (header_of b).shnum
  pub rows : (header_of b).shoff + 64 * (header_of b).shnum ≤ length b

-- a section header that was read is this row
pub record SameSection (row : SectionRow) (r : ElfSectionRow) : Type 0 where
  pub name : row.name ≡ r.name
  pub sh_type : row.sh_type ≡ r.sh_type
  pub flags : row.flags ≡ r.flags
  pub address : row.address ≡ r.address
  pub offset : row.offset ≡ r.offset
  pub size : row.size ≡ r.size
  pub link : row.link ≡ r.link
  pub info : row.info ≡ r.info
  pub align : row.align ≡ r.align
  pub entsize : row.entsize ≡ r.entsize

-- a symbol that was read is this row
pub record SameSymbol (row : SymbolRow) (r : ElfSymbolRow) : Type 0 where
  pub name : row.name ≡ r.name
  pub info : row.info ≡ r.info
  pub other : row.other ≡ r.other
  pub shndx : row.shndx ≡ r.shndx
  pub value : row.value ≡ r.value
  pub size : row.size ≡ r.size

-- a section that has bytes in the file lies in it
pub record IsPlaced (row : SectionRow) (len : ℕ) : Type 0 where
  pub inside : IsTrue (not (row.sh_type == 0) && not (row.sh_type == 8)) → row.offset + row.size ≤ len

-- the bytes of a section in the file, by a header that was read
abbrev pub stored_row : List ℕ → SectionRow → List ℕ
stored_row b row = if not (row.sh_type == 0) && not (row.sh_type == 8) then bytes_at b row.offset row.size else []

-- -- strings

-- a string section that lies in the file: "String Table"
pub record HasStrings (b : List ℕ) (k : ℕ) : Type 0 where
  pub section : IsStrings b k
  pub inside : (section_row b k).offset + (section_row b k).size ≤ length b

-- these are its bytes
pub record HoldsStrings (b : List ℕ) (k : ℕ) (strings : List ℕ) : Type 0 where
  pub section : HasStrings b k
  pub bytes : strings ≡ bytes_at b (section_row b k).offset (section_row b k).size

-- -- the symbol table

-- a section is no symbol table
pub record IsNoTable (b : List ℕ) (k : ℕ) : Type 0 where
  pub kind : (section_row b k).sh_type ≢ 2

-- no section but k is a symbol table
pub record IsTableOnlyAt (b : List ℕ) (k j : ℕ) : Type 0 where
  pub only : (section_row b j).sh_type ≡ 2 → j ≡ k

-- what is asked of the header of a symbol table: "Symbol Table"
pub record HasSymbolRows (b : List ℕ) (k : ℕ) : Type 0 where
  pub entry : (section_row b k).entsize ≡ 24
  pub whole : (section_row b k).size % 24 ≡ 0
  pub some : 24 ≤ (section_row b k).size
  pub few : (section_row b k).size ≤ 24 * 2 ^ 32
  pub locals : (section_row b k).info ≤ entries (section_row b k)
  pub strings : HasStrings b (section_row b k).link

-- a table that was opened is this row, and lies in the file
pub record IsOpen (b : List ℕ) (t : SymbolTable) : Type 0 where
  pub row : SameSection t.row (section_row b t.number)
  pub rows : HasSymbolRows b t.number
  pub inside : (section_row b t.number).offset + (section_row b t.number).size ≤ length b
  pub strings : HoldsStrings b (section_row b t.number).link t.strings.now

-- it is the file's symbol table
pub record IsTheTable (b : List ℕ) (t : SymbolTable) : Type 0 where
  pub found : symbol_table b ≡ Some t.number
  pub table : IsOpen b t

-- the file's symbol table, where it has one
abbrev pub IsTableOf : List ℕ → Option SymbolTable → Type 0
IsTableOf b None = symbol_table b ≡ None
IsTableOf b (Some t) = IsTheTable b t

-- if it is a symbol table, it meets its conditions
pub record IsSoundTable (b : List ℕ) (k : ℕ) : Type 0 where
  pub table : (section_row b k).sh_type ≡ 2 → IsSymbolTable b k

-- -- relocations

-- a record names a row of the symbol table
pub record NamesSymbol (b : List ℕ) (k m : ℕ) : Type 0 where
  pub symbol : (relocation_row b k m).symbol < entries (section_row b (section_row b k).link)

-- if it is a relocation section, it meets its conditions
pub record AreSoundRelocations (b : List ℕ) (k : ℕ) : Type 0 where
  pub records : (section_row b k).sh_type ≡ 4 → IsRelocations b k

-- the records of section j: "Relocation"
abbrev pub records_of : List ℕ → ℕ → List ElfRelocationRow
records_of b j = map (relocation_row b j) (range_with_len 0 (entries (section_row b j)))

-- a section with these records behind its own
abbrev pub with_records : ElfSectionData → List ElfRelocationRow → ElfSectionData
with_records s records = record s { relocations = s.relocations ++ records }

-- section k with the records of the sections before j alone
abbrev pub section_before : List ℕ → ℕ → ℕ → ElfSectionData
section_before b j k = record (section_data b k) { relocations = flat_map (records_for b k) (range_with_len 1 (j - 1)) }

-- a section by a header that was read, without relocations
abbrev pub bare_section : SectionRow → List ℕ → List ℕ → ElfSectionData
bare_section row name contents =
    record {
      name = name;
      sh_type = row.sh_type;
      flags = row.flags;
      address = row.address;
      size = row.size;
      link = row.link;
      info = row.info;
      align = row.align;
      entsize = row.entsize;
      contents = contents;
      relocations = [];
    }

-- an image with the numbers of the file's header, and these rows
abbrev pub image_with : List ℕ → List ElfSectionData → List ElfSymbolData → ℕ → ElfImageData
image_with b sections symbols locals =
    record {
      machine = (header_of b).machine;
      flags = (header_of b).flags;
      sections = sections;
      symbols = symbols;
      local_symbols = locals;
    }
