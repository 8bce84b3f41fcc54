-- What a reader of a 64-bit Mach-O file asks of its rows, one after the other, and what it keeps of them.
use Rattle.std.specs.Prelude.{◌≡◌, ℕ, ◌+◌, ◌*◌, ◌%◌, ◌≤◌, ◌<◌, ◌==◌, ◌||◌, not, if◌then◌else◌, IsTrue, IfSome, List, [], ◌∷◌, length, Option, option_map, unwrap_or, find}
use Rattle.std.specs.List.{range_with_len}
use Rattle.byte_core.specs.Number.{bytes_at}
use Rattle.image_read.specs.ElfRows.{EachRow}
use Rattle.image_read.specs.MachFile.{LoadCommand, MachSymtab, mach_header_of, command_at, command_place, command, commands_end, place_of_command, segment_at, section_count, mach_section_row, symtab_of, mach_relocation_row_at}
use Rattle.image_read.specs.MachFile.{MachRelocationRow, MachSymbolRow, MachSectionRow}
use Rattle.image_read.specs.MachImage.{MachImageData, MachSectionData, MachSymbolData, IsMach, IsCommand, IsMachRelocation, IsMachSection}
use Rattle.image_read.specs.declared.mach.rows.CommandRow.{CommandRow}
use Rattle.image_read.specs.declared.mach.rows.SymtabRow.{SymtabRow}
use Rattle.image_read.specs.declared.mach.rows.SectionNumbers.{SectionNumbers}
use Rattle.image_read.specs.declared.mach.rows.SymbolNumbers.{SymbolNumbers}
use Rattle.image_read.specs.declared.mach.commands.Commands.{Commands}
use Rattle.image_read.specs.declared.mach.sections.SectionTable.{SectionTable}
use Rattle.image_read.specs.declared.mach.symbols.MachSymbolTable.{MachSymbolTable}
use Rattle.image_read.specs.declared.mach.read.MachParts.{MachParts}

-- the header is that of a little-endian 64-bit object, and the load commands lie in the file: mach_header_64
pub record HasMachHeader (b : List ℕ) : Type 0 where
  pub header : 32 ≤ length b
  pub magic : (mach_header_of b).magic ≡ 0xcf ∷ 0xfa ∷ 0xed ∷ 0xfe ∷ []
  pub kind : (mach_header_of b).filetype ≡ 1
  pub area : commands_end b ≤ length b

-- -- load commands

-- the start of a command that was read is this one
pub record SameCommand (row : CommandRow) (r : LoadCommand) : Type 0 where
  pub cmd : row.cmd ≡ r.cmd
  pub cmdsize : row.cmdsize ≡ r.cmdsize

-- the command at place p has room for what is read of it
pub record HasRoom (b : List ℕ) (p : ℕ) : Type 0 where
  pub segment : (command_at b p).cmd ≡ 0x19 → 72 + 80 * (segment_at b p).nsects ≤ (command_at b p).cmdsize
  pub symtab : (command_at b p).cmd ≡ 2 → 24 ≤ (command_at b p).cmdsize
  pub version : (command_at b p).cmd ≡ 0x32 → 24 ≤ (command_at b p).cmdsize

-- the command at place p meets its conditions
pub record IsCommandAt (b : List ℕ) (p : ℕ) : Type 0 where
  pub size : 8 ≤ (command_at b p).cmdsize
  pub inside : p + (command_at b p).cmdsize ≤ commands_end b
  pub room : HasRoom b p

-- where the first of the first n commands with this number begins
abbrev pub place_before : List ℕ → ℕ → ℕ → Option ℕ
place_before b cmd n = option_map (command_place b) (find (λ k. (command b k).cmd == cmd) (range_with_len 0 n))

-- at most one of the first n commands has this number
pub record IsOnlyBelow (b : List ℕ) (cmd n : ℕ) : Type 0 where
  pub only : (j k : ℕ) → j < n → k < n → (command b j).cmd ≡ cmd → (command b k).cmd ≡ cmd → j ≡ k

-- at most one command has this number
abbrev pub IsOnly : List ℕ → ℕ → Type 0
IsOnly b cmd = IsOnlyBelow b cmd (mach_header_of b).ncmds

-- a command of this number begins at place p, and lies in the file
pub record IsFound (b : List ℕ) (cmd p : ℕ) : Type 0 where
  pub command : IsCommandAt b p
  pub inside : p + (command_at b p).cmdsize ≤ length b
  pub number : (command_at b p).cmd ≡ cmd

-- the first command of this number begins there, where there is one
pub record IsPlaceOf (b : List ℕ) (cmd : ℕ) (place : Option ℕ) : Type 0 where
  pub place_is : place ≡ place_of_command b cmd
  pub found : IfSome place (IsFound b cmd)

-- the first n commands end at p, and at most one has this number, which begins at the place
pub record IsWalked (b : List ℕ) (cmd n p : ℕ) (place : Option ℕ) : Type 0 where
  pub at : p ≡ command_place b n
  pub place_is : place ≡ place_before b cmd n
  pub found : IfSome place (IsFound b cmd)
  pub only : IsOnlyBelow b cmd n

-- each command meets its conditions, and none that is read stands twice
pub record AreSoundCommands (b : List ℕ) : Type 0 where
  pub each : EachRow (IsCommand b) 0 (mach_header_of b).ncmds
  pub segment : IsOnly b 0x19
  pub symtab : IsOnly b 2
  pub build_version : IsOnly b 0x32

-- these are the commands that are read
pub record AreCommands (b : List ℕ) (c : Commands) : Type 0 where
  pub sound : AreSoundCommands b
  pub segment : IsPlaceOf b 0x19 c.segment
  pub symtab : IsPlaceOf b 2 c.symtab
  pub build_version : IsPlaceOf b 0x32 c.build_version

-- -- sections

-- the numbers of a section header that was read are this row's
pub record SameMachSection (row : SectionNumbers) (r : MachSectionRow) : Type 0 where
  pub address : row.address ≡ r.address
  pub size : row.size ≡ r.size
  pub offset : row.offset ≡ r.offset
  pub align : row.align ≡ r.align
  pub reloff : row.reloff ≡ r.reloff
  pub nreloc : row.nreloc ≡ r.nreloc
  pub flags : row.flags ≡ r.flags

-- the headers of the sections stand in the command of this segment
pub record IsSectionTable (b : List ℕ) (t : SectionTable) : Type 0 where
  pub segment : t.segment ≡ unwrap_or (place_of_command b 0x19) 0
  pub count : t.count ≡ section_count b
  pub inside : 1 ≤ t.count → t.segment + 72 + 80 * t.count ≤ length b

-- section k meets its conditions
pub record IsSoundMachSection (b : List ℕ) (k : ℕ) : Type 0 where
  pub section : IsMachSection b (mach_section_row b k)

-- record m of those at this place
abbrev pub record_at : List ℕ → ℕ → ℕ → MachRelocationRow
record_at b reloff m = mach_relocation_row_at b (reloff + 8 * m)

-- it meets its conditions
pub record IsSoundRecord (b : List ℕ) (reloff m : ℕ) : Type 0 where
  pub sound : IsMachRelocation b (record_at b reloff m)

-- a section that has bytes in the file lies in it
pub record IsMachPlaced (row : SectionNumbers) (len : ℕ) : Type 0 where
  pub inside : IsTrue (not (row.flags % 256 == 1 || row.flags % 256 == 0xc || row.flags % 256 == 0x12)) → row.offset + row.size ≤ len

-- the bytes of a section in the file, by a header that was read
abbrev pub mach_stored_row : List ℕ → SectionNumbers → List ℕ
mach_stored_row b row = if not (row.flags % 256 == 1 || row.flags % 256 == 0xc || row.flags % 256 == 0x12) then bytes_at b row.offset row.size else []

-- a section by a header that was read
abbrev pub mach_section_with : SectionNumbers → List ℕ → List ℕ → List ℕ → List MachRelocationRow → MachSectionData
mach_section_with row segment name contents relocations =
    record {
      segment = segment;
      name = name;
      address = row.address;
      size = row.size;
      align = row.align;
      flags = row.flags;
      contents = contents;
      relocations = relocations;
    }

-- -- symbols

-- the places of symbols that were read are these
pub record SameSymtab (row : SymtabRow) (r : MachSymtab) : Type 0 where
  pub symoff : row.symoff ≡ r.symoff
  pub nsyms : row.nsyms ≡ r.nsyms
  pub stroff : row.stroff ≡ r.stroff
  pub strsize : row.strsize ≡ r.strsize

-- a symbol that was read is this row
pub record SameMachSymbol (row : SymbolNumbers) (r : MachSymbolRow) : Type 0 where
  pub strx : row.strx ≡ r.strx
  pub n_type : row.n_type ≡ r.n_type
  pub sect : row.sect ≡ r.sect
  pub desc : row.desc ≡ r.desc
  pub value : row.value ≡ r.value

-- the symbols and the strings lie in the file
pub record AreSymbolsInside (b : List ℕ) : Type 0 where
  pub symbols : (symtab_of b).symoff + 16 * (symtab_of b).nsyms ≤ length b
  pub strings : (symtab_of b).stroff + (symtab_of b).strsize ≤ length b

-- the symbols stand there, and these are their strings
pub record IsMachTable (b : List ℕ) (t : MachSymbolTable) : Type 0 where
  pub inside : AreSymbolsInside b
  pub offset : t.offset ≡ (symtab_of b).symoff
  pub count : t.count ≡ (symtab_of b).nsyms
  pub strings : t.strings.now ≡ bytes_at b (symtab_of b).stroff (symtab_of b).strsize

-- -- the image

-- an image with the numbers of the file's header, and these rows
abbrev pub mach_image_with : List ℕ → Option (ℕ × ℕ × ℕ) → List MachSectionData → List MachSymbolData → MachImageData
mach_image_with b version sections symbols =
    record {
      cputype = (mach_header_of b).cputype;
      cpusubtype = (mach_header_of b).cpusubtype;
      flags = (mach_header_of b).flags;
      build_version = version;
      sections = sections;
      symbols = symbols;
    }

-- the parts of a file that has an image
pub record AreParts (b : List ℕ) (p : MachParts) : Type 0 where
  pub file : IsMach b
  pub sections : IsSectionTable b p.sections
  pub symbols : IsMachTable b p.symbols
  pub build_version : IsPlaceOf b 0x32 p.build_version
