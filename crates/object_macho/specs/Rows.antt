-- The rows of an object's file by the numbers that are counted beside it.
use Rattle.std.specs.Prelude.{◌≡◌, ℕ, ◌+◌, ◌-◌, ◌*◌, ◌^◌, ◌<◌, ◌≤◌, ◌⊎◌, true, [], ◌∷◌, List, ◌++◌, length, map, replicate, take, drop, slice_get, Some}
use Rattle.ir_core.specs.MachO.{is_in_field, is_in_record, stored_number, is_within}
use Rattle.std.specs.Int.{trailing_zeros, w64}
use Rattle.byte_core.specs.Strings.{zero_filled}
use Rattle.object_core.specs.declared.symbol.Symbol.{Symbol}
use Rattle.object_core.specs.declared.relocation.Relocation.{Relocation}
use Rattle.object_core.specs.LinkTable.{MachRelocation, MachTableSection}
use Rattle.object_core.specs.Object.{SectionBody, SymbolData}
use Rattle.object_core.specs.WellFormed.{AreApart}
use Rattle.object_core.specs.MachRows.{mach_type, mach_desc, mach_type_of, mach_pcrel_of, mach_length_of, mach_relocation}
use Rattle.object_macho.specs.declared.records.Record.{Record}
use Rattle.image_read.specs.MachFile.{MachHeader, MachSegment, MachSectionRow, MachSymbolRow, MachRelocationRow}

-- a header with these commands
abbrev pub header_with : ℕ → ℕ → ℕ → ℕ → MachHeader
header_with cputype cpusubtype ncmds sizeofcmds =
    record {
      magic = 0xcf ∷ 0xfa ∷ 0xed ∷ 0xfe ∷ [];
      cputype = cputype;
      cpusubtype = cpusubtype;
      filetype = 1;
      ncmds = ncmds;
      sizeofcmds = sizeofcmds;
      flags = 0x2000;
      reserved = 0;
    }

-- a segment of this size in memory, whose contents stand here in the file
abbrev pub segment_with : ℕ → ℕ → ℕ → ℕ → MachSegment
segment_with vmsize fileoff filesize nsects = record { name = replicate 16 0; vmaddr = 0; vmsize = vmsize; fileoff = fileoff; filesize = filesize; maxprot = 7; initprot = 7; nsects = nsects; flags = 0 }

-- a section of these names, at this address, whose contents and records stand here
abbrev pub section_with : List ℕ → List ℕ → SectionBody → ℕ → ℕ → ℕ → ℕ → MachSectionRow
section_with segment name s address offset reloff nreloc =
    record {
      name = zero_filled 16 name;
      segment = zero_filled 16 segment;
      address = address;
      size = s.size;
      offset = offset;
      align = trailing_zeros w64 s.align;
      reloff = reloff;
      nreloc = nreloc;
      flags = s.macho_flags;
      reserved1 = 0;
      reserved2 = 0;
      reserved3 = 0;
    }

-- a symbol whose name stands here
abbrev pub symbol_with : ℕ → Symbol → ℕ → ℕ → MachSymbolRow
symbol_with strx s sect value = record { strx = strx; n_type = mach_type s; sect = sect; desc = mach_desc s; value = value }

abbrev pub record_view : Record → MachRelocationRow
record_view r = record { address = r.address; symbolnum = r.symbolnum; pcrel = r.pcrel; length = r.length; is_extern = r.is_extern; r_type = r.r_type }

-- a relocation whose symbol has this row
abbrev pub relocation_with : ℕ → Relocation → MachRelocation
relocation_with row r = record { offset = r.offset; symbol = row; r_type = mach_type_of r.flags; pcrel = mach_pcrel_of r.flags; length = mach_length_of r.flags; addend = r.addend }

-- -- fields

-- a list with these bytes over its own from a place on
abbrev pub put_over : List ℕ → ℕ → List ℕ → List ℕ
put_over old at bytes = take at old ++ (bytes ++ drop (at + length bytes) old)

-- the field of a relocation lies in contents of this size, and its number has room where it is kept
pub record FitsField (cputype size : ℕ) (r : Relocation) : Type 0 where
  pub length : (mach_length_of r.flags ≡ 2) ⊎ (mach_length_of r.flags ≡ 3)
  pub inside : r.offset + 2 ^ mach_length_of r.flags ≤ size
  pub room : is_in_field cputype (mach_type_of r.flags) ≡ true → is_within (2 ^ (8 * 2 ^ mach_length_of r.flags - 1)) (stored_number (mach_pcrel_of r.flags) r.addend) ≡ true

abbrev pub FitFields : ℕ → ℕ → List Relocation → Type 0
FitFields cputype size rs = (k : ℕ) (r : Relocation) → slice_get rs k ≡ Some r → FitsField cputype size r

-- no two fields share a byte
abbrev pub FieldsApart : List Relocation → Type 0
FieldsApart rs = (m n : ℕ) (r q : Relocation) → m < n → slice_get rs m ≡ Some r → slice_get rs n ≡ Some q → AreApart r q

-- the section of a table with these contents and relocations
pub record IsRowOf (contents : List ℕ) (relocations : List Relocation) (symbols : List SymbolData) (s : MachTableSection) : Type 0 where
  pub bytes : s.contents ≡ contents
  pub records : s.relocations ≡ map (mach_relocation symbols) relocations

-- the numbers of a relocation have room in its records
pub record FitsRecords (cputype : ℕ) (r : Relocation) : Type 0 where
  pub offset : r.offset < 2 ^ 32
  pub length : mach_length_of r.flags < 4
  pub r_type : mach_type_of r.flags < 16
  pub addend : is_in_record cputype (mach_type_of r.flags) ≡ true → is_within (2 ^ 23) r.addend ≡ true
