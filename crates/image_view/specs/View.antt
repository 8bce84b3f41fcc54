-- What placing and linking see of an object, whatever its format: symbols and sections, addresses as the file stores them.
use Rattle.std.specs.Prelude.{ℕ, ◌-◌, ◌/◌, ◌%◌, ◌==◌, ◌&&◌, nat_lt, nat_le, not, ℤ, pos, ◌-ℤ◌, Bool, true, false, List, [], ◌∷◌, length, map, replicate, Option, Some, None, unwrap_or, if◌then◌else◌}
use Rattle.std.specs.Int.{cast_signed, w32, w64}
use Rattle.byte_core.specs.Number.{number_at, where_inside}
use Rattle.image_read.specs.ElfFile.{ElfRelocationRow}
use Rattle.image_read.specs.ElfImage.{ElfImageData, ElfSectionData, ElfSymbolData}
use Rattle.image_read.specs.MachFile.{MachRelocationRow, lies_in_section}
use Rattle.image_read.specs.MachImage.{MachImageData, MachSectionData, MachSymbolData}
use Rattle.image_read.specs.declared.image.Image.{Image}
use Rattle.image_read.specs.declared.image.Image.TheVariants.{Elf, Mach, Fat}
use Rattle.image_view.specs.declared.kind.FixKind.{FixKind}
use Rattle.image_view.specs.declared.kind.FixKind.TheVariants.{Absolute8 as absolute8, Absolute4 as absolute4, Relative4 as relative4}
-- a relocation: its offset in the section, its symbol's row, its kind if it is one that is applied, its number, its addend
use Rattle.image_view.specs.declared.view.ViewReloc.{ViewReloc}

-- A symbol: its name as it is compared, the number of its section, from 0, if it lies in one, its address, and its size, which
-- Mach-O doesn't store: 0 there.
pub record ViewSymbol : Type 0 where
  pub name : List ℕ
  pub section : Option ℕ
  pub address : ℕ
  pub size : ℕ
  pub is_local : Bool
  pub is_label : Bool

-- a section: the address where it begins, its bytes, and its relocations in order
pub record ViewSection : Type 0 where
  pub start : ℕ
  pub size : ℕ
  pub bytes : List ℕ
  pub relocations : List ViewReloc

pub record View : Type 0 where
  pub is_elf : Bool
  pub sections : List ViewSection
  pub symbols : List ViewSymbol

-- a section without contents has zeros
abbrev pub filled : ℕ → List ℕ → List ℕ
filled size [] = replicate size 0
filled size (x ∷ xs) = x ∷ xs

-- a section with these bytes in the file
abbrev pub section_with : ℕ → ℕ → List ℕ → List ViewReloc → ViewSection
section_with start size contents relocations = record { start = start; size = size; bytes = filled size contents; relocations = relocations }

abbrev pub view_with : Bool → List ViewSection → List ViewSymbol → View
view_with is_elf sections symbols = record { is_elf = is_elf; sections = sections; symbols = symbols }

-- -- ELF: R_X86_64_64 1, R_X86_64_PC32 2, R_X86_64_32 10

abbrev pub elf_kind : ℕ → Option FixKind
elf_kind r_type = if r_type == 1 then Some absolute8 else if r_type == 10 then Some absolute4 else if r_type == 2 then Some relative4 else None

abbrev pub elf_view_reloc : ElfRelocationRow → ViewReloc
elf_view_reloc r = record { offset = r.offset; symbol = r.symbol; kind = elf_kind r.r_type; number = r.r_type; addend = r.addend }

abbrev pub elf_view_section : ElfSectionData → ViewSection
elf_view_section s = record { start = 0; size = s.size; bytes = filled s.size s.contents; relocations = map elf_view_reloc s.relocations }

-- the section from 0 that a symbol of a file with so many sections lies in; row 0 of the file is none
abbrev pub elf_place : ℕ → ℕ → Option ℕ
elf_place count shndx = if nat_le 1 shndx && nat_le shndx count && nat_lt shndx 0xff00 then Some (shndx - 1) else None

abbrev pub is_inside : Option ℕ → Bool
is_inside None = false
is_inside (Some k) = true

-- a symbol is local by STB_LOCAL 0, and a label where it is local, has STT_NOTYPE 0 and lies in a section
abbrev pub elf_view_symbol : ℕ → ElfSymbolData → ViewSymbol
elf_view_symbol count s =
    record {
      name = s.name;
      section = elf_place count s.shndx;
      address = s.value;
      size = s.size;
      is_local = s.info / 16 == 0;
      is_label = is_inside (elf_place count s.shndx) && s.info / 16 == 0 && s.info % 16 == 0;
    }

-- the null row is undefined, under the empty name
abbrev pub null_symbol : ViewSymbol
null_symbol = record { name = []; section = None; address = 0; size = 0; is_local = true; is_label = false }

unfoldable pub elf_view : ElfImageData → View
elf_view image = record { is_elf = true; sections = map elf_view_section image.sections; symbols = null_symbol ∷ map (elf_view_symbol (length image.sections)) image.symbols }

-- -- Mach-O: X86_64_RELOC_UNSIGNED 0, X86_64_RELOC_SIGNED 1

abbrev pub mach_kind : MachRelocationRow → Option FixKind
mach_kind r =
    if not r.is_extern then None
    else if r.r_type == 0 && not r.pcrel && r.length == 3 then Some absolute8
    else if r.r_type == 0 && not r.pcrel && r.length == 2 then Some absolute4
    else if r.r_type == 1 && r.pcrel && r.length == 2 then Some relative4
    else None

-- the number in a field of so many bytes, 0 where the file has none there
abbrev pub field_number : List ℕ → ℕ → ℕ → ℕ
field_number contents offset width = unwrap_or (where_inside contents offset width (number_at contents offset width)) 0

-- the addend that a field keeps: its number with its sign, which counts from the field's end where it is relative
abbrev pub field_addend : List ℕ → ℕ → Option FixKind → ℤ
field_addend contents offset None = pos 0
field_addend contents offset (Some absolute8) = cast_signed w64 (field_number contents offset 8)
field_addend contents offset (Some absolute4) = cast_signed w32 (field_number contents offset 4)
field_addend contents offset (Some relative4) = cast_signed w32 (field_number contents offset 4) -ℤ pos 4

abbrev pub mach_view_reloc : List ℕ → MachRelocationRow → ViewReloc
mach_view_reloc contents r = record { offset = r.address; symbol = r.symbolnum; kind = mach_kind r; number = r.r_type; addend = field_addend contents r.address (mach_kind r) }

abbrev pub mach_view_section : MachSectionData → ViewSection
mach_view_section s = section_with s.address s.size s.contents (map (mach_view_reloc s.contents) s.relocations)

-- a name without its underscore, where it has one
abbrev pub plain_name : List ℕ → List ℕ
plain_name [] = []
plain_name (x ∷ name) = if x == 0x5f then name else x ∷ name

-- the name begins with `.L`
abbrev pub is_label_name : List ℕ → Bool
is_label_name (x ∷ y ∷ name) = x == 0x2e && y == 0x4c
is_label_name _ = false

-- a symbol is local without N_EXT 1, and a label where it is local, lies in a section and begins with `.L`
abbrev pub mach_view_symbol : MachSymbolData → ViewSymbol
mach_view_symbol s =
    record {
      name = plain_name s.name;
      section = if lies_in_section s.n_type then Some (s.sect - 1) else None;
      address = s.value;
      size = 0;
      is_local = s.n_type % 2 == 0;
      is_label = lies_in_section s.n_type && s.n_type % 2 == 0 && is_label_name s.name;
    }

unfoldable pub mach_view : MachImageData → View
mach_view image = record { is_elf = false; sections = map mach_view_section image.sections; symbols = map mach_view_symbol image.symbols }

-- the view of an x86_64 object: EM_X86_64 62, CPU_TYPE_X86_64 0x01000007
abbrev pub view_of : Image → Option View
view_of (Elf image) = if image.machine == 62 then Some (elf_view image) else None
view_of (Mach image) = if image.cputype == 0x01000007 then Some (mach_view image) else None
view_of (Fat image) = None
