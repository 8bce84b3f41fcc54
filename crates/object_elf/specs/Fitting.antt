-- Which link tables an ELF file can hold.
use Rattle.std.specs.Prelude.{◌≡◌, ℕ, ◌+◌, ◌^◌, ◌<◌, ◌≤◌, ◌==◌, ◌⊎◌, false, List, length, slice_get, Some, FitsSigned}
use Rattle.std.specs.List.{list_any, All}
use Rattle.std.specs.Int.{w64}
use Rattle.byte_core.specs.Strings.{strings_size}
use Rattle.object_core.specs.LinkTable.{ElfTable, ElfTableSection, ElfTableSymbol, ElfRelocation}
use Rattle.object_elf.specs.Layout.{parts_of, section_names, symbol_names, file_length}

-- no byte of the text is zero
abbrev pub IsText : List ℕ → Type 0
IsText name = list_any (λ x. x == 0) name ≡ false

-- contents that are in the file, or zeros that are not: SHT_PROGBITS 1, SHT_NOBITS 8
abbrev pub HasContents : ElfTableSection → Type 0
HasContents s = ((s.sh_type ≡ 1) × (s.size ≡ length s.contents)) ⊎ ((s.sh_type ≡ 8) × (length s.contents ≡ 0))

pub record FitsRelocation (t : ElfTable) (r : ElfRelocation) : Type 0 where
  pub offset : r.offset < 2 ^ 64
  pub symbol : r.symbol ≤ length t.symbols
  pub r_type : r.r_type < 2 ^ 32
  pub addend : FitsSigned w64 r.addend

pub record FitsSection (t : ElfTable) (s : ElfTableSection) : Type 0 where
  pub name : IsText s.name
  pub contents : HasContents s
  pub flags : s.flags < 2 ^ 64
  pub align : s.align < 2 ^ 64
  pub size : s.size < 2 ^ 64
  pub relocations : (m : ℕ) (r : ElfRelocation) → slice_get s.relocations m ≡ Some r → FitsRelocation t r

pub record FitsSymbol (t : ElfTable) (s : ElfTableSymbol) : Type 0 where
  pub name : IsText s.name
  pub info : s.info < 2 ^ 8
  pub other : s.other < 2 ^ 8
  pub section : (s.shndx ≤ length t.sections) ⊎ (s.shndx ≡ 0xfff1)
  pub value : s.value < 2 ^ 64
  pub size : s.size < 2 ^ 64

-- each number has room in its field, each place is one of the file, and no limit is reached
pub record FitsElf (t : ElfTable) : Type 0 where
  pub machine : t.machine < 2 ^ 16
  pub flags : t.flags < 2 ^ 32
  pub sections : (k : ℕ) (s : ElfTableSection) → slice_get t.sections k ≡ Some s → FitsSection t s
  pub symbols : (k : ℕ) (s : ElfTableSymbol) → slice_get t.symbols k ≡ Some s → FitsSymbol t s
  pub locals : t.locals ≤ length t.symbols + 1
  pub section_count : length (parts_of t) + 1 < 65280
  pub symbol_count : length t.symbols + 1 < 2 ^ 32
  pub symbol_names_size : strings_size (symbol_names t) < 2 ^ 32
  pub section_names_size : strings_size (section_names t) < 2 ^ 32
  pub file : file_length t < 2 ^ 64

-- the contents and the names of a table are bytes
pub record IsOfBytes (t : ElfTable) : Type 0 where
  pub contents : All (λ (s : ElfTableSection). All (λ x. x < 256) s.contents) t.sections
  pub section_names : All (λ (s : ElfTableSection). All (λ x. x < 256) s.name) t.sections
  pub symbol_names : All (λ (s : ElfTableSymbol). All (λ x. x < 256) s.name) t.symbols
