-- The rows of a file, read where they were written.
use Rattle.std.proofs.Common.{◌≡◌, ℕ, ◌+◌, ◌^◌, ◌<◌, List, length, refl, arith, add-zero}
use Rattle.std.specs.Prelude.{ℤ, pos, negsuc, FitsSigned}
use Rattle.std.specs.Int.{cast_unsigned, w64}
use Rattle.std.proofs.lemmas.Int.{to_z-of_z}
use Rattle.byte_core.specs.Fields.{field_bytes}
use Rattle.byte_core.proofs.Standing.{StandsAt, stands_left, stands_right, bytes_stand, field_number, length-field_bytes}
use Rattle.image_read.specs.ElfFile.{ElfHeader, header_of, ElfSectionRow, section_row_at, ElfSymbolRow, symbol_row_at, ElfRelocationRow, relocation_row_at}
use Rattle.object_elf.specs.File.{field, header_fields, header_bytes, section_row_fields, section_row_bytes, symbol_row_fields, symbol_row_bytes, relocation_row_fields, relocation_row_bytes}

-- ---- the file header

pub record FitsHeader (h : ElfHeader) : Type 0 where
  pub ident : length h.ident ≡ 16
  pub e_type : h.e_type < 2 ^ 16
  pub machine : h.machine < 2 ^ 16
  pub version : h.version < 2 ^ 32
  pub entry : h.entry < 2 ^ 64
  pub phoff : h.phoff < 2 ^ 64
  pub shoff : h.shoff < 2 ^ 64
  pub flags : h.flags < 2 ^ 32
  pub ehsize : h.ehsize < 2 ^ 16
  pub phentsize : h.phentsize < 2 ^ 16
  pub phnum : h.phnum < 2 ^ 16
  pub shentsize : h.shentsize < 2 ^ 16
  pub shnum : h.shnum < 2 ^ 16
  pub shstrndx : h.shstrndx < 2 ^ 16

pub header_stands : (b : List ℕ) (h : ElfHeader) → FitsHeader h → StandsAt b (header_bytes h) 0 → header_of b ≡ h
unfolding header_of
header_stands b h f s =
    let fs = header_fields h in
    let n : 0 + length h.ident ≡ 16 = omega (arith, f.ident) in
    let t = stands_right b h.ident (field_bytes fs) 0 16 s n in
    let ident = bytes_stand b h.ident 0 16 (stands_left b h.ident (field_bytes fs) 0 s) f.ident in
    let e_type = field_number b fs 0 (field 2 h.e_type) 16 16 t refl f.e_type refl in
    let machine = field_number b fs 1 (field 2 h.machine) 16 18 t refl f.machine refl in
    let version = field_number b fs 2 (field 4 h.version) 16 20 t refl f.version refl in
    let entry = field_number b fs 3 (field 8 h.entry) 16 24 t refl f.entry refl in
    let phoff = field_number b fs 4 (field 8 h.phoff) 16 32 t refl f.phoff refl in
    let shoff = field_number b fs 5 (field 8 h.shoff) 16 40 t refl f.shoff refl in
    let flags = field_number b fs 6 (field 4 h.flags) 16 48 t refl f.flags refl in
    let ehsize = field_number b fs 7 (field 2 h.ehsize) 16 52 t refl f.ehsize refl in
    let phentsize = field_number b fs 8 (field 2 h.phentsize) 16 54 t refl f.phentsize refl in
    let phnum = field_number b fs 9 (field 2 h.phnum) 16 56 t refl f.phnum refl in
    let shentsize = field_number b fs 10 (field 2 h.shentsize) 16 58 t refl f.shentsize refl in
    let shnum = field_number b fs 11 (field 2 h.shnum) 16 60 t refl f.shnum refl in
    let shstrndx = field_number b fs 12 (field 2 h.shstrndx) 16 62 t refl f.shstrndx refl in
    rw (ident, e_type, machine, version, entry, phoff, shoff, flags, ehsize, phentsize, phnum, shentsize, shnum, shstrndx) refl

-- ---- a section header

pub record FitsSectionRow (r : ElfSectionRow) : Type 0 where
  pub name : r.name < 2 ^ 32
  pub sh_type : r.sh_type < 2 ^ 32
  pub flags : r.flags < 2 ^ 64
  pub address : r.address < 2 ^ 64
  pub offset : r.offset < 2 ^ 64
  pub size : r.size < 2 ^ 64
  pub link : r.link < 2 ^ 32
  pub info : r.info < 2 ^ 32
  pub align : r.align < 2 ^ 64
  pub entsize : r.entsize < 2 ^ 64

pub section_row_stands : (b : List ℕ) (r : ElfSectionRow) (p : ℕ) → FitsSectionRow r → StandsAt b (section_row_bytes r) p → section_row_at b p ≡ r
unfolding section_row_at
section_row_stands b r p f s =
    let fs = section_row_fields r in
    let name = field_number b fs 0 (field 4 r.name) p p s refl f.name (add-zero p) in
    let sh_type = field_number b fs 1 (field 4 r.sh_type) p (p + 4) s refl f.sh_type refl in
    let flags = field_number b fs 2 (field 8 r.flags) p (p + 8) s refl f.flags refl in
    let address = field_number b fs 3 (field 8 r.address) p (p + 16) s refl f.address refl in
    let offset = field_number b fs 4 (field 8 r.offset) p (p + 24) s refl f.offset refl in
    let size = field_number b fs 5 (field 8 r.size) p (p + 32) s refl f.size refl in
    let link = field_number b fs 6 (field 4 r.link) p (p + 40) s refl f.link refl in
    let info = field_number b fs 7 (field 4 r.info) p (p + 44) s refl f.info refl in
    let align = field_number b fs 8 (field 8 r.align) p (p + 48) s refl f.align refl in
    let entsize = field_number b fs 9 (field 8 r.entsize) p (p + 56) s refl f.entsize refl in
    rw (name, sh_type, flags, address, offset, size, link, info, align, entsize) refl

pub length-section_row_bytes : (r : ElfSectionRow) → length (section_row_bytes r) ≡ 64
length-section_row_bytes r = length-field_bytes (section_row_fields r)

-- ---- a symbol

pub record FitsSymbolRow (r : ElfSymbolRow) : Type 0 where
  pub name : r.name < 2 ^ 32
  pub info : r.info < 2 ^ 8
  pub other : r.other < 2 ^ 8
  pub shndx : r.shndx < 2 ^ 16
  pub value : r.value < 2 ^ 64
  pub size : r.size < 2 ^ 64

pub symbol_row_stands : (b : List ℕ) (r : ElfSymbolRow) (p : ℕ) → FitsSymbolRow r → StandsAt b (symbol_row_bytes r) p → symbol_row_at b p ≡ r
unfolding symbol_row_at
symbol_row_stands b r p f s =
    let fs = symbol_row_fields r in
    let name = field_number b fs 0 (field 4 r.name) p p s refl f.name (add-zero p) in
    let info = field_number b fs 1 (field 1 r.info) p (p + 4) s refl f.info refl in
    let other = field_number b fs 2 (field 1 r.other) p (p + 5) s refl f.other refl in
    let shndx = field_number b fs 3 (field 2 r.shndx) p (p + 6) s refl f.shndx refl in
    let value = field_number b fs 4 (field 8 r.value) p (p + 8) s refl f.value refl in
    let size = field_number b fs 5 (field 8 r.size) p (p + 16) s refl f.size refl in
    rw (name, info, other, shndx, value, size) refl

pub length-symbol_row_bytes : (r : ElfSymbolRow) → length (symbol_row_bytes r) ≡ 24
length-symbol_row_bytes r = length-field_bytes (symbol_row_fields r)

-- ---- a relocation

pub record FitsRelocationRow (r : ElfRelocationRow) : Type 0 where
  pub offset : r.offset < 2 ^ 64
  pub symbol : r.symbol < 2 ^ 32
  pub r_type : r.r_type < 2 ^ 32
  pub addend : FitsSigned w64 r.addend

unsigned_fits : (z : ℤ) → FitsSigned w64 z → cast_unsigned w64 z < 2 ^ 64
unsigned_fits (pos n) f = omega (arith, f.sfits)
unsigned_fits (negsuc n) f = omega (arith, f.sfits)

pub relocation_row_stands : (b : List ℕ) (r : ElfRelocationRow) (p : ℕ) → FitsRelocationRow r → StandsAt b (relocation_row_bytes r) p → relocation_row_at b p ≡ r
unfolding relocation_row_at
relocation_row_stands b r p f s =
    let fs = relocation_row_fields r in
    let offset = field_number b fs 0 (field 8 r.offset) p p s refl f.offset (add-zero p) in
    let r_type = field_number b fs 1 (field 4 r.r_type) p (p + 8) s refl f.r_type refl in
    let symbol = field_number b fs 2 (field 4 r.symbol) p (p + 12) s refl f.symbol refl in
    let addend = field_number b fs 3 (field 8 (cast_unsigned w64 r.addend)) p (p + 16) s refl (unsigned_fits r.addend f.addend) refl in
    rw (offset, r_type, symbol, addend, to_z-of_z w64 r.addend f.addend) refl

pub length-relocation_row_bytes : (r : ElfRelocationRow) → length (relocation_row_bytes r) ≡ 24
length-relocation_row_bytes r = length-field_bytes (relocation_row_fields r)
