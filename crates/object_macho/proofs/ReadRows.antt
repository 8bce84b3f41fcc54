-- The rows of a file, read where they were written.
use Rattle.std.proofs.Common.{◌≡◌, ℕ, ◌+◌, ◌-◌, ◌*◌, ◌/◌, ◌%◌, ◌^◌, ◌<◌, ◌≤◌, ◌==◌, Bool, true, false, List, [], ◌∷◌, ◌++◌, length, replicate, refl, arith, add-zero, length-append}
use Rattle.std.proofs.lemmas.List.{length-replicate}
use Rattle.byte_core.specs.Strings.{zero_filled}
use Rattle.byte_core.specs.Fields.{field_bytes}
use Rattle.byte_core.proofs.Standing.{StandsAt, stands_left, stands_right, bytes_stand, field_number, length-field_bytes}
use Rattle.image_read.specs.MachFile.{MachHeader, mach_header_of, LoadCommand, command_at, MachSegment, segment_at, MachSectionRow, mach_section_row_at, MachBuildVersion, build_version_at, MachSymtab, symtab_at, MachSymbolRow, mach_symbol_row_at, MachRelocationRow, relocation_of_words, mach_relocation_row_at}
use Rattle.object_macho.specs.File.{field, mach_header_bytes, command_bytes, segment_bytes, mach_section_bytes, build_version_bytes, symtab_bytes, mach_symbol_bytes, bit, record_word, mach_record_bytes}

-- -- the file header

pub record FitsHeader (h : MachHeader) : Type 0 where
  pub magic : length h.magic ≡ 4
  pub cputype : h.cputype < 2 ^ 32
  pub cpusubtype : h.cpusubtype < 2 ^ 32
  pub filetype : h.filetype < 2 ^ 32
  pub ncmds : h.ncmds < 2 ^ 32
  pub sizeofcmds : h.sizeofcmds < 2 ^ 32
  pub flags : h.flags < 2 ^ 32
  pub reserved : h.reserved < 2 ^ 32

pub header_stands : (b : List ℕ) (h : MachHeader) → FitsHeader h → StandsAt b (mach_header_bytes h) 0 → mach_header_of b ≡ h
unfolding mach_header_of
header_stands b h f s =
    let fs = field 4 h.cputype ∷ field 4 h.cpusubtype ∷ field 4 h.filetype ∷ field 4 h.ncmds ∷ field 4 h.sizeofcmds ∷ field 4 h.flags ∷ field 4 h.reserved ∷ [] in
    let n : 0 + length h.magic ≡ 4 = omega (arith, f.magic) in
    let t = stands_right b h.magic (field_bytes fs) 0 4 s n in
    let magic = bytes_stand b h.magic 0 4 (stands_left b h.magic (field_bytes fs) 0 s) f.magic in
    let cputype = field_number b fs 0 (field 4 h.cputype) 4 4 t refl f.cputype refl in
    let cpusubtype = field_number b fs 1 (field 4 h.cpusubtype) 4 8 t refl f.cpusubtype refl in
    let filetype = field_number b fs 2 (field 4 h.filetype) 4 12 t refl f.filetype refl in
    let ncmds = field_number b fs 3 (field 4 h.ncmds) 4 16 t refl f.ncmds refl in
    let sizeofcmds = field_number b fs 4 (field 4 h.sizeofcmds) 4 20 t refl f.sizeofcmds refl in
    let flags = field_number b fs 5 (field 4 h.flags) 4 24 t refl f.flags refl in
    let reserved = field_number b fs 6 (field 4 h.reserved) 4 28 t refl f.reserved refl in
    rw (magic, cputype, cpusubtype, filetype, ncmds, sizeofcmds, flags, reserved) refl

pub length-header : (h : MachHeader) → length h.magic ≡ 4 → length (mach_header_bytes h) ≡ 32
length-header h e =
    let fs = field 4 h.cputype ∷ field 4 h.cpusubtype ∷ field 4 h.filetype ∷ field 4 h.ncmds ∷ field 4 h.sizeofcmds ∷ field 4 h.flags ∷ field 4 h.reserved ∷ [] in
    omega (arith, length-append h.magic (field_bytes fs), length-field_bytes fs, e)

-- -- load commands

pub command_stands : (b : List ℕ) (c : LoadCommand) (p : ℕ) → c.cmd < 2 ^ 32 → c.cmdsize < 2 ^ 32 → StandsAt b (command_bytes c) p → command_at b p ≡ c
unfolding command_at
command_stands b c p small short s =
    let fs = field 4 c.cmd ∷ field 4 c.cmdsize ∷ [] in
    rw (field_number b fs 0 (field 4 c.cmd) p p s refl small (add-zero p), field_number b fs 1 (field 4 c.cmdsize) p (p + 4) s refl short refl) refl

pub length-command : (c : LoadCommand) → length (command_bytes c) ≡ 8
length-command c = length-field_bytes (field 4 c.cmd ∷ field 4 c.cmdsize ∷ [])

pub record FitsSegment (s : MachSegment) : Type 0 where
  pub name : length s.name ≡ 16
  pub vmaddr : s.vmaddr < 2 ^ 64
  pub vmsize : s.vmsize < 2 ^ 64
  pub fileoff : s.fileoff < 2 ^ 64
  pub filesize : s.filesize < 2 ^ 64
  pub maxprot : s.maxprot < 2 ^ 32
  pub initprot : s.initprot < 2 ^ 32
  pub nsects : s.nsects < 2 ^ 32
  pub flags : s.flags < 2 ^ 32

-- a segment behind the number and the size of its command
pub segment_stands : (b : List ℕ) (s : MachSegment) (p q : ℕ) → FitsSegment s → p + 8 ≡ q → StandsAt b (segment_bytes s) q → segment_at b p ≡ s
unfolding segment_at
segment_stands b s p q f e h =
    let fs = field 8 s.vmaddr ∷ field 8 s.vmsize ∷ field 8 s.fileoff ∷ field 8 s.filesize ∷ field 4 s.maxprot ∷ field 4 s.initprot ∷ field 4 s.nsects ∷ field 4 s.flags ∷ [] in
    let g : StandsAt b (segment_bytes s) (p + 8) = rw e h in
    let n : p + 8 + length s.name ≡ p + 24 = omega (arith, f.name) in
    let t = stands_right b s.name (field_bytes fs) (p + 8) (p + 24) g n in
    let name = bytes_stand b s.name (p + 8) 16 (stands_left b s.name (field_bytes fs) (p + 8) g) f.name in
    let vmaddr = field_number b fs 0 (field 8 s.vmaddr) (p + 24) (p + 24) t refl f.vmaddr (add-zero (p + 24)) in
    let vmsize = field_number b fs 1 (field 8 s.vmsize) (p + 24) (p + 32) t refl f.vmsize (omega arith) in
    let fileoff = field_number b fs 2 (field 8 s.fileoff) (p + 24) (p + 40) t refl f.fileoff (omega arith) in
    let filesize = field_number b fs 3 (field 8 s.filesize) (p + 24) (p + 48) t refl f.filesize (omega arith) in
    let maxprot = field_number b fs 4 (field 4 s.maxprot) (p + 24) (p + 56) t refl f.maxprot (omega arith) in
    let initprot = field_number b fs 5 (field 4 s.initprot) (p + 24) (p + 60) t refl f.initprot (omega arith) in
    let nsects = field_number b fs 6 (field 4 s.nsects) (p + 24) (p + 64) t refl f.nsects (omega arith) in
    let flags = field_number b fs 7 (field 4 s.flags) (p + 24) (p + 68) t refl f.flags (omega arith) in
    rw (name, vmaddr, vmsize, fileoff, filesize, maxprot, initprot, nsects, flags) refl

pub length-segment : (s : MachSegment) → length s.name ≡ 16 → length (segment_bytes s) ≡ 64
length-segment s e =
    let fs = field 8 s.vmaddr ∷ field 8 s.vmsize ∷ field 8 s.fileoff ∷ field 8 s.filesize ∷ field 4 s.maxprot ∷ field 4 s.initprot ∷ field 4 s.nsects ∷ field 4 s.flags ∷ [] in
    omega (arith, length-append s.name (field_bytes fs), length-field_bytes fs, e)

pub version_stands : (b : List ℕ) (v : MachBuildVersion) (p q : ℕ) → v.platform < 2 ^ 32 → v.minos < 2 ^ 32 → v.sdk < 2 ^ 32 → v.ntools < 2 ^ 32 → p + 8 ≡ q → StandsAt b (build_version_bytes v) q → build_version_at b p ≡ v
unfolding build_version_at
version_stands b v p q f g h i e s =
    let fs = field 4 v.platform ∷ field 4 v.minos ∷ field 4 v.sdk ∷ field 4 v.ntools ∷ [] in
    let t : StandsAt b (build_version_bytes v) (p + 8) = rw e s in
    let platform = field_number b fs 0 (field 4 v.platform) (p + 8) (p + 8) t refl f (add-zero (p + 8)) in
    let minos = field_number b fs 1 (field 4 v.minos) (p + 8) (p + 12) t refl g (omega arith) in
    let sdk = field_number b fs 2 (field 4 v.sdk) (p + 8) (p + 16) t refl h (omega arith) in
    let ntools = field_number b fs 3 (field 4 v.ntools) (p + 8) (p + 20) t refl i (omega arith) in
    rw (platform, minos, sdk, ntools) refl

pub length-version : (v : MachBuildVersion) → length (build_version_bytes v) ≡ 16
length-version v = length-field_bytes (field 4 v.platform ∷ field 4 v.minos ∷ field 4 v.sdk ∷ field 4 v.ntools ∷ [])

pub symtab_stands : (b : List ℕ) (v : MachSymtab) (p q : ℕ) → v.symoff < 2 ^ 32 → v.nsyms < 2 ^ 32 → v.stroff < 2 ^ 32 → v.strsize < 2 ^ 32 → p + 8 ≡ q → StandsAt b (symtab_bytes v) q → symtab_at b p ≡ v
unfolding symtab_at
symtab_stands b v p q f g h i e s =
    let fs = field 4 v.symoff ∷ field 4 v.nsyms ∷ field 4 v.stroff ∷ field 4 v.strsize ∷ [] in
    let t : StandsAt b (symtab_bytes v) (p + 8) = rw e s in
    let symoff = field_number b fs 0 (field 4 v.symoff) (p + 8) (p + 8) t refl f (add-zero (p + 8)) in
    let nsyms = field_number b fs 1 (field 4 v.nsyms) (p + 8) (p + 12) t refl g (omega arith) in
    let stroff = field_number b fs 2 (field 4 v.stroff) (p + 8) (p + 16) t refl h (omega arith) in
    let strsize = field_number b fs 3 (field 4 v.strsize) (p + 8) (p + 20) t refl i (omega arith) in
    rw (symoff, nsyms, stroff, strsize) refl

pub length-symtab : (v : MachSymtab) → length (symtab_bytes v) ≡ 16
length-symtab v = length-field_bytes (field 4 v.symoff ∷ field 4 v.nsyms ∷ field 4 v.stroff ∷ field 4 v.strsize ∷ [])

-- -- a section header

pub length-zero_filled : (name : List ℕ) → length name ≤ 16 → length (zero_filled 16 name) ≡ 16
length-zero_filled name h =
    let z : ℕ = 0 in
    omega (arith, length-append name (replicate (16 - length name) 0), length-replicate (16 - length name) z, h)

pub record FitsSectionRow (r : MachSectionRow) : Type 0 where
  pub name : length r.name ≡ 16
  pub segment : length r.segment ≡ 16
  pub address : r.address < 2 ^ 64
  pub size : r.size < 2 ^ 64
  pub offset : r.offset < 2 ^ 32
  pub align : r.align < 2 ^ 32
  pub reloff : r.reloff < 2 ^ 32
  pub nreloc : r.nreloc < 2 ^ 32
  pub flags : r.flags < 2 ^ 32
  pub reserved1 : r.reserved1 < 2 ^ 32
  pub reserved2 : r.reserved2 < 2 ^ 32
  pub reserved3 : r.reserved3 < 2 ^ 32

pub section_row_stands : (b : List ℕ) (r : MachSectionRow) (p : ℕ) → FitsSectionRow r → StandsAt b (mach_section_bytes r) p → mach_section_row_at b p ≡ r
unfolding mach_section_row_at
section_row_stands b r p f s =
    let fs = field 8 r.address ∷ field 8 r.size ∷ field 4 r.offset ∷ field 4 r.align ∷ field 4 r.reloff ∷ field 4 r.nreloc ∷ field 4 r.flags ∷ field 4 r.reserved1 ∷ field 4 r.reserved2 ∷ field 4 r.reserved3 ∷ [] in
    let second = stands_right b r.name (r.segment ++ field_bytes fs) p (p + 16) s (omega (arith, f.name)) in
    let t = stands_right b r.segment (field_bytes fs) (p + 16) (p + 32) second (omega (arith, f.segment)) in
    let name = bytes_stand b r.name p 16 (stands_left b r.name (r.segment ++ field_bytes fs) p s) f.name in
    let segment = bytes_stand b r.segment (p + 16) 16 (stands_left b r.segment (field_bytes fs) (p + 16) second) f.segment in
    let address = field_number b fs 0 (field 8 r.address) (p + 32) (p + 32) t refl f.address (add-zero (p + 32)) in
    let size = field_number b fs 1 (field 8 r.size) (p + 32) (p + 40) t refl f.size (omega arith) in
    let offset = field_number b fs 2 (field 4 r.offset) (p + 32) (p + 48) t refl f.offset (omega arith) in
    let align = field_number b fs 3 (field 4 r.align) (p + 32) (p + 52) t refl f.align (omega arith) in
    let reloff = field_number b fs 4 (field 4 r.reloff) (p + 32) (p + 56) t refl f.reloff (omega arith) in
    let nreloc = field_number b fs 5 (field 4 r.nreloc) (p + 32) (p + 60) t refl f.nreloc (omega arith) in
    let flags = field_number b fs 6 (field 4 r.flags) (p + 32) (p + 64) t refl f.flags (omega arith) in
    let reserved1 = field_number b fs 7 (field 4 r.reserved1) (p + 32) (p + 68) t refl f.reserved1 (omega arith) in
    let reserved2 = field_number b fs 8 (field 4 r.reserved2) (p + 32) (p + 72) t refl f.reserved2 (omega arith) in
    let reserved3 = field_number b fs 9 (field 4 r.reserved3) (p + 32) (p + 76) t refl f.reserved3 (omega arith) in
    rw (name, segment, address, size, offset, align, reloff, nreloc, flags, reserved1, reserved2, reserved3) refl

pub length-section_row : (r : MachSectionRow) → length r.name ≡ 16 → length r.segment ≡ 16 → length (mach_section_bytes r) ≡ 80
length-section_row r e g =
    let fs = field 8 r.address ∷ field 8 r.size ∷ field 4 r.offset ∷ field 4 r.align ∷ field 4 r.reloff ∷ field 4 r.nreloc ∷ field 4 r.flags ∷ field 4 r.reserved1 ∷ field 4 r.reserved2 ∷ field 4 r.reserved3 ∷ [] in
    omega (arith, length-append r.name (r.segment ++ field_bytes fs), length-append r.segment (field_bytes fs), length-field_bytes fs, e, g)

-- -- a symbol

pub record FitsSymbolRow (r : MachSymbolRow) : Type 0 where
  pub strx : r.strx < 2 ^ 32
  pub n_type : r.n_type < 2 ^ 8
  pub sect : r.sect < 2 ^ 8
  pub desc : r.desc < 2 ^ 16
  pub value : r.value < 2 ^ 64

pub symbol_row_stands : (b : List ℕ) (r : MachSymbolRow) (p : ℕ) → FitsSymbolRow r → StandsAt b (mach_symbol_bytes r) p → mach_symbol_row_at b p ≡ r
unfolding mach_symbol_row_at
symbol_row_stands b r p f s =
    let fs = field 4 r.strx ∷ field 1 r.n_type ∷ field 1 r.sect ∷ field 2 r.desc ∷ field 8 r.value ∷ [] in
    let strx = field_number b fs 0 (field 4 r.strx) p p s refl f.strx (add-zero p) in
    let n_type = field_number b fs 1 (field 1 r.n_type) p (p + 4) s refl f.n_type refl in
    let sect = field_number b fs 2 (field 1 r.sect) p (p + 5) s refl f.sect refl in
    let desc = field_number b fs 3 (field 2 r.desc) p (p + 6) s refl f.desc refl in
    let value = field_number b fs 4 (field 8 r.value) p (p + 8) s refl f.value refl in
    rw (strx, n_type, sect, desc, value) refl

pub length-symbol_row : (r : MachSymbolRow) → length (mach_symbol_bytes r) ≡ 16
length-symbol_row r = length-field_bytes (field 4 r.strx ∷ field 1 r.n_type ∷ field 1 r.sect ∷ field 2 r.desc ∷ field 8 r.value ∷ [])

-- -- a record

is_bit : (b : Bool) → (bit b == 1) ≡ b
is_bit true = refl
is_bit false = refl

bit-lt : (b : Bool) → bit b < 2
bit-lt true = omega arith
bit-lt false = omega arith

-- the fields of a word: 24 bits, one, two, one and four
row_of_word : (s p l e t : ℕ) → s < 2 ^ 24 → p < 2 → l < 4 → e < 2 → (s + (2 ^ 24 * p + (2 ^ 25 * l + (2 ^ 27 * e + 2 ^ 28 * t)))) % 2 ^ 24 ≡ s
row_of_word s p l e t a b c d = omega arith

pcrel_of_word : (s p l e t : ℕ) → s < 2 ^ 24 → p < 2 → l < 4 → e < 2 → (s + (2 ^ 24 * p + (2 ^ 25 * l + (2 ^ 27 * e + 2 ^ 28 * t)))) / 2 ^ 24 % 2 ≡ p
pcrel_of_word s p l e t a b c d = omega arith

length_of_word : (s p l e t : ℕ) → s < 2 ^ 24 → p < 2 → l < 4 → e < 2 → (s + (2 ^ 24 * p + (2 ^ 25 * l + (2 ^ 27 * e + 2 ^ 28 * t)))) / 2 ^ 25 % 4 ≡ l
length_of_word s p l e t a b c d = omega arith

extern_of_word : (s p l e t : ℕ) → s < 2 ^ 24 → p < 2 → l < 4 → e < 2 → (s + (2 ^ 24 * p + (2 ^ 25 * l + (2 ^ 27 * e + 2 ^ 28 * t)))) / 2 ^ 27 % 2 ≡ e
extern_of_word s p l e t a b c d = omega arith

type_of_word : (s p l e t : ℕ) → s < 2 ^ 24 → p < 2 → l < 4 → e < 2 → (s + (2 ^ 24 * p + (2 ^ 25 * l + (2 ^ 27 * e + 2 ^ 28 * t)))) / 2 ^ 28 ≡ t
type_of_word s p l e t a b c d = omega arith

pub record FitsRecord (r : MachRelocationRow) : Type 0 where
  pub address : r.address < 2 ^ 32
  pub symbolnum : r.symbolnum < 2 ^ 24
  pub length : r.length < 4
  pub r_type : r.r_type < 16

-- a record's numbers are read back from its words
word_back : (r : MachRelocationRow) → FitsRecord r → relocation_of_words r.address (record_word r) ≡ r
word_back r f =
    let p = bit-lt r.pcrel in
    let e = bit-lt r.is_extern in
    rw (
      row_of_word r.symbolnum (bit r.pcrel) r.length (bit r.is_extern) r.r_type f.symbolnum p f.length e,
      pcrel_of_word r.symbolnum (bit r.pcrel) r.length (bit r.is_extern) r.r_type f.symbolnum p f.length e,
      length_of_word r.symbolnum (bit r.pcrel) r.length (bit r.is_extern) r.r_type f.symbolnum p f.length e,
      extern_of_word r.symbolnum (bit r.pcrel) r.length (bit r.is_extern) r.r_type f.symbolnum p f.length e,
      type_of_word r.symbolnum (bit r.pcrel) r.length (bit r.is_extern) r.r_type f.symbolnum p f.length e,
      is_bit r.pcrel,
      is_bit r.is_extern,
    ) refl

word_fits : (r : MachRelocationRow) → FitsRecord r → record_word r < 2 ^ 32
word_fits r f = omega (arith, bit-lt r.pcrel, bit-lt r.is_extern, f.symbolnum, f.length, f.r_type)

pub record_stands : (b : List ℕ) (r : MachRelocationRow) (p : ℕ) → FitsRecord r → StandsAt b (mach_record_bytes r) p → mach_relocation_row_at b p ≡ r
unfolding mach_relocation_row_at
record_stands b r p f s =
    let fs = field 4 r.address ∷ field 4 (record_word r) ∷ [] in
    rw (field_number b fs 0 (field 4 r.address) p p s refl f.address (add-zero p), field_number b fs 1 (field 4 (record_word r)) p (p + 4) s refl (word_fits r f) refl) (word_back r f)

pub length-record : (r : MachRelocationRow) → length (mach_record_bytes r) ≡ 8
length-record r = length-field_bytes (field 4 r.address ∷ field 4 (record_word r) ∷ [])
