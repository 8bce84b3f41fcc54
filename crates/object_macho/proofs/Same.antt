-- What two files agree on, row by row.
use Rattle.std.proofs.Common.{◌≡◌, ℕ, zero, suc, ◌+◌, ◌/◌, ◌%◌, ◌^◌, ◌<◌, ◌≤◌, ◌==◌, List, length, refl, ap, arith}
use Rattle.byte_core.specs.Number.{number_at}
use Rattle.byte_core.proofs.Agreeing.{AreFiles, Agree, agree_none, agree_at, agree_bytes, agree_number}
use Rattle.image_read.specs.MachFile.{MachHeader, mach_header_of, LoadCommand, command_at, MachSegment, segment_at, MachSectionRow, mach_section_row_at, MachBuildVersion, build_version_at, MachSymtab, symtab_at, MachSymbolRow, mach_symbol_row_at, MachRelocationRow, mach_relocation_row_at}

pub agree_header : (b c : List ℕ) → AreFiles b c → 32 ≤ length b → mach_header_of b ≡ mach_header_of c → Agree b c 32
unfolding mach_header_of
agree_header b c f room e =
    let magic = agree_bytes b c 0 4 4 (agree_none b c) (ap (λ (x : MachHeader). x.magic) e) refl in
    let cputype = agree_number b c 4 4 8 f magic (omega (arith, room)) (ap (λ (x : MachHeader). x.cputype) e) refl in
    let cpusubtype = agree_number b c 8 4 12 f cputype (omega (arith, room)) (ap (λ (x : MachHeader). x.cpusubtype) e) refl in
    let filetype = agree_number b c 12 4 16 f cpusubtype (omega (arith, room)) (ap (λ (x : MachHeader). x.filetype) e) refl in
    let ncmds = agree_number b c 16 4 20 f filetype (omega (arith, room)) (ap (λ (x : MachHeader). x.ncmds) e) refl in
    let sizeofcmds = agree_number b c 20 4 24 f ncmds (omega (arith, room)) (ap (λ (x : MachHeader). x.sizeofcmds) e) refl in
    let flags = agree_number b c 24 4 28 f sizeofcmds (omega (arith, room)) (ap (λ (x : MachHeader). x.flags) e) refl in
    agree_number b c 28 4 32 f flags room (ap (λ (x : MachHeader). x.reserved) e) refl

pub agree_command : (b c : List ℕ) (r p q : ℕ) → AreFiles b c → Agree b c p → r + 0 ≡ p → q ≤ length b → command_at b r ≡ command_at c r → p + 8 ≡ q → Agree b c q
unfolding command_at
agree_command b c r p q f a s room e n =
    let start = agree_at b c p r (omega (arith, s)) a in
    let cmd = agree_number b c r 4 (r + 4) f start (omega (arith, room, n, s)) (ap (λ (x : LoadCommand). x.cmd) e) (omega arith) in
    agree_number b c (r + 4) 4 q f cmd room (ap (λ (x : LoadCommand). x.cmdsize) e) (omega (arith, n, s))

pub agree_segment : (b c : List ℕ) (r p q : ℕ) → AreFiles b c → Agree b c p → r + 8 ≡ p → q ≤ length b → segment_at b r ≡ segment_at c r → p + 64 ≡ q → Agree b c q
unfolding segment_at
agree_segment b c r p q f a s room e n =
    let start = agree_at b c p (r + 8) (omega (arith, s)) a in
    let name = agree_bytes b c (r + 8) 16 (r + 24) start (ap (λ (x : MachSegment). x.name) e) (omega arith) in
    let vmaddr = agree_number b c (r + 24) 8 (r + 32) f name (omega (arith, room, n, s)) (ap (λ (x : MachSegment). x.vmaddr) e) (omega arith) in
    let vmsize = agree_number b c (r + 32) 8 (r + 40) f vmaddr (omega (arith, room, n, s)) (ap (λ (x : MachSegment). x.vmsize) e) (omega arith) in
    let fileoff = agree_number b c (r + 40) 8 (r + 48) f vmsize (omega (arith, room, n, s)) (ap (λ (x : MachSegment). x.fileoff) e) (omega arith) in
    let filesize = agree_number b c (r + 48) 8 (r + 56) f fileoff (omega (arith, room, n, s)) (ap (λ (x : MachSegment). x.filesize) e) (omega arith) in
    let maxprot = agree_number b c (r + 56) 4 (r + 60) f filesize (omega (arith, room, n, s)) (ap (λ (x : MachSegment). x.maxprot) e) (omega arith) in
    let initprot = agree_number b c (r + 60) 4 (r + 64) f maxprot (omega (arith, room, n, s)) (ap (λ (x : MachSegment). x.initprot) e) (omega arith) in
    let nsects = agree_number b c (r + 64) 4 (r + 68) f initprot (omega (arith, room, n, s)) (ap (λ (x : MachSegment). x.nsects) e) (omega arith) in
    agree_number b c (r + 68) 4 q f nsects room (ap (λ (x : MachSegment). x.flags) e) (omega (arith, n, s))

pub agree_section : (b c : List ℕ) (r p q : ℕ) → AreFiles b c → Agree b c p → r + 0 ≡ p → q ≤ length b → mach_section_row_at b r ≡ mach_section_row_at c r → p + 80 ≡ q → Agree b c q
unfolding mach_section_row_at
agree_section b c r p q f a s room e n =
    let start = agree_at b c p r (omega (arith, s)) a in
    let name = agree_bytes b c r 16 (r + 16) start (ap (λ (x : MachSectionRow). x.name) e) (omega arith) in
    let segment = agree_bytes b c (r + 16) 16 (r + 32) name (ap (λ (x : MachSectionRow). x.segment) e) (omega arith) in
    let address = agree_number b c (r + 32) 8 (r + 40) f segment (omega (arith, room, n, s)) (ap (λ (x : MachSectionRow). x.address) e) (omega arith) in
    let size = agree_number b c (r + 40) 8 (r + 48) f address (omega (arith, room, n, s)) (ap (λ (x : MachSectionRow). x.size) e) (omega arith) in
    let offset = agree_number b c (r + 48) 4 (r + 52) f size (omega (arith, room, n, s)) (ap (λ (x : MachSectionRow). x.offset) e) (omega arith) in
    let align = agree_number b c (r + 52) 4 (r + 56) f offset (omega (arith, room, n, s)) (ap (λ (x : MachSectionRow). x.align) e) (omega arith) in
    let reloff = agree_number b c (r + 56) 4 (r + 60) f align (omega (arith, room, n, s)) (ap (λ (x : MachSectionRow). x.reloff) e) (omega arith) in
    let nreloc = agree_number b c (r + 60) 4 (r + 64) f reloff (omega (arith, room, n, s)) (ap (λ (x : MachSectionRow). x.nreloc) e) (omega arith) in
    let flags = agree_number b c (r + 64) 4 (r + 68) f nreloc (omega (arith, room, n, s)) (ap (λ (x : MachSectionRow). x.flags) e) (omega arith) in
    let reserved1 = agree_number b c (r + 68) 4 (r + 72) f flags (omega (arith, room, n, s)) (ap (λ (x : MachSectionRow). x.reserved1) e) (omega arith) in
    let reserved2 = agree_number b c (r + 72) 4 (r + 76) f reserved1 (omega (arith, room, n, s)) (ap (λ (x : MachSectionRow). x.reserved2) e) (omega arith) in
    agree_number b c (r + 76) 4 q f reserved2 room (ap (λ (x : MachSectionRow). x.reserved3) e) (omega (arith, n, s))

pub agree_version : (b c : List ℕ) (r p q : ℕ) → AreFiles b c → Agree b c p → r + 8 ≡ p → q ≤ length b → build_version_at b r ≡ build_version_at c r → p + 16 ≡ q → Agree b c q
unfolding build_version_at
agree_version b c r p q f a s room e n =
    let start = agree_at b c p (r + 8) (omega (arith, s)) a in
    let platform = agree_number b c (r + 8) 4 (r + 12) f start (omega (arith, room, n, s)) (ap (λ (x : MachBuildVersion). x.platform) e) (omega arith) in
    let minos = agree_number b c (r + 12) 4 (r + 16) f platform (omega (arith, room, n, s)) (ap (λ (x : MachBuildVersion). x.minos) e) (omega arith) in
    let sdk = agree_number b c (r + 16) 4 (r + 20) f minos (omega (arith, room, n, s)) (ap (λ (x : MachBuildVersion). x.sdk) e) (omega arith) in
    agree_number b c (r + 20) 4 q f sdk room (ap (λ (x : MachBuildVersion). x.ntools) e) (omega (arith, n, s))

pub agree_symtab : (b c : List ℕ) (r p q : ℕ) → AreFiles b c → Agree b c p → r + 8 ≡ p → q ≤ length b → symtab_at b r ≡ symtab_at c r → p + 16 ≡ q → Agree b c q
unfolding symtab_at
agree_symtab b c r p q f a s room e n =
    let start = agree_at b c p (r + 8) (omega (arith, s)) a in
    let symoff = agree_number b c (r + 8) 4 (r + 12) f start (omega (arith, room, n, s)) (ap (λ (x : MachSymtab). x.symoff) e) (omega arith) in
    let nsyms = agree_number b c (r + 12) 4 (r + 16) f symoff (omega (arith, room, n, s)) (ap (λ (x : MachSymtab). x.nsyms) e) (omega arith) in
    let stroff = agree_number b c (r + 16) 4 (r + 20) f nsyms (omega (arith, room, n, s)) (ap (λ (x : MachSymtab). x.stroff) e) (omega arith) in
    agree_number b c (r + 20) 4 q f stroff room (ap (λ (x : MachSymtab). x.strsize) e) (omega (arith, n, s))

pub agree_symbol : (b c : List ℕ) (r p q : ℕ) → AreFiles b c → Agree b c p → r + 0 ≡ p → q ≤ length b → mach_symbol_row_at b r ≡ mach_symbol_row_at c r → p + 16 ≡ q → Agree b c q
unfolding mach_symbol_row_at
agree_symbol b c r p q f a s room e n =
    let start = agree_at b c p r (omega (arith, s)) a in
    let strx = agree_number b c r 4 (r + 4) f start (omega (arith, room, n, s)) (ap (λ (x : MachSymbolRow). x.strx) e) (omega arith) in
    let n_type = agree_number b c (r + 4) 1 (r + 5) f strx (omega (arith, room, n, s)) (ap (λ (x : MachSymbolRow). x.n_type) e) (omega arith) in
    let sect = agree_number b c (r + 5) 1 (r + 6) f n_type (omega (arith, room, n, s)) (ap (λ (x : MachSymbolRow). x.sect) e) (omega arith) in
    let desc = agree_number b c (r + 6) 2 (r + 8) f sect (omega (arith, room, n, s)) (ap (λ (x : MachSymbolRow). x.desc) e) (omega arith) in
    agree_number b c (r + 8) 8 q f desc room (ap (λ (x : MachSymbolRow). x.value) e) (omega (arith, n, s))

-- -- the two words of a record

bit_told : (a b : ℕ) → a < 2 → b < 2 → (a == 1) ≡ (b == 1) → a ≡ b
bit_told zero zero h k e = refl
bit_told zero (suc zero) h k e = absurd (cc)
bit_told (suc zero) zero h k e = absurd (cc)
bit_told (suc zero) (suc zero) h k e = refl
bit_told zero (suc (suc n)) h k e = absurd (omega (arith, k))
bit_told (suc zero) (suc (suc n)) h k e = absurd (omega (arith, k))
bit_told (suc (suc m)) n h k e = absurd (omega (arith, h))

word_told : (m n : ℕ) → m % 2 ^ 24 ≡ n % 2 ^ 24 → (m / 2 ^ 24) % 2 ≡ (n / 2 ^ 24) % 2 → (m / 2 ^ 25) % 4 ≡ (n / 2 ^ 25) % 4 → (m / 2 ^ 27) % 2 ≡ (n / 2 ^ 27) % 2 → m / 2 ^ 28 ≡ n / 2 ^ 28 → m ≡ n
word_told m n a b c d e = omega (arith, a, b, c, d, e)

pub agree_record : (b c : List ℕ) (p q : ℕ) → AreFiles b c → Agree b c p → q ≤ length b → mach_relocation_row_at b p ≡ mach_relocation_row_at c p → p + 8 ≡ q → Agree b c q
unfolding mach_relocation_row_at
agree_record b c p q f a room e n =
    let address = agree_number b c p 4 (p + 4) f a (omega (arith, room, n)) (ap (λ (x : MachRelocationRow). x.address) e) (omega arith) in
    let m = number_at b (p + 4) 4 in
    let k = number_at c (p + 4) 4 in
    let pcrel = bit_told ((m / 2 ^ 24) % 2) ((k / 2 ^ 24) % 2) (omega arith) (omega arith) (ap (λ (x : MachRelocationRow). x.pcrel) e) in
    let is_extern = bit_told ((m / 2 ^ 27) % 2) ((k / 2 ^ 27) % 2) (omega arith) (omega arith) (ap (λ (x : MachRelocationRow). x.is_extern) e) in
    let word = word_told m k (ap (λ (x : MachRelocationRow). x.symbolnum) e) pcrel (ap (λ (x : MachRelocationRow). x.length) e) is_extern (ap (λ (x : MachRelocationRow). x.r_type) e) in
    agree_number b c (p + 4) 4 q f address room word (omega (arith, n))
