-- What two files agree on, row by row.
use Rattle.std.proofs.Common.{◌≡◌, ℕ, zero, suc, ◌+◌, ◌^◌, ◌<◌, ◌≤◌, List, [], ◌∷◌, length, get_or, refl, ap, sym, ◌∙◌, arith, lit<}
use Rattle.std.specs.Int.{cast_signed, cast_unsigned, w64}
use Rattle.std.proofs.lemmas.Int.{of_z-to_z}
use Rattle.std.proofs.lemmas.List.Elements.{All-head, All-tail}
use Rattle.byte_core.specs.Number.{number_at}
use Rattle.byte_core.proofs.Agreeing.{AreFiles, Agree, agree_none, agree_bytes, agree_number}
use Rattle.byte_core.proofs.Bytes.{IsByte, AreBytes}
use Rattle.byte_core.proofs.NumberBounds.{number_bound}
use Rattle.image_read.specs.ElfFile.{ElfHeader, header_of, ElfSectionRow, section_row_at, ElfSymbolRow, symbol_row_at, ElfRelocationRow, relocation_row_at}

pub agree_header : (b c : List ℕ) → AreFiles b c → 64 ≤ length b → header_of b ≡ header_of c → Agree b c 64
unfolding header_of
agree_header b c f room e =
    let ident = agree_bytes b c 0 16 16 (agree_none b c) (ap (λ (h : ElfHeader). h.ident) e) refl in
    let e_type = agree_number b c 16 2 18 f ident (omega arith) (ap (λ (h : ElfHeader). h.e_type) e) refl in
    let machine = agree_number b c 18 2 20 f e_type (omega arith) (ap (λ (h : ElfHeader). h.machine) e) refl in
    let version = agree_number b c 20 4 24 f machine (omega arith) (ap (λ (h : ElfHeader). h.version) e) refl in
    let entry = agree_number b c 24 8 32 f version (omega arith) (ap (λ (h : ElfHeader). h.entry) e) refl in
    let phoff = agree_number b c 32 8 40 f entry (omega arith) (ap (λ (h : ElfHeader). h.phoff) e) refl in
    let shoff = agree_number b c 40 8 48 f phoff (omega arith) (ap (λ (h : ElfHeader). h.shoff) e) refl in
    let flags = agree_number b c 48 4 52 f shoff (omega arith) (ap (λ (h : ElfHeader). h.flags) e) refl in
    let ehsize = agree_number b c 52 2 54 f flags (omega arith) (ap (λ (h : ElfHeader). h.ehsize) e) refl in
    let phentsize = agree_number b c 54 2 56 f ehsize (omega arith) (ap (λ (h : ElfHeader). h.phentsize) e) refl in
    let phnum = agree_number b c 56 2 58 f phentsize (omega arith) (ap (λ (h : ElfHeader). h.phnum) e) refl in
    let shentsize = agree_number b c 58 2 60 f phnum (omega arith) (ap (λ (h : ElfHeader). h.shentsize) e) refl in
    let shnum = agree_number b c 60 2 62 f shentsize (omega arith) (ap (λ (h : ElfHeader). h.shnum) e) refl in
    agree_number b c 62 2 64 f shnum room (ap (λ (h : ElfHeader). h.shstrndx) e) refl

pub agree_section_row : (b c : List ℕ) (p q : ℕ) → AreFiles b c → Agree b c p → q ≤ length b → section_row_at b p ≡ section_row_at c p → p + 64 ≡ q → Agree b c q
unfolding section_row_at
agree_section_row b c p q f a room e n =
    let name = agree_number b c p 4 (p + 4) f a (omega arith) (ap (λ (r : ElfSectionRow). r.name) e) refl in
    let sh_type = agree_number b c (p + 4) 4 (p + 8) f name (omega arith) (ap (λ (r : ElfSectionRow). r.sh_type) e) (omega arith) in
    let flags = agree_number b c (p + 8) 8 (p + 16) f sh_type (omega arith) (ap (λ (r : ElfSectionRow). r.flags) e) (omega arith) in
    let address = agree_number b c (p + 16) 8 (p + 24) f flags (omega arith) (ap (λ (r : ElfSectionRow). r.address) e) (omega arith) in
    let offset = agree_number b c (p + 24) 8 (p + 32) f address (omega arith) (ap (λ (r : ElfSectionRow). r.offset) e) (omega arith) in
    let size = agree_number b c (p + 32) 8 (p + 40) f offset (omega arith) (ap (λ (r : ElfSectionRow). r.size) e) (omega arith) in
    let link = agree_number b c (p + 40) 4 (p + 44) f size (omega arith) (ap (λ (r : ElfSectionRow). r.link) e) (omega arith) in
    let info = agree_number b c (p + 44) 4 (p + 48) f link (omega arith) (ap (λ (r : ElfSectionRow). r.info) e) (omega arith) in
    let align = agree_number b c (p + 48) 8 (p + 56) f info (omega arith) (ap (λ (r : ElfSectionRow). r.align) e) (omega arith) in
    agree_number b c (p + 56) 8 q f align room (ap (λ (r : ElfSectionRow). r.entsize) e) (omega (arith, n))

pub agree_symbol_row : (b c : List ℕ) (p q : ℕ) → AreFiles b c → Agree b c p → q ≤ length b → symbol_row_at b p ≡ symbol_row_at c p → p + 24 ≡ q → Agree b c q
unfolding symbol_row_at
agree_symbol_row b c p q f a room e n =
    let name = agree_number b c p 4 (p + 4) f a (omega arith) (ap (λ (r : ElfSymbolRow). r.name) e) refl in
    let info = agree_number b c (p + 4) 1 (p + 5) f name (omega arith) (ap (λ (r : ElfSymbolRow). r.info) e) (omega arith) in
    let other = agree_number b c (p + 5) 1 (p + 6) f info (omega arith) (ap (λ (r : ElfSymbolRow). r.other) e) (omega arith) in
    let shndx = agree_number b c (p + 6) 2 (p + 8) f other (omega arith) (ap (λ (r : ElfSymbolRow). r.shndx) e) (omega arith) in
    let value = agree_number b c (p + 8) 8 (p + 16) f shndx (omega arith) (ap (λ (r : ElfSymbolRow). r.value) e) (omega arith) in
    agree_number b c (p + 16) 8 q f value room (ap (λ (r : ElfSymbolRow). r.size) e) (omega (arith, n))

-- a signed number of 64 bits has one list of bytes too
same_addend : (m n : ℕ) → m < 2 ^ 64 → n < 2 ^ 64 → cast_signed w64 m ≡ cast_signed w64 n → m ≡ n
same_addend m n h k e = sym (of_z-to_z w64 m h) ∙ ap (cast_unsigned w64) e ∙ of_z-to_z w64 n k

byte_at : (xs : List ℕ) → AreBytes xs → (i : ℕ) → get_or xs i 0 < 256
byte_at [] h i = lit< tt
byte_at (x ∷ xs) h zero = All-head IsByte x xs h
byte_at (x ∷ xs) h (suc i) = byte_at xs (All-tail IsByte x xs h) i

number_fits : (b : List ℕ) (p : ℕ) → AreBytes b → number_at b p 8 < 2 ^ 64
number_fits b p h = omega (arith, number_bound b p 8 (byte_at b h))

pub agree_relocation_row : (b c : List ℕ) (p q : ℕ) → AreFiles b c → Agree b c p → q ≤ length b → relocation_row_at b p ≡ relocation_row_at c p → p + 24 ≡ q → Agree b c q
unfolding relocation_row_at
agree_relocation_row b c p q f a room e n =
    let offset = agree_number b c p 8 (p + 8) f a (omega arith) (ap (λ (r : ElfRelocationRow). r.offset) e) refl in
    let r_type = agree_number b c (p + 8) 4 (p + 12) f offset (omega arith) (ap (λ (r : ElfRelocationRow). r.r_type) e) (omega arith) in
    let symbol = agree_number b c (p + 12) 4 (p + 16) f r_type (omega arith) (ap (λ (r : ElfRelocationRow). r.symbol) e) (omega arith) in
    let addend : number_at b (p + 16) 8 ≡ number_at c (p + 16) 8 =
    same_addend (number_at b (p + 16) 8) (number_at c (p + 16) 8) (number_fits b (p + 16) f.first) (number_fits c (p + 16) f.second) (ap (λ (r : ElfRelocationRow). r.addend) e) in
    agree_number b c (p + 16) 8 q f symbol room addend (omega (arith, n))
