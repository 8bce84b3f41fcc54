-- What a reader finds of rows, and the conditions of the definitions.
use Rattle.std.proofs.Common.{◌≡◌, ◌≢◌, ℕ, ◌+◌, ◌*◌, ◌/◌, ◌≤◌, ◌<◌, List, length, IsSome, arith, subst, refl, ◌∙◌, ◌⊎◌}
use Rattle.byte_core.specs.Number.{text_at}
use Rattle.image_read.specs.ElfFile.{header_of, section_row, symbol_row, symbol_row_at, symbol_name, text_in}
use Rattle.image_read.specs.ElfImage.{IsStrings, IsSection, IsSymbol, IsSymbolTable}
use Rattle.image_read.specs.ElfRows.{EachRow, SameSection, SameSymbol, HasStrings, HoldsStrings, IsPlaced, HasSymbolRows, IsTableOnlyAt, IsOpen}
use Rattle.image_read.specs.declared.elf.rows.SectionRow.{SectionRow}
use Rattle.image_read.specs.declared.elf.rows.SymbolRow.{SymbolRow}
use Rattle.image_read.specs.declared.elf.symbols.SymbolTable.{SymbolTable}
use Rattle.image_read.proofs.Texts.{text_within}

-- a text of the strings is one of the section
pub text_of : (b : List ℕ) (k : ℕ) (s : List ℕ) (p q : ℕ) → HoldsStrings b k s → p ≡ q → text_at s p (length s) ≡ text_in b (section_row b k) q
text_of b k s p q h same =
    let here = text_within b (section_row b k).offset (section_row b k).size q in
    let at : text_at s q (length s) ≡ text_in b (section_row b k) q = rw (h.bytes) here in
    rw same at

pub strings_inside : (b : List ℕ) (k : ℕ) → EachRow (IsSection b) 1 (header_of b).shnum → IsStrings b k → HasStrings b k
strings_inside b k each h = record { section = h; inside = (each.at k h.behind_null h.row).inside (rw h.kind refl) }

pub section_from : (b : List ℕ) (k : ℕ) (row : SectionRow) (s : List ℕ) → SameSection row (section_row b k) → HoldsStrings b (header_of b).shstrndx s
    → IsPlaced row (length b) → row.sh_type ≢ 9
    → IsSome (text_at s row.name (length s)) → IsSection b k
section_from b k row s same names placed kind named =
    record {
      inside = λ has. omega (arith, placed.inside (rw same.sh_type has));
      name = rw (← text_of b (header_of b).shstrndx s row.name (section_row b k).name names same.name) named;
      kind = λ rel. kind (same.sh_type ∙ rel);
    }

pub name_of_section : (b : List ℕ) (k : ℕ) (row : SectionRow) (s : List ℕ) → SameSection row (section_row b k)
    → HoldsStrings b (header_of b).shstrndx s → IsSection b k
    → IsSome (text_at s row.name (length s))
name_of_section b k row s same names h = rw (text_of b (header_of b).shstrndx s row.name (section_row b k).name names same.name) h.name

pub placed_section : (b : List ℕ) (k : ℕ) (row : SectionRow) → SameSection row (section_row b k) → IsSection b k → IsPlaced row (length b)
placed_section b k row same h = record { inside = λ has. omega (arith, h.inside (rw (← same.sh_type) has)) }

-- -- symbols

pub symbol_place : (b : List ℕ) (t : SymbolTable) (m : ℕ) (row : SymbolRow) → IsOpen b t → SameSymbol row (symbol_row_at b (t.row.offset + 24 * m))
    → SameSymbol row (symbol_row b t.number m)
symbol_place b t m row opened same = subst (λ p. SameSymbol row (symbol_row_at b (p + 24 * m))) opened.row.offset same

pub name_of_symbol : (b : List ℕ) (t : SymbolTable) (m : ℕ) (row : SymbolRow) → IsOpen b t → SameSymbol row (symbol_row_at b (t.row.offset + 24 * m))
    → text_at t.strings.now row.name (length t.strings.now) ≡ symbol_name b t.number m
name_of_symbol b t m row opened same =
    text_of b (section_row b t.number).link t.strings.now row.name (symbol_row b t.number m).name opened.strings (symbol_place b t m row opened same).name

pub symbol_from : (b : List ℕ) (t : SymbolTable) (m : ℕ) (row : SymbolRow) → IsOpen b t → SameSymbol row (symbol_row_at b (t.row.offset + 24 * m))
    → IsSome (text_at t.strings.now row.name (length t.strings.now))
    → (row.shndx < (header_of b).shnum) ⊎ ((0xff00 ≤ row.shndx) × (row.shndx ≤ 0xfffe)) → IsSymbol b t.number m
symbol_from b t m row opened same named place =
    record { name = rw (← name_of_symbol b t m row opened same) named; place = rw (← (symbol_place b t m row opened same).shndx) place }

pub place_of_symbol : (b : List ℕ) (t : SymbolTable) (m : ℕ) (row : SymbolRow) → IsOpen b t → SameSymbol row (symbol_row_at b (t.row.offset + 24 * m))
    → IsSymbol b t.number m
    → (row.shndx < (header_of b).shnum) ⊎ ((0xff00 ≤ row.shndx) × (row.shndx ≤ 0xfffe))
place_of_symbol b t m row opened same h = rw (symbol_place b t m row opened same).shndx h.place

pub rows_of_table : (b : List ℕ) (k : ℕ) → EachRow (IsSection b) 1 (header_of b).shnum → IsSymbolTable b k → HasSymbolRows b k
rows_of_table b k each h =
    record { entry = h.entry; whole = h.whole; some = h.some; few = h.few; locals = h.locals; strings = strings_inside b (section_row b k).link each h.strings }

pub table_from : (b : List ℕ) (t : SymbolTable) → IsOpen b t → EachRow (IsTableOnlyAt b t.number) 1 (header_of b).shnum
    → EachRow (IsSymbol b t.number) 1 ((section_row b t.number).size / 24) → IsSymbolTable b t.number
table_from b t opened only symbols =
    record {
      only = λ j from below kind. (only.at j from below).only kind;
      entry = opened.rows.entry;
      whole = opened.rows.whole;
      some = opened.rows.some;
      few = opened.rows.few;
      strings = opened.rows.strings.section;
      locals = opened.rows.locals;
      symbols = λ m from below. symbols.at m from below;
    }
