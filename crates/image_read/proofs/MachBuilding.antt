-- What is read of a Mach-O file's rows is what the definitions give.
use Rattle.std.proofs.Common.{◌≡◌, ℕ, ◌+◌, ◌*◌, ◌≤◌, Option, List, [], length, map, unwrap_or, refl, ap, sym, ◌∙◌, arith, IsSome, IsTrue, true, false}
use Rattle.std.specs.List.{range_with_len}
use Rattle.std.specs.Option.{option_map}
use Rattle.byte_core.specs.Number.{text_at}
use Rattle.byte_core.specs.Strings.{before_zero}
use Rattle.image_read.specs.ElfRows.{EachRow}
use Rattle.image_read.specs.MachFile.{MachSectionRow, MachRelocationRow, mach_section_row, mach_section_row_at, mach_symbol_row, mach_symbol_name, symtab_of, section_count, lies_in_section, place_of_command}
use Rattle.image_read.specs.MachImage.{MachSymbolData, MachSectionData, IsMach, IsMachSection, IsMachSymbol, mach_section_data, mach_symbol_data, mach_image_of, version_numbers}
use Rattle.image_read.specs.MachRows.{HasMachHeader, AreSoundCommands, AreSymbolsInside, IsSoundMachSection, IsSoundRecord, IsMachPlaced, SameMachSection, SameMachSymbol, IsMachTable, IsSectionTable, mach_section_with, mach_stored_row, record_at, mach_image_with}
use Rattle.image_read.specs.declared.mach.rows.SectionNumbers.{SectionNumbers}
use Rattle.image_read.specs.declared.mach.rows.SymbolNumbers.{SymbolNumbers}
use Rattle.image_read.specs.declared.mach.symbols.MachSymbolTable.{MachSymbolTable}
use Rattle.image_read.specs.declared.mach.sections.SectionTable.{SectionTable}
use Rattle.std.proofs.lemmas.Bool.{false≢true}
use Rattle.image_read.proofs.MachCommands.{only_of_sound}
use Rattle.image_read.proofs.Texts.{text_within}

-- -- sections

pub row_place : (b : List ℕ) (t : SectionTable) (k p : ℕ) → IsSectionTable b t → p ≡ t.segment + 72 + 80 * k → mach_section_row_at b p ≡ mach_section_row b k
row_place b t k p h place = ap (mach_section_row_at b) (place ∙ ap (λ n. n + 72 + 80 * k) h.segment)

pub placed_of_sound : (b : List ℕ) (row : SectionNumbers) (r : MachSectionRow) → SameMachSection row r → IsMachSection b r → IsMachPlaced row (length b)
placed_of_sound b row r same h = record { inside = λ has. omega (arith, h.inside (rw (← same.flags) has), same.offset, same.size) }

pub table_of_sound : (b : List ℕ) (row : SectionNumbers) (r : MachSectionRow) → SameMachSection row r → IsMachSection b r → row.reloff + 8 * row.nreloc ≤ length b
table_of_sound b row r same h = omega (arith, h.table, same.reloff, same.nreloc)

pub records_of_sound : (b : List ℕ) (row : SectionNumbers) (r : MachSectionRow) → SameMachSection row r → IsMachSection b r
    → EachRow (IsSoundRecord b row.reloff) 0 row.nreloc
records_of_sound b row r same h =
    let each : EachRow (IsSoundRecord b r.reloff) 0 r.nreloc = record { at = λ m from below. record { sound = h.records m below } } in
    rw (same.reloff, same.nreloc) each

pub section_from : (b : List ℕ) (row : SectionNumbers) (r : MachSectionRow) → SameMachSection row r → IsMachPlaced row (length b)
    → row.reloff + 8 * row.nreloc ≤ length b → EachRow (IsSoundRecord b row.reloff) 0 row.nreloc → IsMachSection b r
section_from b row r same placed table each =
    let records : EachRow (IsSoundRecord b r.reloff) 0 r.nreloc = rw (← same.reloff, ← same.nreloc) each in
    record {
      inside = λ has. omega (arith, placed.inside (rw same.flags has), same.offset, same.size);
      table = omega (arith, table, same.reloff, same.nreloc);
      records = λ m below. (records.at m (omega arith) below).sound;
    }

pub section_is : (b : List ℕ) (k : ℕ) (row : SectionNumbers) (segment name contents : List ℕ) (relocations : List MachRelocationRow)
    → SameMachSection row (mach_section_row b k) → segment ≡ before_zero (mach_section_row b k).segment → name ≡ before_zero (mach_section_row b k).name
    → contents ≡ mach_stored_row b row → relocations ≡ map (record_at b row.reloff) (range_with_len 0 row.nreloc)
    → mach_section_with row segment name contents relocations ≡ mach_section_data b k
section_is b k row segment name contents relocations same s n c r =
    rw (s, n, c, r, same.address, same.size, same.offset, same.align, same.reloff, same.nreloc, same.flags) refl

-- -- symbols

pub name_of_symbol : (b : List ℕ) (t : MachSymbolTable) (k : ℕ) (row : SymbolNumbers) → IsMachTable b t → SameMachSymbol row (mach_symbol_row b k)
    → text_at t.strings.now row.strx (length t.strings.now) ≡ mach_symbol_name b k
name_of_symbol b t k row h same =
    rw (h.strings, same.strx) (text_within b (symtab_of b).stroff (symtab_of b).strsize (mach_symbol_row b k).strx)

abbrev named_symbol : List ℕ → SymbolNumbers → MachSymbolData
named_symbol name row = record { name = name; n_type = row.n_type; sect = row.sect; desc = row.desc; value = row.value }

pub symbol_is : (b : List ℕ) (t : MachSymbolTable) (k : ℕ) (row : SymbolNumbers) (name : List ℕ) → IsMachTable b t → SameMachSymbol row (mach_symbol_row b k)
    → name ≡ unwrap_or (text_at t.strings.now row.strx (length t.strings.now)) [] → named_symbol name row ≡ mach_symbol_data b k
symbol_is b t k row name h same named =
    rw (named, name_of_symbol b t k row h same, same.n_type, same.sect, same.desc, same.value) refl

pub name_of_sound : (b : List ℕ) (t : MachSymbolTable) (k : ℕ) (row : SymbolNumbers) → IsMachTable b t → SameMachSymbol row (mach_symbol_row b k) → IsMachSymbol b k
    → IsSome (text_at t.strings.now row.strx (length t.strings.now))
name_of_sound b t k row h same symbol = rw (name_of_symbol b t k row h same) symbol.name

pub symbol_outside : (b : List ℕ) (t : MachSymbolTable) (k : ℕ) (row : SymbolNumbers) → IsMachTable b t → SameMachSymbol row (mach_symbol_row b k)
    → IsSome (text_at t.strings.now row.strx (length t.strings.now)) → false ≡ lies_in_section row.n_type → IsMachSymbol b k
symbol_outside b t k row h same named outside =
    let not_in : false ≡ lies_in_section (mach_symbol_row b k).n_type = rw (← same.n_type) outside in
    record {
      name = rw (← name_of_symbol b t k row h same) named;
      behind_none = λ lies. absurd (false≢true (not_in ∙ lies));
      place = λ lies. absurd (false≢true (not_in ∙ lies));
    }

pub symbol_inside : (b : List ℕ) (t : MachSymbolTable) (k : ℕ) (row : SymbolNumbers) (sections : ℕ) → IsMachTable b t → SameMachSymbol row (mach_symbol_row b k)
    → IsSome (text_at t.strings.now row.strx (length t.strings.now)) → sections ≡ section_count b → (1 ≤ row.sect) × (row.sect ≤ sections) → IsMachSymbol b k
symbol_inside b t k row sections h same named count place =
    record {
      name = rw (← name_of_symbol b t k row h same) named;
      behind_none = λ lies. omega (arith, place.0, same.sect);
      place = λ lies. omega (arith, place.1, same.sect, count);
    }

pub place_of_symbol : (b : List ℕ) (k : ℕ) (row : SymbolNumbers) (sections : ℕ) → SameMachSymbol row (mach_symbol_row b k) → sections ≡ section_count b
    → true ≡ lies_in_section row.n_type → IsMachSymbol b k → (1 ≤ row.sect) × (row.sect ≤ sections)
place_of_symbol b k row sections same count inside symbol =
    let lies : IsTrue (lies_in_section (mach_symbol_row b k).n_type) = sym (inside ∙ ap lies_in_section same.n_type) in
    (omega (arith, symbol.behind_none lies, same.sect), omega (arith, symbol.place lies, same.sect, count))

-- -- the file

pub mach_from : (b : List ℕ) → HasMachHeader b → AreSoundCommands b → EachRow (IsSoundMachSection b) 0 (section_count b) → AreSymbolsInside b
    → EachRow (IsMachSymbol b) 0 (symtab_of b).nsyms → IsMach b
mach_from b h commands sections inside symbols =
    record {
      header = h.header;
      magic = h.magic;
      kind = h.kind;
      area = h.area;
      commands = λ k below. commands.each.at k (omega arith) below;
      only = only_of_sound b commands;
      sections = λ k below. (sections.at k (omega arith) below).section;
      symbol_table = inside.symbols;
      strings = inside.strings;
      symbols = λ k below. symbols.at k (omega arith) below;
    }

pub sections_of_mach : (b : List ℕ) → IsMach b → EachRow (IsSoundMachSection b) 0 (section_count b)
sections_of_mach b h = record { at = λ k from below. record { section = h.sections k below } }

pub symbols_of_mach : (b : List ℕ) → IsMach b → EachRow (IsMachSymbol b) 0 (symtab_of b).nsyms
symbols_of_mach b h = record { at = λ k from below. h.symbols k below }

pub inside_of_mach : (b : List ℕ) → IsMach b → AreSymbolsInside b
inside_of_mach b h = record { symbols = h.symbol_table; strings = h.strings }

pub image_is : (b : List ℕ) (version : Option (ℕ × ℕ × ℕ)) (sections : List MachSectionData) (symbols : List MachSymbolData)
    → version ≡ option_map (version_numbers b) (place_of_command b 0x32) → sections ≡ map (mach_section_data b) (range_with_len 0 (section_count b))
    → symbols ≡ map (mach_symbol_data b) (range_with_len 0 (symtab_of b).nsyms) → mach_image_with b version sections symbols ≡ mach_image_of b
unfolding mach_image_of
image_is b version sections symbols v s y = rw (v, s, y) refl
