-- The file of a table is read as the image of the table.
use Rattle.std.proofs.Common.{◌≡◌, ℕ, zero, suc, ◌+◌, ◌*◌, ◌%◌, ◌<◌, ◌≤◌, ◌==◌, ◌||◌, inl, inr, List, [], ◌∷◌, ◌++◌, Bool, true, false, not, cond, length, take, map, replicate, Option, Some, None, refl, ap, sym, ◌∙◌, subst, arith}
use Rattle.std.specs.Prelude.{slice_get, find, option_map, unwrap_or}
use Rattle.std.specs.List.{range_with_len, position_or_len}
use Rattle.std.proofs.lemmas.Bool.{ne_eqb}
use Rattle.std.proofs.lemmas.List.{length-map, nil_from_length}
use Rattle.byte_core.specs.Number.{bytes_at}
use Rattle.byte_core.specs.Strings.{before_zero, zero_filled}
use Rattle.byte_core.proofs.Lists.{get_map_from, get_within}
use Rattle.object_core.specs.declared.kinds.MachOBuildVersion.{MachOBuildVersion}
use Rattle.object_core.specs.WellFormed.{has_zero_byte}
use Rattle.object_core.specs.LinkTable.{MachTable, MachTableSection, MachTableSymbol}
use Rattle.image_read.specs.MachFile.{MachHeader, mach_header_of, command, command_place, place_of_command, section_count, MachSectionRow, mach_has_bytes, MachBuildVersion, MachSymtab, symtab_of, MachSymbolRow, mach_symbol_row, MachRelocationRow, mach_relocation_row_at, mach_relocation_row}
use Rattle.image_read.specs.MachImage.{MachSectionData, MachSymbolData, mach_section_data, mach_symbol_data, version_numbers, mach_image_of, IsMach}
use Rattle.object_macho.specs.Layout.{stored_contents, records_of, is_stored, command_count, data_start, version_place}
use Rattle.object_macho.specs.MachHolds.{segment_command, symtab_command, version_command, section_for}
use Rattle.object_macho.specs.File.{mach_file}
use Rattle.object_macho.specs.Fitting.{FitsMach, IsMachName}
use Rattle.object_macho.specs.TableImage.{section_shown, symbol_shown, version_shown, image_for, ReadsOnly}
use Rattle.object_macho.proofs.Behind.{length-stored_contents}
use Rattle.object_macho.proofs.Reading.{header_is, version_is, contents_are, record_is}
use Rattle.object_macho.proofs.Holds.{commands_are, which, ncmds_is, second_place, number_of, place_found, symtab_of_is, section_count_is, section_row_is, symbol_row_is, symbol_name_is, records_place, has_bytes, offset_of, sized, file_is_mach}

-- -- lists by their numbers

-- the list of the values of numbers, where each is told
map_range : {Y : Type 0} (f : ℕ → Y) (a n : ℕ) (ys : List Y) → length ys ≡ n → ((k : ℕ) (y : Y) → slice_get ys k ≡ Some y → f (a + k) ≡ y) → map f (range_with_len a n) ≡ ys
map_range f a zero [] m h = refl
map_range f a zero (y ∷ ys) m h = absurd (omega (arith, m))
map_range f a (suc n) [] m h = absurd (omega (arith, m))
map_range f a (suc n) (y ∷ ys) m h =
    let first : f a ≡ y = let place : a + 0 ≡ a = omega arith in ap f (sym place) ∙ h 0 y refl in
    let rest : map f (range_with_len (a + 1) n) ≡ ys = map_range f (a + 1) n ys (omega (arith, m)) (λ k x e. let place : a + 1 + k ≡ a + suc k = omega arith in ap f place ∙ h (suc k) x e) in
    rw (first, rest) refl

find_none : (test : ℕ → Bool) (a n : ℕ) → ((j : ℕ) → a ≤ j → j < a + n → test j ≡ false) → find test (range_with_len a n) ≡ None
find_none test a zero h = refl
find_none test a (suc n) h = rw (h a (omega arith) (omega arith)) (find_none test (a + 1) n (λ j g l. h j (omega (arith, g)) (omega (arith, l))))

-- -- names

or_false : (a b : Bool) → (a || b) ≡ false → (a ≡ false) × (b ≡ false)
or_false true b h = absurd (cc)
or_false false b h = (refl, h)

before_text : (text : List ℕ) (m : ℕ) → has_zero_byte text ≡ false → before_zero (text ++ replicate m 0) ≡ text
before_text [] zero h = refl
before_text [] (suc m) h = refl
before_text (x ∷ xs) m h =
    let p = or_false (x == 0) (has_zero_byte xs) h in
    let len = position_or_len (λ y. y == 0) (xs ++ replicate m 0) in
    let next : 1 + len ≡ suc len = omega arith in
    rw p.0 (ap (λ k. take k (x ∷ (xs ++ replicate m 0))) next ∙ ap (λ ys. x ∷ ys) (before_text xs m p.1))

name_shown : (name : List ℕ) → IsMachName name → before_zero (zero_filled 16 name) ≡ name
name_shown name h = before_text name _ h.text

-- -- the build version

no_version : (t : MachTable) → FitsMach t → t.build_version ≡ None → place_of_command (mach_file t) 0x32 ≡ None
unfolding place_of_command
no_version t f e =
    let c = commands_are t f in
    let count = ncmds_is t f in
    let two = ap command_count e in
    let other : (j : ℕ) → 0 ≤ j → j < 0 + (mach_header_of (mach_file t)).ncmds → ((command (mach_file t) j).cmd == 0x32) ≡ false =
    λ j g l. ne_eqb (command (mach_file t) j).cmd 0x32
    (λ same. elim (which t c j (omega (arith, l, count, c.count))).case [
      | inl w ↦ omega (arith, same, number_of (mach_file t) j 0x19 (segment_command t) w.1 refl)
      | inr (inl w) ↦ omega (arith, same, number_of (mach_file t) j 2 symtab_command w.1 refl)
      | inr (inr w) ↦ omega (arith, w.0, w.3, c.count, two)
    ])
    in
    ap (option_map (command_place (mach_file t))) (find_none (λ j. (command (mach_file t) j).cmd == 0x32) 0 (mach_header_of (mach_file t)).ncmds other)

some_version : (t : MachTable) → FitsMach t → (v : MachOBuildVersion) → t.build_version ≡ Some v → place_of_command (mach_file t) 0x32 ≡ Some (version_place t)
some_version t f v e =
    let c = commands_are t f in
    let three = ap command_count e in
    let m = c.middle 1 (omega arith) (omega (arith, c.count, three)) in
    place_found (mach_file t) 0x32 1 (omega (arith, ncmds_is t f, three)) (number_of (mach_file t) 1 0x32 version_command m.1 refl)
    (λ j l same. let first : 0 ≡ j = omega (arith, l) in omega (arith, same, ap (λ n. (command (mach_file t) n).cmd) first, number_of (mach_file t) 0 0x19 (segment_command t) c.first refl))
    ∙ ap Some (second_place t f)

version_by : (t : MachTable) → FitsMach t → (v : Option MachOBuildVersion) → t.build_version ≡ v → option_map (version_numbers (mach_file t)) (place_of_command (mach_file t) 0x32) ≡ option_map version_shown v
version_by t f None e = ap (option_map (version_numbers (mach_file t))) (no_version t f e)
version_by t f (Some v) e = ap (option_map (version_numbers (mach_file t))) (some_version t f v e) ∙ ap (λ (x : MachBuildVersion). Some (x.platform, x.minos, x.sdk)) (version_is t f v e)

-- -- each section

abbrev built : List ℕ → MachSectionRow → MachSectionData
built b row =
    record {
      segment = before_zero row.segment;
      name = before_zero row.name;
      address = row.address;
      size = row.size;
      align = row.align;
      flags = row.flags;
      contents = cond (mach_has_bytes row) (bytes_at b row.offset row.size) [];
      relocations = map (mach_relocation_row b row) (range_with_len 0 row.nreloc);
    }

no_three : (a b c : Bool) → b ≡ false → not (a || b || c) ≡ false → not (a || c) ≡ false
no_three a true c e h = absurd (cc)
no_three true false c e h = refl
no_three false false c e h = h

no_size : (b : Bool) (n size : ℕ) → b ≡ false → n ≡ cond b size 0 → n ≡ 0
no_size true n size e h = absurd (cc)
no_size false n size e h = h

contents_by : (t : MachTable) → FitsMach t → (k : ℕ) (s : MachTableSection) (b : Bool) → slice_get t.sections k ≡ Some s → mach_has_bytes (section_for t k s) ≡ b
    → cond b (bytes_at (mach_file t) (section_for t k s).offset s.size) [] ≡ stored_contents t.cputype s
contents_by t f k s true e has =
    let g = f.sections k s e in
    let stored = has_bytes s.flags g.kind has in
    ap (λ p. bytes_at (mach_file t) p s.size) (offset_of t s (is_stored s) stored) ∙ ap (bytes_at (mach_file t) (data_start t + s.address)) (sized (is_stored s) (length s.contents) s.size stored g.contents) ∙ contents_are t f k s e
contents_by t f k s false e has =
    let g = f.sections k s e in
    let other : (s.flags % 256 == 0xc) ≡ false = ne_eqb (s.flags % 256) 0xc g.kind in
    let unstored : is_stored s ≡ false = no_three (s.flags % 256 == 1) (s.flags % 256 == 0xc) (s.flags % 256 == 0x12) other has in
    let none = no_size (is_stored s) (length s.contents) s.size unstored g.contents in
    sym (nil_from_length (stored_contents t.cputype s) (length-stored_contents t.cputype s ∙ none))

record_by : (t : MachTable) → FitsMach t → (k : ℕ) (s : MachTableSection) → slice_get t.sections k ≡ Some s → (m : ℕ) (r : MachRelocationRow) → slice_get (records_of t.cputype s) m ≡ Some r → mach_relocation_row (mach_file t) (section_for t k s) (0 + m) ≡ r
record_by t f k s e m r h =
    let place : 0 + m ≡ m = omega arith in
    ap (mach_relocation_row (mach_file t) (section_for t k s)) place
    ∙ ap (λ p. mach_relocation_row_at (mach_file t) (p + 8 * m)) (records_place t k s s.relocations refl m (get_within (records_of t.cputype s) m r h))
    ∙ record_is t f k s e m r h

section_by : (t : MachTable) → FitsMach t → (k : ℕ) (s : MachTableSection) → slice_get t.sections k ≡ Some s → mach_section_data (mach_file t) k ≡ section_shown t.cputype s
section_by t f k s e =
    let g = f.sections k s e in
    let row : mach_section_data (mach_file t) k ≡ built (mach_file t) (section_for t k s) = ap (built (mach_file t)) (section_row_is t f k s e) in
    let contents = contents_by t f k s (mach_has_bytes (section_for t k s)) e refl in
    let relocations = map_range (mach_relocation_row (mach_file t) (section_for t k s)) 0 (length (records_of t.cputype s)) (records_of t.cputype s) refl (record_by t f k s e) in
    row ∙ rw (name_shown s.segment g.segment, name_shown s.name g.name, contents, relocations) refl

sections_are : (t : MachTable) → FitsMach t → map (mach_section_data (mach_file t)) (range_with_len 0 (section_count (mach_file t))) ≡ map (section_shown t.cputype) t.sections
sections_are t f =
    map_range (mach_section_data (mach_file t)) 0 (section_count (mach_file t)) (map (section_shown t.cputype) t.sections) (length-map t.sections (section_shown t.cputype) ∙ sym (section_count_is t f))
    (λ k x e.
    let s = get_map_from (section_shown t.cputype) t.sections k x e in
    let place : 0 + k ≡ k = omega arith in
    ap (mach_section_data (mach_file t)) place ∙ section_by t f k s.0 s.1 ∙ s.2)

-- -- each symbol

symbol_built : MachSymbolRow → Option (List ℕ) → MachSymbolData
symbol_built row name = record { name = unwrap_or name []; n_type = row.n_type; sect = row.sect; desc = row.desc; value = row.value }

symbol_by : (t : MachTable) → FitsMach t → (k : ℕ) (s : MachTableSymbol) → slice_get t.symbols k ≡ Some s → mach_symbol_data (mach_file t) k ≡ symbol_shown s
unfolding symbol_built
symbol_by t f k s e = ap (λ n. symbol_built (mach_symbol_row (mach_file t) k) n) (symbol_name_is t f k s e) ∙ ap (λ row. symbol_built row (Some s.name)) (symbol_row_is t f k s e)

symbols_are : (t : MachTable) → FitsMach t → map (mach_symbol_data (mach_file t)) (range_with_len 0 (symtab_of (mach_file t)).nsyms) ≡ map symbol_shown t.symbols
symbols_are t f =
    map_range (mach_symbol_data (mach_file t)) 0 (symtab_of (mach_file t)).nsyms (map symbol_shown t.symbols) (length-map t.symbols symbol_shown ∙ sym (ap (λ (v : MachSymtab). v.nsyms) (symtab_of_is t f)))
    (λ k x e.
    let s = get_map_from symbol_shown t.symbols k x e in
    let place : 0 + k ≡ k = omega arith in
    ap (mach_symbol_data (mach_file t)) place ∙ symbol_by t f k s.0 s.1 ∙ s.2)

-- -- the image

file_image : (t : MachTable) → FitsMach t → mach_image_of (mach_file t) ≡ image_for t
unfolding mach_image_of image_for
file_image t f =
    let cputype : (mach_header_of (mach_file t)).cputype ≡ t.cputype = ap (λ (h : MachHeader). h.cputype) (header_is t f) in
    let cpusubtype : (mach_header_of (mach_file t)).cpusubtype ≡ t.cpusubtype = ap (λ (h : MachHeader). h.cpusubtype) (header_is t f) in
    let flags : (mach_header_of (mach_file t)).flags ≡ 0x2000 = ap (λ (h : MachHeader). h.flags) (header_is t f) in
    rw (cputype, cpusubtype, flags, version_by t f t.build_version refl, sections_are t f, symbols_are t f) refl

pub only_image : (t : MachTable) (b : List ℕ) → FitsMach t → b ≡ mach_file t → ReadsOnly b (image_for t)
only_image t b f same =
    let image : mach_image_of b ≡ image_for t = ap mach_image_of same ∙ file_image t f in
    record {
      reads = record { file = subst IsMach (sym same) (file_is_mach t f); rows = sym image };
      only = λ other h. h.rows ∙ image;
    }
