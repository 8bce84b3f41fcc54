-- The file of each table that fits holds the table.
use Rattle.std.proofs.Common.{◌≡◌, ℕ, zero, suc, ◌+◌, ◌*◌, ◌%◌, ◌<◌, ◌≤◌, ◌==◌, ◌||◌, ◌⊎◌, inl, inr, List, [], ◌∷◌, Bool, true, false, not, cond, length, Option, Some, None, refl, ap, sym, ◌∙◌, subst, arith}
use Rattle.std.specs.Prelude.{◌≢◌, ◌++◌, slice_get, find, flat_map, option_map, unwrap_or, IsTrue}
use Rattle.std.specs.List.{range_with_len}
use Rattle.std.proofs.lemmas.Bool.{ne_eqb, eq-eqb}
use Rattle.std.proofs.Math.Dec.{eqb-suc-zero}
use Rattle.byte_core.proofs.Lists.{get_exists}
use Rattle.object_core.specs.declared.kinds.MachOBuildVersion.{MachOBuildVersion}
use Rattle.object_core.specs.LinkTable.{MachRelocation, MachTableSection, MachTableSymbol, MachTable}
use Rattle.image_read.specs.MachFile.{MachHeader, mach_header_of, LoadCommand, command_at, command_place, command, commands_end, place_of_command, MachSegment, segment_at, sections_at, section_count, mach_section_row_at, mach_section_row, mach_has_bytes, MachSymtab, symtab_or_none, symtab_of, mach_symbol_row_at, mach_symbol_row, mach_symbol_name, MachRelocationRow, mach_relocation_row_at, mach_relocation_row}
use Rattle.image_read.specs.MachImage.{is_read, IsCommand, IsMachRelocation, IsMachSection, IsMachSymbol, IsMach}
use Rattle.ir_core.specs.MachO.{is_zero_fill_type}
use Rattle.object_macho.specs.Layout.{addend_record, record_for, wants_record, records_for, records_of, is_stored, command_count, version_size, segment_size, version_place, symtab_place, data_start, records_start, symbols_start}
use Rattle.object_macho.specs.MachHolds.{MachHolds, segment_command, section_for, version_command, symtab_command, symtab_for, mach_symbol_for}
use Rattle.object_macho.specs.File.{mach_file}
use Rattle.object_macho.specs.Fitting.{FitsMach}
use Rattle.object_macho.proofs.Reading.{inside, header_is, segment_begins, segment_is, version_begins, version_is, symtab_begins, symtab_is, counts_grow, stored_ends, length-mach_file, section_is, contents_are, padding_is, padding_end_is, symbol_is, name_is, strings_are, record_of, record_is}

-- -- the commands, one behind the other

-- command 0 is the segment's, the last is LC_SYMTAB, and one between is LC_BUILD_VERSION
pub record Commands (t : MachTable) : Type 0 where
  pub last : ℕ
  pub some : 1 ≤ last
  pub count : command_count t.build_version ≡ suc last
  pub first : command (mach_file t) 0 ≡ segment_command t
  pub end_place : command_place (mach_file t) last ≡ symtab_place t
  pub end : command (mach_file t) last ≡ symtab_command
  pub middle : (k : ℕ) → 1 ≤ k → k < last → (k ≡ 1) × (command (mach_file t) k ≡ version_command) × (command_place (mach_file t) k + 24 ≡ symtab_place t)

first_is : (t : MachTable) → FitsMach t → command (mach_file t) 0 ≡ segment_command t
unfolding command_place
first_is t f = segment_begins t f

next_place : (b : List ℕ) (k p : ℕ) (c : LoadCommand) → command_place b k ≡ p → command b k ≡ c → command_place b (suc k) ≡ p + c.cmdsize
unfolding command_place
next_place b k p c e h = rw (h, e) refl

start_place : (b : List ℕ) → command_place b 0 ≡ 32
unfolding command_place
start_place b = refl

pub second_place : (t : MachTable) → FitsMach t → command_place (mach_file t) 1 ≡ version_place t
second_place t f = next_place (mach_file t) 0 32 (segment_command t) (start_place (mach_file t)) (first_is t f)

at_place : (b : List ℕ) (k p : ℕ) (c : LoadCommand) → command_place b k ≡ p → command_at b p ≡ c → command b k ≡ c
at_place b k p c e h = rw e h

commands_by : (t : MachTable) → FitsMach t → (version : Option MachOBuildVersion) → t.build_version ≡ version → Commands t
commands_by t f None e =
    let place : version_place t ≡ symtab_place t = omega (arith, ap version_size e) in
    let second = second_place t f ∙ place in
    record {
      last = 1;
      some = omega arith;
      count = ap command_count e;
      first = first_is t f;
      end_place = second;
      end = at_place (mach_file t) 1 (symtab_place t) symtab_command second (symtab_begins t f);
      middle = λ k h l. absurd (omega (arith, h, l));
    }
commands_by t f (Some v) e =
    let place : version_place t + 24 ≡ symtab_place t = omega (arith, ap version_size e) in
    let second = second_place t f in
    let version = at_place (mach_file t) 1 (version_place t) version_command second (version_begins t f v e) in
    let third = next_place (mach_file t) 1 (version_place t) version_command second version ∙ place in
    record {
      last = 2;
      some = omega arith;
      count = ap command_count e;
      first = first_is t f;
      end_place = third;
      end = at_place (mach_file t) 2 (symtab_place t) symtab_command third (symtab_begins t f);
      middle = λ k h l.
          let one : 1 ≡ k = omega (arith, h, l) in
          subst (λ n. (n ≡ 1) × (command (mach_file t) n ≡ version_command) × (command_place (mach_file t) n + 24 ≡ symtab_place t)) one (refl, version, ap (λ n. n + 24) second ∙ place);
    }

pub commands_are : (t : MachTable) → FitsMach t → Commands t
commands_are t f = commands_by t f t.build_version refl

pub ncmds_is : (t : MachTable) → FitsMach t → (mach_header_of (mach_file t)).ncmds ≡ command_count t.build_version
ncmds_is t f = ap (λ (h : MachHeader). h.ncmds) (header_is t f)

-- what a command of the file is
pub record Which (t : MachTable) (last k : ℕ) : Type 0 where
  pub case : ((k ≡ 0) × (command (mach_file t) k ≡ segment_command t)) ⊎ (((k ≡ last) × (command (mach_file t) k ≡ symtab_command)) ⊎ ((k ≡ 1) × (command (mach_file t) k ≡ version_command) × (command_place (mach_file t) k + 24 ≡ symtab_place t) × (k < last)))

where_is : (last k : ℕ) → 1 ≤ last → k < suc last → (k ≡ 0) ⊎ ((k ≡ last) ⊎ ((1 ≤ k) × (k < last)))
where_is last k h l = grind arith

pub which : (t : MachTable) → (c : Commands t) → (k : ℕ) → k < suc c.last → Which t c.last k
which t c k l =
    elim (where_is c.last k c.some l) [
      | inl e ↦ record { case = inl (e, rw e c.first) }
      | inr (inl e) ↦ record { case = inr (inl (e, rw e c.end)) }
      | inr (inr m) ↦ (let mid = c.middle k m.0 m.1 in record { case = inr (inr (mid.0, mid.1, mid.2, m.1)) })
    ]

-- -- the first command of a number

find_here : (test : ℕ → Bool) (a k : ℕ) (rest : Option ℕ) → (a ≡ k) ⊎ (a + 1 ≤ k) → test k ≡ true → ((j : ℕ) → a ≤ j → j < k → test j ≡ false) → (a + 1 ≤ k → rest ≡ Some k) → cond (test a) (Some a) rest ≡ Some k
find_here test a k rest (inl same) passes none later = rw (same, passes) refl
find_here test a k rest (inr h) passes none later = rw (none a (omega arith) (omega arith)) (later h)

here_or_later : (a k : ℕ) → a ≤ k → (a ≡ k) ⊎ (a + 1 ≤ k)
here_or_later a k h = grind (arith)

find_from : (test : ℕ → Bool) (a n k : ℕ) → a ≤ k → k < a + n → test k ≡ true → ((j : ℕ) → a ≤ j → j < k → test j ≡ false) → find test (range_with_len a n) ≡ Some k
find_from test a zero k h l passes none = absurd (omega arith)
find_from test a (suc n) k h l passes none =
    find_here test a k (find test (range_with_len (a + 1) n)) (here_or_later a k h) passes none
    (λ later. find_from test (a + 1) n k later (omega (arith, l)) passes (λ j g m. none j (omega (arith, g)) m))

pub number_of : (b : List ℕ) (k n : ℕ) (c : LoadCommand) → command b k ≡ c → c.cmd ≡ n → (command b k).cmd ≡ n
number_of b k n c e h = ap (λ (x : LoadCommand). x.cmd) e ∙ h

pub place_found : (b : List ℕ) (cmd k : ℕ) → k < (mach_header_of b).ncmds → (command b k).cmd ≡ cmd → ((j : ℕ) → j < k → (command b j).cmd ≡ cmd → ⊥) → place_of_command b cmd ≡ Some (command_place b k)
unfolding place_of_command
place_found b cmd k l e none =
    ap (option_map (command_place b))
    (find_from (λ j. (command b j).cmd == cmd) 0 (mach_header_of b).ncmds k (omega arith) (omega (arith, l)) (eq-eqb (command b k).cmd cmd e) (λ j g m. ne_eqb (command b j).cmd cmd (none j m)))

segment_found : (t : MachTable) → FitsMach t → place_of_command (mach_file t) 0x19 ≡ Some 32
segment_found t f =
    let c = commands_are t f in
    place_found (mach_file t) 0x19 0 (omega (arith, ncmds_is t f, c.count)) (number_of (mach_file t) 0 0x19 (segment_command t) c.first refl) (λ j m. absurd (omega (arith, m))) ∙ ap Some (start_place (mach_file t))

not_before : (t : MachTable) (c : Commands t) (j : ℕ) → j < c.last → (command (mach_file t) j).cmd ≡ 2 → ⊥
not_before t c j m e =
    elim (which t c j (omega (arith, m))).case [
      | inl w ↦ omega (arith, e, number_of (mach_file t) j 0x19 (segment_command t) w.1 refl)
      | inr (inl w) ↦ omega (arith, m, w.0)
      | inr (inr w) ↦ omega (arith, e, number_of (mach_file t) j 0x32 version_command w.1 refl)
    ]

symtab_found : (t : MachTable) → FitsMach t → place_of_command (mach_file t) 2 ≡ Some (symtab_place t)
symtab_found t f =
    let c = commands_are t f in
    place_found (mach_file t) 2 c.last (omega (arith, ncmds_is t f, c.count)) (number_of (mach_file t) c.last 2 symtab_command c.end refl) (not_before t c) ∙ ap Some c.end_place

pub symtab_of_is : (t : MachTable) → FitsMach t → symtab_of (mach_file t) ≡ symtab_for t
symtab_of_is t f = ap (symtab_or_none (mach_file t)) (symtab_found t f) ∙ symtab_is t f

pub section_count_is : (t : MachTable) → FitsMach t → section_count (mach_file t) ≡ length t.sections
section_count_is t f = ap (sections_at (mach_file t)) (segment_found t f) ∙ ap (λ (s : MachSegment). s.nsects) (segment_is t f)

-- -- each command has room

end_is : (t : MachTable) → FitsMach t → commands_end (mach_file t) ≡ data_start t
end_is t f = omega (arith, ap (λ (h : MachHeader). h.sizeofcmds) (header_is t f))

command_fits : (t : MachTable) → FitsMach t → (c : Commands t) (k : ℕ) → Which t c.last k → IsCommand (mach_file t) k
command_fits t f c k w =
    elim w.case [
      | inl h ↦ (
          let size : (command (mach_file t) k).cmdsize ≡ segment_size t = ap (λ (x : LoadCommand). x.cmdsize) h.1 in
          let number : (command (mach_file t) k).cmd ≡ 0x19 = number_of (mach_file t) k 0x19 (segment_command t) h.1 refl in
          let place : command_place (mach_file t) k ≡ 32 = rw h.0 (start_place (mach_file t)) in
          let sects : (segment_at (mach_file t) (command_place (mach_file t) k)).nsects ≡ length t.sections = ap (λ p. (segment_at (mach_file t) p).nsects) place ∙ ap (λ (s : MachSegment). s.nsects) (segment_is t f) in
          record {
            size = omega (arith, size);
            inside = omega (arith, size, place, end_is t f);
            segment = λ _. omega (arith, size, sects);
            symtab = λ e. absurd (omega (arith, e, number));
            version = λ e. absurd (omega (arith, e, number));
          })
      | inr (inl h) ↦ (
          let size : (command (mach_file t) k).cmdsize ≡ 24 = ap (λ (x : LoadCommand). x.cmdsize) h.1 in
          let number : (command (mach_file t) k).cmd ≡ 2 = number_of (mach_file t) k 2 symtab_command h.1 refl in
          let place : command_place (mach_file t) k ≡ symtab_place t = rw h.0 c.end_place in
          record {
            size = omega (arith, size);
            inside = omega (arith, size, place, end_is t f);
            segment = λ e. absurd (omega (arith, e, number));
            symtab = λ _. omega (arith, size);
            version = λ e. absurd (omega (arith, e, number));
          })
      | inr (inr h) ↦ (
          let size : (command (mach_file t) k).cmdsize ≡ 24 = ap (λ (x : LoadCommand). x.cmdsize) h.1 in
          let number : (command (mach_file t) k).cmd ≡ 0x32 = number_of (mach_file t) k 0x32 version_command h.1 refl in
          record {
            size = omega (arith, size);
            inside = omega (arith, size, h.2, end_is t f);
            segment = λ e. absurd (omega (arith, e, number));
            symtab = λ e. absurd (omega (arith, e, number));
            version = λ _. omega (arith, size);
          })
    ]

-- the number of a command tells it
record Tells (last k n : ℕ) : Type 0 where
  case : ((k ≡ 0) × (n ≡ 0x19)) ⊎ (((k ≡ last) × (n ≡ 2)) ⊎ ((k ≡ 1) × (n ≡ 0x32)))

tells : (t : MachTable) (c : Commands t) (k : ℕ) → k < suc c.last → Tells c.last k (command (mach_file t) k).cmd
tells t c k l =
    elim (which t c k l).case [
      | inl w ↦ record { case = inl (w.0, number_of (mach_file t) k 0x19 (segment_command t) w.1 refl) }
      | inr (inl w) ↦ record { case = inr (inl (w.0, number_of (mach_file t) k 2 symtab_command w.1 refl)) }
      | inr (inr w) ↦ record { case = inr (inr (w.0, number_of (mach_file t) k 0x32 version_command w.1 refl)) }
    ]

same_by : (last j k m n : ℕ) → Tells last j m → Tells last k n → m ≡ n → j ≡ k
same_by last j k m n a b e = let p = a.case in let q = b.case in grind arith

only_one : (t : MachTable) → FitsMach t → (j k : ℕ) → j < (mach_header_of (mach_file t)).ncmds → k < (mach_header_of (mach_file t)).ncmds → IsTrue (is_read (command (mach_file t) j).cmd)
    → (command (mach_file t) j).cmd ≡ (command (mach_file t) k).cmd → j ≡ k
only_one t f j k h l read e =
    let c = commands_are t f in
    same_by c.last j k _ _ (tells t c j (omega (arith, h, ncmds_is t f, c.count))) (tells t c k (omega (arith, l, ncmds_is t f, c.count))) e

-- -- sections, symbols and records are those of a file

pub section_row_is : (t : MachTable) → FitsMach t → (k : ℕ) (s : MachTableSection) → slice_get t.sections k ≡ Some s → mach_section_row (mach_file t) k ≡ section_for t k s
section_row_is t f k s e = ap (λ o. mach_section_row_at (mach_file t) (unwrap_or o 0 + 72 + 80 * k)) (segment_found t f) ∙ section_is t f k s e

of_two : (a b c : Bool) → not (a || b || c) ≡ true → not (a || c) ≡ true
of_two true b c h = absurd (cc)
of_two false true c h = absurd (cc)
of_two false false c h = h

pub has_bytes : (n : ℕ) → n % 256 ≢ 0xc → not (n % 256 == 1 || n % 256 == 0xc || n % 256 == 0x12) ≡ true → not (is_zero_fill_type n) ≡ true
has_bytes n other h = of_two (n % 256 == 1) (n % 256 == 0xc) (n % 256 == 0x12) h

pub offset_of : (t : MachTable) (s : MachTableSection) (b : Bool) → b ≡ true → cond b (data_start t + s.address) 0 ≡ data_start t + s.address
offset_of t s true e = refl
offset_of t s false e = absurd (cc)

pub sized : (b : Bool) (n size : ℕ) → b ≡ true → n ≡ cond b size 0 → size ≡ n
sized true n size e h = sym h
sized false n size e h = absurd (cc)

contents_inside : (t : MachTable) → FitsMach t → (k : ℕ) (s : MachTableSection) → slice_get t.sections k ≡ Some s → mach_has_bytes (section_for t k s) ≡ true → (section_for t k s).offset + s.size ≤ length (mach_file t)
contents_inside t f k s e read =
    let g = f.sections k s e in
    let stored = has_bytes s.flags g.kind read in
    omega (arith, offset_of t s (is_stored s) stored, sized (is_stored s) (length s.contents) s.size stored g.contents, stored_ends t f k s e stored)

-- the table of records of a section
pub records_place : (t : MachTable) (k : ℕ) (s : MachTableSection) (rs : List MachRelocation) → s.relocations ≡ rs → (m : ℕ) → m < length (records_of t.cputype s) → (section_for t k s).reloff ≡ records_start t k
unfolding records_of
records_place t k s [] e m l = absurd (omega (arith, l, ap (λ xs. length (flat_map (records_for t.cputype) xs)) e))
records_place t k s (r ∷ rs) e m l = ap (λ b. cond b 0 (records_start t k)) (ap (λ (xs : List MachRelocation). length xs == 0) e ∙ eqb-suc-zero (length rs))

table_by : (n r start end total : ℕ) → ((m : ℕ) → m < n → r ≡ start) → start + 8 * n ≤ end → end ≤ total → (n ≡ 0 → r ≡ 0) → r + 8 * n ≤ total
table_by zero r start end total h inside more none = omega (arith, none refl)
table_by (suc n) r start end total h inside more none = omega (arith, h 0 (omega arith), inside, more)

some_records : (b : Bool) (r : MachRelocation) (rest : List MachRelocationRow) → length (cond b (addend_record r ∷ record_for r ∷ []) (record_for r ∷ []) ++ rest) ≡ 0 → ⊥
some_records true r rest e = absurd (omega (arith, e))
some_records false r rest e = absurd (omega (arith, e))

no_table : (t : MachTable) (k : ℕ) (s : MachTableSection) (rs : List MachRelocation) → s.relocations ≡ rs → length (records_of t.cputype s) ≡ 0 → (section_for t k s).reloff ≡ 0
unfolding records_of
no_table t k s [] e n = rw e refl
no_table t k s (r ∷ rs) e n = absurd (some_records (wants_record t.cputype r) r (flat_map (records_for t.cputype) rs) (sym (ap (λ xs. length (flat_map (records_for t.cputype) xs)) e) ∙ n))

record_read : (t : MachTable) → FitsMach t → (k m : ℕ) (s : MachTableSection) → slice_get t.sections k ≡ Some s → m < length (records_of t.cputype s) → IsMachRelocation (mach_file t) (mach_relocation_row (mach_file t) (section_for t k s) m)
record_read t f k m s e l =
    let x = get_exists (records_of t.cputype s) m l in
    let row : mach_relocation_row (mach_file t) (section_for t k s) m ≡ x.0 = ap (λ p. mach_relocation_row_at (mach_file t) (p + 8 * m)) (records_place t k s s.relocations refl m l) ∙ record_is t f k s e m x.0 x.1 in
    let is = record_of t f k s e m x.0 x.1 in
    subst (IsMachRelocation (mach_file t)) (sym row) (record { address = is.address; symbol = λ h. (let below = is.symbol h in omega (arith, below, ap (λ (v : MachSymtab). v.nsyms) (symtab_of_is t f))) })

section_read : (t : MachTable) → FitsMach t → (k : ℕ) (s : MachTableSection) → slice_get t.sections k ≡ Some s → IsMachSection (mach_file t) (section_for t k s)
section_read t f k s e =
    let i = inside t in
    let grow = counts_grow t.cputype t.sections k s e in
    record {
      inside = contents_inside t f k s e;
      table =
          table_by (length (records_of t.cputype s)) (section_for t k s).reloff (records_start t k) (symbols_start t) (length (mach_file t)) (records_place t k s s.relocations refl) (omega (arith, grow, i.records))
          (omega (arith, i.symbols, i.strings, length-mach_file t f)) (no_table t k s s.relocations refl);
      records = λ m l. record_read t f k m s e l;
    }

sections_read : (t : MachTable) → FitsMach t → (k : ℕ) → k < section_count (mach_file t) → IsMachSection (mach_file t) (mach_section_row (mach_file t) k)
sections_read t f k l =
    let s = get_exists t.sections k (omega (arith, l, section_count_is t f)) in
    subst (IsMachSection (mach_file t)) (sym (section_row_is t f k s.0 s.1)) (section_read t f k s.0 s.1)

pub symbol_row_is : (t : MachTable) → FitsMach t → (k : ℕ) (s : MachTableSymbol) → slice_get t.symbols k ≡ Some s → mach_symbol_row (mach_file t) k ≡ mach_symbol_for t k s
symbol_row_is t f k s e = ap (λ (v : MachSymtab). mach_symbol_row_at (mach_file t) (v.symoff + 16 * k)) (symtab_of_is t f) ∙ symbol_is t f k s e

pub symbol_name_is : (t : MachTable) → FitsMach t → (k : ℕ) (s : MachTableSymbol) → slice_get t.symbols k ≡ Some s → mach_symbol_name (mach_file t) k ≡ Some s.name
symbol_name_is t f k s e = rw (symbol_row_is t f k s e, symtab_of_is t f) (name_is t f k s e)

symbols_read : (t : MachTable) → FitsMach t → (k : ℕ) → k < (symtab_of (mach_file t)).nsyms → IsMachSymbol (mach_file t) k
symbols_read t f k l =
    let s = get_exists t.symbols k (omega (arith, l, ap (λ (v : MachSymtab). v.nsyms) (symtab_of_is t f))) in
    let row = symbol_row_is t f k s.0 s.1 in
    let g = f.symbols k s.0 s.1 in
    record {
      name = rw (symbol_name_is t f k s.0 s.1) refl;
      behind_none = λ h. rw row (g.lies (rw row at h));
      place = λ h. rw row (omega (arith, g.sect, section_count_is t f));
    }

-- -- all of it

pub file_is_mach : (t : MachTable) → FitsMach t → IsMach (mach_file t)
file_is_mach t f =
    let i = inside t in
    let table = symtab_of_is t f in
    let c = commands_are t f in
    record {
      header = omega (arith, length-mach_file t f, i.start, i.records, i.symbols, i.strings);
      magic = ap (λ (h : MachHeader). h.magic) (header_is t f);
      kind = ap (λ (h : MachHeader). h.filetype) (header_is t f);
      area = omega (arith, end_is t f, length-mach_file t f, i.start, i.records, i.symbols, i.strings);
      commands = λ k l. command_fits t f c k (which t c k (omega (arith, l, ncmds_is t f, c.count)));
      only = only_one t f;
      sections = sections_read t f;
      symbol_table = omega (arith, ap (λ (v : MachSymtab). v.symoff) table, ap (λ (v : MachSymtab). v.nsyms) table, i.symbols, i.strings, length-mach_file t f);
      strings = omega (arith, ap (λ (v : MachSymtab). v.stroff) table, ap (λ (v : MachSymtab). v.strsize) table, i.strings, length-mach_file t f);
      symbols = symbols_read t f;
    }

pub file_holds : (t : MachTable) → FitsMach t → MachHolds (mach_file t) t
file_holds t f = record {
  file = file_is_mach t f;
  header = header_is t f;
  segment_begins = segment_begins t f;
  segment = segment_is t f;
  sections = section_is t f;
  version_begins = version_begins t f;
  version = version_is t f;
  symtab_begins = symtab_begins t f;
  symtab = symtab_is t f;
  contents = contents_are t f;
  records = record_is t f;
  symbols = symbol_is t f;
  strings = strings_are t f;
  padding = padding_is t f;
  padding_end = padding_end_is t f;
  end = length-mach_file t f;
}
