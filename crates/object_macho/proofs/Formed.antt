-- What a formed object gives the writers of contents and records.
use Rattle.std.proofs.Common.{◌≡◌, ℕ, suc, ◌+◌, ◌-◌, ◌*◌, ◌^◌, ◌<◌, ◌⊎◌, inl, inr, Bool, true, false, not, cond, ◌&&◌, List, [], ◌∷◌, ◌++◌, length, map, ℤ, Some, refl, ap, sym, ◌∙◌, arith, length-append, append_assoc}
use Rattle.std.specs.Prelude.{slice_get, slice_index, flat_map}
use Rattle.std.specs.List.{enumerate_from}
use Rattle.std.proofs.lemmas.List.{length-map}
use Rattle.std.proofs.lemmas.List.Sums.{sum_by-cons}
use Rattle.std.proofs.lemmas.Option.{get_or_from_slice_get}
use Rattle.byte_core.proofs.Lists.{get_exists, get_within, get_map}
use Rattle.ir_core.specs.declared.reloc.Reloc.{Reloc}
use Rattle.ir_core.specs.declared.target.Architecture.{Architecture}
use Rattle.ir_core.specs.MachO.{mach_cputype, is_in_field, is_in_record, stored_number, is_within}
use Rattle.object_core.specs.declared.relocation.Relocation.{Relocation}
use Rattle.object_core.specs.declared.relocation.RelocationFlags.{RelocationFlags}
use Rattle.object_core.specs.declared.relocation.RelocationFlags.TheVariants as flags
use Rattle.object_core.specs.Object.{SymbolData, SectionData, ObjectData}
use Rattle.object_core.specs.WellFormed.{HasMachKind, mach_width, addend_has_room, IsFormedMachSection}
use Rattle.object_core.specs.LinkTable.{MachTableSection}
use Rattle.object_core.specs.MachRows.{mach_row_in, mach_type_of, mach_pcrel_of, mach_length_of, mach_relocation}
use Rattle.object_macho.specs.Layout.{records_for, records_of}
use Rattle.object_macho.specs.File.{mach_record_bytes}
use Rattle.object_macho.specs.Plan.{row_of, rows_of}
use Rattle.object_macho.specs.Rows.{relocation_with, FitFields}
use Rattle.object_macho.specs.Orders.{record_bytes_by, record_count_of, record_counts, FitRelocationsBy}
use Rattle.object_macho.proofs.Orders.{symbol_rows, symbol_holds}
use Rattle.object_macho.proofs.Patching.{get_enumerate}
use Rattle.object_macho.proofs.RecordLoops.{row_count}
use Rattle.object_macho.proofs.SmallKinds.{small_kind}

-- -- fields

small_field : (architecture : Architecture) (r : RelocationFlags) (kind : Reloc) → HasMachKind architecture r kind → ((mach_length_of r ≡ 2) ⊎ (mach_length_of r ≡ 3)) × (mach_type_of r < 16) × (mach_width r ≡ 2 ^ mach_length_of r)
small_field architecture (flags.Elf n) kind h = absurd h
small_field architecture (flags.MachO r_type pcrel len) kind h = let small = small_kind architecture kind _ h in (small.0, omega (arith, small.1), refl)

room_by : (b : Bool) (x : Bool) (y : Bool) → b ≡ true → cond b x y ≡ true → x ≡ true
room_by true x y e h = h
room_by false x y e h = absurd (cc)

field_room : (cputype : ℕ) (r : RelocationFlags) (addend : ℤ) → addend_has_room cputype r addend ≡ true → (mach_length_of r ≡ 2) ⊎ (mach_length_of r ≡ 3) → is_in_field cputype (mach_type_of r) ≡ true
    → is_within (2 ^ (8 * 2 ^ mach_length_of r - 1)) (stored_number (mach_pcrel_of r) addend) ≡ true
field_room cputype (flags.Elf n) addend h (inl e) kept = absurd (omega (arith, e))
field_room cputype (flags.Elf n) addend h (inr e) kept = absurd (omega (arith, e))
field_room cputype (flags.MachO r_type pcrel len) addend h small kept = room_by (is_in_field cputype r_type) _ _ kept h

pub fields_fit : (o : ObjectData) (s : SectionData) → IsFormedMachSection o s → FitFields (mach_cputype o.architecture) (length s.contents) s.relocations
fields_fit o s g k r e =
    let f = g.relocations k r e in
    let small = small_field o.architecture r.flags f.kind.0 f.kind.1 in
    record { length = small.0; inside = omega (arith, f.field, small.2); room = field_room (mach_cputype o.architecture) r.flags r.addend f.addend small.0 }

-- -- records

in_record : (a b : Bool) → (not a && b) ≡ true → a ≡ false
in_record true b h = absurd (cc)
in_record false b h = refl

record_by : (a b : Bool) (x y z : Bool) → a ≡ false → b ≡ true → cond a x (cond b y z) ≡ true → y ≡ true
record_by true b x y z e f h = absurd (cc)
record_by false true x y z e f h = h
record_by false false x y z e f h = absurd (cc)

record_room : (cputype : ℕ) (r : RelocationFlags) (addend : ℤ) → addend_has_room cputype r addend ≡ true → (mach_length_of r ≡ 2) ⊎ (mach_length_of r ≡ 3) → is_in_record cputype (mach_type_of r) ≡ true → is_within (2 ^ 23) addend ≡ true
record_room cputype (flags.Elf n) addend h (inl e) kept = absurd (omega (arith, e))
record_room cputype (flags.Elf n) addend h (inr e) kept = absurd (omega (arith, e))
record_room cputype (flags.MachO r_type pcrel len) addend h small kept =
    record_by (is_in_field cputype r_type) (is_in_record cputype r_type) _ _ _ (in_record (is_in_field cputype r_type) _ kept) kept h

below_four : (n : ℕ) → (n ≡ 2) ⊎ (n ≡ 3) → n < 4
below_four n (inl e) = omega (arith, e)
below_four n (inr e) = omega (arith, e)

length-enumerated : {A : Type 0} (a : ℕ) (xs : List A) → length (enumerate_from a xs) ≡ length xs
length-enumerated a [] = refl
length-enumerated a (x ∷ xs) = ap suc (length-enumerated (a + 1) xs)

pub length-rows_of : (ss : List SymbolData) → length (rows_of ss) ≡ length ss
length-rows_of ss = length-map (enumerate_from 0 ss) (row_of ss) ∙ length-enumerated 0 ss

row_at : (ss : List SymbolData) (id : ℕ) → id < length ss → slice_index (rows_of ss) id ≡ mach_row_in ss id
row_at ss id h =
    let x = get_exists ss id h in
    let place : 0 + id ≡ id = omega arith in
    get_or_from_slice_get (rows_of ss) id (mach_row_in ss id) 0 (get_map (row_of ss) (enumerate_from 0 ss) id (id, x.0) (get_enumerate 0 ss id x.0 x.1 ∙ ap (λ n. Some (n, x.0)) place))

pub records_fit : (o : ObjectData) (s : SectionData) (rows : List ℕ) → IsFormedMachSection o s → length s.contents < 2 ^ 32 → length (symbol_rows o.symbols) < 2 ^ 24 → rows ≡ rows_of o.symbols
    → FitRelocationsBy (mach_cputype o.architecture) rows s.relocations
records_fit o s rows g size few e k r h =
    let f = g.relocations k r h in
    let t = f.symbol in
    let small = small_field o.architecture r.flags f.kind.0 f.kind.1 in
    let within = get_within o.symbols r.symbol t.0 t.1 in
    let row = get_within (symbol_rows o.symbols) _ t.0 (symbol_holds o.symbols r.symbol t.0 t.1 t.2) in
    record {
      within = omega (arith, within, ap length e, length-rows_of o.symbols);
      row = omega (arith, ap (λ (xs : List ℕ). slice_index xs r.symbol) e, row_at o.symbols r.symbol within, row, few);
      fits = record { offset = omega (arith, f.field, size); length = below_four _ small.0; r_type = small.1; addend = record_room (mach_cputype o.architecture) r.flags r.addend f.addend small.0 };
    }

-- -- the records of a section's row

flat_append : {A B : Type 0} (f : A → List B) (xs ys : List A) → flat_map f (xs ++ ys) ≡ flat_map f xs ++ flat_map f ys
flat_append f [] ys = refl
flat_append f (x ∷ xs) ys = ap (λ zs. f x ++ zs) (flat_append f xs ys) ∙ sym (append_assoc (f x) (flat_map f xs) (flat_map f ys))

bytes_by : (cputype : ℕ) (symbols : List SymbolData) (rows : List ℕ) (rs : List Relocation) → ((k : ℕ) (r : Relocation) → slice_get rs k ≡ Some r → slice_index rows r.symbol ≡ mach_row_in symbols r.symbol)
    → flat_map (record_bytes_by cputype rows) rs ≡ flat_map mach_record_bytes (flat_map (records_for cputype) (map (mach_relocation symbols) rs))
bytes_by cputype symbols rows [] h = refl
bytes_by cputype symbols rows (r ∷ rs) h =
    ap (λ row. flat_map mach_record_bytes (records_for cputype (relocation_with row r)) ++ flat_map (record_bytes_by cputype rows) rs) (h 0 r refl)
    ∙ ap (λ xs. flat_map mach_record_bytes (records_for cputype (mach_relocation symbols r)) ++ xs) (bytes_by cputype symbols rows rs (λ k q e. h (suc k) q e))
    ∙ sym (flat_append mach_record_bytes (records_for cputype (mach_relocation symbols r)) (flat_map (records_for cputype) (map (mach_relocation symbols) rs)))

pub section_bytes : (o : ObjectData) (cputype : ℕ) (s : SectionData) (rows : List ℕ) (row : MachTableSection) → IsFormedMachSection o s → rows ≡ rows_of o.symbols → row.relocations ≡ map (mach_relocation o.symbols) s.relocations
    → flat_map (record_bytes_by cputype rows) s.relocations ≡ flat_map mach_record_bytes (records_of cputype row)
unfolding records_of
section_bytes o cputype s rows row g e h =
    bytes_by cputype o.symbols rows s.relocations
    (λ k r f.
    (let t = (g.relocations k r f).symbol in
    ap (λ (xs : List ℕ). slice_index xs r.symbol) e ∙ row_at o.symbols r.symbol (get_within o.symbols r.symbol t.0 t.1)))
    ∙ ap (λ rs. flat_map mach_record_bytes (flat_map (records_for cputype) rs)) (sym h)

counts_by : (cputype : ℕ) (symbols : List SymbolData) (rs : List Relocation) → record_counts cputype rs ≡ length (flat_map (records_for cputype) (map (mach_relocation symbols) rs))
counts_by cputype symbols [] = refl
counts_by cputype symbols (r ∷ rs) =
    omega (
      arith,
      sum_by-cons (record_count_of cputype) r rs,
      counts_by cputype symbols rs,
      row_count cputype (mach_row_in symbols r.symbol) r,
      length-append (records_for cputype (mach_relocation symbols r)) (flat_map (records_for cputype) (map (mach_relocation symbols) rs)),
    )

pub section_counts : (o : ObjectData) (cputype : ℕ) (s : SectionData) (row : MachTableSection) → row.relocations ≡ map (mach_relocation o.symbols) s.relocations → record_counts cputype s.relocations ≡ length (records_of cputype row)
unfolding records_of
section_counts o cputype s row h = counts_by cputype o.symbols s.relocations ∙ ap (λ rs. length (flat_map (records_for cputype) rs)) (sym h)
