-- The rows of symbols, by the numbers and the addresses of sections.
use Rattle.std.proofs.Common.{◌≡◌, ℕ, suc, ◌+◌, ◌<◌, ◌^◌, [], ◌∷◌, List, length, take, map, refl, ap, sym, ◌∙◌, arith}
use Rattle.std.specs.Prelude.{slice_get, Some, option_map, slice_index, sum_by}
use Rattle.std.specs.List.{enumerate_from}
use Rattle.std.proofs.lemmas.List.{length-map}
use Rattle.std.proofs.lemmas.List.Sums.{sum_by_push}
use Rattle.std.proofs.lemmas.Option.{get_or_from_slice_get, unwrap_or-slice_get}
use Rattle.byte_core.specs.Strings.{name_place}
use Rattle.byte_core.proofs.Lists.{get_exists, get_within, get_map}
use Rattle.object_core.specs.declared.kinds.SymbolKind.{SymbolKind}
use Rattle.object_core.specs.declared.kinds.SymbolSection.{SymbolSection}
use Rattle.object_core.specs.declared.kinds.SymbolSection.TheVariants as section
use Rattle.object_core.specs.declared.symbol.Symbol.{Symbol}
use Rattle.object_core.specs.Object.{SymbolData, SectionData, ObjectData, plain_symbol}
use Rattle.object_core.specs.WellFormed.{PlaceFits}
use Rattle.object_core.specs.LinkTable.{MachTable, MachTableSymbol}
use Rattle.object_core.specs.MachRows.{header_order, section_address, addresses_in, section_number_in, mach_sect, mach_value, mach_symbol, mach_section, macho_table_of}
use Rattle.object_macho.specs.Layout.{mach_names}
use Rattle.object_macho.specs.MachHolds.{mach_symbol_for}
use Rattle.object_macho.specs.File.{mach_symbol_rows_from}
use Rattle.object_macho.specs.Fitting.{FitsMach}
use Rattle.object_macho.specs.Orders.{IsAmong, sect_by, value_by, AreNumbers}
use Rattle.object_macho.specs.Plan.{number_of, section_numbers, symbol_order}
use Rattle.object_macho.specs.Rows.{symbol_with}
use Rattle.object_macho.proofs.Moments.{length-seen}
use Rattle.object_macho.proofs.Orders.{section_holds, symbol_rows, length-header_order, length-symbol_order}
use Rattle.object_macho.proofs.Patching.{get_enumerate}
use Rattle.object_macho.proofs.Reading.{symbol_rows_get, inside}
use Rattle.object_macho.proofs.Behind.{take_next}
use Rattle.object_macho.proofs.TableFits.{inside_by}
use Rattle.byte_core.proofs.StringTables.{name_place-lt}

-- -- sections by their numbers

length-enumerated : {A : Type 0} (a : ℕ) (xs : List A) → length (enumerate_from a xs) ≡ length xs
length-enumerated a [] = refl
length-enumerated a (x ∷ xs) = ap suc (length-enumerated (a + 1) xs)

pub length-section_numbers : (ss : List SectionData) → length (section_numbers ss) ≡ length ss
length-section_numbers ss = length-map (enumerate_from 0 ss) (number_of ss) ∙ length-enumerated 0 ss

number_at : (ss : List SectionData) (id : ℕ) → id < length ss → slice_index (section_numbers ss) id ≡ section_number_in ss id
number_at ss id h =
    let x = get_exists ss id h in
    let place : 0 + id ≡ id = omega arith in
    get_or_from_slice_get (section_numbers ss) id (section_number_in ss id) 0 (get_map (number_of ss) (enumerate_from 0 ss) id (id, x.0) (get_enumerate 0 ss id x.0 x.1 ∙ ap (λ n. Some (n, x.0)) place))

pub length-addresses : (ss : List SectionData) → length (addresses_in ss) ≡ length ss
unfolding addresses_in
length-addresses ss = length-seen section_address (header_order ss) ∙ length-header_order ss

number_within : (ss : List SectionData) (id : ℕ) → id < length ss → section_number_in ss id < length ss
number_within ss id h =
    let x = get_exists ss id h in
    omega (arith, get_within (header_order ss) (section_number_in ss id) x.0 (section_holds ss id x.0 x.1), length-header_order ss)

count_rows : (o : ObjectData) → FitsMach (macho_table_of o) → length o.sections < 256
unfolding macho_table_of
count_rows o f = omega (arith, f.section_count, length-seen (mach_section o.symbols) (header_order o.sections), length-header_order o.sections)

pub are_numbers : (o : ObjectData) (numbers addresses : List ℕ) → FitsMach (macho_table_of o) → numbers ≡ section_numbers o.sections → addresses ≡ addresses_in o.sections → AreNumbers numbers addresses
are_numbers o numbers addresses f e g = record {
  each = λ id h.
      let below : id < length o.sections = omega (arith, h, ap length e, length-section_numbers o.sections) in
      omega (arith, ap (λ (xs : List ℕ). slice_index xs id) e, number_at o.sections id below, number_within o.sections id below, ap length g, length-addresses o.sections);
  few = omega (arith, ap length g, length-addresses o.sections, count_rows o f);
}

pub sect_is : (ss : List SectionData) (numbers : List ℕ) (at : SymbolSection) → numbers ≡ section_numbers ss → IsAmong (length ss) at → sect_by numbers at ≡ mach_sect ss at
sect_is ss numbers section.Undefined e h = refl
sect_is ss numbers section.Absolute e h = refl
sect_is ss numbers (section.Section id) e h = ap (λ (xs : List ℕ). slice_index xs id + 1) e ∙ ap (λ n. n + 1) (number_at ss id h)

pub value_is : (ss : List SectionData) (numbers addresses : List ℕ) (at : SymbolSection) (value : ℕ) → numbers ≡ section_numbers ss → addresses ≡ addresses_in ss → IsAmong (length ss) at → value_by numbers addresses at value ≡ mach_value ss at value
value_is ss numbers addresses section.Undefined value e g h = refl
value_is ss numbers addresses section.Absolute value e g h = refl
value_is ss numbers addresses (section.Section id) value e g h =
    ap (λ (xs : List ℕ). slice_index addresses (slice_index xs id) + value) e
    ∙ ap (λ n. slice_index addresses n + value) (number_at ss id h)
    ∙ ap (λ (xs : List ℕ). slice_index xs (section_number_in ss id) + value) g
    ∙ ap (λ n. n + value) (sym (unwrap_or-slice_get (addresses_in ss) (section_number_in ss id) 0))

pub is_among : (o : ObjectData) (k : SymbolKind) (at : SymbolSection) → PlaceFits o k at → IsAmong (length o.sections) at
is_among o k section.Undefined h = tt
is_among o k section.Absolute h = tt
is_among o k (section.Section id) h = inside_by o k id h

-- -- rows

pub table_symbol_at : (o : ObjectData) (n : ℕ) (s : SymbolData) → slice_get (symbol_rows o.symbols) n ≡ Some s → slice_get (macho_table_of o).symbols n ≡ Some (mach_symbol o.sections s)
unfolding macho_table_of
table_symbol_at o n s e = get_map (mach_symbol o.sections) (symbol_rows o.symbols) n s e

pub symbol_row_at : (o : ObjectData) (n : ℕ) (s : SymbolData) → slice_get (symbol_rows o.symbols) n ≡ Some s
    → slice_get (mach_symbol_rows_from (macho_table_of o) 0 (macho_table_of o).symbols) n ≡ Some (mach_symbol_for (macho_table_of o) n (mach_symbol o.sections s))
symbol_row_at o n s e =
    let place : 0 + n ≡ n = omega arith in
    symbol_rows_get (macho_table_of o) 0 (macho_table_of o).symbols n (mach_symbol o.sections s) (table_symbol_at o n s e) ∙ ap (λ k. Some (mach_symbol_for (macho_table_of o) k (mach_symbol o.sections s))) place

pub row_same : (t : MachTable) (n : ℕ) (ss : List SectionData) (s : SymbolData) (p : Symbol) (strx sect value : ℕ) → plain_symbol s ≡ p → strx ≡ name_place (mach_names t) n → sect ≡ mach_sect ss s.section → value ≡ mach_value ss s.section s.value
    → symbol_with strx p sect value ≡ mach_symbol_for t n (mach_symbol ss s)
row_same t n ss s p strx sect value same a b c = rw (← same, a, b, c) refl

-- the place of the next name
pub place_next : (names : List (List ℕ)) (n : ℕ) (name : List ℕ) → slice_get names n ≡ Some name → name_place names (n + 1) ≡ name_place names n + (length name + 1)
place_next names n name e =
    let next : n + 1 ≡ suc n = omega arith in
    omega (arith, ap (λ k. sum_by (λ (x : List ℕ). length x + 1) (take k names)) next, ap (sum_by (λ (x : List ℕ). length x + 1)) (take_next names n name e), sum_by_push (λ (x : List ℕ). length x + 1) (take n names) name)

pub place_fits : (t : MachTable) (n : ℕ) (name : List ℕ) → FitsMach t → slice_get (mach_names t) n ≡ Some name → name_place (mach_names t) n + (length name + 1) < 2 ^ 32
place_fits t n name f e = omega (arith, name_place-lt (mach_names t) n name e, (inside t).strings, f.file)

-- -- by what an object tells of an element

some_same : {A : Type 0} {x y : A} → Some x ≡ Some y → x ≡ y
some_same e = cc

pub told : {A B : Type 0} (f : A → B) (xs : List A) (id other : ℕ) (x : A) (y : B) → slice_get xs id ≡ Some x → other ≡ id → option_map f (slice_get xs other) ≡ Some y → f x ≡ y
told f xs id other x y e same h = some_same (ap (option_map f) (sym (ap (slice_get xs) same ∙ e)) ∙ h)

length-rows_from : (t : MachTable) (k : ℕ) (ss : List MachTableSymbol) → length (mach_symbol_rows_from t k ss) ≡ length ss
unfolding mach_symbol_rows_from
length-rows_from t k [] = refl
length-rows_from t k (s ∷ ss) = ap suc (length-rows_from t (k + 1) ss)

pub length-symbol_rows : (o : ObjectData) → length (mach_symbol_rows_from (macho_table_of o) 0 (macho_table_of o).symbols) ≡ length (symbol_order o.symbols)
unfolding macho_table_of
length-symbol_rows o = length-rows_from (macho_table_of o) 0 (map (mach_symbol o.sections) (symbol_rows o.symbols)) ∙ length-map (symbol_rows o.symbols) (mach_symbol o.sections) ∙ sym (length-symbol_order o.symbols)
