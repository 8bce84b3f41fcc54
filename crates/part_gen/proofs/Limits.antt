-- A generated part reaches no limit of its format.
use Rattle.std.proofs.Common.{◌≡◌, ℕ, zero, suc, ◌+◌, ◌-◌, ◌*◌, ◌%◌, ◌^◌, ◌<◌, ◌≤◌, List, [], ◌∷◌, ◌++◌, Bool, true, false, cond, None, refl, ap, sym, ◌∙◌, arith, map, filter, length, append-nil, length-append, replicate, decimal}
use Rattle.std.specs.Prelude.{codes, sum_by, count_by, nat_le}
use Rattle.std.specs.List.{range_with_len, list_any, flat_map}
use Rattle.std.proofs.lemmas.List.{length-replicate, length-map}
use Rattle.std.proofs.lemmas.Bool.Decides.{nat_tests}
use Rattle.std.proofs.lemmas.Fmt.{length-decimal-le}
use Rattle.std.proofs.lemmas.List.Sums.{sum_by-cons, count_by-le-length}
use Rattle.std.proofs.lemmas.List.Folds.{list_any-append}
use Rattle.ir_core.specs.Moments.{moments}
use Rattle.ir_core.specs.declared.target.BinaryFormat.TheVariants.{Elf}
use Rattle.object_core.specs.declared.kinds.StandardSection.TheVariants.{Text, ReadOnlyDataWithRel}
use Rattle.object_core.specs.Object.{SymbolData, SectionData, ObjectData}
use Rattle.object_core.specs.Appending.{file_symbol}
use Rattle.object_core.specs.ElfRows.{elf_table_of}
use Rattle.object_core.specs.declared.error.EmitError.{EmitError}
use Rattle.object_core.specs.declared.error.EmitError.TheVariants.{TooMany, TooLarge}
use Rattle.object_core.specs.declared.error.What.TheVariants.{Sections, Symbols, Contents, Names}
use Rattle.object_elf.specs.Counts.{Counts, elf_counts}
use Rattle.object_elf.specs.Limits.{limit_if, limit_cause}
use Rattle.object_elf.specs.PlainCounts.{plain_counts, symbol_name_size, section_name_size}
use Rattle.object_elf.specs.Writing.{has_relocations}
use Rattle.object_elf.proofs.Tables.{counts_are}
use Rattle.cranelift_module.specs.declared.identifiers.FuncOrDataId.{FuncOrDataId}
use Rattle.cranelift_module.specs.declared.identifiers.FuncOrDataId.TheVariants.{Func, Data}
use Rattle.cranelift_module.specs.Definitions.{Definition}
use Rattle.cranelift_module.specs.LinkState.{LinkState}
use Rattle.cranelift_module.specs.LibraryNames.{usual_texts}
use Rattle.cranelift_object.specs.Settings.{Settings, plain_settings}
use Rattle.cranelift_object.specs.SectionClass.{Class, section_class, standard_class}
use Rattle.cranelift_object.specs.Placing.{Placed, placed, share, sections_used, room_of, align_of}
use Rattle.cranelift_object.specs.Targets.{extras, targets, is_extra}
use Rattle.cranelift_object.specs.Linked.{object_of, symbols_of, sections_of, identifier_symbol}
use Rattle.cranelift_object.specs.Partial.{placed_of, sections_from}
use Rattle.cranelift_object.specs.Part.{limit_of}
use Rattle.cranelift_object.proofs.ClassLaws.{used-end, any_used}
use Rattle.cranelift_object.proofs.ObjectLaws.{sections_whole}
use Rattle.part_gen.specs.Draws.{draw}
use Rattle.part_gen.proofs.States.{defined, definitions_among, first_of_number, second_of_number, pairs_more, row_there, function_row, data_row}

abbrev settings : Settings
settings = plain_settings (codes "gen.o") usual_texts

-- -- sections: one for all functions, one for all data objects

abbrev text_class : Class
text_class = standard_class Text false false

abbrev address_class : Class
address_class = standard_class ReadOnlyDataWithRel false false

classes : List ℕ → List Class
classes ks = flat_map (λ k. text_class ∷ address_class ∷ []) ks

classes_are : (seed n a count : ℕ) → a + count ≤ n → map (section_class settings (defined seed n n)) (definitions_among seed n (range_with_len a count)) ≡ classes (range_with_len a count)
unfolding defined classes
classes_are seed n a zero h = refl
classes_are seed n a (suc count) h = rw (row_there data_row n a (omega arith), classes_are seed n (a + 1) count (omega arith)) refl

used_more : (cs : List Class) → sections_used cs ≡ text_class ∷ address_class ∷ [] → sections_used ((cs ++ text_class ∷ []) ++ address_class ∷ []) ≡ text_class ∷ address_class ∷ []
used_more cs e =
    let text : list_any (share text_class) cs ≡ true = sym (any_used text_class cs) ∙ (rw e refl) in
    let address_before : list_any (share address_class) cs ≡ true = sym (any_used address_class cs) ∙ (rw e refl) in
    let address : list_any (share address_class) (cs ++ text_class ∷ []) ≡ true = rw (list_any-append (share address_class) cs (text_class ∷ []), address_before) refl in
    used-end (cs ++ text_class ∷ []) address_class ∙ (rw (address, used-end cs text_class, text, e) refl)

used_are : (k : ℕ) → sections_used (classes (range_with_len 0 (k + 1))) ≡ text_class ∷ address_class ∷ []
unfolding sections_used moments classes
used_are zero = refl
used_are (suc k) =
    let count : suc k + 1 ≡ k + 1 + 1 = omega arith in
    rw (count, sym (pairs_more (λ j. text_class) (λ j. address_class) (k + 1))) (used_more (classes (range_with_len 0 (k + 1))) (used_are k))

name_room : (s : SectionData) → section_name_size s ≤ length s.name + length s.name + 7
name_room s = by_test (has_relocations s) where
  by_test : (b : Bool) → cond b (length s.name + 1 + (length s.name + 6)) (length s.name + 1) ≤ length s.name + length s.name + 7
  by_test true = omega arith
  by_test false = omega arith

-- how much two sections of short names take
two_sections : (sections : List SectionData) (a b : SectionData) → sections ≡ a ∷ b ∷ [] → length a.name ≤ 100 → length b.name ≤ 100
    → (length sections + count_by has_relocations sections + 5 < 65280) × (sum_by section_name_size sections < 1000)
two_sections sections a b e short_a short_b =
    let counted : count_by has_relocations (a ∷ b ∷ []) ≤ 2 = count_by-le-length has_relocations (a ∷ b ∷ []) in
    let sum : sum_by section_name_size (a ∷ b ∷ []) ≡ section_name_size a + (section_name_size b + 0) =
    sum_by-cons section_name_size a (b ∷ []) ∙ ap (λ n. section_name_size a + n) (sum_by-cons section_name_size b []) in
    let room_a = name_room a in
    let room_b = name_room b in
    rw e (omega arith, omega (arith, sum))

all_classes : (seed n : ℕ) → map (section_class settings (defined seed n n)) (defined seed n n).definitions ≡ classes (range_with_len 0 n)
unfolding defined
all_classes seed n = classes_are seed n 0 n (omega arith)

sections_left : (seed n : ℕ) → 0 < n
    → sections_of settings (defined seed n n) (placed settings (defined seed n n)) ≡ sections_from settings (defined seed n n) 0 (text_class ∷ address_class ∷ []) (placed settings (defined seed n n))
unfolding placed
sections_left seed n h =
    let s : LinkState = defined seed n n in
    let some : n - 1 + 1 ≡ n = omega arith in
    sections_whole settings s s.definitions
    ∙ ap (λ (cs : List Class). sections_from settings s 0 (sections_used cs) (placed_of settings s s.definitions)) (all_classes seed n)
    ∙ ap (λ (cs : List Class). sections_from settings s 0 cs (placed_of settings s s.definitions)) (ap (λ k. sections_used (classes (range_with_len 0 k))) (sym some) ∙ used_are (n - 1))

-- -- contents

content_room : (seed n a count : ℕ) → sum_by (λ (d : Definition). room_of (defined seed n n) d + align_of (defined seed n n) d) (definitions_among seed n (range_with_len a count)) ≤ 100 * count
unfolding defined
content_room seed n a zero = omega arith
content_room seed n a (suc count) =
    let room : Definition → ℕ = λ (d : Definition). room_of (defined seed n n) d + align_of (defined seed n n) d in
    let rest : List Definition = definitions_among seed n (range_with_len (a + 1) count) in
    let both : sum_by room (first_of_number seed n a ∷ second_of_number seed n a ∷ rest) ≡ room (first_of_number seed n a) + (room (second_of_number seed n a) + sum_by room rest) = sum_by-cons room (first_of_number seed n a) (second_of_number seed n a ∷ rest) ∙ ap (λ m. room (first_of_number seed n a) + m) (sum_by-cons room (second_of_number seed n a) rest) in
    let bytes : length {A = ℕ} (replicate (16 + draw seed (4 * a) % 16) 0x90) ≡ 16 + draw seed (4 * a) % 16 = length-replicate (16 + draw seed (4 * a) % 16) 0x90 in
    let first_room : room (first_of_number seed n a) ≡ length {A = ℕ} (replicate (16 + draw seed (4 * a) % 16) 0x90) + 16 = refl in
    let second_room : room (second_of_number seed n a) ≡ 24 = refl in
    let later = content_room seed n (a + 1) count in
    omega arith

-- -- symbols: that of the file, and one for each identifier

no_extras_among : (s : LinkState) (seed n a count : ℕ) → filter is_extra (targets settings s (definitions_among seed n (range_with_len a count))) ≡ []
no_extras_among s seed n a zero = refl
no_extras_among s seed n a (suc count) = no_extras_among s seed n (a + 1) count

all_targets : (seed n : ℕ) → filter is_extra (targets settings (defined seed n n) (defined seed n n).definitions) ≡ []
unfolding defined
all_targets seed n = no_extras_among (defined seed n n) seed n 0 n

no_extras : (seed n : ℕ) → extras settings (defined seed n n) ≡ []
unfolding extras moments
no_extras seed n = rw (all_targets seed n) refl

identifiers_among : List ℕ → List FuncOrDataId
identifiers_among ks = flat_map (λ k. Func k ∷ Data k ∷ []) ks

identifier_count : (a count : ℕ) → length (identifiers_among (range_with_len a count)) ≡ 2 * count
unfolding identifiers_among
identifier_count a zero = refl
identifier_count a (suc count) = let later = identifier_count (a + 1) count in omega arith

name_sizes : (seed n a count : ℕ) (ps : List Placed) → n ≤ 100000 → a + count ≤ n → sum_by symbol_name_size (map (identifier_symbol (defined seed n n) ps) (identifiers_among (range_with_len a count))) ≤ 20 * count
unfolding defined identifiers_among
name_sizes seed n a zero ps most h = omega arith
name_sizes seed n a (suc count) ps most h =
    let rest : List SymbolData = map (identifier_symbol (defined seed n n) ps) (identifiers_among (range_with_len (a + 1) count)) in
    let f : SymbolData = identifier_symbol (defined seed n n) ps (Func a) in
    let d : SymbolData = identifier_symbol (defined seed n n) ps (Data a) in
    let both = sum_by-cons symbol_name_size f (d ∷ rest) ∙ ap (λ m. symbol_name_size f + m) (sum_by-cons symbol_name_size d rest) in
    let digits = length-decimal-le 5 a (omega arith) (omega arith) (omega arith) in
    let f_size : symbol_name_size f ≡ 1 + length (decimal a) + 1 = rw (row_there function_row n a (omega arith)) (omega arith) in
    let d_size : symbol_name_size d ≡ 1 + length (decimal a) + 1 = rw (row_there data_row n a (omega arith)) (omega arith) in
    let later = name_sizes seed n (a + 1) count ps most (omega arith) in
    omega arith

symbols_left : (seed n : ℕ) (ps : List Placed) → symbols_of settings (defined seed n n) ps ≡ file_symbol (codes "gen.o") ∷ map (identifier_symbol (defined seed n n) ps) (identifiers_among (range_with_len 0 n)) ++ []
unfolding symbols_of defined identifiers_among
symbols_left seed n ps = rw (no_extras seed n) refl

-- -- the limits

under : (bound n : ℕ) (e : EmitError) → n < bound → limit_if bound n e ≡ None
under bound n e h = let test : nat_le bound n ≡ false = grind (arith, nat_tests) in rw test refl

pub within : (c : Counts) → c.sections < 65280 → c.symbols < 2 ^ 32 → c.contents < 2 ^ 63 → c.names < 2 ^ 32 → limit_cause c ≡ None
within c sections symbols contents names =
    rw (under 65280 c.sections (TooMany Sections c.sections) sections, under (2 ^ 32) c.symbols (TooMany Symbols c.symbols) symbols, under (2 ^ 63) c.contents (TooLarge Contents c.contents) contents, under (2 ^ 32) c.names (TooLarge Names c.names) names) refl

symbol_count : (seed n : ℕ) (ps : List Placed) → length (symbols_of settings (defined seed n n) ps) ≡ 1 + 2 * n
symbol_count seed n ps =
    let ids : List FuncOrDataId = identifiers_among (range_with_len 0 n) in
    let all = ap (λ (symbols : List SymbolData). length symbols) (symbols_left seed n ps) in
    omega (arith, all, length-append (map (identifier_symbol (defined seed n n) ps) ids) [], length-map ids (identifier_symbol (defined seed n n) ps), identifier_count 0 n)

symbol_names : (seed n : ℕ) (ps : List Placed) → n ≤ 100000 → sum_by symbol_name_size (symbols_of settings (defined seed n n) ps) ≤ 6 + 20 * n
symbol_names seed n ps most =
    let names : List SymbolData = map (identifier_symbol (defined seed n n) ps) (identifiers_among (range_with_len 0 n)) in
    let all = ap (sum_by symbol_name_size) (symbols_left seed n ps) ∙ sum_by-cons symbol_name_size (file_symbol (codes "gen.o")) (names ++ []) ∙ ap (λ (symbols : List SymbolData). 6 + sum_by symbol_name_size symbols) (append-nil names) in
    omega (arith, all, name_sizes seed n 0 n ps most (omega arith))

all_asked : (seed n : ℕ) → sum_by (λ (d : Definition). room_of (defined seed n n) d + align_of (defined seed n n) d) (definitions_among seed n (range_with_len 0 n)) ≤ 100 * n
    → sum_by (λ (d : Definition). room_of (defined seed n n) d + align_of (defined seed n n) d) (defined seed n n).definitions ≤ 100 * n
unfolding defined
all_asked seed n h = h

contents_asked : (seed n : ℕ) → sum_by (λ (d : Definition). room_of (defined seed n n) d + align_of (defined seed n n) d) (defined seed n n).definitions ≤ 100 * n
contents_asked seed n = all_asked seed n (content_room seed n 0 n)

object_within : (seed n : ℕ) → 0 < n → n ≤ 100000 → limit_cause (plain_counts (object_of settings (defined seed n n))) ≡ None
unfolding object_of
object_within seed n h most =
    let s : LinkState = defined seed n n in
    let ps : List Placed = placed settings s in
    let sections = two_sections (sections_of settings s ps) _ _ (sections_left seed n h) (omega arith) (omega arith) in
    let count = symbol_count seed n ps in
    let names = symbol_names seed n ps most in
    let contents = contents_asked seed n in
    within (plain_counts (object_of settings s)) sections.0 (omega (arith, count)) (omega (arith, contents)) (omega (arith, names, sections.1))

limit_elf : (o : ObjectData) → o.format ≡ Elf → limit_of o ≡ limit_cause (elf_counts (elf_table_of o) o.content_sum)
limit_elf o e = rw e refl

is_elf : (seed n : ℕ) → (object_of settings (defined seed n n)).format ≡ Elf
unfolding object_of defined
is_elf seed n = refl

-- no limit is reached
pub limit_free : (seed n : ℕ) → 0 < n → n ≤ 100000 → limit_of (object_of settings (defined seed n n)) ≡ None
limit_free seed n h most =
    let o : ObjectData = object_of settings (defined seed n n) in
    limit_elf o (is_elf seed n) ∙ ap limit_cause (counts_are o) ∙ object_within seed n h most
