-- The object of a module can be written.
use Rattle.std.proofs.Common.{◌≡◌, ℕ, zero, suc, ◌+◌, ◌%◌, ◌/◌, ◌==◌, ◌||◌, not, ◌^◌, ◌<◌, ◌≤◌, ◌++◌, ◌∷◌, List, [], Bool, true, false, cond, length, map, Option, Some, None, refl, ap, sym, ◌∙◌, subst, arith, inl, inr, codes}
use Rattle.std.proofs.lemmas.Bool.{ltb-false}
use Rattle.std.proofs.lemmas.Bool.Decides.{eqb_tells}
use Rattle.std.proofs.lemmas.List.{length-map}
use Rattle.std.proofs.lemmas.List.Elements.{All-nil, All-cons, All-weaker, All-map, All-head, All-tail}
use Rattle.std.proofs.lemmas.Option.{slice_get-map, slice_get_within}
use Rattle.std.specs.Prelude.{slice_get, option_map, unwrap_or, is_some, nat_lt, find, flat_map, Result, Ok, Err}
use Rattle.std.specs.Option.{option_or}
use Rattle.std.specs.List.{All, list_any, position_from, position_or_len}
use Rattle.std.specs.Fmt.{digits, digits_onto, digit_glyph, decimal}
use Rattle.std.proofs.lemmas.List.Folds.{list_any-append}
use Rattle.ir_core.specs.Target.{Target}
use Rattle.cranelift_module.specs.Kind.{elf_number, field_width}
use Rattle.ir_core.specs.MachKind.{has_kind_in}
use Rattle.ir_core.specs.declared.reloc.Reloc.{Reloc}
use Rattle.ir_core.specs.declared.target.Architecture.{Architecture}
use Rattle.ir_core.specs.declared.target.BinaryFormat.{BinaryFormat}
use Rattle.ir_core.specs.declared.target.BinaryFormat.TheVariants.{Elf, Coff, Macho, Wasm, Unknown}
use Rattle.cranelift_module.specs.declared.error.BackendCause.TheVariants.{NulByte, UnsupportedReloc, BadReloc}
use Rattle.cranelift_module.specs.declared.reloc.ModuleReloc.{ModuleReloc}
use Rattle.ir_core.specs.declared.reloc.KnownSymbol.{KnownSymbol}
use Rattle.ir_core.specs.declared.reloc.KnownSymbol.TheVariants.{ElfGlobalOffsetTable, CoffTlsIndex}
use Rattle.cranelift_module.specs.Call.{Contents, bytes, zeros}
use Rattle.cranelift_module.specs.Refusal.{Refusal, function_name, data_name, zero_byte, backend, refuse_if, has_kind, is_outside, is_bad_field, is_refused_in, bytes_in, reloc_cause, bad_reloc_from, is_same_identifier, are_bytes}
use Rattle.cranelift_module.specs.declared.error.SectionFault.{SectionFault}
use Rattle.cranelift_module.specs.SectionText.{SectionText, section_text}
use Rattle.cranelift_module.specs.Definitions.{Definition, size_of}
use Rattle.cranelift_module.specs.LinkState.{LinkState}
use Rattle.cranelift_module.specs.Rows.{FunctionRow, DataRow}
use Rattle.cranelift_module.specs.declared.linkage.Linkage.{Linkage}
use Rattle.cranelift_module.specs.declared.identifiers.FuncOrDataId.{FuncOrDataId}
use Rattle.cranelift_module.specs.declared.identifiers.FuncOrDataId.TheVariants.{Func, Data}
use Rattle.object_core.specs.declared.relocation.Relocation.{Relocation}
use Rattle.object_core.specs.declared.kinds.SymbolKind.TheVariants as kind
use Rattle.object_core.specs.declared.kinds.StandardSection.{StandardSection}
use Rattle.object_core.specs.declared.kinds.StandardSection.TheVariants.{Text, Data as DataSection, ReadOnlyData, ReadOnlyDataWithRel, UninitializedData, Tls, UninitializedTls}
use Rattle.object_core.specs.Object.{SymbolData, SectionData, ObjectData}
use Rattle.object_core.specs.Places.{end_of, joined}
use Rattle.object_core.specs.Appending.{file_symbol}
use Rattle.object_core.specs.WellFormed.{IsFormedElf, IsFormedSymbol, IsFormedRelocation, HasElfKind, has_zero_byte, is_file}
use Rattle.object_core.specs.Standard.{mach_name}
use Rattle.cranelift_object.specs.Settings.{Settings}
use Rattle.cranelift_object.specs.Opened.{OpenModule}
use Rattle.cranelift_object.specs.Kept.{IsModule, IsBody, IsName, Marks}
use Rattle.cranelift_object.specs.SectionClass.{Class, section_class, class_by_text, standard_class, standard_class_in, standard_section, has_own_section, asked_class, marks_section}
use Rattle.cranelift_object.specs.Placing.{Placed, placed, sections_used, room_of, extent_of, standing_in}
use Rattle.cranelift_object.specs.Partial.{placed_of, partial, sections_from}
use Rattle.cranelift_object.specs.Targets.{RelocationTarget, target_of, identifier, library, known, label, extras, is_same_target, is_extra}
use Rattle.cranelift_object.specs.EndCause.{first_bad_reference}
use Rattle.cranelift_object.specs.Extras.{extra_target, IsFaithful, AreExtras}
use Rattle.cranelift_object.specs.Adding.{with_added}
use Rattle.cranelift_object.specs.declared.extras.Extra.{Extra}
use Rattle.cranelift_object.specs.declared.extras.Extra.TheVariants.{Library, Known, Label}
use Rattle.cranelift_object.specs.Linked.{defined_at, named_symbol, function_symbol, data_symbol, identifier_symbol, extra_symbol, label_symbol, known_symbol, section_with, members, object_of, object_relocation, row_of, piece_of, is_unstored_class, relocation_flags}
use Rattle.cranelift_object.proofs.FirstCause.{row_at}
use Rattle.cranelift_object.proofs.SectionLaws.{joined_length, relocations_at}
use Rattle.cranelift_object.proofs.ClassLaws.{equal, placed_below, placed_definitions, placed_class, members_extents, used_all, All-slice_get, IsShareable, shareable, found_place}
use Rattle.cranelift_object.proofs.PlaceLaws.{places_within, ends_within}
use Rattle.cranelift_object.proofs.ObjectLaws.{partial_whole, map_twice}
use Rattle.cranelift_object.proofs.AddingLaws.{identifier_there, get_behind}
use Rattle.cranelift_object.proofs.CallLaws.{not_refused}
use Rattle.cranelift_object.proofs.TargetLaws.{IsHad, IsReached, was_true, unmapped, extras_had, all_reached, each_reached}
use Rattle.byte_core.proofs.Lists.{get_append}
use Rattle.cranelift_object.proofs.OpenLaws.{sections_length}
use Rattle.cranelift_object.proofs.FinishLaws.{causes_none}
use Rattle.cranelift_object.proofs.DefineLaws.{created_function, created_data, bytes_stored, room_least, good_least, or_left, or_right}
use Rattle.cranelift_object.proofs.Pairs.{All-both}
use Rattle.cranelift_object.proofs.SectionTexts.{text_room}

-- -- names

position_none_from : (test : ℕ → Bool) (i x : ℕ) (xs : List ℕ) (b : Bool) → (position_from test (i + 1) xs ≡ None → list_any test xs ≡ false) → cond b (Some i) (position_from test (i + 1) xs) ≡ None → (b || list_any test xs) ≡ false
position_none_from test i x xs true more h = absurd (cc)
position_none_from test i x xs false more h = more h

position_none : (test : ℕ → Bool) (i : ℕ) (xs : List ℕ) → position_from test i xs ≡ None → list_any test xs ≡ false
position_none test i [] h = refl
position_none test i (x ∷ xs) h = position_none_from test i x xs (test x) (position_none test (i + 1) xs) h

option_map_none : {A B : Type 0} (f : A → B) (o : Option A) → option_map f o ≡ None → o ≡ None
option_map_none f None h = refl
option_map_none f (Some x) h = absurd (cc)

-- a name in which no zero byte is refused has none
pub no_zero : (text : List ℕ) → zero_byte text ≡ None → has_zero_byte text ≡ false
no_zero text h = position_none (λ x. x == 0) 0 text (option_map_none (λ place. backend (NulByte place)) (position_from (λ x. x == 0) 0 text) h)

not_zero : (n : ℕ) → 0 < n → (n == 0) ≡ false
not_zero n h = elim (eqb_tells n 0) [ inl e ↦ absurd (let k : n ≡ 0 = e.1 in omega arith) | inr e ↦ e.0 ]

glyph_from : (d : ℕ) (b : Bool) → (cond b (48 + d) (87 + d) == 0) ≡ false
glyph_from d true = not_zero (48 + d) (omega arith)
glyph_from d false = not_zero (87 + d) (omega arith)

glyph_above : (d : ℕ) → (digit_glyph false d == 0) ≡ false
glyph_above d = glyph_from d (nat_lt d 10)

digits_above_from : (b : Bool) (xs ys : List ℕ) → has_zero_byte xs ≡ false → has_zero_byte ys ≡ false → has_zero_byte (cond b xs ys) ≡ false
digits_above_from true xs ys h k = h
digits_above_from false xs ys h k = k

digits_above : (k base n : ℕ) (rest : List ℕ) → has_zero_byte rest ≡ false → has_zero_byte (digits_onto k base false n rest) ≡ false
digits_above zero base n rest h = h
digits_above (suc k) base n rest h =
    let more : has_zero_byte (digit_glyph false (n % base) ∷ rest) ≡ false = rw (glyph_above (n % base)) h in
    digits_above_from (n / base == 0) (digit_glyph false (n % base) ∷ rest) (digits_onto k base false (n / base) (digit_glyph false (n % base) ∷ rest)) more (digits_above k base (n / base) (digit_glyph false (n % base) ∷ rest) more)

digits_no_zero : (base n : ℕ) → has_zero_byte (digits base false n) ≡ false
unfolding digits
digits_no_zero base n = digits_above 64 base n [] refl

join_no_zero : (xs ys : List ℕ) → has_zero_byte xs ≡ false → has_zero_byte ys ≡ false → has_zero_byte (xs ++ ys) ≡ false
join_no_zero xs ys h k = list_any-append (λ x. x == 0) xs ys ∙ (rw (h, k) refl)

-- the name of a label has no zero byte
label_no_zero : (function offset : ℕ) → has_zero_byte (codes ".L" ++ (decimal function ++ (codes "_" ++ decimal offset))) ≡ false
label_no_zero function offset =
    let end : has_zero_byte (codes "_" ++ decimal offset) ≡ false = digits_no_zero 10 offset in
    join_no_zero (decimal function) (codes "_" ++ decimal offset) (digits_no_zero 10 function) end

name_no_zero : (name : Option (List ℕ)) (own : List ℕ) → has_zero_byte own ≡ false → IsName name → has_zero_byte (unwrap_or name own) ≡ false
name_no_zero None own free h = free
name_no_zero (Some name) own free h = no_zero name h

-- the name of a function has no zero byte
pub function_no_zero : (row : FunctionRow) (id : ℕ) → IsName row.name → has_zero_byte (function_name row id) ≡ false
function_no_zero row id h = name_no_zero row.name (codes ".Lfn" ++ digits 16 false id) (digits_no_zero 16 id) h

-- nor has that of a data object
pub data_no_zero : (row : DataRow) (id : ℕ) → IsName row.name → has_zero_byte (data_name row id) ≡ false
data_no_zero row id h = name_no_zero row.name (codes ".Ldata" ++ digits 16 false id) (digits_no_zero 16 id) h

-- -- symbols

find_holds_from : {A : Type 0} (P : A → Type 0) (test : A → Bool) (x y : A) (xs : List A) (b : Bool) → P x → (find test xs ≡ Some y → P y) → cond b (Some x) (find test xs) ≡ Some y → P y
find_holds_from P test x y xs true here more h = let same : x ≡ y = cc in subst P same here
find_holds_from P test x y xs false here more h = more h

-- what holds of each element holds of one that is found
find_holds : {A : Type 0} (P : A → Type 0) (test : A → Bool) (y : A) (xs : List A) → All P xs → find test xs ≡ Some y → P y
find_holds P test y [] all h = absurd (cc)
find_holds P test y (x ∷ xs) all h = find_holds_from P test x y xs (test x) (All-head P x xs all) (find_holds P test y xs (All-tail P x xs all)) h

-- a definition stands in a section of the object, within what was asked for
abbrev IsWithin : ObjectData → Placed → Type 0
IsWithin o p = (p.section < length o.sections) × (p.offset ≤ o.content_sum)

formed_named : (o : ObjectData) (format : BinaryFormat) (name : List ℕ) (linkage : Linkage) (at : Option Placed) → has_zero_byte name ≡ false → ((p : Placed) → at ≡ Some p → IsWithin o p) → IsFormedSymbol o (named_symbol format name linkage kind.Text at)
formed_named o format name linkage None h within = record { name = h; place = tt; value = omega arith }
formed_named o format name linkage (Some p) h within = let inside = within p refl in record { name = h; place = inside.0; value = omega (arith, inside.1) }

formed_function : (o : ObjectData) (s : LinkState) (ps : List Placed) (k : ℕ) → All (λ (row : FunctionRow). IsName row.name) s.functions → All (IsWithin o) ps → k < length s.functions → IsFormedSymbol o (identifier_symbol s ps (Func k))
formed_function o s ps k names within below =
    let row = row_at s.functions k below in
    let name = function_no_zero row.0 k (All-slice_get (λ (r : FunctionRow). IsName r.name) s.functions k row.0 names row.1) in
    let named = formed_named o s.target.triple.binary_format (function_name row.0 k) row.0.linkage (defined_at ps (Func k)) name (λ p h. find_holds (IsWithin o) (λ (q : Placed). is_same_identifier (Func k) q.definition.identifier) p ps within h) in
    subst (λ (r : Option FunctionRow). IsFormedSymbol o (function_symbol s.target.triple.binary_format ps k r)) (sym row.1) named

formed_named_data : (o : ObjectData) (format : BinaryFormat) (name : List ℕ) (linkage : Linkage) (tls : Bool) (at : Option Placed) → has_zero_byte name ≡ false → ((p : Placed) → at ≡ Some p → IsWithin o p) → IsFormedSymbol o (named_symbol format name linkage (cond tls kind.Tls kind.Data) at)
formed_named_data o format name linkage tls at h within = formed_kind tls at within where
  formed_kind : (tls : Bool) (at : Option Placed) → ((p : Placed) → at ≡ Some p → IsWithin o p) → IsFormedSymbol o (named_symbol format name linkage (cond tls kind.Tls kind.Data) at)
  formed_kind true None within = record { name = h; place = tt; value = omega arith }
  formed_kind false None within = record { name = h; place = tt; value = omega arith }
  formed_kind true (Some p) within = let inside = within p refl in record { name = h; place = inside.0; value = omega (arith, inside.1) }
  formed_kind false (Some p) within = let inside = within p refl in record { name = h; place = inside.0; value = omega (arith, inside.1) }

formed_object : (o : ObjectData) (s : LinkState) (ps : List Placed) (k : ℕ) → All (λ (row : DataRow). IsName row.name) s.objects → All (IsWithin o) ps → k < length s.objects → IsFormedSymbol o (identifier_symbol s ps (Data k))
formed_object o s ps k names within below =
    let row = row_at s.objects k below in
    let name = data_no_zero row.0 k (All-slice_get (λ (r : DataRow). IsName r.name) s.objects k row.0 names row.1) in
    let named = formed_named_data o s.target.triple.binary_format (data_name row.0 k) row.0.linkage row.0.tls (defined_at ps (Data k)) name (λ p h. find_holds (IsWithin o) (λ (q : Placed). is_same_identifier (Data k) q.definition.identifier) p ps within h) in
    subst (λ (r : Option DataRow). IsFormedSymbol o (data_symbol s.target.triple.binary_format ps k r)) (sym row.1) named

formed_one : (o : OpenModule) (marks : Marks) (object : ObjectData) (ps : List Placed) (i : ℕ) (id : FuncOrDataId) → IsModule o marks → All (IsWithin object) ps → slice_get o.state.created i ≡ Some id → IsFormedSymbol object (identifier_symbol o.state ps id)
formed_one o marks object ps i (Func k) h within at = formed_function object o.state ps k h.names within (created_function o marks i k h at)
formed_one o marks object ps i (Data k) h within at = formed_object object o.state ps k h.object_names within (created_data o marks i k h at)

formed_identifier : (o : OpenModule) (marks : Marks) (object : ObjectData) (ps : List Placed) (i : ℕ) (t : SymbolData) → IsModule o marks → All (IsWithin object) ps → slice_get (map (identifier_symbol o.state ps) o.state.created) i ≡ Some t → IsFormedSymbol object t
formed_identifier o marks object ps i t h within at =
    let long = length-map o.state.created (identifier_symbol o.state ps) in
    let inside = slice_get_within (map (identifier_symbol o.state ps) o.state.created) i t at in
    let below : i < length o.state.created = omega (arith, long, inside) in
    let id = row_at o.state.created i below in
    let there : Some (identifier_symbol o.state ps id.0) ≡ Some t = sym (slice_get-map (identifier_symbol o.state ps) o.state.created i ∙ ap (option_map (identifier_symbol o.state ps)) id.1) ∙ at in
    let same : identifier_symbol o.state ps id.0 ≡ t = cc in
    subst (IsFormedSymbol object) same (formed_one o marks object ps i id.0 h within id.1)

formed_at : (o : OpenModule) (marks : Marks) (object : ObjectData) (ps : List Placed) (k : ℕ) (t : SymbolData) → IsModule o marks → All (IsWithin object) ps → slice_get (file_symbol o.settings.file_name ∷ map (identifier_symbol o.state ps) o.state.created) k ≡ Some t → IsFormedSymbol object t
formed_at o marks object ps zero t h within at =
    let same : file_symbol o.settings.file_name ≡ t = cc in
    let file : IsFormedSymbol object (file_symbol o.settings.file_name) = record { name = no_zero o.settings.file_name h.begun.file_name; place = tt; value = omega arith } in
    subst (IsFormedSymbol object) same file
formed_at o marks object ps (suc i) t h within at = formed_identifier o marks object ps i t h within at

-- the symbols that relocations add

library_no_zero : (names : List (List ℕ)) (place : ℕ) (text : Option (List ℕ)) → All (λ (t : List ℕ). zero_byte t ≡ None) names → slice_get names place ≡ text → has_zero_byte (unwrap_or text []) ≡ false
library_no_zero names place None all at = refl
library_no_zero names place (Some text) all at = no_zero text (All-slice_get (λ (t : List ℕ). zero_byte t ≡ None) names place text all at)

formed_known : (o : ObjectData) (symbol : KnownSymbol) → IsFormedSymbol o (known_symbol symbol)
formed_known o ElfGlobalOffsetTable = record { name = refl; place = tt; value = omega arith }
formed_known o CoffTlsIndex = record { name = refl; place = tt; value = omega arith }

found_from : (id : FuncOrDataId) (p : Placed) (ps : List Placed) (b : Bool) → (list_any (λ (d : Definition). is_same_identifier id d.identifier) (map (λ (q : Placed). q.definition) ps) ≡ true → (q : Placed) × (defined_at ps id ≡ Some q))
    → (b || list_any (λ (d : Definition). is_same_identifier id d.identifier) (map (λ (q : Placed). q.definition) ps)) ≡ true → (q : Placed) × (cond b (Some p) (defined_at ps id) ≡ Some q)
found_from id p ps true more h = (p, refl)
found_from id p ps false more h = more h

-- a definition among some has its place
defined_found : (id : FuncOrDataId) (ps : List Placed) → list_any (λ (d : Definition). is_same_identifier id d.identifier) (map (λ (p : Placed). p.definition) ps) ≡ true → (q : Placed) × (defined_at ps id ≡ Some q)
defined_found id [] h = absurd (cc)
defined_found id (p ∷ ps) h = found_from id p ps (is_same_identifier id p.definition.identifier) (defined_found id ps) h

formed_label : (o : ObjectData) (ps : List Placed) (function offset : ℕ) (at : Option Placed) (p : Placed) → at ≡ Some p → IsWithin o p → offset < 2 ^ 32 → IsFormedSymbol o (label_symbol function offset at)
formed_label o ps function offset at p e within small = rw e (record { name = label_no_zero function offset; place = within.0; value = omega (arith, within.1, small) })

formed_extra : (o : ObjectData) (settings : Settings) (s : LinkState) (ps : List Placed) (e : Extra) → All (λ (text : List ℕ). zero_byte text ≡ None) settings.library_names → All (IsWithin o) ps → map (λ (p : Placed). p.definition) ps ≡ s.definitions
    → IsFaithful settings e → IsHad s (extra_target settings e) → IsFormedSymbol o (extra_symbol ps (extra_target settings e))
formed_extra o settings s ps (Library place) names within whole faithful had = record { name = library_no_zero settings.library_names place (slice_get settings.library_names place) names refl; place = tt; value = omega arith }
formed_extra o settings s ps (Known symbol) names within whole faithful had = formed_known o symbol
formed_extra o settings s ps (Label function offset) names within whole faithful had =
    let there = ap (list_any (λ (d : Definition). is_same_identifier (Func function) d.identifier)) whole ∙ had.1 in
    let found = defined_found (Func function) ps there in
    formed_label o ps function offset (defined_at ps (Func function)) found.0 found.1 (find_holds (IsWithin o) (λ (q : Placed). is_same_identifier (Func function) q.definition.identifier) found.0 ps within found.1) faithful

-- -- sections

standard_free : (standard : StandardSection) (own used : Bool) → has_zero_byte (standard_class standard own used).name ≡ false
standard_free Text true used = refl
standard_free Text false used = refl
standard_free DataSection true used = refl
standard_free DataSection false used = refl
standard_free ReadOnlyData true used = refl
standard_free ReadOnlyData false used = refl
standard_free ReadOnlyDataWithRel true used = refl
standard_free ReadOnlyDataWithRel false used = refl
standard_free UninitializedData true used = refl
standard_free UninitializedData false used = refl
standard_free Tls true used = refl
standard_free Tls false used = refl
standard_free UninitializedTls true used = refl
standard_free UninitializedTls false used = refl

mach_free : (standard : StandardSection) → has_zero_byte (mach_name standard) ≡ false
mach_free Text = refl
mach_free DataSection = refl
mach_free ReadOnlyData = refl
mach_free ReadOnlyDataWithRel = refl
mach_free UninitializedData = refl
mach_free Tls = refl
mach_free UninitializedTls = refl

free_in : (format : BinaryFormat) (standard : StandardSection) (own used : Bool) → has_zero_byte (standard_class_in format standard own used).name ≡ false
free_in Elf standard own used = standard_free standard own used
free_in Coff standard own used = standard_free standard own used
free_in Macho standard own used = mach_free standard
free_in Wasm standard own used = standard_free standard own used
free_in Unknown standard own used = standard_free standard own used

asked_free : (d : Definition) (retain : Bool) (text : List ℕ) (asked : Result SectionText SectionFault) → has_zero_byte text ≡ false → ((a : SectionText) → asked ≡ Ok a → has_zero_byte a.name ≡ false) → has_zero_byte (asked_class d retain text asked).name ≡ false
asked_free d retain text (Ok asked) free h = h asked refl
asked_free d retain text (Err fault) free h = free

asked_name : (format : BinaryFormat) (text : List ℕ) (asked : SectionText) → has_zero_byte text ≡ false → section_text format text ≡ Ok asked → has_zero_byte asked.name ≡ false
asked_name Elf text asked free h = let same : text ≡ asked.name = cc in subst (λ (name : List ℕ). has_zero_byte name ≡ false) same free
asked_name Coff text asked free h = let same : text ≡ asked.name = cc in subst (λ (name : List ℕ). has_zero_byte name ≡ false) same free
asked_name Macho text asked free h = (text_room text asked free h).name_free
asked_name Wasm text asked free h = let same : text ≡ asked.name = cc in subst (λ (name : List ℕ). has_zero_byte name ≡ false) same free
asked_name Unknown text asked free h = let same : text ≡ asked.name = cc in subst (λ (name : List ℕ). has_zero_byte name ≡ false) same free

text_free : (settings : Settings) (s : LinkState) (d : Definition) (text : Option (List ℕ)) → zero_byte (unwrap_or text []) ≡ None → has_zero_byte (class_by_text settings s d text).name ≡ false
text_free settings s d None h = free_in s.target.triple.binary_format (standard_section s d d.identifier) (has_own_section settings d d.identifier) d.used
text_free settings s d (Some text) h =
    let free = no_zero text h in
    asked_free d (marks_section s.target.triple.binary_format d.used) text (section_text s.target.triple.binary_format text) free (λ a e. asked_name s.target.triple.binary_format text a free e)

-- the name of a section has no zero byte
class_free : (settings : Settings) (s : LinkState) (target : Target) (functions objects : ℕ) (d : Definition) → IsBody target functions objects d → has_zero_byte (section_class settings s d).name ≡ false
class_free settings s target functions objects d body = text_free settings s d d.section body.text

-- a section is that of a class
class_of : (Q : Class → Type 0) (settings : Settings) (s : LinkState) (ps : List Placed) (classes : List Class) (i k : ℕ) (x : SectionData) → All Q classes → slice_get (sections_from settings s i classes ps) k ≡ Some x → (c : Class) × (j : ℕ) × Q c × (x ≡ section_with settings s c (members ps j))
class_of Q settings s ps [] i k x all at = absurd (cc)
class_of Q settings s ps (c ∷ classes) i zero x all at = let same : x ≡ section_with settings s c (members ps i) = cc in (c, i, All-head Q c classes all, same)
class_of Q settings s ps (c ∷ classes) i (suc k) x all at = class_of Q settings s ps classes (i + 1) k x (All-tail Q c classes all) at

-- the class of the section of this number is that section's
class_at_of : (settings : Settings) (s : LinkState) (ps : List Placed) (classes : List Class) (i j k : ℕ) (x : SectionData) → j ≡ i + k → slice_get (sections_from settings s i classes ps) k ≡ Some x → (c : Class) × (slice_get classes k ≡ Some c) × (x ≡ section_with settings s c (members ps j))
class_at_of settings s ps [] i j k x e at = absurd (cc)
class_at_of settings s ps (c ∷ classes) i j zero x e at =
    let here : j ≡ i = omega arith in
    let same : x ≡ section_with settings s c (members ps i) = cc in
    (c, refl, same ∙ ap (λ (n : ℕ). section_with settings s c (members ps n)) (sym here))
class_at_of settings s ps (c ∷ classes) i j (suc k) x e at = class_at_of settings s ps classes (i + 1) j k x (omega arith) at

-- -- the object

both_within : (o : ObjectData) (ps : List Placed) → All (λ (p : Placed). p.section < length o.sections) ps → All (λ (p : Placed). p.offset ≤ o.content_sum) ps → All (IsWithin o) ps
both_within o [] a b = All-nil (IsWithin o)
both_within o (p ∷ ps) a b =
    All-cons (IsWithin o) p ps (All-head (λ (q : Placed). q.section < length o.sections) p ps a, All-head (λ (q : Placed). q.offset ≤ o.content_sum) p ps b)
    (both_within o ps (All-tail (λ (q : Placed). q.section < length o.sections) p ps a) (All-tail (λ (q : Placed). q.offset ≤ o.content_sum) p ps b))

all_least : (o : OpenModule) (marks : Marks) → IsModule o marks → All (λ (d : Definition). 1 ≤ d.align) o.state.definitions
all_least o marks h = All-weaker (IsBody o.state.target (length o.state.functions) (length o.state.objects)) (λ (d : Definition). 1 ≤ d.align) (λ d body. good_least d.align body.aligned) o.state.definitions h.bodies

-- each definition lies in a section of the object
pub placed_within : (o : OpenModule) (marks : Marks) → IsModule o marks → All (IsWithin (partial o.settings o.state o.state.definitions)) (placed_of o.settings o.state o.state.definitions)
unfolding partial
placed_within o marks h =
    let ds : List Definition = o.state.definitions in
    let ps : List Placed = placed_of o.settings o.state ds in
    let used : List Class = sections_used (map (section_class o.settings o.state) ds) in
    let count = sections_length o.settings o.state 0 used ps in
    let least = all_least o marks h in
    let sections = All-weaker (λ (p : Placed). p.section < length used) (λ (p : Placed). p.section < length (sections_from o.settings o.state 0 used ps)) (λ p l. omega (arith, l, count)) ps (placed_below o.settings o.state ds) in
    both_within (partial o.settings o.state ds) ps sections (places_within o.settings o.state ds least)

some_same : {A : Type 0} (x y : A) → Some x ≡ Some y → x ≡ y
some_same x y h = cc

-- the object with the symbols of what relocations add
abbrev pub whole : OpenModule → List Extra → ObjectData
whole o es = with_added o.settings o.state (partial o.settings o.state o.state.definitions) es

formed_added : (o : OpenModule) (marks : Marks) (es : List Extra) (j : ℕ) (t : SymbolData) → IsModule o marks → AreExtras o.settings o.state es → first_bad_reference o.state ≡ None
    → slice_get (map (λ (e : Extra). extra_symbol (placed_of o.settings o.state o.state.definitions) (extra_target o.settings e)) es) j ≡ Some t → IsFormedSymbol (whole o es) t
unfolding partial placed
formed_added o marks es j t h are none at =
    let ps : List Placed = placed_of o.settings o.state o.state.definitions in
    let f : Extra → SymbolData = λ e. extra_symbol ps (extra_target o.settings e) in
    let inside = slice_get_within (map f es) j t at in
    let long = length-map es f in
    let e = row_at es j (omega (arith, long, inside)) in
    let there : Some (f e.0) ≡ Some t = sym (slice_get-map f es j ∙ ap (option_map f) e.1) ∙ at in
    let same : f e.0 ≡ t = some_same (f e.0) t there in
    let faithful = All-slice_get (IsFaithful o.settings) es j e.0 are.faithful e.1 in
    let had = All-slice_get (λ (x : Extra). IsHad o.state (extra_target o.settings x)) es j e.0 (extras_had o.settings o.state es are none) e.1 in
    subst (IsFormedSymbol (whole o es)) same (formed_extra (whole o es) o.settings o.state ps e.0 h.begun.library_names (placed_within o marks h) (placed_definitions o.settings o.state o.state.definitions) faithful had)

pub formed_symbols : (o : OpenModule) (marks : Marks) (es : List Extra) → IsModule o marks → AreExtras o.settings o.state es → first_bad_reference o.state ≡ None → (k : ℕ) (t : SymbolData) → slice_get (whole o es).symbols k ≡ Some t → IsFormedSymbol (whole o es) t
unfolding partial placed
formed_symbols o marks es h are none k t at =
    let ps : List Placed = placed_of o.settings o.state o.state.definitions in
    let front : List SymbolData = file_symbol o.settings.file_name ∷ map (identifier_symbol o.state ps) o.state.created in
    elim (get_append front (map (λ (e : Extra). extra_symbol ps (extra_target o.settings e)) es) k t at)
    [ inl first ↦ formed_at o marks (whole o es) ps k t h (placed_within o marks h) first | inr behind ↦ formed_added o marks es behind.0 t h are none behind.2 ]

-- a section of the object is that of the class of a definition, of which holds what holds of each of them
pub section_of_class : (o : OpenModule) (Q : Class → Type 0) → All (λ (d : Definition). Q (section_class o.settings o.state d)) o.state.definitions → (k : ℕ) (x : SectionData) → slice_get (partial o.settings o.state o.state.definitions).sections k ≡ Some x
    → (c : Class) × (j : ℕ) × Q c × (x ≡ section_with o.settings o.state c (members (placed_of o.settings o.state o.state.definitions) j))
unfolding partial
section_of_class o Q each k x at =
    let class : Definition → Class = section_class o.settings o.state in
    let ds : List Definition = o.state.definitions in
    class_of Q o.settings o.state (placed_of o.settings o.state ds) (sections_used (map class ds)) 0 k x (used_all Q (map class ds) (All-map Q class ds each)) at

section_named : (o : OpenModule) (marks : Marks) → IsModule o marks → (k : ℕ) (x : SectionData) → slice_get (partial o.settings o.state o.state.definitions).sections k ≡ Some x
    → (c : Class) × (j : ℕ) × (has_zero_byte c.name ≡ false) × (x ≡ section_with o.settings o.state c (members (placed_of o.settings o.state o.state.definitions) j))
section_named o marks h k x at =
    let bodies : Definition → Type 0 = IsBody o.state.target (length o.state.functions) (length o.state.objects) in
    let Q : Class → Type 0 = λ c. has_zero_byte c.name ≡ false in
    section_of_class o Q (All-weaker bodies (λ d. Q (section_class o.settings o.state d)) (λ d body. class_free o.settings o.state o.state.target (length o.state.functions) (length o.state.objects) d body) o.state.definitions h.bodies) k x at

formed_names : (o : OpenModule) (marks : Marks) → IsModule o marks → (k : ℕ) (x : SectionData) → slice_get (partial o.settings o.state o.state.definitions).sections k ≡ Some x → has_zero_byte x.name ≡ false
formed_names o marks h k x at = let named = section_named o marks h k x at in ap (λ (y : SectionData). has_zero_byte y.name) named.3 ∙ named.2

-- -- relocations

-- a relocation of a kind that the target has, with its field within so many bytes, that its format doesn't refuse behind some others
pub record IsGood (target : Target) (size : Option ℕ) (r : ModuleReloc) : Type 0 where
  pub kind : has_kind target r.kind ≡ true
  pub field : is_outside size r ≡ false
  pub before : List ModuleReloc
  pub format : is_refused_in target.triple.binary_format target.triple.architecture before r ≡ false

-- what is not refused is not refused by its format
pub one_refused : (target : Target) (size : Option ℕ) (before : List ModuleReloc) (r : ModuleReloc) → reloc_cause target size before r ≡ None → is_refused_in target.triple.binary_format target.triple.architecture before r ≡ false
one_refused target size before r h =
    let fields : Option Refusal = refuse_if (is_bad_field target size before r) (backend (BadReloc (length before) r.offset)) in
    let parts = causes_none (refuse_if (not (has_kind target r.kind)) (backend (UnsupportedReloc (length before) r.kind))) (option_or fields None) h in
    or_right (is_outside size r) (is_refused_in target.triple.binary_format target.triple.architecture before r) (not_refused (is_bad_field target size before r) (backend (BadReloc (length before) r.offset)) (causes_none fields None parts.1).0)

pub good_one : (target : Target) (size : Option ℕ) (before : List ModuleReloc) (r : ModuleReloc) → reloc_cause target size before r ≡ None → IsGood target size r
good_one target size before r h =
    let kinds : Option Refusal = refuse_if (not (has_kind target r.kind)) (backend (UnsupportedReloc (length before) r.kind)) in
    let fields : Option Refusal = refuse_if (is_bad_field target size before r) (backend (BadReloc (length before) r.offset)) in
    let parts = causes_none kinds (option_or fields None) h in
    let good = not_refused (is_bad_field target size before r) (backend (BadReloc (length before) r.offset)) (causes_none fields None parts.1).0 in
    record {
      kind = was_true (has_kind target r.kind) (not_refused (not (has_kind target r.kind)) (backend (UnsupportedReloc (length before) r.kind)) parts.0);
      field = or_left (is_outside size r) (is_refused_in target.triple.binary_format target.triple.architecture before r) good;
      before = before;
      format = or_right (is_outside size r) (is_refused_in target.triple.binary_format target.triple.architecture before r) good;
    }

-- the relocations of which none is refused
pub good_relocs : (target : Target) (size : Option ℕ) (before rs : List ModuleReloc) → bad_reloc_from target size before rs ≡ None → All (IsGood target size) rs
good_relocs target size before [] h = All-nil (IsGood target size)
good_relocs target size before (r ∷ rs) h =
    let parts = causes_none (reloc_cause target size before r) (bad_reloc_from target size (before ++ r ∷ []) rs) h in
    All-cons (IsGood target size) r rs (good_one target size before r parts.0) (good_relocs target size (before ++ r ∷ []) rs parts.1)

some_is : (n : Option ℕ) → is_some n ≡ true → n ≡ Some (unwrap_or n 0)
some_is None h = absurd (cc)
some_is (Some n) h = refl

elf_kind : (format : BinaryFormat) (architecture : Architecture) (kind : Reloc) → format ≡ Elf → has_kind_in format architecture kind ≡ true → HasElfKind architecture (relocation_flags format architecture kind) kind
elf_kind Elf architecture kind e h = some_is (elf_number architecture kind) h
elf_kind Coff architecture kind e h = absurd (cc)
elf_kind Macho architecture kind e h = absurd (cc)
elf_kind Wasm architecture kind e h = absurd (cc)
elf_kind Unknown architecture kind e h = absurd (cc)

-- a field that isn't outside lies in bytes
pub field_bytes : (c : Contents) (r : ModuleReloc) → is_outside (bytes_in c) r ≡ false → (are_bytes (Some c) ≡ true) × (r.offset + field_width r.kind ≤ size_of c)
field_bytes (bytes xs) r h = (refl, ltb-false (length xs) (r.offset + field_width r.kind) h)
field_bytes (zeros n) r h = absurd (cc)

cond_kind : (tls : Bool) → is_file (cond tls kind.Tls kind.Data) ≡ false
cond_kind true = refl
cond_kind false = refl

function_no_file : (format : BinaryFormat) (ps : List Placed) (k : ℕ) (row : Option FunctionRow) → is_file (function_symbol format ps k row).kind ≡ false
function_no_file format ps k None = refl
function_no_file format ps k (Some row) = refl

data_no_file : (format : BinaryFormat) (ps : List Placed) (k : ℕ) (row : Option DataRow) → is_file (data_symbol format ps k row).kind ≡ false
data_no_file format ps k None = refl
data_no_file format ps k (Some row) = cond_kind row.tls

identifier_no_file : (s : LinkState) (ps : List Placed) (id : FuncOrDataId) → is_file (identifier_symbol s ps id).kind ≡ false
identifier_no_file s ps (Func k) = function_no_file s.target.triple.binary_format ps k (slice_get s.functions k)
identifier_no_file s ps (Data k) = data_no_file s.target.triple.binary_format ps k (slice_get s.objects k)

extra_no_file : (ps : List Placed) (t : RelocationTarget) → is_file (extra_symbol ps t).kind ≡ false
extra_no_file ps (identifier id) = refl
extra_no_file ps (library text) = refl
extra_no_file ps (known ElfGlobalOffsetTable) = refl
extra_no_file ps (known CoffTlsIndex) = refl
extra_no_file ps (label function offset) = refl

-- the symbol that is added for a target
added_there : (o : OpenModule) (es : List Extra) (t : RelocationTarget) (n : ℕ) → list_any (is_same_target t) (map (extra_target o.settings) es) ≡ true → n ≡ 1 + length o.state.created + position_or_len (is_same_target t) (map (extra_target o.settings) es)
    → (x : SymbolData) × (slice_get (whole o es).symbols n ≡ Some x) × (is_file x.kind ≡ false)
unfolding partial placed
added_there o es t n among row =
    let ps : List Placed = placed_of o.settings o.state o.state.definitions in
    let front : List SymbolData = file_symbol o.settings.file_name ∷ map (identifier_symbol o.state ps) o.state.created in
    let p : ℕ = position_or_len (is_same_target t) (map (extra_target o.settings) es) in
    let found = found_place (is_same_target t) (map (extra_target o.settings) es) among in
    let long = length-map o.state.created (identifier_symbol o.state ps) in
    let behind = get_behind front (map (λ (e : Extra). extra_symbol ps (extra_target o.settings e)) es) n p (omega (arith, row, long)) in
    let there = ap (λ (xs : List SymbolData). slice_get xs p) (sym (map_twice (extra_symbol ps) (extra_target o.settings) es)) ∙ slice_get-map (extra_symbol ps) (map (extra_target o.settings) es) p ∙ ap (option_map (extra_symbol ps)) found.1 in
    (extra_symbol ps found.0, behind ∙ there, extra_no_file ps found.0)

target_row : (o : OpenModule) (es : List Extra) (t : RelocationTarget) → AreExtras o.settings o.state es → is_extra t ≡ true → row_of o.settings o.state t ≡ 1 + length o.state.created + position_or_len (is_same_target t) (map (extra_target o.settings) es)
unfolding extras
target_row o es (identifier id) are h = absurd (cc)
target_row o es (library text) are h = ap (λ (ts : List RelocationTarget). 1 + length o.state.created + position_or_len (is_same_target (library text)) ts) (sym are.found)
target_row o es (known symbol) are h = ap (λ (ts : List RelocationTarget). 1 + length o.state.created + position_or_len (is_same_target (known symbol)) ts) (sym are.found)
target_row o es (label function offset) are h = ap (λ (ts : List RelocationTarget). 1 + length o.state.created + position_or_len (is_same_target (label function offset)) ts) (sym are.found)

-- the symbol of a target that is reached is one of the object, and no file
pub formed_target : (o : OpenModule) (marks : Marks) (es : List Extra) (t : RelocationTarget) → IsModule o marks → AreExtras o.settings o.state es → IsReached o.settings o.state es t
    → (x : SymbolData) × (slice_get (whole o es).symbols (row_of o.settings o.state t) ≡ Some x) × (is_file x.kind ≡ false)
formed_target o marks es (identifier id) h are reached =
    (identifier_symbol o.state (placed o.settings o.state) id, identifier_there o marks es id h reached.0, identifier_no_file o.state (placed o.settings o.state) id)
formed_target o marks es (library text) h are reached = added_there o es (library text) _ (reached.1 refl) (target_row o es (library text) are refl)
formed_target o marks es (known symbol) h are reached = added_there o es (known symbol) _ (reached.1 refl) (target_row o es (known symbol) are refl)
formed_target o marks es (label function offset) h are reached = added_there o es (label function offset) _ (reached.1 refl) (target_row o es (label function offset) are refl)

-- a relocation of a definition that ends within its section
formed_one_relocation : (o : OpenModule) (marks : Marks) (es : List Extra) (x : SectionData) (p : Placed) (r : ModuleReloc) → o.state.target.triple.binary_format ≡ Elf → IsModule o marks → AreExtras o.settings o.state es
    → (are_bytes (Some p.definition.contents) ≡ true → p.offset + room_of o.state p.definition ≤ length x.contents) → IsGood o.state.target (bytes_in p.definition.contents) r → IsReached o.settings o.state es (target_of o.settings o.state r.name)
    → IsFormedRelocation (whole o es) x (object_relocation o.settings o.state p.offset r)
unfolding partial
formed_one_relocation o marks es x p r elf h are within good reached =
    let field = field_bytes p.definition.contents r good.field in
    let room = room_least o.state.target.triple.binary_format (size_of p.definition.contents) in
    let inside = within field.0 in
    let number = elf_kind o.state.target.triple.binary_format o.state.target.triple.architecture r.kind elf good.kind in
    record { field = (r.kind, number, omega (arith, field.1, room, inside)); symbol = formed_target o marks es (target_of o.settings o.state r.name) h are reached }

pub All-flat : {A B : Type 0} (P : B → Type 0) (f : A → List B) (xs : List A) → All (λ x. All P (f x)) xs → All P (flat_map f xs)
All-flat P f [] all = All-nil P
All-flat P f (x ∷ xs) all = All-join P (f x) (flat_map f xs) (All-head (λ y. All P (f y)) x xs all) (All-flat P f xs (All-tail (λ y. All P (f y)) x xs all)) where
  All-join : {B : Type 0} (P : B → Type 0) (ys zs : List B) → All P ys → All P zs → All P (ys ++ zs)
  All-join P [] zs a b = b
  All-join P (y ∷ ys) zs a b = All-cons P y (ys ++ zs) (All-head P y ys a) (All-join P ys zs (All-tail P y ys a) b)

-- what holds of each of a section's definitions
pub All-members : (P : Placed → Type 0) (ps : List Placed) (k : ℕ) → All (λ (p : Placed). p.section ≡ k → P p) ps → All P (members ps k)
All-members P [] k all = All-nil P
All-members P (p ∷ ps) k all = member_from P p ps k (p.section == k) refl (All-head (λ (q : Placed). q.section ≡ k → P q) p ps all) (All-members P ps k (All-tail (λ (q : Placed). q.section ≡ k → P q) p ps all)) where
  member_from : (P : Placed → Type 0) (p : Placed) (ps : List Placed) (k : ℕ) (b : Bool) → (p.section == k) ≡ b → (p.section ≡ k → P p) → All P (members ps k) → All P (cond b (p ∷ members ps k) (members ps k))
  member_from P p ps k true e here all = All-cons P p (members ps k) (here (equal p.section k e)) all
  member_from P p ps k false e here all = all

-- what is known of a placed definition
pub record IsKnown (o : OpenModule) (es : List Extra) (k : ℕ) (p : Placed) : Type 0 where
  pub body : IsBody o.state.target (length o.state.functions) (length o.state.objects) p.definition
  pub targets : All (λ (r : ModuleReloc). IsReached o.settings o.state es (target_of o.settings o.state r.name)) p.definition.relocs
  pub class : slice_get (sections_used (map (section_class o.settings o.state) o.state.definitions)) p.section ≡ Some (section_class o.settings o.state p.definition)
  pub ends : p.section ≡ k → p.offset + room_of o.state p.definition ≤ end_of (map (extent_of o.state) (standing_in o.settings o.state k o.state.definitions))

known_all : (o : OpenModule) (es : List Extra) (k : ℕ) (ps : List Placed) → All (λ (p : Placed). IsBody o.state.target (length o.state.functions) (length o.state.objects) p.definition × All (λ (r : ModuleReloc). IsReached o.settings o.state es (target_of o.settings o.state r.name)) p.definition.relocs) ps
    → All (λ (p : Placed). slice_get (sections_used (map (section_class o.settings o.state) o.state.definitions)) p.section ≡ Some (section_class o.settings o.state p.definition)) ps
    → All (λ (p : Placed). p.section ≡ k → p.offset + room_of o.state p.definition ≤ end_of (map (extent_of o.state) (standing_in o.settings o.state k o.state.definitions))) ps → All (IsKnown o es k) ps
known_all o es k [] a b c = All-nil (IsKnown o es k)
known_all o es k (p ∷ ps) a b c =
    let A : Placed → Type 0 = λ p. IsBody o.state.target (length o.state.functions) (length o.state.objects) p.definition × All (λ (r : ModuleReloc). IsReached o.settings o.state es (target_of o.settings o.state r.name)) p.definition.relocs in
    let B : Placed → Type 0 = λ p. slice_get (sections_used (map (section_class o.settings o.state) o.state.definitions)) p.section ≡ Some (section_class o.settings o.state p.definition) in
    let C : Placed → Type 0 = λ p. p.section ≡ k → p.offset + room_of o.state p.definition ≤ end_of (map (extent_of o.state) (standing_in o.settings o.state k o.state.definitions)) in
    let here = All-head A p ps a in
    All-cons (IsKnown o es k) p ps (record { body = here.0; targets = here.1; class = All-head B p ps b; ends = All-head C p ps c }) (known_all o es k ps (All-tail A p ps a) (All-tail B p ps b) (All-tail C p ps c))

before_all : (o : OpenModule) (marks : Marks) → IsModule o marks → All (λ (x : Definition). IsShareable o.state.target.triple.binary_format (section_class o.settings o.state x)) o.state.definitions
before_all o marks h =
    All-weaker (IsBody o.state.target (length o.state.functions) (length o.state.objects)) (λ (x : Definition). IsShareable o.state.target.triple.binary_format (section_class o.settings o.state x)) (λ x body. shareable o.settings o.state x body.plain) o.state.definitions h.bodies

pub all_known : (o : OpenModule) (marks : Marks) (es : List Extra) (k : ℕ) → IsModule o marks → AreExtras o.settings o.state es → first_bad_reference o.state ≡ None → All (IsKnown o es k) (placed_of o.settings o.state o.state.definitions)
all_known o marks es k h are none =
    let ds : List Definition = o.state.definitions in
    let bodies : Definition → Type 0 = IsBody o.state.target (length o.state.functions) (length o.state.objects) in
    let targets : Definition → Type 0 = λ d. All (λ (r : ModuleReloc). IsReached o.settings o.state es (target_of o.settings o.state r.name)) d.relocs in
    let both : Definition → Type 0 = λ d. bodies d × targets d in
    let each = All-both bodies targets ds h.bodies (each_reached o.settings o.state (IsReached o.settings o.state es) ds (all_reached o.settings o.state es are none)) in
    let here = unmapped both (λ (p : Placed). p.definition) (placed_of o.settings o.state ds) (subst (All both) (sym (placed_definitions o.settings o.state ds)) each) in
    known_all o es k (placed_of o.settings o.state ds) here (placed_class o.settings o.state ds (before_all o marks h)) (ends_within o.settings o.state k ds (all_least o marks h))

-- as many bytes are stored as the definitions of a section take
section_long : (o : OpenModule) (k : ℕ) (c : Class) (x : SectionData) → is_unstored_class o.state c ≡ false → x ≡ section_with o.settings o.state c (members (placed_of o.settings o.state o.state.definitions) k)
    → length x.contents ≡ end_of (map (extent_of o.state) (standing_in o.settings o.state k o.state.definitions))
section_long o k c x stored is =
    let ps : List Placed = members (placed_of o.settings o.state o.state.definitions) k in
    ap (λ (y : SectionData). length y.contents) is ∙ ap (λ (b : Bool). length (cond b [] (joined (map (λ (p : Placed). piece_of o.state p.definition) ps)))) stored
    ∙ joined_length o.state ps ∙ ap end_of (members_extents o.settings o.state k o.state.definitions)

pub section_class_at : (o : OpenModule) (k : ℕ) (x : SectionData) → slice_get (partial o.settings o.state o.state.definitions).sections k ≡ Some x
    → (c : Class) × (slice_get (sections_used (map (section_class o.settings o.state) o.state.definitions)) k ≡ Some c) × (x ≡ section_with o.settings o.state c (members (placed_of o.settings o.state o.state.definitions) k))
unfolding partial
section_class_at o k x at = class_at_of o.settings o.state (placed_of o.settings o.state o.state.definitions) (sections_used (map (section_class o.settings o.state) o.state.definitions)) 0 k k x (omega arith) at

-- what is known of a definition that stands in a section: its bytes lie in those of the section
pub known_within : (o : OpenModule) (es : List Extra) (k : ℕ) (c : Class) (x : SectionData) (p : Placed) → slice_get (sections_used (map (section_class o.settings o.state) o.state.definitions)) k ≡ Some c
    → x ≡ section_with o.settings o.state c (members (placed_of o.settings o.state o.state.definitions) k) → IsKnown o es k p → p.section ≡ k → are_bytes (Some p.definition.contents) ≡ true → p.offset + room_of o.state p.definition ≤ length x.contents
known_within o es k c x p there is w e given =
    let same : section_class o.settings o.state p.definition ≡ c = (let one : Some (section_class o.settings o.state p.definition) ≡ Some c = sym w.class ∙ ap (slice_get (sections_used (map (section_class o.settings o.state) o.state.definitions))) e ∙ there in cc) in
    let stored : is_unstored_class o.state c ≡ false = ap (is_unstored_class o.state) (sym same) ∙ bytes_stored o.settings o.state p.definition given w.body.section in
    let ends = w.ends e in
    let size = section_long o k c x stored is in
    omega (arith, ends, size)

-- what holds of each relocation of a section, by what is known of its definition
pub section_each : (o : OpenModule) (marks : Marks) (es : List Extra) (k : ℕ) (c : Class) (x : SectionData) (P : Relocation → Type 0) → IsModule o marks → AreExtras o.settings o.state es → first_bad_reference o.state ≡ None
    → slice_get (sections_used (map (section_class o.settings o.state) o.state.definitions)) k ≡ Some c → x ≡ section_with o.settings o.state c (members (placed_of o.settings o.state o.state.definitions) k)
    → ((p : Placed) (r : ModuleReloc) → (are_bytes (Some p.definition.contents) ≡ true → p.offset + room_of o.state p.definition ≤ length x.contents) → IsGood o.state.target (bytes_in p.definition.contents) r → IsReached o.settings o.state es (target_of o.settings o.state r.name) → P (object_relocation o.settings o.state p.offset r))
    → All P x.relocations
section_each o marks es k c x P h are none there is one =
    let ps : List Placed = placed_of o.settings o.state o.state.definitions in
    let Q : Placed → Type 0 = λ p. All P (relocations_at o.settings o.state p) in
    let good : Placed → ModuleReloc → Type 0 = λ p r. IsGood o.state.target (bytes_in p.definition.contents) r in
    let reached : ModuleReloc → Type 0 = λ r. IsReached o.settings o.state es (target_of o.settings o.state r.name) in
    let each : (p : Placed) → IsKnown o es k p → p.section ≡ k → Q p = λ p w e.
    All-map P (object_relocation o.settings o.state p.offset) p.definition.relocs
    (All-weaker (λ r. good p r × reached r) (λ r. P (object_relocation o.settings o.state p.offset r)) (λ r both. one p r (known_within o es k c x p there is w e) both.0 both.1) p.definition.relocs
    (All-both (good p) reached p.definition.relocs (good_relocs o.state.target (bytes_in p.definition.contents) [] p.definition.relocs w.body.judged) w.targets)) in
    let known = All-weaker (IsKnown o es k) (λ (p : Placed). p.section ≡ k → Q p) each ps (all_known o marks es k h are none) in
    subst (All P) (sym (ap (λ (y : SectionData). y.relocations) is)) (All-flat P (relocations_at o.settings o.state) (members ps k) (All-members Q ps k known))

formed_relocations : (o : OpenModule) (marks : Marks) (es : List Extra) → o.state.target.triple.binary_format ≡ Elf → IsModule o marks → AreExtras o.settings o.state es → first_bad_reference o.state ≡ None → (k : ℕ) (x : SectionData) → slice_get (whole o es).sections k ≡ Some x
    → (m : ℕ) (r : Relocation) → slice_get x.relocations m ≡ Some r → IsFormedRelocation (whole o es) x r
formed_relocations o marks es elf h are none k x at m r found =
    let class = section_class_at o k x at in
    let P : Relocation → Type 0 = IsFormedRelocation (whole o es) x in
    All-slice_get P x.relocations m r (section_each o marks es k class.0 x P h are none class.1 class.2 (λ p q within good reached. formed_one_relocation o marks es x p q elf h are within good reached)) found

-- the object of an ELF module whose relocations go to what can be had can be written
pub formed_elf_object : (o : OpenModule) (marks : Marks) (es : List Extra) → o.state.target.triple.binary_format ≡ Elf → IsModule o marks → AreExtras o.settings o.state es → first_bad_reference o.state ≡ None → IsFormedElf (object_of o.settings o.state)
formed_elf_object o marks es elf h are none =
    subst IsFormedElf (partial_whole o.settings o.state es are) (record { symbols = formed_symbols o marks es h are none; names = formed_names o marks h; relocations = formed_relocations o marks es elf h are none })
