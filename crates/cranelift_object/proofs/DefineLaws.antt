-- What one definition of a module adds to its object.
use Rattle.std.proofs.Common.{◌≡◌, ◌≢◌, ℕ, zero, suc, ◌+◌, ◌||◌, ◌&&◌, not, ◌<◌, ◌≤◌, ◌^◌, ◌++◌, ◌∷◌, length-take, List, [], Bool, true, false, cond, max, length, map, take, get_or, Option, Some, None, refl, ap, sym, ◌∙◌, arith, inl, inr, append_assoc}
use Rattle.std.proofs.lemmas.List.{append-nil, map-append, take_more, take_all, length-map}
use Rattle.std.proofs.lemmas.List.Elements.{All-take, All-weaker}
use Rattle.std.proofs.lemmas.List.Sums.{sum_by-le}
use Rattle.std.proofs.lemmas.Bool.{ltb-false}
use Rattle.std.proofs.lemmas.Bool.Decides.{leb_tells}
use Rattle.std.proofs.lemmas.Option.{slice_get_within, get_or_from_slice_get, slice_get-get_or, slice_get-map}
use Rattle.std.specs.Prelude.{slice_get, option_map, find, sum_by, nat_lt, Result, Ok, Err, ◌%◌, ◌==◌}
use Rattle.std.specs.List.{All, list_any, range_with_len, enumerate_from}
use Rattle.std.specs.Int.{is_power_of_two}
use Rattle.std.proofs.Math.Nat.{mul-le-mul_right}
use lib.Count.{ones}
use Rattle.ir_core.specs.Moments.{moments, moments_after}
use Rattle.ir_core.specs.Target.{symbol_alignment}
use Rattle.ir_core.specs.declared.target.Architecture.{Architecture}
use Rattle.ir_core.specs.declared.target.Architecture.TheVariants.{X86_32, X86_64, Arm, Aarch64, Riscv64, S390x}
use Rattle.ir_core.specs.declared.target.BinaryFormat.{BinaryFormat}
use Rattle.ir_core.specs.declared.target.BinaryFormat.TheVariants.{Elf, Coff, Macho, Wasm, Unknown}
use Rattle.ir_core.specs.MachO.{is_zero_fill_type}
use Rattle.object_core.specs.declared.kinds.SectionKind.{SectionKind}
use Rattle.object_core.specs.declared.kinds.SectionKind.TheVariants as kind
use Rattle.object_core.specs.declared.kinds.StandardSection.{StandardSection}
use Rattle.object_core.specs.declared.kinds.StandardSection.TheVariants.{Text, Data as DataSection, ReadOnlyData, ReadOnlyDataWithRel, UninitializedData, Tls, UninitializedTls}
use Rattle.object_core.specs.Standard.{is_zero_fill, takes_no_bytes, standard_kind, mach_flags, is_standard_in}
use Rattle.object_core.specs.Places.{end_of}
use Rattle.object_core.specs.declared.kinds.SymbolSection.TheVariants.{Undefined}
use Rattle.object_core.specs.Object.{SymbolData, SectionData, ObjectData}
use Rattle.object_core.specs.Appending.{with_symbol, file_symbol, IsUndefined, is_unstored, next_offset, room_in}
use Rattle.cranelift_module.specs.declared.identifiers.FuncOrDataId.{FuncOrDataId}
use Rattle.cranelift_module.specs.declared.identifiers.FuncOrDataId.TheVariants.{Func, Data}
use Rattle.cranelift_module.specs.Call.{Contents, bytes, zeros}
use Rattle.cranelift_module.specs.Rows.{FunctionRow, DataRow}
use Rattle.cranelift_module.specs.Definitions.{Definition, size_of, is_thread_local}
use Rattle.cranelift_module.specs.LinkState.{LinkState}
use Rattle.cranelift_module.specs.declared.error.SectionFault.{SectionFault}
use Rattle.cranelift_module.specs.declared.error.BackendCause.TheVariants.{ZerofillBytes}
use Rattle.cranelift_module.specs.SectionText.{SectionText, section_text}
use Rattle.cranelift_module.specs.Refusal.{is_same_identifier, is_defined, is_bad_align, are_bytes, text_cause, section_cause, backend}
use Rattle.cranelift_object.specs.Settings.{Settings}
use Rattle.cranelift_object.specs.Opened.{OpenModule}
use Rattle.cranelift_object.specs.Kept.{IsModule, IsBody, IsDeclared, IsFirst, Marks, IsPlain, HasPlaceIn}
use Rattle.cranelift_object.specs.SectionClass.{Class, section_class, class_by_text, standard_class_in, standard_section, has_own_section, data_section, initialized_section, is_empty_list, custom_kind, own_class, asked_class, marks_section}
use Rattle.cranelift_object.specs.Placing.{Placed, sections_used, align_of, extent_of, standing_in}
use Rattle.cranelift_object.specs.Linked as linked
use Rattle.cranelift_object.specs.Linked.{defined_at, identifier_symbol, function_symbol, data_symbol, object_of, object_relocation, is_unstored_class, marks_symbol}
use Rattle.cranelift_object.specs.Partial.{placed_of, partial, opened, number_behind}
use Rattle.cranelift_object.proofs.ChangeLaws.{changed_length}
use Rattle.cranelift_object.proofs.ClassLaws.{placed_definitions, IsShareable, shareable, All-slice_get}
use Rattle.cranelift_object.proofs.CallLaws.{not_refused}
use Rattle.cranelift_object.proofs.PlaceLaws.{asked, align_over, align_positive, standing_within}
use Rattle.cranelift_object.proofs.FirstCause.{row_at}
use Rattle.cranelift_object.specs.Product.{begun_object, function_mark, function_marks, data_mark, data_marks, symbol_number, product_of, with_class, class_place, with_symbol_contents, with_kept, with_relocations}
use Rattle.cranelift_object.proofs.OpenLaws.{opened_class, number_class}
use Rattle.cranelift_object.specs.Marking.{with_symbols, functions_in, data_in, marks_of_functions, marks_of_objects}
use Rattle.cranelift_object.proofs.CreationLaws.{function_stands, data_stands, place_is, places_apart, functions_in-append, data_in-append, functions_numbered, data_numbered, function_within, data_within}
use Rattle.cranelift_object.proofs.ObjectLaws.{partial-end, opened_format, opened_section, offset_there}

-- -- definitions of a module

moment_after_at : {A : Type 0} (before xs : List A) (j : ℕ) (x : A) → slice_get xs j ≡ Some x → slice_get (moments_after before xs) j ≡ Some (record { before = before ++ take j xs; here = x })
moment_after_at before [] j x h = absurd (cc)
moment_after_at before (y ∷ ys) zero x h = let same : y ≡ x = cc in rw (same, append-nil) refl
moment_after_at before (y ∷ ys) (suc j) x h = moment_after_at (before ++ y ∷ []) ys j x h ∙ ap (λ front. Some (record { before = front; here = x })) (append_assoc before (y ∷ []) (take j ys))

-- an element of a list beside those before it
pub moment_at : {A : Type 0} (xs : List A) (j : ℕ) (x : A) → slice_get xs j ≡ Some x → slice_get (moments xs) j ≡ Some (record { before = take j xs; here = x })
unfolding moments
moment_at xs j x h = moment_after_at [] xs j x h

find_from : (same : Definition → Bool) (p : Placed) (ps : List Placed) (b : Bool) → (list_any same (map (λ (q : Placed). q.definition) ps) ≡ false → find (λ (q : Placed). same q.definition) ps ≡ None) → (b || list_any same (map (λ (q : Placed). q.definition) ps)) ≡ false
    → cond b (Some p) (find (λ (q : Placed). same q.definition) ps) ≡ None
find_from same p ps true more h = absurd (cc)
find_from same p ps false more h = more h

find_no : (same : Definition → Bool) (ps : List Placed) → list_any same (map (λ (q : Placed). q.definition) ps) ≡ false → find (λ (q : Placed). same q.definition) ps ≡ None
find_no same [] h = refl
find_no same (p ∷ ps) h = find_from same p ps (same p.definition) (find_no same ps) h

-- no definition before it is of the same identifier
pub undefined_before : (o : OpenModule) (marks : Marks) (j : ℕ) (d : Definition) → IsModule o marks → slice_get o.state.definitions j ≡ Some d → defined_at (placed_of o.settings o.state (take j o.state.definitions)) d.identifier ≡ None
undefined_before o marks j d h at =
    let ds : List Definition = o.state.definitions in
    let first = All-slice_get IsFirst (moments ds) j (record { before = take j ds; here = d }) h.apart (moment_at ds j d at) in
    let same : Definition → Bool = λ e. is_same_identifier d.identifier e.identifier in
    find_no same (placed_of o.settings o.state (take j ds)) (ap (list_any same) (placed_definitions o.settings o.state (take j ds)) ∙ first)

-- -- identifiers in order of creation

created_by : (o : OpenModule) (marks : Marks) (id : FuncOrDataId) → IsModule o marks → IsDeclared (length o.state.functions) (length o.state.objects) id → (r : ℕ) × (slice_get o.state.created r ≡ Some id)
created_by o marks (Func k) h below = function_stands 0 0 (length o.state.functions) (length o.state.objects) o.state.created k h.order (omega arith) below
created_by o marks (Data k) h below = data_stands 0 0 (length o.state.functions) (length o.state.objects) o.state.created k h.order (omega arith) below

-- where a declared identifier stands
pub created_at : (o : OpenModule) (marks : Marks) (id : FuncOrDataId) → IsModule o marks → IsDeclared (length o.state.functions) (length o.state.objects) id → (r : ℕ) × (slice_get o.state.created r ≡ Some id)
created_at o marks id h declared = created_by o marks id h declared

-- the symbol of an identifier stands behind that of the file and those of the identifiers before it
pub symbol_place : (o : OpenModule) (marks : Marks) (r : ℕ) (id : FuncOrDataId) → IsModule o marks → slice_get o.state.created r ≡ Some id → symbol_number o.state id ≡ suc r
symbol_place o marks r id h at = let place = place_is 0 0 (length o.state.functions) (length o.state.objects) o.state.created r id h.order at in omega (arith, place)

pub created_apart : (o : OpenModule) (marks : Marks) (r i : ℕ) (y id : FuncOrDataId) → IsModule o marks → slice_get o.state.created r ≡ Some id → slice_get o.state.created i ≡ Some y → i ≢ r → is_same_identifier y id ≡ false
created_apart o marks r i y id h there at ne = places_apart 0 0 (length o.state.functions) (length o.state.objects) o.state.created i r y id h.order at there ne

-- -- alignments

pub align_power : (architecture : Architecture) → is_power_of_two (symbol_alignment architecture) ≡ true
unfolding ones
align_power X86_32 = refl
align_power X86_64 = refl
align_power Arm = refl
align_power Aarch64 = refl
align_power Riscv64 = refl
align_power S390x = refl

align_most : (architecture : Architecture) → symbol_alignment architecture ≤ 4
align_most X86_32 = omega arith
align_most X86_64 = omega arith
align_most Arm = omega arith
align_most Aarch64 = omega arith
align_most Riscv64 = omega arith
align_most S390x = omega arith

-- -- one more definition

front_more : {A : Type 0} (xs : List A) (j : ℕ) (x : A) → slice_get xs j ≡ Some x → take (j + 1) xs ≡ take j xs ++ x ∷ []
front_more xs j x at = take_more xs j x (slice_get_within xs j x at) ∙ ap (λ y. take j xs ++ y ∷ []) (get_or_from_slice_get xs j x x at)

-- what holds of a definition by its number
pub body_at : (o : OpenModule) (marks : Marks) (j : ℕ) (d : Definition) → IsModule o marks → slice_get o.state.definitions j ≡ Some d → IsBody o.state.target (length o.state.functions) (length o.state.objects) d
body_at o marks j d h at = All-slice_get (IsBody o.state.target (length o.state.functions) (length o.state.objects)) o.state.definitions j d h.bodies at

body_shareable : (o : OpenModule) (d : Definition) → IsBody o.state.target (length o.state.functions) (length o.state.objects) d → IsShareable o.state.target.triple.binary_format (section_class o.settings o.state d)
body_shareable o d body = shareable o.settings o.state d body.plain

-- the sections of the definitions before it may be shared as their classes say
pub before_shareable : (o : OpenModule) (marks : Marks) (j : ℕ) → IsModule o marks → All (λ (x : Definition). IsShareable o.state.target.triple.binary_format (section_class o.settings o.state x)) (take j o.state.definitions)
before_shareable o marks j h =
    let bodies : Definition → Type 0 = IsBody o.state.target (length o.state.functions) (length o.state.objects) in
    All-weaker bodies (λ (x : Definition). IsShareable o.state.target.triple.binary_format (section_class o.settings o.state x)) (λ x body. body_shareable o x body) (take j o.state.definitions) (All-take bodies j o.state.definitions h.bodies)

-- what is defined has a place in the format
pub place_at : (o : OpenModule) (marks : Marks) (j : ℕ) (d : Definition) → IsModule o marks → slice_get o.state.definitions j ≡ Some d → HasPlaceIn o.state.target.triple.binary_format o.state.objects d.identifier
place_at o marks j d h at = All-slice_get (λ (x : Definition). HasPlaceIn o.state.target.triple.binary_format o.state.objects x.identifier) o.state.definitions j d h.placed at

initialized_in : (writable plain : Bool) → is_standard_in Macho (initialized_section writable plain) ≡ true
initialized_in true plain = refl
initialized_in false true = refl
initialized_in false false = refl

plain_in : (row : Option DataRow) (d : Definition) (c : Contents) → option_map (λ (r : DataRow). r.tls) row ≡ Some false → is_standard_in Macho (data_section (is_thread_local row) d c) ≡ true
plain_in None d c h = absurd (cc)
plain_in (Some row) d (zeros n) h =
    let plain : row.tls ≡ false = cc in
    rw plain refl
plain_in (Some row) d (bytes xs) h =
    let plain : row.tls ≡ false = cc in
    rw plain (initialized_in d.writable (is_empty_list d.relocs))

standard_in_mach : (s : LinkState) (d : Definition) (id : FuncOrDataId) → IsPlain s.objects id → is_standard_in Macho (standard_section s d id) ≡ true
standard_in_mach s d (Func k) h = refl
standard_in_mach s d (Data k) h = plain_in (slice_get s.objects k) d d.contents h

-- the format has the standard section of what is defined
pub standard_is : (format : BinaryFormat) (s : LinkState) (d : Definition) → HasPlaceIn format s.objects d.identifier → is_standard_in format (standard_section s d d.identifier) ≡ true
standard_is Elf s d h = refl
standard_is Coff s d h = refl
standard_is Macho s d h = standard_in_mach s d d.identifier h
standard_is Wasm s d h = refl
standard_is Unknown s d h = refl

-- -- sections with and without bytes

custom_stored : (b : Bool) → is_zero_fill (cond b kind.ReadOnlyData kind.Data) ≡ false
custom_stored true = refl
custom_stored false = refl

initialized_stored : (writable plain : Bool) → is_zero_fill (standard_kind (initialized_section writable plain)) ≡ false
initialized_stored true plain = refl
initialized_stored false true = refl
initialized_stored false false = refl

data_stored : (tls : Bool) (d : Definition) (c : Contents) → are_bytes (Some c) ≡ true → is_zero_fill (standard_kind (data_section tls d c)) ≡ false
data_stored tls d (zeros n) h = absurd (cc)
data_stored true d (bytes xs) h = refl
data_stored false d (bytes xs) h = initialized_stored d.writable (is_empty_list d.relocs)

standard_stored : (s : LinkState) (d : Definition) (id : FuncOrDataId) → are_bytes (Some d.contents) ≡ true → is_zero_fill (standard_kind (standard_section s d id)) ≡ false
standard_stored s d (Func k) h = refl
standard_stored s d (Data k) h = data_stored (is_thread_local (slice_get s.objects k)) d d.contents h

mach_stored : (standard : StandardSection) → is_zero_fill (standard_kind standard) ≡ false → is_zero_fill_type (mach_flags standard) ≡ false
mach_stored Text h = refl
mach_stored DataSection h = refl
mach_stored ReadOnlyData h = refl
mach_stored ReadOnlyDataWithRel h = refl
mach_stored UninitializedData h = absurd (cc)
mach_stored Tls h = refl
mach_stored UninitializedTls h = absurd (cc)

-- a class takes no bytes of a file of this format
abbrev is_unstored_in : BinaryFormat → Class → Bool
is_unstored_in format c = takes_no_bytes format c.kind c.macho_flags

class_stored : (format : BinaryFormat) (standard : StandardSection) (own used : Bool) → is_zero_fill (standard_kind standard) ≡ false → is_unstored_in format (standard_class_in format standard own used) ≡ false
class_stored Elf standard own used h = h
class_stored Coff standard own used h = h
class_stored Macho standard own used h = mach_stored standard h
class_stored Wasm standard own used h = h
class_stored Unknown standard own used h = h

kind_from : (a b : Bool) (k : SectionKind) → (a || b) ≡ false → is_zero_fill (cond a kind.UninitializedData (cond b kind.UninitializedTls k)) ≡ is_zero_fill k
kind_from true b k h = absurd (cc)
kind_from false true k h = absurd (cc)
kind_from false false k h = refl

own_stored : (format : BinaryFormat) (d : Definition) (retain : Bool) (asked : SectionText) → is_zero_fill_type asked.flags ≡ false → is_unstored_in format (own_class d retain asked) ≡ false
own_stored Elf d retain asked h = kind_from (asked.flags % 256 == 1) (asked.flags % 256 == 0x12) (custom_kind d) h ∙ custom_stored (not d.writable && is_empty_list d.relocs)
own_stored Coff d retain asked h = kind_from (asked.flags % 256 == 1) (asked.flags % 256 == 0x12) (custom_kind d) h ∙ custom_stored (not d.writable && is_empty_list d.relocs)
own_stored Macho d retain asked h = h
own_stored Wasm d retain asked h = kind_from (asked.flags % 256 == 1) (asked.flags % 256 == 0x12) (custom_kind d) h ∙ custom_stored (not d.writable && is_empty_list d.relocs)
own_stored Unknown d retain asked h = kind_from (asked.flags % 256 == 1) (asked.flags % 256 == 0x12) (custom_kind d) h ∙ custom_stored (not d.writable && is_empty_list d.relocs)

left_false : (a b : Bool) → b ≡ true → (a && b) ≡ false → a ≡ false
left_false true b e h = absurd (cc)
left_false false b e h = refl

asked_stored : (format : BinaryFormat) (d : Definition) (retain : Bool) (text : List ℕ) (asked : Result SectionText SectionFault) → are_bytes (Some d.contents) ≡ true → text_cause (Some d.contents) asked ≡ None → is_unstored_in format (asked_class d retain text asked) ≡ false
asked_stored format d retain text (Ok asked) given free =
    own_stored format d retain asked (left_false (is_zero_fill_type asked.flags) (are_bytes (Some d.contents)) given (not_refused (is_zero_fill_type asked.flags && are_bytes (Some d.contents)) (backend ZerofillBytes) free))
asked_stored format d retain text (Err fault) given free = absurd (cc)

stored_by : (settings : Settings) (s : LinkState) (d : Definition) (text : Option (List ℕ)) → are_bytes (Some d.contents) ≡ true → section_cause s.target.triple.binary_format (Some d.contents) text ≡ None → is_unstored_class s (class_by_text settings s d text) ≡ false
stored_by settings s d None given free =
    class_stored s.target.triple.binary_format (standard_section s d d.identifier) (has_own_section settings d d.identifier) d.used (standard_stored s d d.identifier given)
stored_by settings s d (Some text) given free =
    asked_stored s.target.triple.binary_format d (marks_section s.target.triple.binary_format d.used) text (section_text s.target.triple.binary_format text) given free

-- bytes stand in a section that takes bytes of the file
pub bytes_stored : (settings : Settings) (s : LinkState) (d : Definition) → are_bytes (Some d.contents) ≡ true → section_cause s.target.triple.binary_format (Some d.contents) d.section ≡ None → is_unstored_class s (section_class settings s d) ≡ false
bytes_stored settings s d given free = stored_by settings s d d.section given free

-- -- one more definition

-- the object with one more definition has its contents behind those of its section, and its relocations
pub definition_step : (o : OpenModule) (marks : Marks) (j : ℕ) (d : Definition) → IsModule o marks → slice_get o.state.definitions j ≡ Some d
    → partial o.settings o.state (take (j + 1) o.state.definitions)
    ≡ with_relocations
    (with_kept (marks_symbol o.state.target.triple.binary_format d.used)
    (with_symbol_contents (is_unstored_class o.state (section_class o.settings o.state d)) (opened o.settings o.state (take j o.state.definitions) d) (symbol_number o.state d.identifier) (number_behind o.settings o.state (take j o.state.definitions) d) d.contents (align_of o.state d))
    (symbol_number o.state d.identifier))
    (number_behind o.settings o.state (take j o.state.definitions) d)
    (map (object_relocation o.settings o.state (next_offset (opened o.settings o.state (take j o.state.definitions) d) (number_behind o.settings o.state (take j o.state.definitions) d) (align_of o.state d))) d.relocs)
definition_step o marks j d h at =
    let ds : List Definition = o.state.definitions in
    let body = body_at o marks j d h at in
    let there = created_at o marks d.identifier h body.declared in
    let n : ℕ = number_behind o.settings o.state (take j ds) d in
    let unstored : Bool = is_unstored_class o.state (section_class o.settings o.state d) in
    let marked : Bool = marks_symbol o.state.target.triple.binary_format d.used in
    let step =
    partial-end unstored o.settings o.state (take j ds) d there.0 (before_shareable o marks j h) (body_shareable o d body) refl body.declared (undefined_before o marks j d h at) there.1
    (λ i y found ne. created_apart o marks there.0 i y d.identifier h there.1 found ne)
    in
    ap (partial o.settings o.state) (front_more ds j d at) ∙ step
    ∙ ap (λ (symbol : ℕ). with_relocations (with_kept marked (with_symbol_contents unstored (opened o.settings o.state (take j ds) d) symbol n d.contents (align_of o.state d)) symbol) n (map (object_relocation o.settings o.state (next_offset (opened o.settings o.state (take j ds) d) n (align_of o.state d))) d.relocs))
    (sym (symbol_place o marks there.0 d.identifier h there.1))

-- -- what the calls of an object ask for

undefined_function : (s : LinkState) (ps : List Placed) (k : ℕ) → k < length s.functions → defined_at ps (Func k) ≡ None → option_map (λ (t : SymbolData). t.section) (Some (identifier_symbol s ps (Func k))) ≡ Some Undefined
undefined_function s ps k below none =
    let row = row_at s.functions k below in
    ap (λ (r : Option FunctionRow). Some (function_symbol s.target.triple.binary_format ps k r).section) row.1 ∙ ap (λ (p : Option Placed). Some (linked.symbol_place p)) none

undefined_data : (s : LinkState) (ps : List Placed) (k : ℕ) → k < length s.objects → defined_at ps (Data k) ≡ None → option_map (λ (t : SymbolData). t.section) (Some (identifier_symbol s ps (Data k))) ≡ Some Undefined
undefined_data s ps k below none =
    let row = row_at s.objects k below in
    ap (λ (r : Option DataRow). Some (data_symbol s.target.triple.binary_format ps k r).section) row.1 ∙ ap (λ (p : Option Placed). Some (linked.symbol_place p)) none

undefined_identifier : (s : LinkState) (ps : List Placed) (id : FuncOrDataId) → IsDeclared (length s.functions) (length s.objects) id → defined_at ps id ≡ None → option_map (λ (t : SymbolData). t.section) (Some (identifier_symbol s ps id)) ≡ Some Undefined
undefined_identifier s ps (Func k) declared none = undefined_function s ps k declared none
undefined_identifier s ps (Data k) declared none = undefined_data s ps k declared none

-- the symbol of what is defined next is not defined yet
pub opened_undefined : (o : OpenModule) (marks : Marks) (j : ℕ) (d : Definition) → IsModule o marks → slice_get o.state.definitions j ≡ Some d → IsUndefined (opened o.settings o.state (take j o.state.definitions) d) (symbol_number o.state d.identifier)
unfolding opened
opened_undefined o marks j d h at =
    let ps : List Placed = placed_of o.settings o.state (take j o.state.definitions) in
    let body = body_at o marks j d h at in
    let created = created_at o marks d.identifier h body.declared in
    let there = slice_get-map (identifier_symbol o.state ps) o.state.created created.0 ∙ ap (option_map (identifier_symbol o.state ps)) created.1 in
    rw (symbol_place o marks created.0 d.identifier h created.1) (ap (option_map (λ (t : SymbolData). t.section)) there ∙ undefined_identifier o.state ps d.identifier body.declared (undefined_before o marks j d h at))

-- its section takes bytes or none, as its class says
pub opened_stored : (o : OpenModule) (marks : Marks) (j : ℕ) (d : Definition) → IsModule o marks → slice_get o.state.definitions j ≡ Some d
    → option_map (is_unstored (opened o.settings o.state (take j o.state.definitions) d).format) (slice_get (opened o.settings o.state (take j o.state.definitions) d).sections (number_behind o.settings o.state (take j o.state.definitions) d)) ≡ Some (is_unstored_class o.state (section_class o.settings o.state d))
opened_stored o marks j d h at =
    let ds : List Definition = take j o.state.definitions in
    let body = body_at o marks j d h at in
    let section = opened_section o.settings o.state ds d (before_shareable o marks j h) (body_shareable o d body) in
    ap (λ (format : BinaryFormat). option_map (is_unstored format) (slice_get (opened o.settings o.state ds d).sections (number_behind o.settings o.state ds d))) (opened_format o.settings o.state ds d)
    ∙ ap (option_map (is_unstored o.state.target.triple.binary_format)) section

-- so does the one in hand
pub later_stored : (o : OpenModule) (marks : Marks) (j : ℕ) (d : Definition) (later : ObjectData) (section : ℕ) → IsModule o marks → slice_get o.state.definitions j ≡ Some d → later ≡ opened o.settings o.state (take j o.state.definitions) d
    → section ≡ number_behind o.settings o.state (take j o.state.definitions) d → option_map (is_unstored later.format) (slice_get later.sections section) ≡ Some (is_unstored_class o.state (section_class o.settings o.state d))
later_stored o marks j d later section h at now place = rw (now, place) (opened_stored o marks j d h at)

-- its section is there
pub opened_there : (o : OpenModule) (marks : Marks) (j : ℕ) (d : Definition) → IsModule o marks → slice_get o.state.definitions j ≡ Some d → number_behind o.settings o.state (take j o.state.definitions) d < length (opened o.settings o.state (take j o.state.definitions) d).sections
opened_there o marks j d h at =
    let ds : List Definition = take j o.state.definitions in
    slice_get_within (opened o.settings o.state ds d).sections (number_behind o.settings o.state ds d) _ (opened_section o.settings o.state ds d (before_shareable o marks j h) (body_shareable o d (body_at o marks j d h at)))

pub or_left : (a b : Bool) → (a || b) ≡ false → a ≡ false
or_left true b h = absurd (cc)
or_left false b h = refl

pub or_right : (a b : Bool) → (a || b) ≡ false → b ≡ false
or_right true b h = absurd (cc)
or_right false b h = h

pub not_false : (b : Bool) → not b ≡ false → b ≡ true
not_false true h = refl
not_false false h = absurd (cc)

-- a good alignment is a power of two
pub good_power : (align : ℕ) → is_bad_align align ≡ false → is_power_of_two align ≡ true
good_power align h = not_false (is_power_of_two align) (or_left (not (is_power_of_two align)) (nat_lt 65536 align) h)

good_most : (align : ℕ) → is_bad_align align ≡ false → align ≤ 65536
good_most align h = ltb-false 65536 align (or_right (not (is_power_of_two align)) (nat_lt 65536 align) h)

max_power : (a b : ℕ) → is_power_of_two a ≡ true → is_power_of_two b ≡ true → is_power_of_two (max a b) ≡ true
max_power a b h k =
    elim (leb_tells a b) [
      | inl e ↦ (let same : max a b ≡ b = omega (arith, e.1) in rw same k)
      | inr e ↦ (let same : max a b ≡ a = omega (arith, e.1) in rw same h)
    ]

-- so is the one at which a definition stands
pub aligned_power : (s : LinkState) (d : Definition) → is_bad_align d.align ≡ false → is_power_of_two (align_of s d) ≡ true
aligned_power s d h = max_power d.align (symbol_alignment s.target.triple.architecture) (good_power d.align h) (align_power s.target.triple.architecture)

zero_power : (n : ℕ) → is_power_of_two n ≡ true → 1 ≤ n
unfolding ones
zero_power zero h = absurd (cc)
zero_power (suc n) h = omega arith

pub good_least : (align : ℕ) → is_bad_align align ≡ false → 1 ≤ align
good_least align h = zero_power align (good_power align h)

pub align_within : (s : LinkState) (d : Definition) → is_bad_align d.align ≡ false → align_of s d ≤ 65536
align_within s d h = let most = good_most d.align h in let other = align_most s.target.triple.architecture in omega (arith, most, other)

-- a definition takes as much room as its contents at least
pub room_least : (format : BinaryFormat) (size : ℕ) → size ≤ room_in format size
room_least Elf size = omega arith
room_least Coff size = omega arith
room_least Macho size = omega arith
room_least Wasm size = omega arith
room_least Unknown size = omega arith

room_most : (format : BinaryFormat) (size : ℕ) → size < 2 ^ 64 → room_in format size < 2 ^ 64
room_most Elf size h = h
room_most Coff size h = h
room_most Macho size h = omega arith
room_most Wasm size h = h
room_most Unknown size h = h

small_room : (o : OpenModule) (marks : Marks) (d : Definition) → IsModule o marks → IsBody o.state.target (length o.state.functions) (length o.state.objects) d → asked o.state d ≤ 18446744073709617152
small_room o marks d h body =
    let sized : size_of d.contents < 2 ^ 64 = body.sized in
    let room = room_most o.state.target.triple.binary_format (size_of d.contents) sized in
    let align = align_within o.state d body.aligned in
    omega (arith, room, align)

-- so few bytes are asked for
pub asked_sum : (o : OpenModule) (marks : Marks) (j : ℕ) → IsModule o marks → length o.state.definitions < 2 ^ 63 → sum_by (asked o.state) (take j o.state.definitions) < 2 ^ 127 + 2 ^ 126
asked_sum o marks j h few =
    let ds : List Definition = take j o.state.definitions in
    let bodies : Definition → Type 0 = IsBody o.state.target (length o.state.functions) (length o.state.objects) in
    let each = All-weaker bodies (λ x. asked o.state x ≤ 18446744073709617152) (λ x body. small_room o marks x h body) ds (All-take bodies j o.state.definitions h.bodies) in
    let sum = sum_by-le (asked o.state) 18446744073709617152 ds each in
    let front = length-take j o.state.definitions in
    let bound : length ds ≤ 9223372036854775807 = omega arith in
    let product = mul-le-mul_right 18446744073709617152 bound in
    omega (arith, sum, product)

pub opened_sum : (o : OpenModule) (marks : Marks) (j : ℕ) (d : Definition) → IsModule o marks → length o.state.definitions < 2 ^ 63 → (opened o.settings o.state (take j o.state.definitions) d).content_sum < 2 ^ 127 + 2 ^ 126
unfolding opened
opened_sum o marks j d h few = asked_sum o marks j h few

-- and so far at most a definition stands
pub opened_offset : (o : OpenModule) (marks : Marks) (j : ℕ) (d : Definition) → IsModule o marks → length o.state.definitions < 2 ^ 63 → slice_get o.state.definitions j ≡ Some d
    → next_offset (opened o.settings o.state (take j o.state.definitions) d) (number_behind o.settings o.state (take j o.state.definitions) d) (align_of o.state d) < 2 ^ 127 + 2 ^ 126 + 65536
opened_offset o marks j d h few at =
    let ds : List Definition = take j o.state.definitions in
    let body = body_at o marks j d h at in
    let n : ℕ = number_behind o.settings o.state ds d in
    let there = offset_there o.settings o.state ds d (before_shareable o marks j h) (body_shareable o d body) in
    let least = All-weaker (IsBody o.state.target (length o.state.functions) (length o.state.objects)) (λ (x : Definition). 1 ≤ x.align) (λ x b. good_least x.align b.aligned) ds (All-take (IsBody o.state.target (length o.state.functions) (length o.state.objects)) j o.state.definitions h.bodies) in
    let end = standing_within o.settings o.state n ds least in
    let over = align_over (end_of (map (extent_of o.state) (standing_in o.settings o.state n ds))) (align_of o.state d) (align_positive o.state d (good_least d.align body.aligned)) in
    let sum = asked_sum o marks j h few in
    let align = align_within o.state d body.aligned in
    rw there (omega (arith, end, over, sum, align))

-- -- a definition in hand

-- the definition of this number is in hand
pub adding : (o : OpenModule) (number : ℕ) (d : Definition) → number < length o.state.definitions → d ≡ get_or o.state.definitions number d → slice_get o.state.definitions number ≡ Some d
adding o number d below at = slice_get-get_or o.state.definitions number d below ∙ ap Some (sym at)

-- the object with a section for one more definition
pub later_is : (o : OpenModule) (marks : Marks) (j : ℕ) (d : Definition) (object later : ObjectData) → IsModule o marks → slice_get o.state.definitions j ≡ Some d → object ≡ partial o.settings o.state (take j o.state.definitions) → later ≡ with_class object (section_class o.settings o.state d)
    → later ≡ opened o.settings o.state (take j o.state.definitions) d
later_is o marks j d object later h at e f =
    f ∙ ap (λ (x : ObjectData). with_class x (section_class o.settings o.state d)) e ∙ sym (opened_class o.settings o.state (take j o.state.definitions) d (body_shareable o d (body_at o marks j d h at)))

pub section_is : (o : OpenModule) (j : ℕ) (d : Definition) (object : ObjectData) (section : ℕ) → object ≡ partial o.settings o.state (take j o.state.definitions) → section ≡ class_place object (section_class o.settings o.state d) → section ≡ number_behind o.settings o.state (take j o.state.definitions) d
section_is o j d object section e f = f ∙ ap (λ (x : ObjectData). class_place x (section_class o.settings o.state d)) e ∙ number_class o.settings o.state (take j o.state.definitions) d

counted_length : (b : Bool) (o : ObjectData) (symbol section align : ℕ) (contents : Contents) → length (with_symbol_contents b o symbol section contents align).sections ≡ length o.sections
counted_length true o symbol section align contents = changed_length section _ o.sections
counted_length false o symbol section align contents = changed_length section _ o.sections

kept_sections : (marked : Bool) (o : ObjectData) (symbol : ℕ) → (with_kept marked o symbol).sections ≡ o.sections
kept_sections true o symbol = refl
kept_sections false o symbol = refl

-- contents leave as many sections
pub contents_sections : (marked b : Bool) (o left : ObjectData) (symbol section align : ℕ) (contents : Contents) → left ≡ with_kept marked (with_symbol_contents b o symbol section contents align) symbol → length left.sections ≡ length o.sections
contents_sections marked b o left symbol section align contents e =
    ap (λ (x : ObjectData). length x.sections) e ∙ ap (λ (xs : List SectionData). length xs) (kept_sections marked (with_symbol_contents b o symbol section contents align) symbol) ∙ counted_length b o symbol section align contents

-- what the calls leave
pub adds : (o : OpenModule) (marks : Marks) (j symbol section align offset : ℕ) (d : Definition) (later grown left : ObjectData) → IsModule o marks → slice_get o.state.definitions j ≡ Some d → later ≡ opened o.settings o.state (take j o.state.definitions) d
    → section ≡ number_behind o.settings o.state (take j o.state.definitions) d → symbol ≡ symbol_number o.state d.identifier → align ≡ align_of o.state d → offset ≡ next_offset later section align → grown ≡ with_kept (marks_symbol later.format d.used) (with_symbol_contents (is_unstored_class o.state (section_class o.settings o.state d)) later symbol section d.contents align) symbol
    → left ≡ with_relocations grown section (map (object_relocation o.settings o.state offset) d.relocs)
    → left ≡ partial o.settings o.state (take (j + 1) o.state.definitions)
unfolding partial opened
adds o marks j symbol section align offset d later grown left h at now place named aligned stands holds ends =
    ends ∙ (rw (stands, holds, now, opened_format o.settings o.state (take j o.state.definitions) d, place, named, aligned) (sym (definition_step o marks j d h at)))

-- once all definitions are there, the object has them all
pub all_added : (o : OpenModule) (n : ℕ) (object : ObjectData) → length o.state.definitions ≤ n → object ≡ partial o.settings o.state (take n o.state.definitions) → object ≡ partial o.settings o.state o.state.definitions
all_added o n object past e = e ∙ ap (partial o.settings o.state) (take_all n o.state.definitions past)

-- -- the symbols of functions

-- the marks of functions by number
marked_at : (s : LinkState) (rows : List FunctionRow) (i k j : ℕ) → k < length rows → j ≡ i + k → slice_get (map (λ (row : ℕ × FunctionRow). function_mark s row.0) (enumerate_from i rows)) k ≡ Some (function_mark s j)
marked_at s [] i k j below e = absurd (omega arith)
marked_at s (row ∷ rows) i zero j below e =
    let here : j ≡ i = omega arith in
    rw here refl
marked_at s (row ∷ rows) i (suc k) j below e = marked_at s rows (i + 1) k j (omega arith) (omega arith)

mark_at : (s : LinkState) (k : ℕ) → k < length s.functions → slice_get (function_marks s) k ≡ Some (function_mark s k)
unfolding function_marks
mark_at s k below = marked_at s s.functions 0 k k below (omega arith)

marks_long : (s : LinkState) (i : ℕ) (rows : List FunctionRow) → length (map (λ (row : ℕ × FunctionRow). function_mark s row.0) (enumerate_from i rows)) ≡ length rows
marks_long s i [] = refl
marks_long s i (row ∷ rows) = let rest = marks_long s (i + 1) rows in omega (arith, rest)

pub marks_length : (s : LinkState) → length (function_marks s) ≡ length s.functions
unfolding function_marks
marks_length s = marks_long s 0 s.functions

-- the symbol in the row of a function
pub symbol_in_row : (s : LinkState) (rows : List (ℕ × Bool)) (i k : ℕ) (row : ℕ × Bool) → rows ≡ function_marks s → k < length s.functions → i ≡ k → (get_or rows i row).0 ≡ symbol_number s (Func k)
symbol_in_row s rows i k row e below same =
    let there = get_or_from_slice_get (function_marks s) k (function_mark s k) row (mark_at s k below) in
    ap (λ (j : ℕ). (get_or rows j row).0) same ∙ ap (λ (rs : List (ℕ × Bool)). (get_or rs k row).0) e ∙ ap (λ (r : ℕ × Bool). r.0) there

-- the marks of data objects by number
data_marked_at : (s : LinkState) (rows : List DataRow) (i k j : ℕ) → k < length rows → j ≡ i + k → slice_get (map (λ (row : ℕ × DataRow). data_mark s row.0) (enumerate_from i rows)) k ≡ Some (data_mark s j)
data_marked_at s [] i k j below e = absurd (omega arith)
data_marked_at s (row ∷ rows) i zero j below e =
    let here : j ≡ i = omega arith in
    rw here refl
data_marked_at s (row ∷ rows) i (suc k) j below e = data_marked_at s rows (i + 1) k j (omega arith) (omega arith)

data_marks_long : (s : LinkState) (i : ℕ) (rows : List DataRow) → length (map (λ (row : ℕ × DataRow). data_mark s row.0) (enumerate_from i rows)) ≡ length rows
data_marks_long s i [] = refl
data_marks_long s i (row ∷ rows) = let rest = data_marks_long s (i + 1) rows in omega (arith, rest)

pub data_marks_length : (s : LinkState) → length (data_marks s) ≡ length s.objects
unfolding data_marks
data_marks_length s = data_marks_long s 0 s.objects

object_mark_at : (s : LinkState) (k : ℕ) → k < length s.objects → slice_get (data_marks s) k ≡ Some (data_mark s k)
unfolding data_marks
object_mark_at s k below = data_marked_at s s.objects 0 k k below (omega arith)

-- the symbol in the row of a data object
pub symbol_in_data_row : (s : LinkState) (rows : List (ℕ × Bool)) (i k : ℕ) (row : ℕ × Bool) → rows ≡ data_marks s → k < length s.objects → i ≡ k → (get_or rows i row).0 ≡ symbol_number s (Data k)
symbol_in_data_row s rows i k row e below same =
    let there = get_or_from_slice_get (data_marks s) k (data_mark s k) row (object_mark_at s k below) in
    ap (λ (j : ℕ). (get_or rows j row).0) same ∙ ap (λ (rs : List (ℕ × Bool)). (get_or rs k row).0) e ∙ ap (λ (r : ℕ × Bool). r.0) there

-- -- symbols, one after the other

-- one more identifier's symbol
pub with_symbols_more : (o : OpenModule) (k : ℕ) (id : FuncOrDataId) (object later : ObjectData) → slice_get o.state.created k ≡ Some id → object ≡ with_symbols o k → later ≡ with_symbol object (identifier_symbol o.state [] id) → later ≡ with_symbols o (k + 1)
with_symbols_more o k id object later at e f =
    let more = ap (map (identifier_symbol o.state [])) (front_more o.state.created k id at) ∙ map-append (identifier_symbol o.state []) (take k o.state.created) (id ∷ []) in
    f ∙ ap (λ (x : ObjectData). with_symbol x (identifier_symbol o.state [] id)) e ∙ ap (λ (ts : List SymbolData). record (begun_object o.settings o.state) { symbols = file_symbol o.settings.file_name ∷ ts }) (sym more)

pub with_symbols_all : (o : OpenModule) (n : ℕ) → length o.state.created ≤ n → with_symbols o n ≡ partial o.settings o.state []
unfolding partial sections_used moments
with_symbols_all o n past =
    ap (λ (ids : List FuncOrDataId). record (begun_object o.settings o.state) { symbols = file_symbol o.settings.file_name ∷ map (identifier_symbol o.state []) ids }) (take_all n o.state.created past)

-- the number of the next symbol is that of the next identifier
pub symbol_is : (o : OpenModule) (marks : Marks) (k : ℕ) (id : FuncOrDataId) (object : ObjectData) → IsModule o marks → slice_get o.state.created k ≡ Some id → object ≡ with_symbols o k → length object.symbols ≡ symbol_number o.state id
symbol_is o marks k id object h at e =
    let below = slice_get_within o.state.created k id at in
    let count : length (with_symbols o k).symbols ≡ suc k = omega (arith, length-map (take k o.state.created) (identifier_symbol o.state []), length-take k o.state.created, below) in
    ap (λ (x : ObjectData). length x.symbols) e ∙ count ∙ sym (symbol_place o marks k id h at)

-- the rows of one more function
pub function_row_more : (o : OpenModule) (marks : Marks) (k f : ℕ) (object : ObjectData) (rows new : List (ℕ × Bool)) (row : ℕ × Bool) → IsModule o marks → slice_get o.state.created k ≡ Some (Func f) → object ≡ with_symbols o k → row ≡ (length object.symbols, is_defined o.state (Func f))
    → rows ≡ marks_of_functions o.state (take k o.state.created) → new ≡ rows ++ row ∷ [] → new ≡ marks_of_functions o.state (take (k + 1) o.state.created)
unfolding marks_of_functions
function_row_more o marks k f object rows new row h at e is before pushed =
    let P : ℕ → ℕ × Bool = λ n. (n, is_defined o.state (Func f)) in
    let mark : row ≡ function_mark o.state f = is ∙ ap P (symbol_is o marks k (Func f) object h at e) in
    let front = ap functions_in (front_more o.state.created k (Func f) at) ∙ functions_in-append (take k o.state.created) (Func f ∷ []) in
    pushed ∙ ap (λ (rs : List (ℕ × Bool)). rs ++ row ∷ []) before ∙ ap (λ (r : ℕ × Bool). map (function_mark o.state) (functions_in (take k o.state.created)) ++ r ∷ []) mark
    ∙ sym (map-append (function_mark o.state) (functions_in (take k o.state.created)) (f ∷ [])) ∙ ap (map (function_mark o.state)) (sym front)

pub data_row_more : (o : OpenModule) (marks : Marks) (k d : ℕ) (object : ObjectData) (rows new : List (ℕ × Bool)) (row : ℕ × Bool) → IsModule o marks → slice_get o.state.created k ≡ Some (Data d) → object ≡ with_symbols o k → row ≡ (length object.symbols, is_defined o.state (Data d))
    → rows ≡ marks_of_objects o.state (take k o.state.created) → new ≡ rows ++ row ∷ [] → new ≡ marks_of_objects o.state (take (k + 1) o.state.created)
unfolding marks_of_objects
data_row_more o marks k d object rows new row h at e is before pushed =
    let P : ℕ → ℕ × Bool = λ n. (n, is_defined o.state (Data d)) in
    let mark : row ≡ data_mark o.state d = is ∙ ap P (symbol_is o marks k (Data d) object h at e) in
    let front = ap data_in (front_more o.state.created k (Data d) at) ∙ data_in-append (take k o.state.created) (Data d ∷ []) in
    pushed ∙ ap (λ (rs : List (ℕ × Bool)). rs ++ row ∷ []) before ∙ ap (λ (r : ℕ × Bool). map (data_mark o.state) (data_in (take k o.state.created)) ++ r ∷ []) mark
    ∙ sym (map-append (data_mark o.state) (data_in (take k o.state.created)) (d ∷ [])) ∙ ap (map (data_mark o.state)) (sym front)

-- a data object adds no row of a function, and a function none of a data object
pub functions_past : (o : OpenModule) (k d : ℕ) → slice_get o.state.created k ≡ Some (Data d) → marks_of_functions o.state (take k o.state.created) ≡ marks_of_functions o.state (take (k + 1) o.state.created)
unfolding marks_of_functions
functions_past o k d at =
    let front = ap functions_in (front_more o.state.created k (Data d) at) ∙ functions_in-append (take k o.state.created) (Data d ∷ []) ∙ append-nil (functions_in (take k o.state.created)) in
    ap (map (function_mark o.state)) (sym front)

pub objects_past : (o : OpenModule) (k f : ℕ) → slice_get o.state.created k ≡ Some (Func f) → marks_of_objects o.state (take k o.state.created) ≡ marks_of_objects o.state (take (k + 1) o.state.created)
unfolding marks_of_objects
objects_past o k f at =
    let front = ap data_in (front_more o.state.created k (Func f) at) ∙ data_in-append (take k o.state.created) (Func f ∷ []) ∙ append-nil (data_in (take k o.state.created)) in
    ap (map (data_mark o.state)) (sym front)

pub none_marked : (s : LinkState) → ([] ≡ marks_of_functions s (take 0 s.created)) × ([] ≡ marks_of_objects s (take 0 s.created))
unfolding marks_of_functions marks_of_objects
none_marked s = (refl, refl)

marks_from : (s : LinkState) (i : ℕ) (rows : List FunctionRow) → map (λ (row : ℕ × FunctionRow). function_mark s row.0) (enumerate_from i rows) ≡ map (function_mark s) (range_with_len i (length rows))
marks_from s i [] = refl
marks_from s i (row ∷ rows) = rw (marks_from s (i + 1) rows) refl

data_marks_from : (s : LinkState) (i : ℕ) (rows : List DataRow) → map (λ (row : ℕ × DataRow). data_mark s row.0) (enumerate_from i rows) ≡ map (data_mark s) (range_with_len i (length rows))
data_marks_from s i [] = refl
data_marks_from s i (row ∷ rows) = rw (data_marks_from s (i + 1) rows) refl

-- with all identifiers they are the rows of all functions, and of all data objects
pub functions_whole : (o : OpenModule) (marks : Marks) (n : ℕ) → IsModule o marks → length o.state.created ≤ n → marks_of_functions o.state (take n o.state.created) ≡ function_marks o.state
unfolding marks_of_functions function_marks
functions_whole o marks n h past =
    ap (λ (ids : List FuncOrDataId). map (function_mark o.state) (functions_in ids)) (take_all n o.state.created past)
    ∙ ap (map (function_mark o.state)) (functions_numbered 0 0 (length o.state.functions) (length o.state.functions) (length o.state.objects) o.state.created h.order (omega arith))
    ∙ sym (marks_from o.state 0 o.state.functions)

pub objects_whole : (o : OpenModule) (marks : Marks) (n : ℕ) → IsModule o marks → length o.state.created ≤ n → marks_of_objects o.state (take n o.state.created) ≡ data_marks o.state
unfolding marks_of_objects data_marks
objects_whole o marks n h past =
    ap (λ (ids : List FuncOrDataId). map (data_mark o.state) (data_in ids)) (take_all n o.state.created past)
    ∙ ap (map (data_mark o.state)) (data_numbered 0 0 (length o.state.objects) (length o.state.functions) (length o.state.objects) o.state.created h.order (omega arith))
    ∙ sym (data_marks_from o.state 0 o.state.objects)

-- the identifier in hand is declared
pub created_function : (o : OpenModule) (marks : Marks) (k f : ℕ) → IsModule o marks → slice_get o.state.created k ≡ Some (Func f) → f < length o.state.functions
created_function o marks k f h at = (function_within 0 0 (length o.state.functions) (length o.state.objects) o.state.created k f h.order at).1

pub created_data : (o : OpenModule) (marks : Marks) (k d : ℕ) → IsModule o marks → slice_get o.state.created k ≡ Some (Data d) → d < length o.state.objects
created_data o marks k d h at = (data_within 0 0 (length o.state.functions) (length o.state.objects) o.state.created k d h.order at).1

-- what stands at a place in the list in hand
pub created_there : (ids all : List FuncOrDataId) (k : ℕ) (id : FuncOrDataId) → ids ≡ all → k < length all → id ≡ get_or ids k id → slice_get all k ≡ Some id
created_there ids all k id same below e = slice_get-get_or all k id below ∙ ap (λ (x : FuncOrDataId). Some x) (sym (e ∙ ap (λ (xs : List FuncOrDataId). get_or xs k id) same))

-- the product of a module
pub product_is : (o : OpenModule) (object : ObjectData) (rows objects : List (ℕ × Bool)) → object ≡ object_of o.settings o.state → rows ≡ function_marks o.state → objects ≡ data_marks o.state → record { object = object; functions = rows; data_objects = objects } ≡ product_of o.settings o.state
product_is o object rows objects e f g = rw (e, f, g) refl
