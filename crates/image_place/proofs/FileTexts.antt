-- No name of a valid ELF part's symbols and sections has a zero byte.
use Rattle.std.proofs.Common.{◌≡◌, ℕ, zero, suc, ◌+◌, ◌<◌, ◌==◌, ◌||◌, ◌/◌, ◌%◌, List, [], ◌∷◌, ◌++◌, length, map, refl, ap, sym, ◌∙◌, arith, Option, Some, None, Bool, true, false, cond, slice_get, subst, codes, decimal, inl, inr}
use Rattle.std.specs.Prelude.{filter, flat_map, option_map, unwrap_or, nat_lt, ℤ, is_some, is_none, ◌&&◌}
use Rattle.std.specs.Fmt.{digits, digit_glyph, digits_onto}
use Rattle.std.specs.List.{All, list_any, enumerate_from}
use Rattle.std.specs.Option.{option_or}
use Rattle.std.proofs.lemmas.Bool.Decides.{eqb_tells}
use Rattle.std.proofs.lemmas.List.Folds.{list_any-append}
use Rattle.std.proofs.lemmas.List.Elements.{All-nil, All-cons}
use Rattle.byte_core.proofs.Lists.{get_left, get_right, get_append, get_map_from, passing}
use Rattle.ir_core.specs.Moments.{Moment, moments, once_each}
use Rattle.ir_core.proofs.MomentLaws.{by_end, once_each-end}
use Rattle.ir_core.specs.declared.reloc.KnownSymbol.{KnownSymbol}
use Rattle.ir_core.specs.declared.reloc.KnownSymbol.TheVariants.{ElfGlobalOffsetTable, CoffTlsIndex}
use Rattle.ir_core.specs.declared.target.BinaryFormat.{BinaryFormat}
use Rattle.ir_core.specs.declared.target.BinaryFormat.TheVariants.{Elf}
use Rattle.object_core.specs.declared.kinds.StandardSection.{StandardSection}
use Rattle.object_core.specs.declared.kinds.StandardSection.TheVariants.{Text, Data as DataSection, ReadOnlyData, ReadOnlyDataWithRel, UninitializedData, Tls, UninitializedTls}
use Rattle.object_core.specs.Object.{SymbolData, SectionData}
use Rattle.object_core.specs.Appending.{file_symbol}
use Rattle.object_core.specs.WellFormed.{has_zero_byte}
use Rattle.cranelift_module.specs.declared.identifiers.FuncOrDataId.{FuncOrDataId}
use Rattle.cranelift_module.specs.declared.identifiers.FuncOrDataId.TheVariants.{Func, Data}
use Rattle.cranelift_module.specs.declared.reloc.ModuleReloc.{ModuleReloc}
use Rattle.cranelift_module.specs.declared.reloc.ModuleRelocTarget.{ModuleRelocTarget}
use Rattle.cranelift_module.specs.declared.reloc.ModuleRelocTarget.TheVariants.{User, LibCall, KnownSymbol as Known, FunctionOffset}
use Rattle.cranelift_module.specs.declared.error.BackendCause.TheVariants.{TlsPlace, BadAlign, NoContents}
use Rattle.cranelift_module.specs.Call.{Call, declare_function, declare_anonymous_function, declare_data, declare_anonymous_data, define_function, define_data, Description, bytes}
use Rattle.cranelift_module.specs.Definitions.{Definition, definition_made, definitions_of, relocs_of, is_thread_local}
use Rattle.cranelift_module.specs.Rows.{FunctionRow, DataRow, is_new, function_made, data_made, functions_of, objects_of}
use Rattle.cranelift_module.specs.Marks.{name_held}
use Rattle.cranelift_module.specs.LinkState.{LinkState, state_of}
use Rattle.cranelift_module.specs.Refusal.{Refusal, refusal, refuse_if, backend, undeclared, is_bad_align, loose_function, loose_value, is_macho, section_cause, zero_byte, first_cause, undefinable_object, undefinable_data, description_cause, bad_reloc, is_defined, function_name, data_name}
use Rattle.cranelift_object.specs.Settings.{Settings, library_text}
use Rattle.cranelift_object.specs.Kept.{IsName}
use Rattle.cranelift_object.specs.SectionClass.{Class, section_class, class_by_text, standard_class, standard_section, has_own_section}
use Rattle.cranelift_object.specs.Placing.{Placed, placed, sections_used}
use Rattle.cranelift_object.specs.Targets.{RelocationTarget, known, library_target, target_of, targets, extras, is_same_target, is_extra}
use Rattle.cranelift_object.specs.Linked.{identifier_symbol, extra_symbol, symbols_of, section_with, sections_of, members, label_name, object_of}
use Rattle.cranelift_object.specs.Part.{PartData, part_state, part_cause, start_cause, at_start}
use Rattle.cranelift_object.proofs.ClassLaws.{used_all, All-slice_get}
use Rattle.cranelift_object.proofs.FormedLaws.{no_zero, function_no_zero, data_no_zero}
use Rattle.cranelift_object.proofs.TextLaws.{texts_free}
use Rattle.image_place.proofs.EntryLaws.{Among}
use Rattle.image_place.proofs.Accepted.{accepted}
use Rattle.image_place.proofs.Collected.{made-from, numbered-from}
use Rattle.image_place.proofs.FileSymbols.{IsSettled, placed-from, created-stands}
use Rattle.image_place.proofs.ElfFits.{AreTexts}

left_none : {A : Type 0} (a b : Option A) → option_or a b ≡ None → a ≡ None
left_none None b e = refl
left_none (Some x) b e = absurd (cc)

right_none : {A : Type 0} (a b : Option A) → option_or a b ≡ None → b ≡ None
right_none None b e = e
right_none (Some x) b e = absurd (cc)

mapped_none : {A B : Type 0} (f : A → B) (o : Option A) → option_map f o ≡ None → o ≡ None
mapped_none f None e = refl
mapped_none f (Some x) e = absurd (cc)

some_same : {A : Type 0} (x y : A) → Some x ≡ Some y → x ≡ y
some_same x y e = cc

-- -- what a part begins with

pub record HasTexts (settings : Settings) : Type 0 where
  pub file : has_zero_byte settings.file_name ≡ false
  pub libraries : All (λ (text : List ℕ). zero_byte text ≡ None) settings.library_names

pub part-texts : (part : PartData) → part_cause part ≡ None → HasTexts part.settings
unfolding part_cause start_cause
part-texts part v =
    let none = mapped_none (λ r. at_start r) (start_cause part.settings part.target) (left_none _ _ v) in
    let texts = right_none _ (first_cause (zero_byte part.settings.file_name ∷ map zero_byte part.settings.library_names)) none in
    record {
      file = no_zero part.settings.file_name (left_none (zero_byte part.settings.file_name) (first_cause (map zero_byte part.settings.library_names)) texts);
      libraries = texts_free part.settings.library_names (right_none (zero_byte part.settings.file_name) (first_cause (map zero_byte part.settings.library_names)) texts);
    }

-- -- digits

not_zero : (n : ℕ) → 0 < n → (n == 0) ≡ false
not_zero n h = elim (eqb_tells n 0) [ inl e ↦ absurd (let k : n ≡ 0 = e.1 in omega (arith, h, k)) | inr e ↦ e.0 ]

glyph_from : (d : ℕ) (b : Bool) → (cond b (48 + d) (87 + d) == 0) ≡ false
glyph_from d true = not_zero (48 + d) (omega arith)
glyph_from d false = not_zero (87 + d) (omega arith)

glyph_above : (d : ℕ) → (digit_glyph false d == 0) ≡ false
glyph_above d = glyph_from d (nat_lt d 10)

digits_by : (b : Bool) (xs ys : List ℕ) → has_zero_byte xs ≡ false → has_zero_byte ys ≡ false → has_zero_byte (cond b xs ys) ≡ false
digits_by true xs ys h k = h
digits_by false xs ys h k = k

digits_above : (k base n : ℕ) (rest : List ℕ) → has_zero_byte rest ≡ false → has_zero_byte (digits_onto k base false n rest) ≡ false
digits_above zero base n rest h = h
digits_above (suc k) base n rest h =
    let more : has_zero_byte (digit_glyph false (n % base) ∷ rest) ≡ false = rw (glyph_above (n % base)) h in
    digits_by (n / base == 0) (digit_glyph false (n % base) ∷ rest) (digits_onto k base false (n / base) (digit_glyph false (n % base) ∷ rest)) more (digits_above k base (n / base) (digit_glyph false (n % base) ∷ rest) more)

digits_free : (base n : ℕ) → has_zero_byte (digits base false n) ≡ false
unfolding digits
digits_free base n = digits_above 64 base n [] refl

join_free : (xs ys : List ℕ) → has_zero_byte xs ≡ false → has_zero_byte ys ≡ false → has_zero_byte (xs ++ ys) ≡ false
join_free xs ys h k = list_any-append (λ x. x == 0) xs ys ∙ (rw (h, k) refl)

label_free : (function offset : ℕ) → has_zero_byte (label_name function offset) ≡ false
label_free function offset =
    let end : has_zero_byte (codes "_" ++ decimal offset) ≡ false = digits_free 10 offset in
    join_free (decimal function) (codes "_" ++ decimal offset) (digits_free 10 function) end

-- -- names of identifiers

function_if : (b : Bool) (name : List ℕ) (new row : FunctionRow) → new.name ≡ Some name → zero_byte name ≡ None → cond b (Some new) None ≡ Some row → IsName row.name
function_if true name new row named free e = subst IsName (sym named ∙ ap (λ (r : FunctionRow). r.name) (some_same new row e)) free
function_if false name new row named free e = absurd (cc)

function_named : (s : LinkState) (all before : List Call) (c : Call) (row : FunctionRow) → refusal s c ≡ None → function_made all before c ≡ Some row → IsName row.name
unfolding refusal
function_named s all before (declare_function name linkage signature) row e made = function_if (is_new name before) name _ row refl (left_none (zero_byte name) _ e) made
function_named s all before (declare_anonymous_function signature) row e made = subst IsName (ap (λ (r : FunctionRow). r.name) (some_same _ row made)) tt
function_named s all before c row e made = absurd (cc)

data_if : (b : Bool) (name : List ℕ) (new row : DataRow) → new.name ≡ Some name → zero_byte name ≡ None → cond b (Some new) None ≡ Some row → IsName row.name
data_if true name new row named free e = subst IsName (sym named ∙ ap (λ (r : DataRow). r.name) (some_same new row e)) free
data_if false name new row named free e = absurd (cc)

data_named : (s : LinkState) (all before : List Call) (c : Call) (row : DataRow) → refusal s c ≡ None → data_made all before c ≡ Some row → IsName row.name
unfolding refusal
data_named s all before (declare_data name linkage writable tls) row e made = data_if (is_new name before) name _ row refl (left_none (zero_byte name) _ e) made
data_named s all before (declare_anonymous_data writable tls) row e made = subst IsName (ap (λ (r : DataRow). r.name) (some_same _ row made)) tt
data_named s all before c row e made = absurd (cc)

functions_named : (part : PartData) → part_cause part ≡ None → (k : ℕ) (row : FunctionRow) → slice_get (part_state part).functions k ≡ Some row → IsName row.name
unfolding state_of functions_of
functions_named part v k row e =
    let from = made-from (λ (m : Moment Call). function_made part.calls m.before m.here) (moments part.calls) k row e in
    function_named (state_of part.target from.element.before) part.calls from.element.before from.element.here row (accepted part v from.number from.element from.here) from.makes

objects_named : (part : PartData) → part_cause part ≡ None → (k : ℕ) (row : DataRow) → slice_get (part_state part).objects k ≡ Some row → IsName row.name
unfolding state_of objects_of
objects_named part v k row e =
    let from = made-from (λ (m : Moment Call). data_made part.calls m.before m.here) (moments part.calls) k row e in
    data_named (state_of part.target from.element.before) part.calls from.element.before from.element.here row (accepted part v from.number from.element from.here) from.makes

held_function : (part : PartData) → part_cause part ≡ None → (k : ℕ) (row : Option FunctionRow) (name : List ℕ) → slice_get (part_state part).functions k ≡ row → option_map (λ (r : FunctionRow). function_name r k) row ≡ Some name → has_zero_byte name ≡ false
held_function part v k None name e h = absurd (cc)
held_function part v k (Some row) name e h = ap has_zero_byte (sym (some_same _ name h)) ∙ function_no_zero row k (functions_named part v k row e)

held_data : (part : PartData) → part_cause part ≡ None → (k : ℕ) (row : Option DataRow) (name : List ℕ) → slice_get (part_state part).objects k ≡ row → option_map (λ (r : DataRow). data_name r k) row ≡ Some name → has_zero_byte name ≡ false
held_data part v k None name e h = absurd (cc)
held_data part v k (Some row) name e h = ap has_zero_byte (sym (some_same _ name h)) ∙ data_no_zero row k (objects_named part v k row e)

held_free : (part : PartData) → part_cause part ≡ None → (id : FuncOrDataId) (name : List ℕ) → name_held (part_state part) id ≡ Some name → has_zero_byte name ≡ false
held_free part v (Func k) name h = held_function part v k (slice_get (part_state part).functions k) name refl h
held_free part v (Data k) name h = held_data part v k (slice_get (part_state part).objects k) name refl h

-- -- names of what relocations add

library_free : (names : List (List ℕ)) (place : ℕ) (text : Option (List ℕ)) → All (λ (t : List ℕ). zero_byte t ≡ None) names → slice_get names place ≡ text → has_zero_byte (unwrap_or text []) ≡ false
library_free names place None all e = refl
library_free names place (Some text) all e = no_zero text (All-slice_get (λ (t : List ℕ). zero_byte t ≡ None) names place text all e)

library_by : (ps : List Placed) (text : List ℕ) (o : Option FuncOrDataId) → has_zero_byte text ≡ false → has_zero_byte (extra_symbol ps (library_target text o)).name ≡ false
library_by ps text None h = h
library_by ps text (Some id) h = refl

known_free : (ps : List Placed) (symbol : KnownSymbol) → has_zero_byte (extra_symbol ps (known symbol)).name ≡ false
known_free ps ElfGlobalOffsetTable = refl
known_free ps CoffTlsIndex = refl

target_free : (settings : Settings) (s : LinkState) (ps : List Placed) (t : ModuleRelocTarget) → HasTexts settings → has_zero_byte (extra_symbol ps (target_of settings s t)).name ≡ false
target_free settings s ps (User namespace index) h = refl
target_free settings s ps (LibCall call) h = library_by ps (library_text settings call) _ (library_free settings.library_names _ _ h.libraries refl)
target_free settings s ps (Known symbol) h = known_free ps symbol
target_free settings s ps (FunctionOffset function offset) h = label_free function offset

among_if : {A : Type 0} (xs : List A) (x y : A) (b : Bool) (j : ℕ) → ((i : ℕ) (z : A) → slice_get xs i ≡ Some z → Among xs z) → slice_get (cond b [] (x ∷ [])) j ≡ Some y → x ≡ y
among_if xs x y true j h e = absurd (cc)
among_if xs x y false zero h e = some_same x y e
among_if xs x y false (suc j) h e = absurd (cc)

-- what is once each comes from the list
abbrev pub IsFrom : {A : Type 0} → (A → A → Bool) → List A → Type 0
IsFrom {A} same xs = (j : ℕ) (x : A) → slice_get (once_each same xs) j ≡ Some x → Among xs x

once_none : {A : Type 0} (same : A → A → Bool) → IsFrom same []
unfolding moments
once_none same j x e = absurd (cc)

once_more : {A : Type 0} (same : A → A → Bool) (xs : List A) (y : A) → IsFrom same xs → IsFrom same (xs ++ y ∷ [])
once_more same xs y h j x e =
    elim (get_append (once_each same xs) (cond (list_any (same y) xs) [] (y ∷ [])) j x (ap (λ zs. slice_get zs j) (sym (once_each-end same xs y)) ∙ e)) [
      | inl f ↦ (let far = h j x f in record { number = far.number; here = get_left xs (y ∷ []) far.number x far.here })
      | inr f ↦
          (
          let is : y ≡ x = among_if xs y x (list_any (same y) xs) f.0 (λ i z g. record { number = i; here = g }) f.2 in
          record { number = length xs; here = get_right xs (y ∷ []) 0 (length xs) x (ap Some is) (omega arith) }
          )
    ]

pub once-from : {A : Type 0} (same : A → A → Bool) (xs : List A) → IsFrom same xs
once-from same xs = by_end (IsFrom same) (once_none same) (λ ys y h. once_more same ys y h) xs

-- the list in which an element of a flat list stands
record FlatFrom {A B : Type 0} (f : A → List B) (xs : List A) (y : B) : Type 0 where
  element : A
  number : ℕ
  there : slice_get (f element) number ≡ Some y

flat_from : {A B : Type 0} (f : A → List B) (xs : List A) (k : ℕ) (y : B) → slice_get (flat_map f xs) k ≡ Some y → FlatFrom f xs y
flat_from f [] k y e = absurd (cc)
flat_from f (x ∷ xs) k y e =
    elim (get_append (f x) (flat_map f xs) k y e) [
      | inl h ↦ record { element = x; number = k; there = h }
      | inr h ↦ (let far = flat_from f xs h.0 y h.2 in record { element = far.element; number = far.number; there = far.there })
    ]

extra_free : (settings : Settings) (s : LinkState) (ps : List Placed) (j : ℕ) (t : RelocationTarget) → HasTexts settings → slice_get (extras settings s) j ≡ Some t → has_zero_byte (extra_symbol ps t).name ≡ false
unfolding extras
extra_free settings s ps j t h e =
    let once = once-from is_same_target (filter is_extra (targets settings s s.definitions)) j t e in
    let passes = passing is_extra (targets settings s s.definitions) once.number t once.here in
    let flat = flat_from (λ (d : Definition). map (λ (r : ModuleReloc). target_of settings s r.name) d.relocs) s.definitions passes.place t passes.at in
    let from = get_map_from (λ (r : ModuleReloc). target_of settings s r.name) flat.element.relocs flat.number t flat.there in
    subst (λ u. has_zero_byte (extra_symbol ps u).name ≡ false) from.2 (target_free settings s ps from.0.name h)

-- -- symbols

front_free : (part : PartData) → part_cause part ≡ None → IsSettled (part_state part) → (n : ℕ) (x : SymbolData) → slice_get (file_symbol part.settings.file_name ∷ map (identifier_symbol (part_state part) (placed part.settings (part_state part))) (part_state part).created) n ≡ Some x → has_zero_byte x.name ≡ false
front_free part v settled zero x e = ap (λ (y : SymbolData). has_zero_byte y.name) (sym (some_same (file_symbol part.settings.file_name) x e)) ∙ (part-texts part v).file
front_free part v settled (suc r) x e =
    let s = part_state part in
    let from = get_map_from (identifier_symbol s (placed part.settings s)) s.created r x e in
    let stands = created-stands part.settings s r from.0 settled from.1 in
    ap (λ (y : SymbolData). has_zero_byte y.name) (sym from.2 ∙ stands.symbol) ∙ held_free part v from.0 stands.name stands.named

pub symbol_free : (part : PartData) → part_cause part ≡ None → IsSettled (part_state part) → (n : ℕ) (x : SymbolData) → slice_get (symbols_of part.settings (part_state part) (placed part.settings (part_state part))) n ≡ Some x → has_zero_byte x.name ≡ false
unfolding symbols_of
symbol_free part v settled n x e =
    let s = part_state part in
    let ps = placed part.settings s in
    elim (get_append (file_symbol part.settings.file_name ∷ map (identifier_symbol s ps) s.created) (map (extra_symbol ps) (extras part.settings s)) n x e) [
      | inl h ↦ front_free part v settled n x h
      | inr h ↦
          (
          let from = get_map_from (extra_symbol ps) (extras part.settings s) h.0 x h.2 in
          ap (λ (y : SymbolData). has_zero_byte y.name) (sym from.2) ∙ extra_free part.settings s ps h.0 from.0 (part-texts part v) from.1
          )
    ]

-- -- sections

sixth_none : (a b c e t f g : Option Refusal) → first_cause (a ∷ b ∷ c ∷ e ∷ t ∷ f ∷ g ∷ []) ≡ None → f ≡ None
sixth_none a b c e t f g h =
    let h1 = right_none a (first_cause (b ∷ c ∷ e ∷ t ∷ f ∷ g ∷ [])) h in
    let h2 = right_none b (first_cause (c ∷ e ∷ t ∷ f ∷ g ∷ [])) h1 in
    let h3 = right_none c (first_cause (e ∷ t ∷ f ∷ g ∷ [])) h2 in
    let h4 = right_none e (first_cause (t ∷ f ∷ g ∷ [])) h3 in
    let h5 = right_none t (first_cause (f ∷ g ∷ [])) h4 in
    left_none f (first_cause (g ∷ [])) h5

described_text : (format : BinaryFormat) (tls : Bool) (d : Description) → description_cause format tls d ≡ None → zero_byte (unwrap_or d.section []) ≡ None
described_text format tls d h =
    sixth_none (refuse_if (is_none d.contents) (backend NoContents)) (refuse_if (is_bad_align (unwrap_or d.align 1)) (backend (BadAlign (unwrap_or d.align 1)))) (option_map (λ (a : ℕ × ℕ). undeclared (codes "fn" ++ decimal a.1)) (loose_function d))
    (option_map (λ (a : ℕ × ℕ × ℤ). undeclared (codes "gv" ++ decimal a.1)) (loose_value d)) (refuse_if (tls && (is_some d.section || is_macho format)) (backend TlsPlace)) (zero_byte (unwrap_or d.section [])) (section_cause format d.contents d.section) h

section_text_call : (s : LinkState) (objects : List DataRow) (c : Call) (d : Definition) → refusal s c ≡ None → definition_made objects c ≡ Some d → zero_byte (unwrap_or d.section []) ≡ None
unfolding refusal
section_text_call s objects (define_function n align xs rs) d e made = subst (λ (x : Definition). zero_byte (unwrap_or x.section []) ≡ None) (some_same _ d made) refl
section_text_call s objects (define_data n description) d e made =
    subst (λ (x : Definition). zero_byte (unwrap_or x.section []) ≡ None) (some_same _ d made)
    (described_text s.target.triple.binary_format (is_thread_local (slice_get s.objects n)) description
    (right_none (undefinable_object (is_defined s (Data n)) n (slice_get s.objects n)) (description_cause s.target.triple.binary_format (is_thread_local (slice_get s.objects n)) description)
    (left_none (undefinable_data s.target.triple.binary_format (is_defined s (Data n)) n description (slice_get s.objects n)) (bad_reloc s.target (unwrap_or description.contents (bytes [])) (relocs_of description)) e)))
section_text_call s objects c d e made = absurd (cc)

pub section_text_free : (part : PartData) → part_cause part ≡ None → (k : ℕ) (d : Definition) → slice_get (part_state part).definitions k ≡ Some d → zero_byte (unwrap_or d.section []) ≡ None
unfolding state_of definitions_of
section_text_free part v k d e =
    let from = made-from (λ (m : Moment Call). definition_made (objects_of m.before) m.here) (moments part.calls) k d e in
    section_text_call (state_of part.target from.element.before) (objects_of from.element.before) from.element.here d (accepted part v from.number from.element from.here) from.makes

standard_free : (standard : StandardSection) (own used : Bool) → has_zero_byte (standard_class standard own used).name ≡ false
standard_free Text true used = refl
standard_free Text false used = refl
standard_free DataSection true used = refl
standard_free DataSection false used = refl
standard_free ReadOnlyData true used = refl
standard_free ReadOnlyData false used = refl
standard_free ReadOnlyDataWithRel true used = refl
standard_free ReadOnlyDataWithRel false used = refl
standard_free UninitializedData true used = refl
standard_free UninitializedData false used = refl
standard_free Tls true used = refl
standard_free Tls false used = refl
standard_free UninitializedTls true used = refl
standard_free UninitializedTls false used = refl

class_free : (settings : Settings) (s : LinkState) (d : Definition) (text : Option (List ℕ)) → s.target.triple.binary_format ≡ Elf → zero_byte (unwrap_or text []) ≡ None → has_zero_byte (class_by_text settings s d text).name ≡ false
class_free settings s d (Some text) elf h = rw elf (no_zero text h)
class_free settings s d None elf h = rw elf (standard_free (standard_section s d d.identifier) (has_own_section settings d d.identifier) d.used)

pub map_all : {A B : Type 0} (P : B → Type 0) (f : A → B) (xs : List A) → ((k : ℕ) (x : A) → slice_get xs k ≡ Some x → P (f x)) → All P (map f xs)
map_all P f [] h = All-nil P
map_all P f (x ∷ xs) h = All-cons P (f x) (map f xs) (h 0 x refl) (map_all P f xs (λ k. h (suc k)))

section_free : (part : PartData) → part_cause part ≡ None → (part_state part).target.triple.binary_format ≡ Elf → (k : ℕ) (x : SectionData) → slice_get (object_of part.settings (part_state part)).sections k ≡ Some x → has_zero_byte x.name ≡ false
unfolding object_of sections_of
section_free part v elf k x e =
    let s = part_state part in
    let ps = placed part.settings s in
    let classes = map (λ (p : Placed). section_class part.settings s p.definition) ps in
    let from = get_map_from (λ (c : ℕ × Class). section_with part.settings s c.1 (members ps c.0)) (enumerate_from 0 (sections_used classes)) k x e in
    let there = numbered-from 0 (sections_used classes) k from.0 from.1 in
    let all = used_all (λ (c : Class). has_zero_byte c.name ≡ false) classes (map_all (λ (c : Class). has_zero_byte c.name ≡ false) (λ (p : Placed). section_class part.settings s p.definition) ps (λ j p at. class_free part.settings s p.definition p.definition.section elf (section_text_free part v j p.definition (placed-from part.settings s j p at)))) in
    ap (λ (y : SectionData). has_zero_byte y.name) (sym from.2) ∙ All-slice_get (λ (c : Class). has_zero_byte c.name ≡ false) (sections_used classes) k from.0.1 all there.1

object_symbols : (settings : Settings) (s : LinkState) → (object_of settings s).symbols ≡ symbols_of settings s (placed settings s)
unfolding object_of
object_symbols settings s = refl

pub elf-texts : (part : PartData) → part_cause part ≡ None → IsSettled (part_state part) → (part_state part).target.triple.binary_format ≡ Elf → AreTexts (object_of part.settings (part_state part))
elf-texts part v settled elf =
    record {
      symbols = λ k x e. symbol_free part v settled k x (ap (λ xs. slice_get xs k) (sym (object_symbols part.settings (part_state part))) ∙ e);
      sections = section_free part v elf;
    }
