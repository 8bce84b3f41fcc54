-- Calls of a module, accepted and refused.
use Rattle.std.proofs.Common.{◌≡◌, ℕ, ℤ, ◌<◌, ◌^◌, ◌++◌, ◌∷◌, ◌&&◌, ◌||◌, not, List, [], Bool, true, false, cond, codes, length, Option, Some, None, refl, ap, sym, ◌∙◌, subst}
use Rattle.std.specs.Prelude.{slice_get, IfSome, Ok, Err, unwrap_or, option_map, option_to_list, find, decimal, is_some, is_none}
use Rattle.std.specs.List.{list_all}
use Rattle.std.specs.Option.{option_or}
use Rattle.std.proofs.lemmas.Option.{slice_get_within}
use Rattle.ir_core.specs.Signature.{SignatureData}
use Rattle.cranelift_module.specs.declared.error.ModuleError.{ModuleError}
use Rattle.cranelift_module.specs.declared.error.BackendCause.TheVariants.{BadAlign, NoContents, TlsPlace}
use Rattle.cranelift_module.specs.declared.linkage.Linkage.{Linkage}
use Rattle.cranelift_module.specs.declared.reloc.ModuleReloc.{ModuleReloc}
use Rattle.cranelift_module.specs.declared.identifiers.FuncOrDataId.{FuncOrDataId}
use Rattle.cranelift_module.specs.declared.identifiers.FuncOrDataId.TheVariants.{Func, Data}
use Rattle.cranelift_module.specs.Call.{Call, declare_function, declare_data, define_function, define_data, Description, Contents, bytes}
use Rattle.cranelift_module.specs.Rows.{FunctionRow, DataRow}
use Rattle.cranelift_module.specs.Definitions.{Definition, definition_made, relocs_of, size_of, is_writable, is_thread_local}
use Rattle.cranelift_module.specs.Init.{are_in_range, is_function_within, is_value_within}
use Rattle.ir_core.specs.Target.{Target}
use Rattle.ir_core.specs.declared.target.BinaryFormat.{BinaryFormat}
use Rattle.ir_core.specs.declared.target.BinaryFormat.TheVariants.{Elf, Coff, Macho, Wasm, Unknown}
use Rattle.cranelift_module.specs.LinkState.{LinkState, step}
use Rattle.cranelift_module.specs.Refusal.{Refusal, Tells, refusal, refusal_told, backend, undeclared, zero_byte, function_clash, data_clash, undefinable, undefinable_object, undefinable_data, description_cause, loose_function, loose_value, bad_reloc_from, bytes_in, is_bad_align, is_defined, first_cause, refuse_if, duplicate_definition, function_name, data_name, section_cause, is_macho}
use Rattle.cranelift_module.specs.IsCall.{IsCall}
use Rattle.cranelift_object.specs.Kept.{IsBody, HasPlaceIn}

-- -- the first of two causes

-- where the first cause doesn't hold, the second is the first
pub option_or_first : {A : Type 0} (a b : Option A) → a ≡ None → option_or a b ≡ b
option_or_first a b h = rw h refl

first_none : {A : Type 0} (a b : Option A) → option_or a b ≡ None → (a ≡ None) × (b ≡ None)
first_none None b h = (refl, h)
first_none (Some x) b h = absurd (cc)

told_first : (told : Option Refusal) (a b : Option Refusal) → IfSome told (λ r. a ≡ Some r) → IfSome told (λ r. option_or a b ≡ Some r)
told_first None a b h = h
told_first (Some r) a b h = rw h refl

-- an error that tells the first of two causes
pub tells_first : (e : ModuleError) (a b : Option Refusal) → Tells e a → Tells e (option_or a b)
tells_first e a b h = told_first (refusal_told e) a b h

-- -- calls

pub refused_call : {A : Type 0} (e : ModuleError) (old new : LinkState) (call : Call) → Tells e (refusal old call) → new ≡ old → IsCall {A = A} (Err e) old new call
refused_call e old new call h k = record { accepted = tt; stepped = tt; refused = h; kept = k }

pub accepted_call : {A : Type 0} (x : A) (old new : LinkState) (call : Call) → refusal old call ≡ None → new ≡ step old call → IsCall {A = A} (Ok x) old new call
accepted_call x old new call h k = record { accepted = h; stepped = k; refused = tt; kept = tt }

-- -- definitions

-- why a function isn't defined, by what is in hand
pub function_cause : (s : LinkState) (id align : ℕ) (xs : List ℕ) (relocs : List ModuleReloc) (defined : Bool) (functions : List FunctionRow) (target : Target) → defined ≡ is_defined s (Func id) → functions ≡ s.functions → target ≡ s.target
    → refusal s (define_function id align xs relocs) ≡ option_or (undefinable defined id align (slice_get functions id)) (bad_reloc_from target (Some (length xs)) [] relocs)
unfolding refusal
function_cause s id align xs relocs defined functions target e f g = rw (e, f, g) refl

-- why a data object isn't defined, by what is in hand
pub data_cause : (s : LinkState) (id : ℕ) (d : Description) (defined : Bool) (objects : List DataRow) (target : Target) (format : BinaryFormat) → defined ≡ is_defined s (Data id) → objects ≡ s.objects → target ≡ s.target → format ≡ s.target.triple.binary_format
    → refusal s (define_data id d) ≡ option_or (undefinable_data format defined id d (slice_get objects id)) (bad_reloc_from target (bytes_in (unwrap_or d.contents (bytes []))) [] (relocs_of d))
unfolding refusal
data_cause s id d defined objects target format e f g k = rw (e, f, g, k) refl

-- an error that tells the second of two causes
pub tells_second : (e : ModuleError) (a b : Option Refusal) → a ≡ None → Tells e b → Tells e (option_or a b)
tells_second e a b h k = rw h k

pub both_none : (a b : Option Refusal) → a ≡ None → b ≡ None → option_or a b ≡ None
both_none a b h k = rw (h, k) refl

-- what a definition leaves
pub step_function : (s : LinkState) (id align : ℕ) (xs : List ℕ) (relocs : List ModuleReloc) (d : Definition) (definitions : List Definition) (target : Target) (functions : List FunctionRow) (objects : List DataRow) (created : List FuncOrDataId) → definition_made s.objects (define_function id align xs relocs) ≡ Some d
    → definitions ≡ s.definitions ++ d ∷ [] → target ≡ s.target → functions ≡ s.functions → objects ≡ s.objects → created ≡ s.created
    → record { target = target; functions = functions; objects = objects; created = created; definitions = definitions } ≡ step s (define_function id align xs relocs)
unfolding step
step_function s id align xs relocs d definitions target functions objects created made e a b c f =
    rw (e, a, b, c, f) (ap (λ (o : Option Definition). record s { definitions = s.definitions ++ option_to_list o }) (sym made))

pub step_data : (s : LinkState) (id : ℕ) (desc : Description) (d : Definition) (definitions : List Definition) (target : Target) (functions : List FunctionRow) (objects : List DataRow) (created : List FuncOrDataId) → definition_made s.objects (define_data id desc) ≡ Some d
    → definitions ≡ s.definitions ++ d ∷ [] → target ≡ s.target → functions ≡ s.functions → objects ≡ s.objects → created ≡ s.created
    → record { target = target; functions = functions; objects = objects; created = created; definitions = definitions } ≡ step s (define_data id desc)
unfolding step
step_data s id desc d definitions target functions objects created made e a b c f =
    rw (e, a, b, c, f) (ap (λ (o : Option Definition). record s { definitions = s.definitions ++ option_to_list o }) (sym made))

undefined_row : (defined : Bool) (id align : ℕ) (row : Option FunctionRow) → undefinable defined id align row ≡ None → (r : FunctionRow) × (row ≡ Some r)
undefined_row defined id align None h = absurd (cc)
undefined_row defined id align (Some r) h = (r, refl)

-- a function that can be defined is declared
pub definable_declared : (defined : Bool) (id align : ℕ) (functions : List FunctionRow) → undefinable defined id align (slice_get functions id) ≡ None → id < length functions
definable_declared defined id align functions h = let row = undefined_row defined id align (slice_get functions id) h in slice_get_within functions id row.0 row.1

pub not_refused : (test : Bool) (r : Refusal) → refuse_if test r ≡ None → test ≡ false
not_refused true r h = absurd (cc)
not_refused false r h = refl

free_row : (defined : Bool) (id align : ℕ) (row : Option FunctionRow) → undefinable defined id align row ≡ None → defined ≡ false
free_row defined id align None h = absurd (cc)
free_row defined id align (Some r) h = not_refused defined (duplicate_definition (function_name r id)) (first_none _ _ (first_none _ _ h).1).0

-- and has no definition yet
pub definable_free : (defined : Bool) (id align : ℕ) (functions : List FunctionRow) → undefinable defined id align (slice_get functions id) ≡ None → defined ≡ false
definable_free defined id align functions h = free_row defined id align (slice_get functions id) h

good_row : (defined : Bool) (id align : ℕ) (row : Option FunctionRow) → undefinable defined id align row ≡ None → is_bad_align align ≡ false
good_row defined id align None h = absurd (cc)
good_row defined id align (Some r) h = not_refused (is_bad_align align) (backend (BadAlign align)) (first_none _ _ (first_none _ _ (first_none _ _ h).1).1).0

-- and its alignment is good
pub definable_aligned : (defined : Bool) (id align : ℕ) (functions : List FunctionRow) → undefinable defined id align (slice_get functions id) ≡ None → is_bad_align align ≡ false
definable_aligned defined id align functions h = good_row defined id align (slice_get functions id) h

-- what holds of an accepted definition of a function
pub function_body : (target : Target) (functions objects id align : ℕ) (xs : List ℕ) (relocs : List ModuleReloc) (rows : List DataRow) (d : Definition) → definition_made rows (define_function id align xs relocs) ≡ Some d → id < functions → is_bad_align align ≡ false → bad_reloc_from target (Some (length xs)) [] relocs ≡ None
    → size_of d.contents < 2 ^ 64 → (d.identifier ≡ Func id) × IsBody target functions objects d
function_body target functions objects id align xs relocs rows d made below good judged sized =
    let is : record { identifier = Func id; contents = bytes xs; align = align; relocs = relocs; section = None; used = false; writable = false } ≡ d = cc in (
      sym (ap (λ (x : Definition). x.identifier) is),
      subst (λ (x : Definition). size_of x.contents < 2 ^ 64 → IsBody target functions objects x) is (λ small. record { declared = below; sized = small; aligned = good; judged = judged; text = refl; section = refl; plain = (tt, refl, refl) }) sized,
    )

-- -- definitions of data objects

object_row : (defined : Bool) (id : ℕ) (row : Option DataRow) → undefinable_object defined id row ≡ None → (r : DataRow) × (row ≡ Some r)
object_row defined id None h = absurd (cc)
object_row defined id (Some r) h = (r, refl)

object_free : (defined : Bool) (id : ℕ) (row : Option DataRow) → undefinable_object defined id row ≡ None → defined ≡ false
object_free defined id None h = absurd (cc)
object_free defined id (Some r) h = not_refused defined (duplicate_definition (data_name r id)) (first_none _ _ (first_none _ _ h).1).0

-- a data object that can be defined is declared
pub data_declared : (format : BinaryFormat) (defined : Bool) (id : ℕ) (d : Description) (objects : List DataRow) → undefinable_data format defined id d (slice_get objects id) ≡ None → id < length objects
data_declared format defined id d objects h =
    let row = object_row defined id (slice_get objects id) (first_none (undefinable_object defined id (slice_get objects id)) (description_cause format (is_thread_local (slice_get objects id)) d) h).0 in
    slice_get_within objects id row.0 row.1

-- it has no definition yet
pub data_free : (format : BinaryFormat) (defined : Bool) (id : ℕ) (d : Description) (objects : List DataRow) → undefinable_data format defined id d (slice_get objects id) ≡ None → defined ≡ false
data_free format defined id d objects h = object_free defined id (slice_get objects id) (first_none (undefinable_object defined id (slice_get objects id)) (description_cause format (is_thread_local (slice_get objects id)) d) h).0

description_none : (format : BinaryFormat) (defined : Bool) (id : ℕ) (d : Description) (objects : List DataRow) → undefinable_data format defined id d (slice_get objects id) ≡ None → description_cause format (is_thread_local (slice_get objects id)) d ≡ None
description_none format defined id d objects h = (first_none (undefinable_object defined id (slice_get objects id)) (description_cause format (is_thread_local (slice_get objects id)) d) h).1

-- seven causes don't hold
pub record SevenNone (a b c e t f g : Option Refusal) : Type 0 where
  pub first : a ≡ None
  pub second : b ≡ None
  pub third : c ≡ None
  pub fourth : e ≡ None
  pub fifth : t ≡ None
  pub sixth : f ≡ None
  pub seventh : g ≡ None

seven_none : (a b c e t f g : Option Refusal) → first_cause (a ∷ b ∷ c ∷ e ∷ t ∷ f ∷ g ∷ []) ≡ None → SevenNone a b c e t f g
seven_none a b c e t f g h =
    let h1 = first_none a (first_cause (b ∷ c ∷ e ∷ t ∷ f ∷ g ∷ [])) h in
    let h2 = first_none b (first_cause (c ∷ e ∷ t ∷ f ∷ g ∷ [])) h1.1 in
    let h3 = first_none c (first_cause (e ∷ t ∷ f ∷ g ∷ [])) h2.1 in
    let h4 = first_none e (first_cause (t ∷ f ∷ g ∷ [])) h3.1 in
    let h5 = first_none t (first_cause (f ∷ g ∷ [])) h4.1 in
    let h6 = first_none f (first_cause (g ∷ [])) h5.1 in
    let h7 = first_none g None h6.1 in
    record { first = h1.0; second = h2.0; third = h3.0; fourth = h4.0; fifth = h5.0; sixth = h6.0; seventh = h7.0 }

described : (format : BinaryFormat) (tls : Bool) (d : Description) → description_cause format tls d ≡ None
    → SevenNone (refuse_if (is_none d.contents) (backend NoContents)) (refuse_if (is_bad_align (unwrap_or d.align 1)) (backend (BadAlign (unwrap_or d.align 1)))) (option_map (λ (a : ℕ × ℕ). undeclared (codes "fn" ++ decimal a.1)) (loose_function d))
    (option_map (λ (a : ℕ × ℕ × ℤ). undeclared (codes "gv" ++ decimal a.1)) (loose_value d)) (refuse_if (tls && (is_some d.section || is_macho format)) (backend TlsPlace)) (zero_byte (unwrap_or d.section [])) (section_cause format d.contents d.section)
described format tls d h = seven_none _ _ _ _ _ _ _ h

map_none : {A B : Type 0} (f : A → B) (o : Option A) → option_map f o ≡ None → o ≡ None
map_none f None h = refl
map_none f (Some x) h = absurd (cc)

all_from : {A : Type 0} (p : A → Bool) (x : A) (xs : List A) (b : Bool) → (find (λ a. not (p a)) xs ≡ None → list_all p xs ≡ true) → cond (not b) (Some x) (find (λ a. not (p a)) xs) ≡ None → (b && list_all p xs) ≡ true
all_from p x xs true more h = more h
all_from p x xs false more h = absurd (cc)

-- where none is found that fails, all pass
all_pass : {A : Type 0} (p : A → Bool) (xs : List A) → find (λ a. not (p a)) xs ≡ None → list_all p xs ≡ true
all_pass p [] h = refl
all_pass p (x ∷ xs) h = all_from p x xs (p x) (all_pass p xs) h

both_true : (a b : Bool) → a ≡ true → b ≡ true → (a && b) ≡ true
both_true a b h k = rw (h, k) refl

-- the references of an accepted description are in range
pub described_range : (format : BinaryFormat) (defined : Bool) (id : ℕ) (d : Description) (objects : List DataRow) → undefinable_data format defined id d (slice_get objects id) ≡ None → are_in_range d ≡ true
described_range format defined id d objects h =
    let none = described format (is_thread_local (slice_get objects id)) d (description_none format defined id d objects h) in
    both_true (list_all (is_function_within (length d.function_decls)) d.function_relocs) (list_all (is_value_within (length d.data_decls)) d.data_relocs)
    (all_pass (is_function_within (length d.function_decls)) d.function_relocs (map_none _ (loose_function d) none.third)) (all_pass (is_value_within (length d.data_decls)) d.data_relocs (map_none _ (loose_value d) none.fourth))

-- what is judged of a description, by what is in hand
pub judged_in_hand : (target : Target) (d : Description) (size : Option ℕ) (relocs : List ModuleReloc) → size ≡ bytes_in (unwrap_or d.contents (bytes [])) → relocs ≡ relocs_of d → bad_reloc_from target size [] relocs ≡ bad_reloc_from target (bytes_in (unwrap_or d.contents (bytes []))) [] (relocs_of d)
judged_in_hand target d size relocs e f = rw (e, f) refl

beside_true : (a b : Bool) → (a && (b || true)) ≡ false → a ≡ false
beside_true true true h = absurd (cc)
beside_true true false h = absurd (cc)
beside_true false b h = refl

data_placed : (format : BinaryFormat) (objects : List DataRow) (id : ℕ) (section : Option (List ℕ)) (row : DataRow) → slice_get objects id ≡ Some row → (row.tls && (is_some section || is_macho format)) ≡ false → HasPlaceIn format objects (Data id)
data_placed Elf objects id section row e h = tt
data_placed Coff objects id section row e h = tt
data_placed Macho objects id section row e h = rw e (ap Some (beside_true row.tls (is_some section) h))
data_placed Wasm objects id section row e h = tt
data_placed Unknown objects id section row e h = tt

-- what an accepted description defines has a place in the format
pub described_placed : (format : BinaryFormat) (defined : Bool) (id : ℕ) (desc : Description) (objects : List DataRow) → undefinable_data format defined id desc (slice_get objects id) ≡ None → HasPlaceIn format objects (Data id)
described_placed format defined id desc objects free =
    let row = object_row defined id (slice_get objects id) (first_none (undefinable_object defined id (slice_get objects id)) (description_cause format (is_thread_local (slice_get objects id)) desc) free).0 in
    let none = described format (is_thread_local (slice_get objects id)) desc (description_none format defined id desc objects free) in
    let test : Bool = is_thread_local (slice_get objects id) && (is_some desc.section || is_macho format) in
    let out : test ≡ false = not_refused test (backend TlsPlace) none.fifth in
    let here : is_thread_local (slice_get objects id) ≡ row.0.tls = ap is_thread_local row.1 in
    data_placed format objects id desc.section row.0 row.1 (sym (ap (λ (tls : Bool). tls && (is_some desc.section || is_macho format)) here) ∙ out)

section_held : (format : BinaryFormat) (contents : Option Contents) (section : Option (List ℕ)) → refuse_if (is_none contents) (backend NoContents) ≡ None → section_cause format contents section ≡ None → section_cause format (Some (unwrap_or contents (bytes []))) section ≡ None
section_held format None section given h = absurd (cc)
section_held format (Some contents) section given h = h

-- what holds of an accepted definition of a data object
pub data_body : (target : Target) (functions count id : ℕ) (desc : Description) (format : BinaryFormat) (defined : Bool) (objects rows : List DataRow) (d : Definition) → format ≡ target.triple.binary_format → definition_made rows (define_data id desc) ≡ Some d → undefinable_data format defined id desc (slice_get objects id) ≡ None → id < count
    → bad_reloc_from target (bytes_in (unwrap_or desc.contents (bytes []))) [] (relocs_of desc) ≡ None → size_of d.contents < 2 ^ 64 → (d.identifier ≡ Data id) × IsBody target functions count d
data_body target functions count id desc format defined objects rows d same made free below judged sized =
    let none = described format (is_thread_local (slice_get objects id)) desc (description_none format defined id desc objects free) in
    let good = not_refused (is_bad_align (unwrap_or desc.align 1)) (backend (BadAlign (unwrap_or desc.align 1))) none.second in
    let section = subst (λ (f : BinaryFormat). section_cause f (Some (unwrap_or desc.contents (bytes []))) desc.section ≡ None) same (section_held format desc.contents desc.section none.first none.seventh) in
    let is : record { identifier = Data id; contents = unwrap_or desc.contents (bytes []); align = unwrap_or desc.align 1; relocs = relocs_of desc; section = desc.section; used = desc.used; writable = is_writable (slice_get rows id) } ≡ d = cc in (
      sym (ap (λ (x : Definition). x.identifier) is),
      subst (λ (x : Definition). size_of x.contents < 2 ^ 64 → IsBody target functions count x) is (λ small. record { declared = below; sized = small; aligned = good; judged = judged; text = none.sixth; section = section; plain = tt }) sized,
    )

-- -- declarations

pub refusal_name : (s : LinkState) (name : List ℕ) (linkage : Linkage) (signature : SignatureData) (e : ModuleError) → Tells e (zero_byte name) → Tells e (refusal s (declare_function name linkage signature))
unfolding refusal
refusal_name s name linkage signature e h = tells_first e (zero_byte name) (function_clash s.functions s.objects name signature) h

pub refusal_declared : (s : LinkState) (name : List ℕ) (linkage : Linkage) (signature : SignatureData) (functions : List FunctionRow) (objects : List DataRow) → zero_byte name ≡ None → functions ≡ s.functions → objects ≡ s.objects
    → refusal s (declare_function name linkage signature) ≡ function_clash functions objects name signature
unfolding refusal
refusal_declared s name linkage signature functions objects h e f = rw (h, e, f) refl

pub refusal_data_name : (s : LinkState) (name : List ℕ) (linkage : Linkage) (writable tls : Bool) (e : ModuleError) → Tells e (zero_byte name) → Tells e (refusal s (declare_data name linkage writable tls))
unfolding refusal
refusal_data_name s name linkage writable tls e h = tells_first e (zero_byte name) (data_clash s.functions s.objects name tls) h

pub refusal_data_declared : (s : LinkState) (name : List ℕ) (linkage : Linkage) (writable tls : Bool) (functions : List FunctionRow) (objects : List DataRow) → zero_byte name ≡ None → functions ≡ s.functions → objects ≡ s.objects
    → refusal s (declare_data name linkage writable tls) ≡ data_clash functions objects name tls
unfolding refusal
refusal_data_declared s name linkage writable tls functions objects h e f = rw (h, e, f) refl
