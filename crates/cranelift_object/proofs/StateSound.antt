-- What holds of the state that accepted calls leave: identifiers are numbered, and what is defined may be.
use Rattle.std.proofs.Common.{◌≡◌, ℕ, zero, suc, ◌+◌, ◌||◌, not, List, [], ◌∷◌, ◌++◌, length, Bool, true, false, cond, Option, Some, None, refl, ap, sym, ◌∙◌, subst, arith, length-append, slice_get}
use Rattle.std.specs.Prelude.{option_map}
use Rattle.std.specs.Option.{option_or}
use Rattle.std.specs.List.{list_any}
use Rattle.std.proofs.lemmas.Bool.{not-false}
use Rattle.std.proofs.lemmas.List.Folds.{list_any-append}
use Rattle.byte_core.proofs.Lists.{get_left}
use Rattle.ir_core.specs.Target.{Target}
use Rattle.cranelift_module.specs.declared.linkage.Linkage.{Linkage}
use Rattle.cranelift_module.specs.declared.linkage.Linkage.TheVariants.{Import, Local, Hidden, Preemptible, Export}
use Rattle.cranelift_module.specs.declared.identifiers.FuncOrDataId.{FuncOrDataId}
use Rattle.cranelift_module.specs.declared.identifiers.FuncOrDataId.TheVariants.{Func, Data}
use Rattle.cranelift_module.specs.Linkage.{merge, is_definable}
use Rattle.cranelift_module.specs.Call.{Call, declare_function, declare_anonymous_function, declare_data, declare_anonymous_data, define_function, define_data}
use Rattle.ir_core.specs.Moments.{moments}
use Rattle.cranelift_module.specs.Definitions.{Definition, definitions_of}
use Rattle.cranelift_module.specs.Rows.{FunctionRow, DataRow, functions_of, objects_of, creation}
use Rattle.cranelift_module.specs.LinkState.{LinkState, state_of, step, steps, with_first, is_function_named, is_data_named, raised_function, raised_data}
use Rattle.cranelift_module.specs.Marks.{linkage_held}
use Rattle.cranelift_module.specs.Refusal.{Refusal, refusal, is_same_identifier, is_defined, undefinable, undefinable_object, invalid_import_definition, function_name, data_name}
use Rattle.cranelift_object.specs.Kept.{IsNumbered}
use Rattle.cranelift_object.specs.Commands.{first_refusal}
use Rattle.cranelift_object.specs.Part.{first_refused}
use Rattle.cranelift_object.proofs.CallLaws.{not_refused}
use Rattle.cranelift_object.proofs.CreationLaws.{numbered-function, numbered-data, same_is}
use Rattle.cranelift_object.proofs.FinishLaws.{causes_none}
use Rattle.cranelift_object.proofs.RunLaws.{at_pair, first_refused-calls, accepted-state}

-- there is a linkage, with which a definition may come
abbrev pub MayDefine : Option Linkage → Type 0
MayDefine None = ⊥
MayDefine (Some linkage) = is_definable linkage ≡ true

pub record IsSound (s : LinkState) : Type 0 where
  pub order : IsNumbered 0 0 s.created (length s.functions) (length s.objects)
  pub defined : (id : FuncOrDataId) → is_defined s id ≡ true → MayDefine (linkage_held s id)

-- ---- a list with its first fitting element changed

first_length_past : {A : Type 0} (test : A → Bool) (change : A → A) (new x : A) (xs : List A) (b : Bool) → (list_any test xs ≡ true → length (with_first test change new xs) ≡ length xs) → (b || list_any test xs) ≡ true
    → length (cond b (change x ∷ xs) (x ∷ with_first test change new xs)) ≡ suc (length xs)
first_length_past test change new x xs true later h = refl
first_length_past test change new x xs false later h = ap suc (later h)

first_length : {A : Type 0} (test : A → Bool) (change : A → A) (new : A) (xs : List A) → list_any test xs ≡ true → length (with_first test change new xs) ≡ length xs
first_length test change new [] h = absurd (cc)
first_length test change new (x ∷ xs) h = first_length_past test change new x xs (test x) (first_length test change new xs) h

first_longer_past : {A : Type 0} (test : A → Bool) (change : A → A) (new x : A) (xs : List A) (b : Bool) → (list_any test xs ≡ false → length (with_first test change new xs) ≡ length xs + 1) → (b || list_any test xs) ≡ false
    → length (cond b (change x ∷ xs) (x ∷ with_first test change new xs)) ≡ suc (length xs) + 1
first_longer_past test change new x xs true later h = absurd (cc)
first_longer_past test change new x xs false later h = omega (arith, later h)

first_longer : {A : Type 0} (test : A → Bool) (change : A → A) (new : A) (xs : List A) → list_any test xs ≡ false → length (with_first test change new xs) ≡ length xs + 1
first_longer test change new [] h = refl
first_longer test change new (x ∷ xs) h = first_longer_past test change new x xs (test x) (first_longer test change new xs) h

first_keeps_past : {A : Type 0} (P : Option A → Type 0) (test : A → Bool) (change : A → A) (new x : A) (xs : List A) (k : ℕ) (b : Bool) → (P None → P (Some new)) → ((y : A) → P (Some y) → P (Some (change y)))
    → ((j : ℕ) → P (slice_get xs j) → P (slice_get (with_first test change new xs) j)) → P (slice_get (x ∷ xs) k) → P (slice_get (cond b (change x ∷ xs) (x ∷ with_first test change new xs)) k)
first_keeps_past P test change new x xs zero true none each later h = each x h
first_keeps_past P test change new x xs (suc k) true none each later h = h
first_keeps_past P test change new x xs zero false none each later h = h
first_keeps_past P test change new x xs (suc k) false none each later h = later k h

first_keeps_end : {A : Type 0} (P : Option A → Type 0) (new : A) (k : ℕ) → (P None → P (Some new)) → P (slice_get [] k) → P (slice_get (new ∷ []) k)
first_keeps_end P new zero none h = none h
first_keeps_end P new (suc zero) none h = h
first_keeps_end P new (suc (suc k)) none h = h

-- what holds of an element stays true of it, where the change keeps it
first_keeps : {A : Type 0} (P : Option A → Type 0) (test : A → Bool) (change : A → A) (new : A) (xs : List A) (k : ℕ) → (P None → P (Some new)) → ((y : A) → P (Some y) → P (Some (change y))) → P (slice_get xs k)
    → P (slice_get (with_first test change new xs) k)
first_keeps P test change new [] k none each h = first_keeps_end P new k none h
first_keeps P test change new (x ∷ xs) k none each h = first_keeps_past P test change new x xs k (test x) none each (λ j g. first_keeps P test change new xs j none each g) h

-- ---- linkages that rise

merge_definable : (a b : Linkage) → is_definable a ≡ true → is_definable (merge a b) ≡ true
merge_definable Import b h = absurd (cc)
merge_definable Local Import h = refl
merge_definable Local Local h = refl
merge_definable Local Hidden h = refl
merge_definable Local Preemptible h = refl
merge_definable Local Export h = refl
merge_definable Hidden Import h = refl
merge_definable Hidden Local h = refl
merge_definable Hidden Hidden h = refl
merge_definable Hidden Preemptible h = refl
merge_definable Hidden Export h = refl
merge_definable Preemptible Import h = refl
merge_definable Preemptible Local h = refl
merge_definable Preemptible Hidden h = refl
merge_definable Preemptible Preemptible h = refl
merge_definable Preemptible Export h = refl
merge_definable Export Import h = refl
merge_definable Export Local h = refl
merge_definable Export Hidden h = refl
merge_definable Export Preemptible h = refl
merge_definable Export Export h = refl

abbrev FunctionMay : Option FunctionRow → Type 0
FunctionMay row = MayDefine (option_map (λ (r : FunctionRow). r.linkage) row)

abbrev DataMay : Option DataRow → Type 0
DataMay row = MayDefine (option_map (λ (r : DataRow). r.linkage) row)

function_may_stay : (rows : List FunctionRow) (new : FunctionRow) (k : ℕ) (row : Option FunctionRow) → slice_get rows k ≡ row → FunctionMay row → FunctionMay (slice_get (rows ++ new ∷ []) k)
function_may_stay rows new k None e h = absurd h
function_may_stay rows new k (Some row) e h = rw (get_left rows (new ∷ []) k row e) h

data_may_stay : (rows : List DataRow) (new : DataRow) (k : ℕ) (row : Option DataRow) → slice_get rows k ≡ row → DataMay row → DataMay (slice_get (rows ++ new ∷ []) k)
data_may_stay rows new k None e h = absurd h
data_may_stay rows new k (Some row) e h = rw (get_left rows (new ∷ []) k row e) h

-- ---- definitions that may come

may_by_function : (defined : Bool) (id align : ℕ) (row : Option FunctionRow) → undefinable defined id align row ≡ None → FunctionMay row
may_by_function defined id align None h = absurd (cc)
may_by_function defined id align (Some row) h = not-false (is_definable row.linkage) (not_refused (not (is_definable row.linkage)) (invalid_import_definition (function_name row id)) (causes_none _ _ h).0)

may_by_object : (defined : Bool) (id : ℕ) (row : Option DataRow) → undefinable_object defined id row ≡ None → DataMay row
may_by_object defined id None h = absurd (cc)
may_by_object defined id (Some row) h = not-false (is_definable row.linkage) (not_refused (not (is_definable row.linkage)) (invalid_import_definition (data_name row id)) (causes_none _ _ h).0)

one_more_from : (s : LinkState) (id other : FuncOrDataId) (held : Option Linkage) (a b : Bool) → is_defined s id ≡ a → is_same_identifier id other ≡ b → (is_defined s id ≡ true → MayDefine (linkage_held s id)) → MayDefine (linkage_held s other)
    → (a || (b || false)) ≡ true → MayDefine (linkage_held s id)
one_more_from s id other held true b e f before new h = before e
one_more_from s id other held false true e f before new h = subst (λ (x : FuncOrDataId). MayDefine (linkage_held s x)) (sym (same_is id other f)) new
one_more_from s id other held false false e f before new h = absurd (cc)

-- one more definition
one_more : (s : LinkState) (id : FuncOrDataId) (d : Definition) → IsSound s → MayDefine (linkage_held s d.identifier) → list_any (λ (x : Definition). is_same_identifier id x.identifier) (s.definitions ++ d ∷ []) ≡ true → MayDefine (linkage_held s id)
one_more s id d sound new h =
    one_more_from s id d.identifier (linkage_held s id) (is_defined s id) (is_same_identifier id d.identifier) refl refl (sound.defined id) new
    (sym (list_any-append (λ (x : Definition). is_same_identifier id x.identifier) s.definitions (d ∷ [])) ∙ h)

-- ---- the identifiers of a declaration

function_numbered : (s : LinkState) (functions : List FunctionRow) (b : Bool) → IsSound s → (b ≡ true → length functions ≡ length s.functions) → (b ≡ false → length functions ≡ length s.functions + 1)
    → IsNumbered 0 0 (cond b s.created (s.created ++ Func (length s.functions) ∷ [])) (length functions) (length s.objects)
function_numbered s functions true sound same longer = rw (same refl) sound.order
function_numbered s functions false sound same longer = rw (longer refl) (numbered-function 0 0 (length s.functions) (length s.objects) s.created sound.order)

data_numbered : (s : LinkState) (objects : List DataRow) (b : Bool) → IsSound s → (b ≡ true → length objects ≡ length s.objects) → (b ≡ false → length objects ≡ length s.objects + 1)
    → IsNumbered 0 0 (cond b s.created (s.created ++ Data (length s.objects) ∷ [])) (length s.functions) (length objects)
data_numbered s objects true sound same longer = rw (same refl) sound.order
data_numbered s objects false sound same longer = rw (longer refl) (numbered-data 0 0 (length s.functions) (length s.objects) s.created sound.order)

-- ---- each call

sound_step : (s : LinkState) (c : Call) → IsSound s → refusal s c ≡ None → IsSound (step s c)
unfolding step refusal
sound_step s (declare_function name linkage signature) sound free =
    let test = is_function_named name in
    let change = raised_function linkage in
    let new : FunctionRow = record { name = Some name; linkage = linkage; signature = signature } in
    record {
      order = function_numbered s (with_first test change new s.functions) (list_any test s.functions) sound (first_length test change new s.functions) (first_longer test change new s.functions);
      defined = λ id h. declared id (sound.defined id h);
    }
  where
    declared : (id : FuncOrDataId) → MayDefine (linkage_held s id) → MayDefine (linkage_held (step s (declare_function name linkage signature)) id)
    declared (Func k) h =
        first_keeps FunctionMay (is_function_named name) (raised_function linkage) (record { name = Some name; linkage = linkage; signature = signature }) s.functions k (λ none. absurd none) (λ row may. merge_definable row.linkage linkage may) h
    declared (Data k) h = h
sound_step s (declare_anonymous_function signature) sound free =
    let new : FunctionRow = record { name = None; linkage = Local; signature = signature } in
    record {
      order = rw (length-append s.functions (new ∷ [])) (numbered-function 0 0 (length s.functions) (length s.objects) s.created sound.order);
      defined = λ id h. declared id (sound.defined id h);
    }
  where
    declared : (id : FuncOrDataId) → MayDefine (linkage_held s id) → MayDefine (linkage_held (step s (declare_anonymous_function signature)) id)
    declared (Func k) h = function_may_stay s.functions (record { name = None; linkage = Local; signature = signature }) k (slice_get s.functions k) refl h
    declared (Data k) h = h
sound_step s (declare_data name linkage writable tls) sound free =
    let test = is_data_named name in
    let change = raised_data linkage writable in
    let new : DataRow = record { name = Some name; linkage = linkage; writable = writable; tls = tls } in
    record {
      order = data_numbered s (with_first test change new s.objects) (list_any test s.objects) sound (first_length test change new s.objects) (first_longer test change new s.objects);
      defined = λ id h. declared id (sound.defined id h);
    }
  where
    declared : (id : FuncOrDataId) → MayDefine (linkage_held s id) → MayDefine (linkage_held (step s (declare_data name linkage writable tls)) id)
    declared (Func k) h = h
    declared (Data k) h =
        first_keeps DataMay (is_data_named name) (raised_data linkage writable) (record { name = Some name; linkage = linkage; writable = writable; tls = tls }) s.objects k (λ none. absurd none) (λ row may. merge_definable row.linkage linkage may) h
sound_step s (declare_anonymous_data writable tls) sound free =
    let new : DataRow = record { name = None; linkage = Local; writable = writable; tls = tls } in
    record {
      order = rw (length-append s.objects (new ∷ [])) (numbered-data 0 0 (length s.functions) (length s.objects) s.created sound.order);
      defined = λ id h. declared id (sound.defined id h);
    }
  where
    declared : (id : FuncOrDataId) → MayDefine (linkage_held s id) → MayDefine (linkage_held (step s (declare_anonymous_data writable tls)) id)
    declared (Func k) h = h
    declared (Data k) h = data_may_stay s.objects (record { name = None; linkage = Local; writable = writable; tls = tls }) k (slice_get s.objects k) refl h
sound_step s (define_function n align xs relocs) sound free =
    let may = may_by_function (is_defined s (Func n)) n align (slice_get s.functions n) (causes_none _ _ free).0 in
    record { order = sound.order; defined = λ id h. one_more s id _ sound may h }
sound_step s (define_data n d) sound free =
    let may = may_by_object (is_defined s (Data n)) n (slice_get s.objects n) (causes_none _ _ (causes_none _ _ free).0).0 in
    record { order = sound.order; defined = λ id h. one_more s id _ sound may h }

sound_steps_from : (s : LinkState) (j : ℕ) (c : Call) (cs : List Call) → IsSound s → (IsSound (step s c) → first_refusal (step s c) (j + 1) cs ≡ None → IsSound (steps (step s c) cs)) → (o : Option Refusal) → refusal s c ≡ o
    → option_or (option_map (λ (r : Refusal). (j, r)) o) (first_refusal (step s c) (j + 1) cs) ≡ None → IsSound (steps (step s c) cs)
sound_steps_from s j c cs sound later None e h = later (sound_step s c sound e) h
sound_steps_from s j c cs sound later (Some r) e h = absurd (cc)

sound_steps : (s : LinkState) (j : ℕ) (cs : List Call) → IsSound s → first_refusal s j cs ≡ None → IsSound (steps s cs)
unfolding first_refusal
sound_steps s j [] sound h = sound
sound_steps s j (c ∷ cs) sound h = sound_steps_from s j c cs sound (λ next free. sound_steps (step s c) (j + 1) cs next free) (refusal s c) refl h

sound_none : (target : Target) → IsSound (state_of target [])
unfolding state_of functions_of objects_of creation definitions_of moments
sound_none target = record { order = (refl, refl); defined = λ id h. absurd (cc) }

none_of_map : {A B : Type 0} (f : A → B) (o : Option A) → option_map f o ≡ None → o ≡ None
none_of_map f None h = refl
none_of_map f (Some x) h = absurd (cc)

-- the state of accepted calls
pub sound_state : (target : Target) (calls : List Call) → first_refused target calls ≡ None → IsSound (state_of target calls)
sound_state target calls h =
    let free : first_refusal (state_of target []) 0 calls ≡ None = none_of_map at_pair (first_refusal (state_of target []) 0 calls) (sym (first_refused-calls target calls) ∙ h) in
    subst IsSound (accepted-state target calls free) (sound_steps (state_of target []) 0 calls (sound_none target) free)
