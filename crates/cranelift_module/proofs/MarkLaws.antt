-- The marks picked out of a list of calls are those of the state that it leaves.
use Rattle.std.proofs.Common.{◌≡◌, ℕ, ◌+◌, List, [], ◌∷◌, ◌++◌, Bool, true, false, cond, ◌||◌, arith, Option, Some, None, is_some, length, take, slice_get, filter_map, option_map, option_to_list, refl, ap, sym, ◌∙◌}
use Rattle.std.specs.List.{list_any, position_from, cons_option}
use Rattle.std.proofs.lemmas.List.{take_all}
use Rattle.ir_core.specs.Moments.{Moment, moments, moments_after}
use Rattle.ir_core.specs.Target.{Target}
use Rattle.cranelift_module.specs.declared.identifiers.FuncOrDataId.{FuncOrDataId}
use Rattle.cranelift_module.specs.declared.identifiers.FuncOrDataId.TheVariants.{Func, Data}
use Rattle.cranelift_module.specs.Call.{Call, declare_function, declare_anonymous_function, declare_data, declare_anonymous_data, define_function, define_data}
use Rattle.cranelift_module.specs.Rows.{FunctionRow, DataRow, objects_of}
use Rattle.cranelift_module.specs.Definitions.{Definition, definition_made, definitions_of, is_writable}
use Rattle.cranelift_module.specs.LinkState.{state_of}
use Rattle.cranelift_module.specs.Marks.{linkage_held, name_held, linkage_at, linkage_of, writable_at, name_of, signature_of, defines, definition_of}
use Rattle.cranelift_module.specs.Refusal.{is_same_identifier, is_defined}
use Rattle.cranelift_module.proofs.StateLaws.{or_nothing}

linkage-state : (target : Target) (calls : List Call) (id : FuncOrDataId) (j : ℕ) → linkage_at calls id j ≡ linkage_held (state_of target (take j calls)) id
unfolding state_of
linkage-state target calls (Func k) j = refl
linkage-state target calls (Data k) j = refl

name-state : (target : Target) (calls : List Call) (id : FuncOrDataId) → name_of calls id ≡ name_held (state_of target calls) id
unfolding state_of
name-state target calls (Func k) = refl
name-state target calls (Data k) = refl

pub marks-state : (target : Target) (calls : List Call) (id : FuncOrDataId) (j k : ℕ)
    → (linkage_at calls id j ≡ linkage_held (state_of target (take j calls)) id)
    × (linkage_of calls id ≡ linkage_held (state_of target calls) id)
    × (name_of calls id ≡ name_held (state_of target calls) id)
    × (writable_at calls k j ≡ is_writable (slice_get (state_of target (take j calls)).objects k))
    × (signature_of calls k ≡ option_map (λ (row : FunctionRow). row.signature) (slice_get (state_of target calls).functions k))
unfolding state_of
marks-state target calls id j k = (
  linkage-state target calls id j,
  linkage-state target calls id (length calls) ∙ ap (λ (cs : List Call). linkage_held (state_of target cs) id) (take_all (length calls) calls (omega arith)),
  name-state target calls id,
  refl,
  refl,
)

some_or : (b : Bool) (n : ℕ) (o : Option ℕ) (r : Bool) → is_some o ≡ r → is_some (cond b (Some n) o) ≡ (b || r)
some_or true n o r h = refl
some_or false n o r h = h

-- a position is there where the test holds of some element
position-any : {A : Type 0} (test : A → Bool) (n : ℕ) (xs : List A) → is_some (position_from test n xs) ≡ list_any test xs
position-any test n [] = refl
position-any test n (x ∷ xs) = some_or (test x) n (position_from test (n + 1) xs) (list_any test xs) (position-any test (n + 1) xs)

-- the definition that a call makes is of the identifier that it defines
made-defines : (id : FuncOrDataId) (objects : List DataRow) (c : Call) → list_any (λ (d : Definition). is_same_identifier id d.identifier) (option_to_list (definition_made objects c)) ≡ (defines id c || false)
made-defines id objects (define_function k align xs relocs) = refl
made-defines id objects (define_data k d) = refl
made-defines id objects (declare_function m l s) = refl
made-defines id objects (declare_anonymous_function s) = refl
made-defines id objects (declare_data m l w d) = refl
made-defines id objects (declare_anonymous_data w d) = refl

one_made : (id : FuncOrDataId) (c : Call) (b : Bool) (o : Option Definition) (rest : List Definition) → list_any (λ (d : Definition). is_same_identifier id d.identifier) (option_to_list o) ≡ (defines id c || false)
    → list_any (λ (d : Definition). is_same_identifier id d.identifier) rest ≡ b → list_any (λ (d : Definition). is_same_identifier id d.identifier) (cons_option o rest) ≡ (defines id c || b)
one_made id c b None rest h k = k ∙ ap (λ (x : Bool). x || b) (h ∙ or_nothing (defines id c))
one_made id c b (Some d) rest h k = ap (λ (x : Bool). is_same_identifier id d.identifier || x) k ∙ ap (λ (x : Bool). x || b) (sym (or_nothing (is_same_identifier id d.identifier)) ∙ h ∙ or_nothing (defines id c))

any-made : (id : FuncOrDataId) (before cs : List Call)
    → list_any (λ (d : Definition). is_same_identifier id d.identifier) (filter_map (λ (m : Moment Call). definition_made (objects_of m.before) m.here) (moments_after before cs)) ≡ list_any (defines id) cs
any-made id before [] = refl
any-made id before (c ∷ cs) =
    one_made id c (list_any (defines id) cs) (definition_made (objects_of before) c) (filter_map (λ (m : Moment Call). definition_made (objects_of m.before) m.here) (moments_after (before ++ c ∷ []) cs)) (made-defines id (objects_of before) c)
    (any-made id (before ++ c ∷ []) cs)

pub definitions-state : (target : Target) (calls : List Call) (id : FuncOrDataId) → is_some (definition_of calls id) ≡ is_defined (state_of target calls) id
unfolding state_of definitions_of moments
definitions-state target calls id = position-any (defines id) 0 calls ∙ sym (any-made id [] calls)
