-- The laws of link states and linkages.
use Rattle.std.specs.Prelude.{◌≡◌, ℕ, List, [], ◌∷◌, ◌++◌, Some, None, take, slice_get, option_map, is_some}
use Rattle.ir_core.specs.Target.{Target}
use Rattle.cranelift_module.specs.declared.linkage.Linkage.{Linkage}
use Rattle.std.specs.List.{find}
use Rattle.std.specs.List.Sorted.{IsPermutation}
use Rattle.cranelift_module.specs.Linkage.{merge}
use Rattle.cranelift_module.specs.Call.{Call}
use Rattle.cranelift_module.specs.Rows.{FunctionRow}
use Rattle.cranelift_module.specs.Definitions.{is_writable}
use Rattle.cranelift_module.specs.Marks.{linkage_held, name_held, linkage_at, linkage_of, writable_at, name_of, signature_of, definition_of}
use Rattle.cranelift_module.specs.LinkState.{state_of, step, steps, is_function_named, is_data_named}
use Rattle.cranelift_module.specs.Refusal.{refusal, is_defined}
use Rattle.cranelift_module.specs.declared.identifiers.FuncOrDataId.{FuncOrDataId}
use Rattle.cranelift_module.specs.declared.identifiers.FuncOrDataId.TheVariants.{Func, Data}
use Rattle.cranelift_module.specs.Texts.{user_target, function_of, data_of}

-- one more accepted call at the end of a list leaves the step of the list's state
abbrev pub OneMoreCall : Type 0
OneMoreCall = (target : Target) (calls : List Call) (call : Call) → refusal (state_of target calls) call ≡ None → state_of target (calls ++ call ∷ []) ≡ step (state_of target calls) call

-- each call is accepted behind those before it
abbrev pub IsAccepted : Target → List Call → Type 0
IsAccepted target calls = (before : List Call) (call : Call) (after : List Call) → calls ≡ before ++ call ∷ after → refusal (state_of target before) call ≡ None

-- accepted calls, made one after the other, leave the state that the whole list gives
abbrev pub AllCalls : Type 0
AllCalls = (target : Target) (calls : List Call) → IsAccepted target calls → state_of target calls ≡ steps (state_of target []) calls

-- accepted calls in another order leave each name the same function, with its linkage and its signature
abbrev pub FunctionsInAnyOrder : Type 0
FunctionsInAnyOrder =
    (target : Target) (name : List ℕ) (calls others : List Call) → IsPermutation calls others → IsAccepted target calls → IsAccepted target others
    → find (is_function_named name) (state_of target calls).functions ≡ find (is_function_named name) (state_of target others).functions

-- and the same data object, with its linkage and both its marks
abbrev pub DataInAnyOrder : Type 0
DataInAnyOrder =
    (target : Target) (name : List ℕ) (calls others : List Call) → IsPermutation calls others → IsAccepted target calls → IsAccepted target others
    → find (is_data_named name) (state_of target calls).objects ≡ find (is_data_named name) (state_of target others).objects

-- what is picked out of a list of calls for an identifier is what the state that they leave has for it
abbrev pub MarksOfState : Type 0
MarksOfState =
    (target : Target) (calls : List Call) (id : FuncOrDataId) (j k : ℕ)
    → (linkage_at calls id j ≡ linkage_held (state_of target (take j calls)) id)
    × (linkage_of calls id ≡ linkage_held (state_of target calls) id)
    × (name_of calls id ≡ name_held (state_of target calls) id)
    × (writable_at calls k j ≡ is_writable (slice_get (state_of target (take j calls)).objects k))
    × (signature_of calls k ≡ option_map (λ (row : FunctionRow). row.signature) (slice_get (state_of target calls).functions k))

-- an identifier has a definition where some call defines it
abbrev pub DefinitionsOfState : Type 0
DefinitionsOfState = (target : Target) (calls : List Call) (id : FuncOrDataId) → is_some (definition_of calls id) ≡ is_defined (state_of target calls) id

abbrev pub MergeAssociates : Type 0
MergeAssociates = (a b c : Linkage) → merge (merge a b) c ≡ merge a (merge b c)

abbrev pub MergeCommutes : Type 0
MergeCommutes = (a b : Linkage) → merge a b ≡ merge b a

abbrev pub MergeRepeats : Type 0
MergeRepeats = (a : Linkage) → merge a a ≡ a

-- the target made of a function stands for that function
abbrev pub FunctionFromTarget : Type 0
FunctionFromTarget = (id : ℕ) → function_of (user_target (Func id)) ≡ Some id

-- the target made of a data object stands for that data object
abbrev pub DataFromTarget : Type 0
DataFromTarget = (id : ℕ) → data_of (user_target (Data id)) ≡ Some id
