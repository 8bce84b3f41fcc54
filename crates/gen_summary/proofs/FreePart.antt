-- A part that nothing refuses, step by step.
use Rattle.std.proofs.Common.{◌≡◌, ℕ, ◌+◌, ◌<◌, List, [], length, count_by, arith, Option, Some, None, option_map, IfSome, refl, ◌∙◌}
use Rattle.std.specs.Option.{option_or}
use Rattle.std.proofs.lemmas.List.Sums.{count_by-le-length}
use Rattle.ir_core.specs.Target.{Target}
use Rattle.ir_core.specs.Moments.{moments}
use Rattle.object_core.specs.declared.error.EmitError.{EmitError}
use Rattle.object_core.specs.Object.{ObjectData}
use Rattle.object_core.specs.Limits.{TellsLimit}
use Rattle.cranelift_module.specs.declared.error.ModuleError.{ModuleError}
use Rattle.cranelift_module.specs.Call.{Call}
use Rattle.cranelift_module.specs.Rows.{functions_of, objects_of}
use Rattle.cranelift_module.specs.LinkState.{LinkState, state_of}
use Rattle.cranelift_module.specs.Refusal.{Refusal, refusal_told, Tells}
use Rattle.cranelift_object.specs.Settings.{Settings, plain_settings}
use Rattle.cranelift_object.specs.Opened.{OpenModule}
use Rattle.cranelift_object.specs.Commands.{makes_function, makes_data}
use Rattle.cranelift_object.specs.EndCause.{end_cause}
use Rattle.cranelift_object.specs.Linked.{object_of}
use Rattle.cranelift_object.specs.Part.{PartData, PartRefusal, at_start, at_call, at_end, over, start_cause, first_refused, part_cause, part_state, limit_of, TellsCall}
use Rattle.cranelift_object.specs.Emitted.{IsObjectFile}
use Rattle.gen_summary.specs.Summary.{IsFileOf}

-- -- the causes of a part, one by one

pub record IsFree (part : PartData) : Type 0 where
  pub start : start_cause part.settings part.target ≡ None
  pub calls : first_refused part.target part.calls ≡ None
  pub ended : end_cause (part_state part) ≡ None
  pub within : limit_of (object_of part.settings (part_state part)) ≡ None

first_none : {A : Type 0} (a b : Option A) → option_or a b ≡ None → a ≡ None
first_none None b h = refl
first_none (Some x) b h = absurd (cc)

second_none : {A : Type 0} (a b : Option A) → option_or a b ≡ None → b ≡ None
second_none None b h = h
second_none (Some x) b h = absurd (cc)

unmapped_none : {A B : Type 0} (f : A → B) (a : Option A) → option_map f a ≡ None → a ≡ None
unmapped_none f None h = refl
unmapped_none f (Some x) h = absurd (cc)

-- a part without a cause has none of each
pub part_free : (part : PartData) → part_cause part ≡ None → IsFree part
unfolding part_cause
part_free part h =
    let start : Option PartRefusal = option_map (λ r. at_start r) (start_cause part.settings part.target) in
    let end : Option PartRefusal = option_map (λ r. at_end r) (end_cause (part_state part)) in
    let limit : Option PartRefusal = option_map (λ l. over l) (limit_of (object_of part.settings (part_state part))) in
    let calls : Option PartRefusal = first_refused part.target part.calls in
    let later = second_none start (option_or calls (option_or end limit)) h in
    let last = second_none calls (option_or end limit) later in
    record {
      start = unmapped_none (λ r. at_start r) (start_cause part.settings part.target) (first_none start (option_or calls (option_or end limit)) h);
      calls = first_none calls (option_or end limit) later;
      ended = unmapped_none (λ r. at_end r) (end_cause (part_state part)) (first_none end limit last);
      within = unmapped_none (λ l. over l) (limit_of (object_of part.settings (part_state part))) (second_none end limit last);
    }

-- -- the module

pub start_plain : (s : Settings) (target : Target) → start_cause (plain_settings s.file_name s.library_names) target ≡ start_cause s target
unfolding start_cause
start_plain s target = refl

no_functions : (target : Target) → length (state_of target []).functions ≡ 0
unfolding state_of functions_of moments
no_functions target = refl

no_objects : (target : Target) → length (state_of target []).objects ≡ 0
unfolding state_of objects_of moments
no_objects target = refl

-- a module that was opened for the part has room for its calls
pub room_for_functions : (part : PartData) (m : OpenModule) (calls : List Call) → m ≡ record { settings = part.settings; state = state_of part.target [] } → calls ≡ part.calls → length part.calls < 4294967295
    → length m.state.functions + count_by makes_function calls < 4294967295
room_for_functions part m calls opened same few = rw (opened, same) (omega (arith, no_functions part.target, count_by-le-length makes_function part.calls))

pub room_for_objects : (part : PartData) (m : OpenModule) (calls : List Call) → m ≡ record { settings = part.settings; state = state_of part.target [] } → calls ≡ part.calls → length part.calls < 4294967295
    → length m.state.objects + count_by makes_data calls < 4294967295
room_for_objects part m calls opened same few = rw (opened, same) (omega (arith, no_objects part.target, count_by-le-length makes_data part.calls))

tells_none : (told : Option Refusal) (j : ℕ) → IfSome told (λ r. None ≡ Some (at_call j r)) → IfSome told (λ r. None ≡ Some r)
tells_none None j h = tt
tells_none (Some r) j h = absurd (cc)

-- no call is refused
pub call_free : (part : PartData) (calls : List Call) (j : ℕ) (e : ModuleError) → IsFree part → calls ≡ part.calls → TellsCall j e (first_refused part.target calls) → Tells e None
call_free part calls j e free same told = tells_none (refusal_told e) j (rw (same, free.calls) at told)

-- at the end nothing is missing
pub end_free : (part : PartData) (s : LinkState) (calls : List Call) (e : ModuleError) → IsFree part → calls ≡ part.calls → s ≡ state_of part.target calls → Tells e (end_cause s) → Tells e None
end_free part s calls e free same left told = rw (left, same, free.ended) at told

object_same : (part : PartData) (m : OpenModule) (calls : List Call) (o : ObjectData) → calls ≡ part.calls → m.settings ≡ part.settings → m.state ≡ state_of part.target calls → o ≡ object_of m.settings m.state → o ≡ object_of part.settings (part_state part)
object_same part m calls o same settings left is = is ∙ rw (settings, left, same) refl

pub limit_free : (part : PartData) (m : OpenModule) (calls : List Call) (o : ObjectData) (e : EmitError) → IsFree part → calls ≡ part.calls → m.settings ≡ part.settings → m.state ≡ state_of part.target calls → o ≡ object_of m.settings m.state
    → TellsLimit e (limit_of o) → TellsLimit e None
limit_free part m calls o e free same settings left is told = rw (object_same part m calls o same settings left is, free.within) at told

pub file_built : (part : PartData) (m : OpenModule) (calls : List Call) (o : ObjectData) (b : List ℕ) → calls ≡ part.calls → m.settings ≡ part.settings → m.state ≡ state_of part.target calls → o ≡ object_of m.settings m.state
    → IsObjectFile o b → IsFileOf part b
file_built part m calls o b same settings left is holds = rw (object_same part m calls o same settings left is) at holds
