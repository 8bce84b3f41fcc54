-- The first cause of a part, found step by step, and the errors that tell it.
use Rattle.std.proofs.Common.{◌≡◌, ℕ, ◌+◌, ◌<◌, List, [], length, count_by, arith, Option, Some, None, option_map, IfSome, refl, ap, sym, ◌∙◌, subst}
use Rattle.std.specs.Option.{IsSomeAnd, IsSome}
use Rattle.std.proofs.lemmas.List.Sums.{count_by-le-length}
use Rattle.object_core.specs.declared.error.EmitError.{EmitError}
use Rattle.object_core.specs.declared.error.EmitError.TheVariants as limits
use Rattle.object_core.specs.Limits.{TellsLimit}
use Rattle.cranelift_module.specs.declared.error.ModuleError.{ModuleError}
use Rattle.cranelift_module.specs.LinkState.{state_of, steps}
use Rattle.cranelift_module.specs.Refusal.{Refusal, refusal_told, Tells}
use Rattle.ir_core.specs.Target.{Target}
use Rattle.ir_core.specs.Moments.{moments}
use Rattle.object_core.specs.Object.{ObjectData}
use Rattle.cranelift_module.specs.Call.{Call}
use Rattle.cranelift_module.specs.Rows.{functions_of, objects_of}
use Rattle.cranelift_object.specs.Settings.{Settings, plain_settings}
use Rattle.cranelift_object.specs.Opened.{OpenModule}
use Rattle.cranelift_object.specs.Commands.{first_refusal, TellsAt, makes_function, makes_data}
use Rattle.cranelift_object.specs.EndCause.{end_cause}
use Rattle.cranelift_object.specs.Linked.{object_of, link_table}
use Rattle.cranelift_object.specs.Part.{PartData, PartRefusal, at_start, at_call, at_end, over, start_cause, first_refused, part_cause, part_state, limit_of}
use Rattle.cranelift_object.specs.Emitted.{IsObjectFile}
use Rattle.image_build.specs.Built.{FileHolds, by_module, Refused, TellsPart, TellsPlace, TellsCause, TellsOver}
use Rattle.image_build.specs.declared.error.BuildCause.{BuildCause}
use Rattle.image_build.specs.declared.error.BuildCause.TheVariants.{Module, Fat, TooMany, TooLarge, Mixed, OutOfMemory}
use Rattle.image_build.specs.declared.error.Place.TheVariants.{Start, Command, End}
use Rattle.image_build.proofs.FirstRefused.{at_pair, first_refused-calls, accepted-state}

-- the part passed its start, its calls, its end
pub record IsOpened (part : PartData) : Type 0 where
  pub start : start_cause part.settings part.target ≡ None

pub record IsApplied (part : PartData) : Type 0 where
  pub start : start_cause part.settings part.target ≡ None
  pub calls : first_refusal (state_of part.target []) 0 part.calls ≡ None

pub record IsFinished (part : PartData) : Type 0 where
  pub start : start_cause part.settings part.target ≡ None
  pub calls : first_refusal (state_of part.target []) 0 part.calls ≡ None
  pub ended : end_cause (part_state part) ≡ None

calls_free : (part : PartData) → first_refusal (state_of part.target []) 0 part.calls ≡ None → first_refused part.target part.calls ≡ None
calls_free part h = first_refused-calls part.target part.calls ∙ ap (option_map at_pair) h

cause_start : (part : PartData) (r : Refusal) → start_cause part.settings part.target ≡ Some r → part_cause part ≡ Some (at_start r)
unfolding part_cause
cause_start part r h = rw h refl

cause_call : (part : PartData) (j : ℕ) (r : Refusal) → IsOpened part → first_refusal (state_of part.target []) 0 part.calls ≡ Some (j, r) → part_cause part ≡ Some (at_call j r)
unfolding part_cause
cause_call part j r h f = let g : first_refused part.target part.calls ≡ Some (at_call j r) = first_refused-calls part.target part.calls ∙ ap (option_map at_pair) f in rw (h.start, g) refl

cause_end : (part : PartData) (r : Refusal) → IsApplied part → end_cause (part_state part) ≡ Some r → part_cause part ≡ Some (at_end r)
unfolding part_cause
cause_end part r h f = rw (h.start, calls_free part h.calls, f) refl

cause_over : (part : PartData) (l : EmitError) → IsFinished part → limit_of (object_of part.settings (part_state part)) ≡ Some l → part_cause part ≡ Some (over l)
unfolding part_cause
cause_over part l h f = rw (h.start, calls_free part h.calls, h.ended, f) refl

cause_none : (part : PartData) → IsFinished part → limit_of (object_of part.settings (part_state part)) ≡ None → part_cause part ≡ None
unfolding part_cause
cause_none part h f = rw (h.start, calls_free part h.calls, h.ended, f) refl

-- -- errors

told_of : (e f : ModuleError) (told : Option Refusal) (is : Refusal → Type 0) → f ≡ e → IsSome (refusal_told e) → Tells e told → ((r : Refusal) → told ≡ Some r → is r) → IsSomeAnd (refusal_told f) is
told_of e f told is same some tells holds = subst (λ x. IsSomeAnd (refusal_told x) is) (sym same) (go (refusal_told e) some tells) where
  go : (o : Option Refusal) → IsSome o → IfSome o (λ r. told ≡ Some r) → IsSomeAnd o is
  go None s t = absurd (cc)
  go (Some r) s t = holds r t

start_told : (e : ModuleError) (c : BuildCause) (told : Option Refusal) (is : Refused → Type 0) → TellsCause e c → Tells e told → ((r : Refusal) → told ≡ Some r → is (by_module (at_start r))) → TellsPlace Start c is
start_told e OutOfMemory told is t h holds = tt
start_told e (Module f) told is t h holds = told_of e f told (λ r. is (by_module (at_start r))) t.0 t.1 h holds
start_told e (TooMany what count) told is t h holds = absurd t
start_told e (TooLarge what amount) told is t h holds = absurd t
start_told e Mixed told is t h holds = absurd t
start_told e (Fat f) told is t h holds = absurd t

end_told : (e : ModuleError) (c : BuildCause) (told : Option Refusal) (is : Refused → Type 0) → TellsCause e c → Tells e told → ((r : Refusal) → told ≡ Some r → is (by_module (at_end r))) → TellsPlace End c is
end_told e OutOfMemory told is t h holds = tt
end_told e (Module f) told is t h holds = told_of e f told (λ r. is (by_module (at_end r))) t.0 t.1 h holds
end_told e (TooMany what count) told is t h holds = absurd t
end_told e (TooLarge what amount) told is t h holds = absurd t
end_told e Mixed told is t h holds = absurd t
end_told e (Fat f) told is t h holds = absurd t

call_of : (e f : ModuleError) (j : ℕ) (first : Option (ℕ × Refusal)) (is : Refusal → Type 0) → f ≡ e → IsSome (refusal_told e) → TellsAt j e first → ((r : Refusal) → first ≡ Some (j, r) → is r) → IsSomeAnd (refusal_told f) is
call_of e f j first is same some tells holds = subst (λ x. IsSomeAnd (refusal_told x) is) (sym same) (go (refusal_told e) some tells) where
  go : (o : Option Refusal) → IsSome o → IfSome o (λ r. first ≡ Some (j, r)) → IsSomeAnd o is
  go None s t = absurd (cc)
  go (Some r) s t = holds r t

call_told : (e : ModuleError) (c : BuildCause) (j : ℕ) (first : Option (ℕ × Refusal)) (is : Refused → Type 0) → TellsCause e c → TellsAt j e first → ((r : Refusal) → first ≡ Some (j, r) → is (by_module (at_call j r))) → TellsPlace (Command j) c is
call_told e OutOfMemory j first is t h holds = tt
call_told e (Module f) j first is t h holds = call_of e f j first (λ r. is (by_module (at_call j r))) t.0 t.1 h holds
call_told e (TooMany what count) j first is t h holds = absurd t
call_told e (TooLarge what amount) j first is t h holds = absurd t
call_told e Mixed j first is t h holds = absurd t
call_told e (Fat f) j first is t h holds = absurd t

over_told : (e : EmitError) (c : BuildCause) (told : Option EmitError) (is : Refused → Type 0) → TellsOver e c → TellsLimit e told → ((l : EmitError) → told ≡ Some l → is (by_module (over l))) → TellsPlace End c is
over_told e OutOfMemory told is t h holds = tt
over_told e (Module f) told is t h holds = absurd t
over_told e (TooMany what count) told is t h holds = holds (limits.TooMany what count) (subst (λ x. TellsLimit x told) t h)
over_told e (TooLarge what amount) told is t h holds = holds (limits.TooLarge what amount) (subst (λ x. TellsLimit x told) t h)
over_told e Mixed told is t h holds = absurd t
over_told e (Fat f) told is t h holds = absurd t

refused_by : (part : PartData) (r : PartRefusal) → part_cause part ≡ Some r → option_map (λ c. by_module c) (part_cause part) ≡ Some (by_module r)
refused_by part r h = rw h refl

-- an error at the start, at a call, at the end, and of a limit
pub tells_start : (n : ℕ) (part : PartData) (e : ModuleError) (c : BuildCause) → TellsCause e c → Tells e (start_cause part.settings part.target) → TellsPart (record { part = n; place = Start; cause = c }) part
tells_start n part e c t h = start_told e c (start_cause part.settings part.target) _ t h (λ r k. refused_by part (at_start r) (cause_start part r k))

pub tells_call : (n : ℕ) (part : PartData) (e : ModuleError) (c : BuildCause) (j : ℕ) → IsOpened part → TellsCause e c → TellsAt j e (first_refusal (state_of part.target []) 0 part.calls)
    → TellsPart (record { part = n; place = Command j; cause = c }) part
tells_call n part e c j o t h = call_told e c j (first_refusal (state_of part.target []) 0 part.calls) _ t h (λ r k. refused_by part (at_call j r) (cause_call part j r o k))

pub tells_end : (n : ℕ) (part : PartData) (e : ModuleError) (c : BuildCause) → IsApplied part → TellsCause e c → Tells e (end_cause (part_state part)) → TellsPart (record { part = n; place = End; cause = c }) part
tells_end n part e c o t h = end_told e c (end_cause (part_state part)) _ t h (λ r k. refused_by part (at_end r) (cause_end part r o k))

pub tells_over : (n : ℕ) (part : PartData) (e : EmitError) (c : BuildCause) → IsFinished part → TellsOver e c → TellsLimit e (limit_of (object_of part.settings (part_state part))) → TellsPart (record { part = n; place = End; cause = c }) part
tells_over n part e c o t h = over_told e c (limit_of (object_of part.settings (part_state part))) _ t h (λ l k. refused_by part (over l) (cause_over part l o k))

-- the state that a part's accepted calls leave
pub applied_state : (part : PartData) → first_refusal (state_of part.target []) 0 part.calls ≡ None → steps (state_of part.target []) part.calls ≡ part_state part
applied_state part h = accepted-state part.target part.calls h

-- -- a build step by step, in terms of the module

pub start_plain : (s : Settings) (target : Target) → start_cause (plain_settings s.file_name s.library_names) target ≡ start_cause s target
unfolding start_cause
start_plain s target = refl

no_functions : (target : Target) → length (state_of target []).functions ≡ 0
unfolding state_of functions_of moments
no_functions target = refl

-- a module that was opened for the part has room for its calls
pub part_room : (part : PartData) (m : OpenModule) (calls : List Call) → m ≡ record { settings = part.settings; state = state_of part.target [] } → calls ≡ part.calls → length part.calls < 4294967295
    → length m.state.functions + count_by makes_function calls < 4294967295
part_room part m calls opened same few = rw (opened, same) (omega (arith, no_functions part.target, count_by-le-length makes_function part.calls))

no_objects : (target : Target) → length (state_of target []).objects ≡ 0
unfolding state_of objects_of moments
no_objects target = refl

pub part_room_for_data : (part : PartData) (m : OpenModule) (calls : List Call) → m ≡ record { settings = part.settings; state = state_of part.target [] } → calls ≡ part.calls → length part.calls < 4294967295
    → length m.state.objects + count_by makes_data calls < 4294967295
part_room_for_data part m calls opened same few = rw (opened, same) (omega (arith, no_objects part.target, count_by-le-length makes_data part.calls))

pub part_call : (n : ℕ) (part : PartData) (m : OpenModule) (calls : List Call) (j : ℕ) (e : ModuleError) (c : BuildCause) → m ≡ record { settings = part.settings; state = state_of part.target [] } → start_cause part.settings part.target ≡ None → calls ≡ part.calls
    → TellsCause e c → TellsAt j e (first_refusal m.state 0 calls) → TellsPart (record { part = n; place = Command j; cause = c }) part
part_call n part m calls j e c opened started same t told = tells_call n part e c j (record { start = started }) t (rw (opened, same) at told)

-- the module after the part's calls
pub record IsLeft (part : PartData) (m : OpenModule) : Type 0 where
  pub passed : IsApplied part
  pub settings : m.settings ≡ part.settings
  pub state : m.state ≡ part_state part

pub part_left : (part : PartData) (m later : OpenModule) (calls : List Call) → m ≡ record { settings = part.settings; state = state_of part.target [] } → start_cause part.settings part.target ≡ None → calls ≡ part.calls
    → first_refusal m.state 0 calls ≡ None → later.state ≡ steps m.state calls → later.settings ≡ m.settings → IsLeft part later
part_left part m later calls opened started same free state settings =
    let none : first_refusal (state_of part.target []) 0 part.calls ≡ None = rw (opened, same) at free in
    record {
      passed = record { start = started; calls = none };
      settings = settings ∙ ap (λ (o : OpenModule). o.settings) opened;
      state = state ∙ (rw (opened, same) (applied_state part none));
    }

pub part_end : (n : ℕ) (part : PartData) (m : OpenModule) (e : ModuleError) (c : BuildCause) → IsLeft part m → TellsCause e c → Tells e (end_cause m.state) → TellsPart (record { part = n; place = End; cause = c }) part
part_end n part m e c left t told = tells_end n part e c left.passed t (rw left.state at told)

finished : (part : PartData) (m : OpenModule) → IsLeft part m → end_cause m.state ≡ None → IsFinished part
finished part m left h = record { start = left.passed.start; calls = left.passed.calls; ended = ap end_cause (sym left.state) ∙ h }

same_object : (part : PartData) (m : OpenModule) (o : ObjectData) → IsLeft part m → o ≡ object_of m.settings m.state → o ≡ object_of part.settings (part_state part)
same_object part m o left h = h ∙ rw (left.settings, left.state) refl

pub part_over : (n : ℕ) (part : PartData) (m : OpenModule) (o : ObjectData) (e : EmitError) (c : BuildCause) → IsLeft part m → end_cause m.state ≡ None → o ≡ object_of m.settings m.state → TellsOver e c → TellsLimit e (limit_of o)
    → TellsPart (record { part = n; place = End; cause = c }) part
part_over n part m o e c left ended h t told = tells_over n part e c (finished part m left ended) t (rw (same_object part m o left h) at told)

pub part_valid : (part : PartData) (m : OpenModule) (o : ObjectData) → IsLeft part m → end_cause m.state ≡ None → o ≡ object_of m.settings m.state → limit_of o ≡ None → part_cause part ≡ None
part_valid part m o left ended h free = cause_none part (finished part m left ended) (rw (same_object part m o left h) at free)

-- the file of the module's object is that of the part
pub part_built : (part : PartData) (m : OpenModule) (o : ObjectData) (b : List ℕ) → IsLeft part m → o ≡ object_of m.settings m.state → IsObjectFile o b → FileHolds b (link_table part.settings (part_state part))
part_built part m o b left h holds = rw (same_object part m o left h) at holds
