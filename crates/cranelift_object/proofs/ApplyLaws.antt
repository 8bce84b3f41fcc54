-- Calls made one after the other.
use Rattle.std.proofs.Common.{◌≡◌, ℕ, ◌+◌, ◌<◌, ◌≤◌, ◌++◌, ◌∷◌, List, [], Bool, true, false, cond, length, map, drop, take, get_or, Option, Some, None, refl, ap, sym, ◌∙◌, subst, arith, length-append, append_assoc}
use Rattle.std.specs.Prelude.{count_by, IfSome, option_map, Result, Ok, Err}
use Rattle.std.specs.Option.{option_or}
use Rattle.std.specs.List.{position_from}
use Rattle.cranelift_module.proofs.Places.{position-below}
use Rattle.std.proofs.lemmas.List.{append-nil, drop_all}
use Rattle.std.proofs.Math.Seq.{take-append_seam}
use Rattle.std.proofs.lemmas.List.Sums.{sum_by-cons}
use Rattle.cranelift_module.specs.declared.error.ModuleError.{ModuleError}
use Rattle.cranelift_module.specs.declared.linkage.Linkage.TheVariants.{Local}
use Rattle.cranelift_module.specs.Call.{Call, declare_function, declare_anonymous_function, define_function, declare_data, declare_anonymous_data, define_data}
use Rattle.cranelift_module.specs.LinkState.{LinkState, step, steps, with_first}
use Rattle.cranelift_module.specs.Refusal.{Refusal, Tells, refusal, refusal_told}
use Rattle.cranelift_module.specs.IsCall.{IsCall}
use Rattle.cranelift_object.specs.declared.command.Command.{Command}
use Rattle.cranelift_object.specs.Commands.{command_view, makes_function, makes_data, first_refusal, TellsAt}
use Rattle.cranelift_object.proofs.FirstCause.{drop_step}

-- the calls from a place on
pub calls_step : (commands : List Command) (i : ℕ) (command : Command) → i < length commands → command ≡ get_or commands i command → map command_view (drop i commands) ≡ command_view command ∷ map command_view (drop (i + 1) commands)
calls_step commands i command h e = ap (map command_view) (drop_step commands i command h e)

first_at_most_from : {A : Type 0} (test : A → Bool) (change : A → A) (new x : A) (xs : List A) (b : Bool) → length (with_first test change new xs) ≤ length xs + 1 → length (cond b (change x ∷ xs) (x ∷ with_first test change new xs)) ≤ length (x ∷ xs) + 1
first_at_most_from test change new x xs true h = omega arith
first_at_most_from test change new x xs false h = omega arith

first_at_most : {A : Type 0} (test : A → Bool) (change : A → A) (new : A) (xs : List A) → length (with_first test change new xs) ≤ length xs + 1
first_at_most test change new [] = omega arith
first_at_most test change new (x ∷ xs) = first_at_most_from test change new x xs (test x) (first_at_most test change new xs)

-- a call declares at most one function, and only where it declares one
pub step_length : (s : LinkState) (c : Call) → length (step s c).functions ≤ length s.functions + cond (makes_function c) 1 0
unfolding step
step_length s (declare_function name linkage signature) = first_at_most _ _ _ s.functions
step_length s (declare_anonymous_function signature) = omega (arith, length-append s.functions (record { name = None; linkage = Local; signature = signature } ∷ []))
step_length s (declare_data name linkage writable tls) = omega arith
step_length s (declare_anonymous_data writable tls) = omega arith
step_length s (define_function id align xs relocs) = omega arith
step_length s (define_data id d) = omega arith

-- and at most one data object, likewise
pub step_objects : (s : LinkState) (c : Call) → length (step s c).objects ≤ length s.objects + cond (makes_data c) 1 0
unfolding step
step_objects s (declare_function name linkage signature) = omega arith
step_objects s (declare_anonymous_function signature) = omega arith
step_objects s (declare_data name linkage writable tls) = first_at_most _ _ _ s.objects
step_objects s (declare_anonymous_data writable tls) = omega (arith, length-append s.objects (record { name = None; linkage = Local; writable = writable; tls = tls } ∷ []))
step_objects s (define_function id align xs relocs) = omega arith
step_objects s (define_data id d) = omega arith

-- a call leaves at most one more function
pub call_functions : {A : Type 0} (result : Result A ModuleError) (old new : LinkState) (call : Call) → IsCall result old new call → length new.functions ≤ length old.functions + 1
call_functions (Ok x) old new call h = rw h.stepped (let most = step_length old call in one_more (makes_function call) most) where
  one_more : (b : Bool) → length (step old call).functions ≤ length old.functions + cond b 1 0 → length (step old call).functions ≤ length old.functions + 1
  one_more true most = most
  one_more false most = omega arith
call_functions (Err e) old new call h = rw h.kept (omega arith)

-- and at most one more data object
pub call_objects : {A : Type 0} (result : Result A ModuleError) (old new : LinkState) (call : Call) → IsCall result old new call → length new.objects ≤ length old.objects + 1
call_objects (Ok x) old new call h = rw h.stepped (let most = step_objects old call in one_more (makes_data call) most) where
  one_more : (b : Bool) → length (step old call).objects ≤ length old.objects + cond b 1 0 → length (step old call).objects ≤ length old.objects + 1
  one_more true most = most
  one_more false most = omega arith
call_objects (Err e) old new call h = rw h.kept (omega arith)

-- what stands at a place is within the list
pub place_below : {A : Type 0} (test : A → Bool) (xs : List A) (k : ℕ) → position_from test 0 xs ≡ Some k → k < length xs
place_below test xs k at = position-below test xs k at

-- how far a run has come: these calls were made, and the rest is left
pub record IsRunning (s now : LinkState) (calls rest : List Call) (j : ℕ) : Type 0 where
  pub done : List Call
  pub count : length done ≡ j
  pub split : calls ≡ done ++ rest
  pub made : now ≡ steps s done
  pub first : first_refusal s 0 calls ≡ first_refusal now j rest
  pub room : length now.functions + count_by makes_function rest < 4294967295
  pub room_for_data : length now.objects + count_by makes_data rest < 4294967295

steps-append : (s : LinkState) (xs ys : List Call) → steps s (xs ++ ys) ≡ steps (steps s xs) ys
steps-append s [] ys = refl
steps-append s (x ∷ xs) ys = steps-append (step s x) xs ys

pub run_begins : (s : LinkState) (calls : List Call) → length s.functions + count_by makes_function calls < 4294967295 → length s.objects + count_by makes_data calls < 4294967295 → IsRunning s s calls calls 0
run_begins s calls room room_for_data = record { done = []; count = refl; split = refl; made = refl; first = refl; room = room; room_for_data = room_for_data }

pub run_room : (s now : LinkState) (calls rest : List Call) (c : Call) (j : ℕ) → IsRunning s now calls (c ∷ rest) j → makes_function c ≡ true → length now.functions < 4294967295
run_room s now calls rest c j h makes =
    let room : length now.functions + count_by makes_function (c ∷ rest) < 4294967295 = h.room in
    omega arith

pub run_room_for_data : (s now : LinkState) (calls rest : List Call) (c : Call) (j : ℕ) → IsRunning s now calls (c ∷ rest) j → makes_data c ≡ true → length now.objects < 4294967295
run_room_for_data s now calls rest c j h makes =
    let room : length now.objects + count_by makes_data (c ∷ rest) < 4294967295 = h.room_for_data in
    omega arith

-- an accepted call leaves its step
pub run_next : (s now later : LinkState) (calls rest : List Call) (c : Call) (j : ℕ) → IsRunning s now calls (c ∷ rest) j → refusal now c ≡ None → later ≡ step now c → IsRunning s later calls rest (j + 1)
unfolding first_refusal
run_next s now later calls rest c j h free left =
    let counted = sum_by-cons (λ (x : Call). cond (makes_function x) 1 0) c rest in
    let counted_data = sum_by-cons (λ (x : Call). cond (makes_data x) 1 0) c rest in
    record {
      done = h.done ++ c ∷ [];
      count = length-append h.done (c ∷ []) ∙ ap (λ n. n + 1) h.count;
      split = h.split ∙ sym (append_assoc h.done (c ∷ []) rest);
      made = left ∙ ap (λ t. step t c) h.made ∙ sym (steps-append s h.done (c ∷ []));
      first = h.first ∙ (rw (free, left) refl);
      room = rw left (omega (arith, h.room, counted, step_length now c));
      room_for_data = rw left (omega (arith, h.room_for_data, counted_data, step_objects now c));
    }

told_at : (told : Option Refusal) (a : Option Refusal) (b : Option (ℕ × Refusal)) (j : ℕ) → IfSome told (λ r. a ≡ Some r) → IfSome told (λ r. option_or (option_map (λ (x : Refusal). (j, x)) a) b ≡ Some (j, r))
told_at None a b j h = h
told_at (Some r) a b j h = rw h refl

-- a refused call is the first one
pub run_refused : (s now : LinkState) (calls rest : List Call) (c : Call) (j : ℕ) (e : ModuleError) → IsRunning s now calls (c ∷ rest) j → Tells e (refusal now c) → TellsAt j e (first_refusal s 0 calls)
unfolding first_refusal
run_refused s now calls rest c j e h tells = rw h.first (told_at (refusal_told e) (refusal now c) (first_refusal (step now c) (j + 1) rest) j tells)

-- where none is left, none was refused
pub run_free : (s now : LinkState) (calls : List Call) (j : ℕ) → IsRunning s now calls [] j → first_refusal s 0 calls ≡ None
unfolding first_refusal
run_free s now calls j h = h.first

pub run_whole : (s now : LinkState) (calls : List Call) (j : ℕ) → IsRunning s now calls [] j → now ≡ steps s calls
run_whole s now calls j h = h.made ∙ ap (steps s) (sym (append-nil h.done) ∙ sym h.split)

-- what was made by then
pub run_so_far : (s now : LinkState) (calls rest : List Call) (j : ℕ) → IsRunning s now calls rest j → now ≡ steps s (take j calls)
run_so_far s now calls rest j h = h.made ∙ ap (steps s) (sym (take-append_seam h.done rest) ∙ ap (λ n. take n (h.done ++ rest)) h.count ∙ ap (take j) (sym h.split))

-- a run that stands at a command
pub run_at : (s now : LinkState) (calls : List Call) (commands : List Command) (i : ℕ) (command : Command) → IsRunning s now calls (map command_view (drop i commands)) i → i < length commands → command ≡ get_or commands i command
    → IsRunning s now calls (command_view command ∷ map command_view (drop (i + 1) commands)) i
run_at s now calls commands i command h below e = subst (λ (rest : List Call). IsRunning s now calls rest i) (calls_step commands i command below e) h

-- a run that has come to its end
pub run_ended : (s now : LinkState) (calls : List Call) (commands : List Command) (i : ℕ) → IsRunning s now calls (map command_view (drop i commands)) i → length commands ≤ i → IsRunning s now calls [] i
run_ended s now calls commands i h past = subst (λ (rest : List Command). IsRunning s now calls (map command_view rest) i) (drop_all i commands past) h
