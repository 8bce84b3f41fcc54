-- The first call that is refused, picked out of the whole list, is the one at which calls in order stop.
use Rattle.std.proofs.Common.{◌≡◌, ℕ, ◌+◌, List, [], ◌∷◌, ◌++◌, length, take, slice_get, Option, Some, None, option_map, refl, ap, sym, ◌∙◌, arith, append_assoc, append-nil, length-append}
use Rattle.std.specs.List.{range_with_len, filter_map, cons_option}
use Rattle.std.specs.Option.{option_or}
use Rattle.ir_core.specs.Target.{Target}
use Rattle.cranelift_module.specs.Call.{Call}
use Rattle.cranelift_module.specs.LinkState.{state_of, step, steps}
use Rattle.cranelift_module.specs.Refusal.{Refusal, refusal}
use Rattle.cranelift_module.proofs.StateLaws.{state_of-step}
use Rattle.cranelift_object.specs.Commands.{first_refusal}
use Rattle.cranelift_object.specs.Part.{PartRefusal, at_call, command_cause, first_refused}

-- what refuses call j of these
called : Target → List Call → ℕ → Option PartRefusal
called target all j = option_map (at_call j) (command_cause target all j)

abbrev pub at_pair : ℕ × Refusal → PartRefusal
at_pair p = at_call p.0 p.1

take_front : {A : Type 0} (xs ys : List A) → take (length xs) (xs ++ ys) ≡ xs
take_front [] ys = refl
take_front (x ∷ xs) ys = ap (λ zs. x ∷ zs) (take_front xs ys)

get_front : {A : Type 0} (xs : List A) (y : A) (ys : List A) → slice_get (xs ++ y ∷ ys) (length xs) ≡ Some y
get_front [] y ys = refl
get_front (x ∷ xs) y ys = get_front xs y ys

called_at : (target : Target) (all before rest : List Call) (c : Call) (j : ℕ) → all ≡ before ++ c ∷ rest → j ≡ length before → called target all j ≡ option_map (at_call j) (refusal (state_of target before) c)
unfolding called command_cause
called_at target all before rest c j e l = rw (e, l, take_front before (c ∷ rest), get_front before c rest) refl

first_of : (x : Option PartRefusal) (xs : List PartRefusal) → slice_get (cons_option x xs) 0 ≡ option_or x (slice_get xs 0)
first_of None xs = refl
first_of (Some x) xs = refl

joined : (o : Option Refusal) (j : ℕ) (rest : Option PartRefusal) (later : Option (ℕ × Refusal)) → (o ≡ None → rest ≡ option_map at_pair later) → option_or (option_map (at_call j) o) rest ≡ option_map at_pair (option_or (option_map (λ r. (j, r)) o) later)
joined None j rest later h = h refl
joined (Some r) j rest later h = refl

from_place : (target : Target) (all before rest : List Call) (j : ℕ) → all ≡ before ++ rest → j ≡ length before
    → slice_get (filter_map (called target all) (range_with_len j (length rest))) 0 ≡ option_map at_pair (first_refusal (state_of target before) j rest)
unfolding first_refusal
from_place target all before [] j e l = refl
from_place target all before (c ∷ cs) j e l =
    first_of (called target all j) (filter_map (called target all) (range_with_len (j + 1) (length cs)))
    ∙ ap (λ o. option_or o (slice_get (filter_map (called target all) (range_with_len (j + 1) (length cs))) 0)) (called_at target all before cs c j e l)
    ∙ joined (refusal (state_of target before) c) j _ (first_refusal (step (state_of target before) c) (j + 1) cs)
    (λ none. from_place target all (before ++ c ∷ []) cs (j + 1) (e ∙ sym (append_assoc before (c ∷ []) cs)) (omega (arith, l, length-append before (c ∷ []))) ∙ ap (λ s. option_map at_pair (first_refusal s (j + 1) cs)) (state_of-step target before c none))

-- the first call that is refused
pub first_refused-calls : (target : Target) (calls : List Call) → first_refused target calls ≡ option_map at_pair (first_refusal (state_of target []) 0 calls)
unfolding called
first_refused-calls target calls = from_place target calls [] calls 0 refl refl

accepted_on : (target : Target) (before cs : List Call) (c : Call) (j : ℕ) (o : Option Refusal) → refusal (state_of target before) c ≡ o
    → (first_refusal (state_of target (before ++ c ∷ [])) (j + 1) cs ≡ None → steps (state_of target (before ++ c ∷ [])) cs ≡ state_of target ((before ++ c ∷ []) ++ cs))
    → option_or (option_map (λ r. (j, r)) o) (first_refusal (step (state_of target before) c) (j + 1) cs) ≡ None → steps (step (state_of target before) c) cs ≡ state_of target (before ++ c ∷ cs)
accepted_on target before cs c j (Some r) e later k = absurd (cc)
accepted_on target before cs c j None e later k =
    let more = state_of-step target before c e in
    ap (λ s. steps s cs) (sym more) ∙ later (ap (λ s. first_refusal s (j + 1) cs) more ∙ k) ∙ ap (state_of target) (append_assoc before (c ∷ []) cs)

accepted_from : (target : Target) (before rest : List Call) (j : ℕ) → first_refusal (state_of target before) j rest ≡ None → steps (state_of target before) rest ≡ state_of target (before ++ rest)
unfolding first_refusal
accepted_from target before [] j h = ap (state_of target) (sym (append-nil before))
accepted_from target before (c ∷ cs) j h = accepted_on target before cs c j (refusal (state_of target before) c) refl (accepted_from target (before ++ c ∷ []) cs (j + 1)) h

-- calls of which none is refused leave the state of their list
pub accepted-state : (target : Target) (calls : List Call) → first_refusal (state_of target []) 0 calls ≡ None → steps (state_of target []) calls ≡ state_of target calls
accepted-state target calls h = accepted_from target [] calls 0 h
