-- Runs of accepted calls, by number.
use Rattle.std.proofs.Common.{◌≡◌, ℕ, zero, suc, ◌+◌, ◌<◌, ◌≤◌, List, [], ◌∷◌, ◌++◌, None, refl, subst, arith}
use Rattle.std.specs.List.{range_with_len, flat_map}
use Rattle.cranelift_module.specs.Call.{Call}
use Rattle.cranelift_module.specs.LinkState.{LinkState, step, steps}
use Rattle.cranelift_module.specs.Refusal.{refusal}
use Rattle.cranelift_object.specs.Commands.{first_refusal}

-- the calls are accepted one after the other, whatever their places, and leave this state
pub record IsRun (s : LinkState) (calls : List Call) (left : LinkState) : Type 0 where
  pub free : (j : ℕ) → first_refusal s j calls ≡ None
  pub made : steps s calls ≡ left

-- a call is accepted, and leaves this state
pub record IsStep (s : LinkState) (c : Call) (left : LinkState) : Type 0 where
  pub free : refusal s c ≡ None
  pub made : step s c ≡ left

pub run_none : (s : LinkState) → IsRun s [] s
unfolding first_refusal
run_none s = record { free = λ j. refl; made = refl }

pub run_cons : (s middle left : LinkState) (c : Call) (cs : List Call) → IsStep s c middle → IsRun middle cs left → IsRun s (c ∷ cs) left
unfolding first_refusal
run_cons s middle left c cs first rest =
    record {
      free = λ j. rw (first.free, first.made) (rest.free (j + 1));
      made = rw first.made rest.made;
    }

-- two calls for each number, before others
pub run_numbers : (s middle : ℕ → LinkState) (left : LinkState) (a b : ℕ → Call) (from count : ℕ) (others : List Call)
    → ((k : ℕ) → from ≤ k → k < from + count → IsStep (s k) (a k) (middle k)) → ((k : ℕ) → from ≤ k → k < from + count → IsStep (middle k) (b k) (s (k + 1))) → IsRun (s (from + count)) others left
    → IsRun (s from) (flat_map (λ k. a k ∷ b k ∷ []) (range_with_len from count) ++ others) left
run_numbers s middle left a b from zero others first second rest =
    let here : from + 0 ≡ from = omega arith in
    subst (λ k. IsRun (s k) others left) here rest
run_numbers s middle left a b from (suc count) others first second rest =
    let there : from + suc count ≡ from + 1 + count = omega arith in
    let later = run_numbers s middle left a b (from + 1) count others (λ k low high. first k (omega arith) (omega arith)) (λ k low high. second k (omega arith) (omega arith)) (subst (λ k. IsRun (s k) others left) there rest) in
    run_cons (s from) (middle from) left (a from) _ (first from (omega arith) (omega arith)) (run_cons (middle from) (s (from + 1)) left (b from) _ (second from (omega arith) (omega arith)) later)
