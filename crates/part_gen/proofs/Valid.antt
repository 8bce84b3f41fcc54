-- Nothing in a generated part is refused.
use Rattle.std.proofs.Common.{◌≡◌, ℕ, zero, suc, ◌+◌, ◌*◌, ◌%◌, ◌<◌, ◌≤◌, ◌==◌, ◌||◌, List, [], ◌++◌, Bool, true, false, None, option_map, refl, ap, sym, ◌∙◌, subst, arith, map, append-nil}
use Rattle.std.specs.List.{range_with_len, list_any, flat_map, enumerate_from}
use Rattle.std.proofs.lemmas.Bool.Decides.{nat_tests}
use Rattle.std.specs.Prelude.{codes}
use Rattle.cranelift_module.specs.declared.identifiers.FuncOrDataId.TheVariants.{Func, Data}
use Rattle.cranelift_module.specs.Call.{Call}
use Rattle.cranelift_module.specs.Definitions.{Definition, definitions_of}
use Rattle.cranelift_module.specs.Rows.{functions_of, objects_of, creation}
use Rattle.ir_core.specs.Moments.{moments}
use Rattle.cranelift_module.specs.LinkState.{LinkState, state_of}
use Rattle.cranelift_module.specs.LibraryNames.{usual_texts}
use Rattle.cranelift_module.specs.Refusal.{is_same_identifier, first_cause}
use Rattle.cranelift_object.specs.EndCause.{end_cause, missing_function, missing_data, first_bad_target}
use Rattle.cranelift_object.specs.Part.{start_cause, first_refused, part_state, part_cause, limit_of}
use Rattle.cranelift_object.specs.Linked.{object_of}
use Rattle.part_gen.proofs.Limits.{limit_free}
use Rattle.cranelift_object.specs.Settings.{plain_settings}
use Rattle.cranelift_object.proofs.RunLaws.{at_pair, first_refused-calls, accepted-state}
use Rattle.cranelift_object.proofs.FinishLaws.{end_parts}
use Rattle.part_gen.specs.Draws.{draw}
use Rattle.part_gen.specs.Generated.{elf_target, function_declared, data_declared, function_defined, data_defined, definitions_at, calls_of, generated}
use Rattle.part_gen.proofs.Runs.{IsRun, run_none, run_numbers}
use Rattle.part_gen.proofs.States.{declared, half_declared, function_step, data_step, defined, half_defined, none_defined, function_defined_step, data_defined_step, definitions_among, row_there, function_row, data_row}

-- -- the calls

pub definitions_run : (seed n : ℕ) → IsRun (defined seed n 0) (flat_map (definitions_at seed n) (range_with_len 0 n)) (defined seed n n)
definitions_run seed n =
    let e : 0 + n ≡ n = omega arith in
    let whole = run_numbers (defined seed n) (half_defined seed n) (defined seed n (0 + n)) (λ k. function_defined k (16 + draw seed (4 * k) % 16) (draw seed (4 * k + 1) % n)) (λ k. data_defined k (draw seed (4 * k + 2) % 256) (draw seed (4 * k + 3) % n)) 0 n []
    (λ k low high. function_defined_step seed n k (omega arith)) (λ k low high. data_defined_step seed n k (omega arith)) (run_none (defined seed n (0 + n))) in
    subst (λ (calls : List Call). IsRun (defined seed n 0) calls (defined seed n n)) (append-nil (flat_map (definitions_at seed n) (range_with_len 0 n)))
    (subst (λ k. IsRun (defined seed n 0) (flat_map (definitions_at seed n) (range_with_len 0 n) ++ []) (defined seed n k)) e whole)

pub calls_run : (seed n : ℕ) → n ≤ 100000 → IsRun (declared 0) (calls_of seed n) (defined seed n n)
calls_run seed n most =
    let e : 0 + n ≡ n = omega arith in
    let later = subst (λ s. IsRun s (flat_map (definitions_at seed n) (range_with_len 0 n)) (defined seed n n)) (sym (none_defined seed n)) (definitions_run seed n) in
    run_numbers declared half_declared (defined seed n n) function_declared data_declared 0 n (flat_map (definitions_at seed n) (range_with_len 0 n))
    (λ k low high. function_step k (omega arith)) (λ k low high. data_step k (omega arith)) (subst (λ k. IsRun (declared k) (flat_map (definitions_at seed n) (range_with_len 0 n)) (defined seed n n)) (sym e) later)

none_declared : state_of elf_target [] ≡ declared 0
unfolding state_of functions_of objects_of creation definitions_of moments declared
none_declared = refl

run_from_start : (seed n : ℕ) → n ≤ 100000 → IsRun (state_of elf_target []) (calls_of seed n) (defined seed n n)
run_from_start seed n most = subst (λ s. IsRun s (calls_of seed n) (defined seed n n)) (sym none_declared) (calls_run seed n most)

-- no call is refused
pub calls_accepted : (seed n : ℕ) → n ≤ 100000 → first_refused elf_target (calls_of seed n) ≡ None
calls_accepted seed n most = first_refused-calls elf_target (calls_of seed n) ∙ ap (option_map at_pair) ((run_from_start seed n most).free 0)

-- the state that the calls leave
pub state_left : (seed n : ℕ) → n ≤ 100000 → state_of elf_target (calls_of seed n) ≡ defined seed n n
state_left seed n most =
    let run = run_from_start seed n most in
    sym (accepted-state elf_target (calls_of seed n) (run.free 0)) ∙ run.made

-- -- the start

pub start_free : start_cause (plain_settings (codes "gen.o") usual_texts) elf_target ≡ None
unfolding start_cause usual_texts
start_free = refl

-- -- the end

here_or_later : (k a : ℕ) → a ≤ k → (later : Bool) → (a < k → later ≡ true) → (k == a || later) ≡ true
here_or_later k a low later h = by_test (k == a) refl where
  by_test : (b : Bool) → (k == a) ≡ b → (b || later) ≡ true
  by_test true e = refl
  by_test false e = h (grind (arith, nat_tests))

function_is_defined : (seed n k a count : ℕ) → a ≤ k → k < a + count → list_any (λ (d : Definition). is_same_identifier (Func k) d.identifier) (definitions_among seed n (range_with_len a count)) ≡ true
function_is_defined seed n k a zero low high = absurd (omega arith)
function_is_defined seed n k a (suc count) low high = here_or_later k a low _ (λ past. function_is_defined seed n k (a + 1) count (omega arith) (omega arith))

data_is_defined : (seed n k a count : ℕ) → a ≤ k → k < a + count → list_any (λ (d : Definition). is_same_identifier (Data k) d.identifier) (definitions_among seed n (range_with_len a count)) ≡ true
data_is_defined seed n k a zero low high = absurd (omega arith)
data_is_defined seed n k a (suc count) low high = here_or_later k a low _ (λ past. data_is_defined seed n k (a + 1) count (omega arith) (omega arith))

functions_have : (seed n a count : ℕ) → a + count ≤ n → first_cause (map (missing_function (defined seed n n)) (enumerate_from a (map function_row (range_with_len a count)))) ≡ None
unfolding defined
functions_have seed n a zero h = refl
functions_have seed n a (suc count) h =
    rw (function_is_defined seed n a 0 n (omega arith) (omega arith)) (functions_have seed n (a + 1) count (omega arith))

objects_have : (seed n a count : ℕ) → a + count ≤ n → first_cause (map (missing_data (defined seed n n)) (enumerate_from a (map data_row (range_with_len a count)))) ≡ None
unfolding defined
objects_have seed n a zero h = refl
objects_have seed n a (suc count) h =
    rw (data_is_defined seed n a 0 n (omega arith) (omega arith)) (objects_have seed n (a + 1) count (omega arith))

references_had : (seed n a count : ℕ) → 0 < n → first_bad_target (defined seed n n) (flat_map (λ (d : Definition). d.relocs) (definitions_among seed n (range_with_len a count))) ≡ None
unfolding defined
references_had seed n a zero h = refl
references_had seed n a (suc count) h =
    rw (row_there data_row n (draw seed (4 * a + 1) % n) (omega arith), row_there function_row n (draw seed (4 * a + 3) % n) (omega arith)) (references_had seed n (a + 1) count h)

pub end_free : (seed n : ℕ) → 0 < n → end_cause (defined seed n n) ≡ None
unfolding defined
end_free seed n h =
    end_parts (defined seed n n)
    ∙ (rw (functions_have seed n 0 n (omega arith), objects_have seed n 0 n (omega arith), references_had seed n 0 n h) refl)

-- -- the part

pub part_start : (seed n : ℕ) → start_cause (generated seed n).settings (generated seed n).target ≡ None
unfolding generated
part_start seed n = start_free

pub part_accepted : (seed n : ℕ) → n ≤ 100000 → first_refused (generated seed n).target (generated seed n).calls ≡ None
unfolding generated
part_accepted seed n most = calls_accepted seed n most

pub part_finished : (seed n : ℕ) → 0 < n → n ≤ 100000 → end_cause (part_state (generated seed n)) ≡ None
unfolding generated
part_finished seed n some most = ap end_cause (state_left seed n most) ∙ end_free seed n some

part_within : (seed n : ℕ) → 0 < n → n ≤ 100000 → limit_of (object_of (generated seed n).settings (part_state (generated seed n))) ≡ None
unfolding generated
part_within seed n some most = ap (λ (s : LinkState). limit_of (object_of (plain_settings (codes "gen.o") usual_texts) s)) (state_left seed n most) ∙ limit_free seed n some most

-- the part has no cause
pub part_valid : (seed n : ℕ) → 0 < n → n ≤ 100000 → part_cause (generated seed n) ≡ None
unfolding part_cause
part_valid seed n some most = rw (part_start seed n, part_accepted seed n most, part_finished seed n some most, part_within seed n some most) refl
