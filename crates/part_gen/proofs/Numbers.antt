-- Calls by number, and draws in a row.
use Rattle.std.proofs.Common.{◌≡◌, ℕ, zero, suc, ◌+◌, ◌*◌, ◌-◌, ◌<◌, ◌≤◌, ◌%◌, ◌/◌, List, [], ◌∷◌, ◌++◌, refl, ap, sym, ◌∙◌, arith, add-one, append_assoc, append-nil, length, length-append, map}
use Rattle.std.proofs.lemmas.List.{map-append}
use Rattle.std.specs.List.{range_with_len, flat_map}
use Rattle.std.specs.Prelude.{codes}
use Rattle.ir_core.specs.Target.{Target}
use Rattle.ir_core.specs.declared.target.Triple.{Triple}
use Rattle.cranelift_module.specs.Call.{Call}
use Rattle.cranelift_module.specs.LibraryNames.{usual_texts}
use Rattle.cranelift_object.specs.Settings.{plain_settings}
use Rattle.cranelift_object.specs.Part.{PartData}
use Rattle.cranelift_object.specs.declared.command.Command.{Command}
use Rattle.cranelift_object.specs.Command.{command_view}
use Rattle.part_gen.specs.Draws.{next, number_after, draw}
use Rattle.part_gen.specs.Generated.{target_triple, elf_target, calls_of, function_declared, data_declared, declarations_at, function_defined, data_defined, definitions_at, generated}

numbers_next : (k n : ℕ) → k < n → range_with_len k (n - k) ≡ k ∷ range_with_len (k + 1) (n - (k + 1))
numbers_next k n h =
    let more : n - k ≡ suc (n - (k + 1)) = omega arith in
    rw more refl

-- one more number's calls are pushed
pub pushed_next : (f : ℕ → List Call) (k n : ℕ) (before now all : List Call) → k < n → before ++ flat_map f (range_with_len k (n - k)) ≡ all → now ≡ before ++ f k → now ++ flat_map f (range_with_len (k + 1) (n - (k + 1))) ≡ all
pushed_next f k n before now all h left e =
    ap (λ calls. calls ++ flat_map f (range_with_len (k + 1) (n - (k + 1)))) e
    ∙ append_assoc before (f k) (flat_map f (range_with_len (k + 1) (n - (k + 1))))
    ∙ ap (λ numbers. before ++ flat_map f numbers) (sym (numbers_next k n h))
    ∙ left

-- behind the last number no calls are left
pub pushed_all : (f : ℕ → List Call) (k n : ℕ) (now all : List Call) → n ≤ k → now ++ flat_map f (range_with_len k (n - k)) ≡ all → now ≡ all
pushed_all f k n now all h left =
    let none : n - k ≡ 0 = omega arith in
    sym (append-nil now) ∙ (rw none at left)

-- one more draw
number_next : (seed count x y : ℕ) → x ≡ number_after seed count → y ≡ next x → y ≡ number_after seed (count + 1)
unfolding number_after
number_next seed count x y here e = e ∙ ap next here ∙ (rw add-one refl)

draw_is : (seed count x r : ℕ) → x ≡ number_after seed count → r ≡ next x / 65536 → r ≡ draw seed count
draw_is seed count x r here e = e ∙ ap (λ n. next n / 65536) here

-- four numbers in a row, and what the draws between them give
pub record AreDraws (x0 x1 x2 x3 x4 r0 r1 r2 r3 : ℕ) : Type 0 where
  pub second : x1 ≡ next x0
  pub third : x2 ≡ next x1
  pub fourth : x3 ≡ next x2
  pub fifth : x4 ≡ next x3
  pub draw0 : r0 ≡ next x0 / 65536
  pub draw1 : r1 ≡ next x1 / 65536
  pub draw2 : r2 ≡ next x2 / 65536
  pub draw3 : r3 ≡ next x3 / 65536

-- the number behind four more draws
pub four_drawn : (seed count x0 x1 x2 x3 x4 r0 r1 r2 r3 : ℕ) → AreDraws x0 x1 x2 x3 x4 r0 r1 r2 r3 → x0 ≡ number_after seed count → x4 ≡ number_after seed (count + 4)
four_drawn seed count x0 x1 x2 x3 x4 r0 r1 r2 r3 h here =
    let one = number_next seed count x0 x1 here h.second in
    let two = number_next seed (count + 1) x1 x2 one h.third in
    let three = number_next seed (count + 1 + 1) x2 x3 two h.fourth in
    let four = number_next seed (count + 1 + 1 + 1) x3 x4 three h.fifth in
    let place : count + 1 + 1 + 1 + 1 ≡ count + 4 = omega arith in
    four ∙ ap (number_after seed) place

-- the definitions of number k by its four draws
pub definitions_drawn : (seed n k x0 x1 x2 x3 x4 r0 r1 r2 r3 : ℕ) → AreDraws x0 x1 x2 x3 x4 r0 r1 r2 r3 → x0 ≡ number_after seed (4 * k)
    → function_defined k (16 + r0 % 16) (r1 % n) ∷ data_defined k (r2 % 256) (r3 % n) ∷ [] ≡ definitions_at seed n k
definitions_drawn seed n k x0 x1 x2 x3 x4 r0 r1 r2 r3 h here =
    let one = number_next seed (4 * k) x0 x1 here h.second in
    let two = number_next seed (4 * k + 1) x1 x2 one h.third in
    let three = number_next seed (4 * k + 1 + 1) x2 x3 two h.fourth in
    let second : 4 * k + 1 + 1 ≡ 4 * k + 2 = omega arith in
    let third : 4 * k + 1 + 1 + 1 ≡ 4 * k + 3 = omega arith in
    let size = draw_is seed (4 * k) x0 r0 here h.draw0 in
    let object = draw_is seed (4 * k + 1) x1 r1 one h.draw1 in
    let byte = draw_is seed (4 * k + 2) x2 r2 (two ∙ ap (number_after seed) second) h.draw2 in
    let function = draw_is seed (4 * k + 3) x3 r3 (three ∙ ap (number_after seed) third) h.draw3 in
    ap (λ x. function_defined k (16 + x % 16) (r1 % n) ∷ data_defined k (r2 % 256) (r3 % n) ∷ []) size
    ∙ ap (λ x. function_defined k (16 + draw seed (4 * k) % 16) (x % n) ∷ data_defined k (r2 % 256) (r3 % n) ∷ []) object
    ∙ ap (λ x. function_defined k (16 + draw seed (4 * k) % 16) (draw seed (4 * k + 1) % n) ∷ data_defined k (x % 256) (r3 % n) ∷ []) byte
    ∙ ap (λ x. function_defined k (16 + draw seed (4 * k) % 16) (draw seed (4 * k + 1) % n) ∷ data_defined k (draw seed (4 * k + 2) % 256) (x % n) ∷ []) function

-- two commands are pushed
pub two_pushed : (before middle after : List Command) (f d : Command) (a b : Call) → middle ≡ before ++ f ∷ [] → after ≡ middle ++ d ∷ [] → command_view f ≡ a → command_view d ≡ b
    → map command_view after ≡ map command_view before ++ a ∷ b ∷ []
two_pushed before middle after f d a b first second is_a is_b =
    ap (map command_view) second
    ∙ map-append command_view middle (d ∷ [])
    ∙ ap (λ calls. calls ++ command_view d ∷ []) (ap (map command_view) first ∙ map-append command_view before (f ∷ []))
    ∙ append_assoc (map command_view before) (command_view f ∷ []) (command_view d ∷ [])
    ∙ ap (λ c. map command_view before ++ c ∷ command_view d ∷ []) is_a
    ∙ ap (λ c. map command_view before ++ a ∷ c ∷ []) is_b

-- each number has two calls
two_each : (f g : ℕ → Call) (a n : ℕ) → length (flat_map (λ k. f k ∷ g k ∷ []) (range_with_len a n)) ≡ 2 * n
two_each f g a zero = refl
two_each f g a (suc n) = let later = two_each f g (a + 1) n in omega arith

-- a part has four calls for each number
pub call_count : (seed n : ℕ) → length (generated seed n).calls ≡ 4 * n
unfolding generated
call_count seed n =
    let declarations = two_each function_declared data_declared 0 n in
    let definitions = two_each (λ k. function_defined k (16 + draw seed (4 * k) % 16) (draw seed (4 * k + 1) % n)) (λ k. data_defined k (draw seed (4 * k + 2) % 256) (draw seed (4 * k + 3) % n)) 0 n in
    omega (arith, length-append (flat_map declarations_at (range_with_len 0 n)) (flat_map (definitions_at seed n) (range_with_len 0 n)))

-- all commands are pushed
pub calls_pushed : (seed n : ℕ) (empty first all : List Command) → empty ≡ [] → map command_view first ≡ map command_view empty ++ flat_map declarations_at (range_with_len 0 n)
    → map command_view all ≡ map command_view first ++ flat_map (definitions_at seed n) (range_with_len 0 n) → map command_view all ≡ calls_of seed n
calls_pushed seed n empty first all none declarations definitions = rw (definitions, declarations, none) refl

pub target_is : (target : Target) (triple : Triple) → target ≡ record { triple = triple; flags = [] } → triple ≡ target_triple → target ≡ elf_target
target_is target triple of_triple e = rw (of_triple, e) refl

-- the part with these calls
pub part_is : (seed n : ℕ) (part now : PartData) (names : List (List ℕ)) (target : Target) (calls : List Call) → now ≡ record part { calls = calls } → part ≡ record { settings = plain_settings (codes "gen.o") names; target = target; calls = [] }
    → names ≡ usual_texts → target ≡ elf_target → calls ≡ calls_of seed n → now ≡ generated seed n
unfolding generated
part_is seed n part now names target calls set new usual elf all = rw (set, new, usual, elf, all) refl
