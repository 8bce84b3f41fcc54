-- The link states that generated calls leave, number by number.
use Rattle.std.proofs.Common.{◌≡◌, ℕ, zero, suc, ◌+◌, ◌*◌, ◌%◌, ◌^◌, ◌<◌, ◌≤◌, ◌==◌, pos, List, [], ◌∷◌, ◌++◌, false, Some, None, refl, ap, sym, ◌∙◌, arith, map, length, replicate, slice_get, nat_lt, append_assoc}
use Rattle.std.proofs.lemmas.List.{length-replicate}
use Rattle.std.specs.List.{range_with_len, list_any, position_from, flat_map}
use Rattle.std.proofs.lemmas.List.Folds.{list_any-append}
use Rattle.std.proofs.lemmas.List.Concat.{flat_map-append}
use Rattle.std.proofs.lemmas.List.FromFn.{length-map-range_with_len, map-range_with_len_more}
use Rattle.std.proofs.lemmas.Bool.Decides.{nat_tests}
use Rattle.ir_core.specs.declared.reloc.Reloc.TheVariants.{Abs8}
use Rattle.cranelift_module.specs.declared.linkage.Linkage.TheVariants.{Export, Local}
use Rattle.cranelift_module.specs.declared.identifiers.FuncOrDataId.{FuncOrDataId}
use Rattle.cranelift_module.specs.declared.identifiers.FuncOrDataId.TheVariants.{Func, Data}
use Rattle.cranelift_module.specs.declared.reloc.ModuleReloc.{ModuleReloc}
use Rattle.cranelift_module.specs.declared.reloc.ModuleRelocTarget.TheVariants.{User}
use Rattle.cranelift_module.specs.Call.{bytes}
use Rattle.cranelift_module.specs.Rows.{FunctionRow, DataRow}
use Rattle.cranelift_module.specs.Definitions.{Definition}
use Rattle.cranelift_module.specs.LinkState.{LinkState, step, is_function_named, is_data_named, raised_function, raised_data}
use Rattle.cranelift_module.specs.Refusal.{refusal, bad_reloc, is_same_identifier}
use Rattle.cranelift_module.proofs.Places.{with_first-new, find-none, any-none}
use Rattle.part_gen.specs.Draws.{draw}
use Rattle.part_gen.specs.Generated.{elf_target, function_name, data_name, default_signature, function_declared, data_declared, distance_to, function_defined, data_defined}
use Rattle.part_gen.proofs.Names.{function_clean, data_clean, functions_apart, objects_apart}
use Rattle.part_gen.proofs.Runs.{IsStep}

-- -- declarations

abbrev pub function_row : ℕ → FunctionRow
function_row k = record { name = Some (function_name k); linkage = Export; signature = default_signature }

abbrev pub data_row : ℕ → DataRow
data_row k = record { name = Some (data_name k); linkage = Local; writable = false; tls = false }

abbrev pub function_rows : ℕ → List FunctionRow
function_rows n = map function_row (range_with_len 0 n)

abbrev pub data_rows : ℕ → List DataRow
data_rows n = map data_row (range_with_len 0 n)

-- the identifiers of the first n numbers
abbrev pub identifiers : ℕ → List FuncOrDataId
identifiers n = flat_map (λ k. Func k ∷ Data k ∷ []) (range_with_len 0 n)

-- the first n numbers are declared
unfoldable pub declared : ℕ → LinkState
declared n = record { target = elf_target; functions = function_rows n; objects = data_rows n; created = identifiers n; definitions = [] }

-- and the function of the next number
unfoldable pub half_declared : ℕ → LinkState
half_declared n = record { target = elf_target; functions = function_rows (n + 1); objects = data_rows n; created = identifiers n ++ Func n ∷ []; definitions = [] }

no_such_function : (k a n j : ℕ) → a + n ≤ k → k < 2 ^ 64 → position_from (is_function_named (function_name k)) j (map function_row (range_with_len a n)) ≡ None
no_such_function k a zero j below h = refl
no_such_function k a (suc n) j below h =
    rw (functions_apart a k (omega arith) h) (no_such_function k (a + 1) n (j + 1) (omega arith) h)

no_such_object : (k a n j : ℕ) → a + n ≤ k → k < 2 ^ 64 → position_from (is_data_named (data_name k)) j (map data_row (range_with_len a n)) ≡ None
no_such_object k a zero j below h = refl
no_such_object k a (suc n) j below h =
    rw (objects_apart a k (omega arith) h) (no_such_object k (a + 1) n (j + 1) (omega arith) h)

no_object_so : (k a n : ℕ) → list_any (is_data_named (function_name k)) (map data_row (range_with_len a n)) ≡ false
no_object_so k a zero = refl
no_object_so k a (suc n) = no_object_so k (a + 1) n

no_function_so : (k a n : ℕ) → list_any (is_function_named (data_name k)) (map function_row (range_with_len a n)) ≡ false
no_function_so k a zero = refl
no_function_so k a (suc n) = no_function_so k (a + 1) n

pub function_step : (k : ℕ) → k < 2 ^ 64 → IsStep (declared k) (function_declared k) (half_declared k)
unfolding refusal step declared half_declared
function_step k h =
    let none = no_such_function k 0 k 0 (omega arith) h in
    let rows = with_first-new (is_function_named (function_name k)) (raised_function Export) (function_row k) (function_rows k) none ∙ sym (map-range_with_len_more function_row 0 k k (omega arith)) in
    record {
      free = rw (function_clean k h, no_object_so k 0 k, find-none (is_function_named (function_name k)) (function_rows k) none) refl;
      made = rw (rows, any-none (is_function_named (function_name k)) (function_rows k) none, length-map-range_with_len function_row 0 k) refl;
    }

pub numbers_more : (a n : ℕ) → range_with_len a (suc n) ≡ range_with_len a n ++ (a + n) ∷ []
numbers_more a zero = let e : a + 0 ≡ a = omega arith in rw e refl
numbers_more a (suc n) =
    let e : a + suc n ≡ a + 1 + n = omega arith in
    ap (λ ks. a ∷ ks) (numbers_more (a + 1) n) ∙ (rw e refl)

-- one more number's pair
pub pairs_more : {A : Type 0} (f g : ℕ → A) (n : ℕ) → (flat_map (λ k. f k ∷ g k ∷ []) (range_with_len 0 n) ++ f n ∷ []) ++ g n ∷ [] ≡ flat_map (λ k. f k ∷ g k ∷ []) (range_with_len 0 (n + 1))
pairs_more f g n =
    let e : 0 + n ≡ n = omega arith in
    let more : n + 1 ≡ suc n = omega arith in
    append_assoc (flat_map (λ k. f k ∷ g k ∷ []) (range_with_len 0 n)) (f n ∷ []) (g n ∷ [])
    ∙ sym (flat_map-append (λ k. f k ∷ g k ∷ []) (range_with_len 0 n) (n ∷ []))
    ∙ ap (flat_map (λ k. f k ∷ g k ∷ [])) (sym (ap (range_with_len 0) more ∙ numbers_more 0 n ∙ ap (λ k. range_with_len 0 n ++ k ∷ []) e))

pub data_step : (k : ℕ) → k < 2 ^ 64 → IsStep (half_declared k) (data_declared k) (declared (k + 1))
unfolding refusal step declared half_declared
data_step k h =
    let none = no_such_object k 0 k 0 (omega arith) h in
    let rows = with_first-new (is_data_named (data_name k)) (raised_data Local false) (data_row k) (data_rows k) none ∙ sym (map-range_with_len_more data_row 0 k k (omega arith)) in
    record {
      free = rw (data_clean k h, no_function_so k 0 (k + 1), find-none (is_data_named (data_name k)) (data_rows k) none) refl;
      made = rw (rows, any-none (is_data_named (data_name k)) (data_rows k) none, length-map-range_with_len data_row 0 k, pairs_more Func Data k) refl;
    }

-- -- definitions

abbrev pub function_definition : ℕ → ℕ → ℕ → Definition
function_definition k size object =
    record {
      identifier = Func k;
      contents = bytes (replicate size 0x90);
      align = 16;
      relocs = distance_to object ∷ [];
      section = None;
      used = false;
      writable = false;
    }

abbrev pub address_of : ℕ → ModuleReloc
address_of function = record { offset = 0; kind = Abs8; name = User 0 function; addend = pos 0 }

abbrev pub data_definition : ℕ → ℕ → ℕ → Definition
data_definition k byte function =
    record {
      identifier = Data k;
      contents = bytes (replicate 16 byte);
      align = 8;
      relocs = address_of function ∷ [];
      section = None;
      used = false;
      writable = false;
    }

-- the definitions of number k
abbrev pub first_of_number : ℕ → ℕ → ℕ → Definition
first_of_number seed n k = function_definition k (16 + draw seed (4 * k) % 16) (draw seed (4 * k + 1) % n)

abbrev pub second_of_number : ℕ → ℕ → ℕ → Definition
second_of_number seed n k = data_definition k (draw seed (4 * k + 2) % 256) (draw seed (4 * k + 3) % n)

abbrev pub definitions_among : ℕ → ℕ → List ℕ → List Definition
definitions_among seed n ks = flat_map (λ k. first_of_number seed n k ∷ second_of_number seed n k ∷ []) ks

-- all n numbers are declared, and the first k of them are defined
unfoldable pub defined : ℕ → ℕ → ℕ → LinkState
defined seed n k = record { target = elf_target; functions = function_rows n; objects = data_rows n; created = identifiers n; definitions = definitions_among seed n (range_with_len 0 k) }

-- and the function of the next number
unfoldable pub half_defined : ℕ → ℕ → ℕ → LinkState
half_defined seed n k =
    record { target = elf_target; functions = function_rows n; objects = data_rows n; created = identifiers n; definitions = definitions_among seed n (range_with_len 0 k) ++ first_of_number seed n k ∷ [] }

pub none_defined : (seed n : ℕ) → declared n ≡ defined seed n 0
unfolding declared defined
none_defined seed n = refl

pub numbered_at : {A : Type 0} (f : ℕ → A) (a n k : ℕ) → k < n → slice_get (map f (range_with_len a n)) k ≡ Some (f (a + k))
numbered_at f a zero k h = absurd (omega arith)
numbered_at f a (suc n) zero h = let e : a + 0 ≡ a = omega arith in rw e refl
numbered_at f a (suc n) (suc k) h =
    let e : a + suc k ≡ a + 1 + k = omega arith in
    rw e (numbered_at f (a + 1) n k (omega arith))

pub row_there : {A : Type 0} (f : ℕ → A) (n k : ℕ) → k < n → slice_get (map f (range_with_len 0 n)) k ≡ Some (f k)
row_there f n k h = let e : 0 + k ≡ k = omega arith in numbered_at f 0 n k h ∙ ap (λ i. Some (f i)) e

function_undefined : (seed n k a count : ℕ) → a + count ≤ k → list_any (λ (d : Definition). is_same_identifier (Func k) d.identifier) (definitions_among seed n (range_with_len a count)) ≡ false
function_undefined seed n k a zero h = refl
function_undefined seed n k a (suc count) h =
    let apart : (k == a) ≡ false = grind (arith, nat_tests) in
    rw apart (function_undefined seed n k (a + 1) count (omega arith))

data_undefined : (seed n k a count : ℕ) → a + count ≤ k → list_any (λ (d : Definition). is_same_identifier (Data k) d.identifier) (definitions_among seed n (range_with_len a count)) ≡ false
data_undefined seed n k a zero h = refl
data_undefined seed n k a (suc count) h =
    let apart : (k == a) ≡ false = grind (arith, nat_tests) in
    rw apart (data_undefined seed n k (a + 1) count (omega arith))

reloc_fits : (size object : ℕ) → 16 ≤ size → bad_reloc elf_target (bytes (replicate size 0x90)) (distance_to object ∷ []) ≡ None
reloc_fits size object h =
    let fits : nat_lt (length {A = ℕ} (replicate size 0x90)) 5 ≡ false = rw length-replicate (grind (arith, nat_tests)) in
    rw fits refl

pub function_defined_step : (seed n k : ℕ) → k < n → IsStep (defined seed n k) (function_defined k (16 + draw seed (4 * k) % 16) (draw seed (4 * k + 1) % n)) (half_defined seed n k)
unfolding refusal step defined half_defined lib.Count.ones
function_defined_step seed n k h =
    record {
      free = rw (row_there function_row n k h, function_undefined seed n k 0 k (omega arith), reloc_fits (16 + draw seed (4 * k) % 16) (draw seed (4 * k + 1) % n) (omega arith)) refl;
      made = refl;
    }

pub data_defined_step : (seed n k : ℕ) → k < n → IsStep (half_defined seed n k) (data_defined k (draw seed (4 * k + 2) % 256) (draw seed (4 * k + 3) % n)) (defined seed n (k + 1))
unfolding refusal step defined half_defined lib.Count.ones
data_defined_step seed n k h =
    let before : list_any (λ (d : Definition). is_same_identifier (Data k) d.identifier) (definitions_among seed n (range_with_len 0 k) ++ first_of_number seed n k ∷ []) ≡ false =
    rw (list_any-append (λ (d : Definition). is_same_identifier (Data k) d.identifier) (definitions_among seed n (range_with_len 0 k)) (first_of_number seed n k ∷ []), data_undefined seed n k 0 k (omega arith)) refl in
    record {
      free = rw (row_there data_row n k h, before) refl;
      made = rw (row_there data_row n k h, pairs_more (first_of_number seed n) (second_of_number seed n) k) refl;
    }
