-- The names of rows that are read one after the other.
use Rattle.std.proofs.Common.{◌≡◌, ◌≢◌, ℕ, ◌+◌, ◌<◌, ◌≤◌, List, [], ◌∷◌, ◌++◌, length, take, get_or, true, Option, Some, None, is_some, Result, Ok, refl, ap, sym, ◌∙◌, arith, String, Global}
use Rattle.std.proofs.lemmas.List.{take_more, length-take-le}
use Rattle.std.proofs.Math.Seq.{take-length}
use Rattle.std.specs.BTreeMap.{BTreeMap, get_by_text, IsUnchanged}
use Rattle.cranelift_module.specs.declared.declaration_json.cause.JsonCause.{JsonCause}
use Rattle.cranelift_module.specs.declared.declaration_json.cause.JsonCause.TheVariants.{DuplicateName, Allocation}
use Rattle.cranelift_module.specs.declared.identifiers.FuncOrDataId.{FuncOrDataId}
use Rattle.cranelift_module.specs.declared.identifiers.FuncOrDataId.TheVariants.{Func, Data}
use Rattle.cranelift_module.specs.Rows.{FunctionRow, DataRow}
use Rattle.cranelift_module.specs.Declarations.{IsSound, AddsName, HasName}
use Rattle.cranelift_module.specs.DeclarationJson.{IsRepeat}
use Rattle.cranelift_module.proofs.Distinct.{is_declared, declared-function, declared-data, repeat-function_declared, repeat-data_declared, repeat-functions, repeat-objects}
use Rattle.cranelift_module.proofs.Names.{same_entries, found_function, found_data, IsSound-first, IsSound-anonymous, IsSound-data_first, IsSound-data_anonymous}

-- one more row
taken : {A : Type 0} (rows : List A) (i : ℕ) (row : A) → i < length rows → row ≡ get_or rows i row → take (i + 1) rows ≡ take i rows ++ row ∷ []
taken rows i row h e = take_more rows i row h ∙ ap (λ x. take i rows ++ x ∷ []) (sym e)

taken_length : {A : Type 0} (rows : List A) (i : ℕ) → i < length rows → length (take i rows) ≡ i
taken_length rows i h = length-take-le i rows (omega arith)

same_sound : (names names' : BTreeMap (String Global) FuncOrDataId) (functions : List FunctionRow) (objects : List DataRow) → IsUnchanged names names' → IsSound names functions objects → IsSound names' functions objects
same_sound names names' functions objects e h = record { finds = same_entries names names' functions objects e h.finds; few = h.few; few_objects = h.few_objects; distinct = h.distinct }

pub function_step : (names names' : BTreeMap (String Global) FuncOrDataId) (functions : List FunctionRow) (i number : ℕ) (row : FunctionRow) (name : Option (List ℕ))
    → i < length functions → length functions ≤ 4294967295 → row ≡ get_or functions i row → name ≡ row.name → number ≡ i → AddsName names names' name (Func number) → IsSound names (take i functions) [] → IsSound names' (take (i + 1) functions) []
function_step names names' functions i number row None lt few is e same adds h =
    rw (taken functions i row lt is)
    (same_sound names names' (take i functions ++ row ∷ []) [] adds (IsSound-anonymous names (take i functions) [] row (sym e) (rw (taken_length functions i lt) (omega arith)) h))
function_step names names' functions i number row (Some name) lt few is e same (none, found) h =
    let n = taken_length functions i lt in
    let result : Result (List ℕ) ℕ = Ok [] in
    IsSound-first result names names' (take i functions) (take (i + 1) functions) [] name row (sym e) none (rw (n, ← same) found) (taken functions i row lt is) tt tt (rw n (omega arith)) h

pub object_step : (names names' : BTreeMap (String Global) FuncOrDataId) (functions : List FunctionRow) (objects : List DataRow) (i number : ℕ) (row : DataRow) (name : Option (List ℕ))
    → i < length objects → length objects ≤ 4294967295 → row ≡ get_or objects i row → name ≡ row.name → number ≡ i → AddsName names names' name (Data number) → IsSound names functions (take i objects) → IsSound names' functions (take (i + 1) objects)
object_step names names' functions objects i number row None lt few is e same adds h =
    rw (taken objects i row lt is)
    (same_sound names names' functions (take i objects ++ row ∷ []) adds (IsSound-data_anonymous names functions (take i objects) row (sym e) (rw (taken_length objects i lt) (omega arith)) h))
object_step names names' functions objects i number row (Some name) lt few is e same (none, found) h =
    let n = taken_length objects i lt in
    let result : Result (List ℕ) ℕ = Ok [] in
    IsSound-data_first result names names' functions (take i objects) (take (i + 1) objects) name row (sym e) none (rw (n, ← same) found) (taken objects i row lt is) tt tt (rw n (omega arith)) h

-- a name that a map has is declared
found_declared : (names : BTreeMap (String Global) FuncOrDataId) (functions : List FunctionRow) (objects : List DataRow) (name : List ℕ) (o : Option FuncOrDataId) → IsSound names functions objects → get_by_text names name ≡ o → is_some o ≡ true → is_declared name functions objects ≡ true
found_declared names functions objects name None h e s = absurd (cc)
found_declared names functions objects name (Some (Func k)) h e s = declared-function name functions objects k (found_function names functions objects name k h.finds e).here
found_declared names functions objects name (Some (Data k)) h e s = declared-data name functions objects k (found_data names functions objects name k h.finds e).here

pub function_stop : (names : BTreeMap (String Global) FuncOrDataId) (functions : List FunctionRow) (i : ℕ) (row : FunctionRow) (name : Option (List ℕ)) (cause : JsonCause)
    → i < length functions → row ≡ get_or functions i row → name ≡ row.name → (cause ≢ Allocation → (cause ≡ DuplicateName) × HasName names name) → IsSound names (take i functions) [] → IsRepeat cause functions []
function_stop names functions i row None cause lt is e stop h = λ other. absurd ((stop other).1)
function_stop names functions i row (Some name) cause lt is e stop h = λ other. (
  (stop other).0,
  repeat-functions functions [] (i + 1)
      (rw (taken functions i row lt is) (repeat-function_declared (take i functions) [] row name (sym e) (found_declared names (take i functions) [] name _ h refl (stop other).1))),
)

pub object_stop : (names : BTreeMap (String Global) FuncOrDataId) (functions : List FunctionRow) (objects : List DataRow) (i : ℕ) (row : DataRow) (name : Option (List ℕ)) (cause : JsonCause)
    → i < length objects → row ≡ get_or objects i row → name ≡ row.name → (cause ≢ Allocation → (cause ≡ DuplicateName) × HasName names name) → IsSound names functions (take i objects) → IsRepeat cause functions objects
object_stop names functions objects i row None cause lt is e stop h = λ other. absurd ((stop other).1)
object_stop names functions objects i row (Some name) cause lt is e stop h = λ other. (
  (stop other).0,
  repeat-objects functions objects (i + 1)
      (rw (taken objects i row lt is) (repeat-data_declared functions (take i objects) row name (sym e) (found_declared names functions (take i objects) name _ h refl (stop other).1))),
)

-- what the functions repeat alone, they repeat beside the data objects
pub functions_stop : (functions : List FunctionRow) (objects : List DataRow) (cause : JsonCause) → IsRepeat cause functions [] → IsRepeat cause functions objects
functions_stop functions objects cause stop = λ other. ((stop other).0, repeat-functions functions objects (length functions) (rw (take-length functions) (stop other).1))
