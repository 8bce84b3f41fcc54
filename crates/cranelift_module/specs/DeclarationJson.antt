-- The declarations of a module as a JSON value: what stands for them, and what a value is read as.
use Rattle.std.specs.Prelude.{◌≡◌, ◌≢◌, ℕ, true, false, List, codes, if◌then◌else◌, Option, is_some, Result, Ok, Err}
use Rattle.std.specs.Option.{ok_or}
use Rattle.std.specs.Str.{bytes_eq}
use Rattle.serde_json.specs.Data.{Data, string, object, no_members, member}
use Rattle.serde_json.specs.Find.{get, as_str, as_array, as_object}
use Rattle.cranelift_module.specs.declared.declaration_json.cause.JsonCause.{JsonCause}
use Rattle.cranelift_module.specs.declared.declaration_json.cause.JsonCause.TheVariants.{MissingKey, WrongShape, OtherVersion, DuplicateName, Allocation}
use Rattle.cranelift_module.specs.Rows.{FunctionRow, DataRow}
use Rattle.cranelift_module.specs.Declarations.{DeclarationLists, has_repeat, names_of}
use Rattle.json_form.specs.Form.{each_of}
use Rattle.json_form.specs.Written.{list_value}
use Rattle.cranelift_module.specs.DeclarationForm.{function_value, object_value, function_of, object_of}

-- the text under `_version_marker`
abbrev pub version_text : List ℕ
version_text = codes "0.137.1"

-- the value that stands for declarations
unfoldable pub value_of : DeclarationLists → Data
value_of d =
    object (
    member (codes "_version_marker") (string version_text) (
    member (codes "data_objects") (list_value object_value d.objects) (
    member (codes "functions") (list_value function_value d.functions) no_members)))

infixl 10 ◌>>=◌
abbrev pub ◌>>=◌ : {A B : Type 0} → Result A JsonCause → (A → Result B JsonCause) → Result B JsonCause
(Err cause) >>= f = Err cause
(Ok x) >>= f = f x

-- the value under a key, which has to be there
abbrev pub required : List ℕ → Data → Result Data JsonCause
required key d = ok_or (get key d) MissingKey

-- the marker is a text, and the text is of this version
unfoldable pub version_of : Data → Result (List ℕ) JsonCause
version_of d = do
  marker ← required (codes "_version_marker") d
  text ← ok_or (as_str marker) WrongShape
  if bytes_eq text version_text then Ok text else Err OtherVersion

-- the values of the list under a key, each of them read
unfoldable pub rows_at : {A : Type 0} → List ℕ → (Data → Option A) → Data → Result (List A) JsonCause
rows_at key read d = do
  rows ← required key d
  ds ← ok_or (as_array rows) WrongShape
  ok_or (each_of read ds) WrongShape

-- no name stands twice among functions and data objects
abbrev pub lists_of : List FunctionRow → List DataRow → Result DeclarationLists JsonCause
lists_of functions objects = if has_repeat (names_of functions objects) then Err DuplicateName else Ok (record { functions = functions; objects = objects })

abbrev pub with_object : {A : Type 0} → Data → Result A JsonCause → Result A JsonCause
with_object d form = if is_some (as_object d) then form else Err WrongShape

-- The declarations that a value is read as, or the first cause why it is read as none: its kind, the
-- version, the functions, the data objects, and a name that stands twice. Other keys are passed over.
unfoldable pub from_json : Data → Result DeclarationLists JsonCause
from_json d = with_object d do
  version ← version_of d
  functions ← rows_at (codes "functions") function_of d
  objects ← rows_at (codes "data_objects") object_of d
  lists_of functions objects

-- an answer is what was read, seen by view, or the cause; memory may run out instead
abbrev pub Reads : {X Y : Type 0} → (X → Y) → Result X JsonCause → Result Y JsonCause → Type 0
Reads view (Ok x) form = form ≡ Ok (view x)
Reads view (Err cause) form = cause ≢ Allocation → form ≡ Err cause

-- the cause is a name that stands twice, unless memory ran out
abbrev pub IsRepeat : JsonCause → List FunctionRow → List DataRow → Type 0
IsRepeat cause functions objects = cause ≢ Allocation → (cause ≡ DuplicateName) × (has_repeat (names_of functions objects) ≡ true)

-- what is written of declarations without a repeated name is read as these declarations
abbrev pub ReadsBack : Type 0
ReadsBack = (d : DeclarationLists) → has_repeat (names_of d.functions d.objects) ≡ false → from_json (value_of d) ≡ Ok d
