-- What a contract sees of the declarations, and how a map finds the names among them.
use Rattle.std.specs.Prelude.{◌≡◌, ℕ, ◌+◌, ◌≤◌, length, Bool, true, false, ◌||◌, bytes_eq, List, [], ◌∷◌, ◌++◌, filter_map, Option, Some, None, option_map, is_some, String, string_bytes, string_cmp}
use Rattle.std.specs.Global.{Global}
use Rattle.std.specs.List.{list_any, position_from}
use Rattle.std.specs.Option.{option_or}
use Rattle.std.specs.BTreeMap.{BTreeMap, get_by_text, IsUnchanged, Updates}
use Rattle.cranelift_module.specs.declared.identifiers.FuncOrDataId.{FuncOrDataId}
use Rattle.cranelift_module.specs.declared.identifiers.FuncOrDataId.TheVariants.{Func, Data}
pub use Rattle.ir_core.specs.Changes.{changed_at}
use Rattle.cranelift_module.specs.Rows.{FunctionRow, DataRow}
use Rattle.cranelift_module.specs.LinkState.{is_function_named, is_data_named}

-- the declared functions and data objects; the place in its list is the number of an identifier
pub record DeclarationLists : Type 0 where
  pub functions : List FunctionRow
  pub objects : List DataRow

-- the identifier that is declared under a name
abbrev pub declared_under : DeclarationLists → List ℕ → Option FuncOrDataId
declared_under d name = option_or (option_map (λ n. Func n) (position_from (is_function_named name) 0 d.functions)) (option_map (λ n. Data n) (position_from (is_data_named name) 0 d.objects))

-- the number of a function that was found
abbrev pub function_found : Option FuncOrDataId → Option ℕ
function_found (Some (Func n)) = Some n
function_found _ = None

-- the number of a data object that was found
abbrev pub data_found : Option FuncOrDataId → Option ℕ
data_found (Some (Data n)) = Some n
data_found _ = None

-- a map finds each name where it stands in the lists
pub record FindsNames (names : BTreeMap (String Global) FuncOrDataId) (functions : List FunctionRow) (objects : List DataRow) : Type 0 where
  pub at_function : (name : List ℕ) → function_found (get_by_text names name) ≡ position_from (is_function_named name) 0 functions
  pub at_data : (name : List ℕ) → data_found (get_by_text names name) ≡ position_from (is_data_named name) 0 objects

-- a map gets one more name, if there is one, which it didn't have
abbrev pub AddsName : BTreeMap (String Global) FuncOrDataId → BTreeMap (String Global) FuncOrDataId → Option (List ℕ) → FuncOrDataId → Type 0
AddsName old new None id = IsUnchanged old new
AddsName old new (Some name) id = (get_by_text old name ≡ None) × ((text : String Global) × (string_bytes text ≡ name) × Updates string_cmp old new text (Some id))

-- there is a name, and the map has it
abbrev pub HasName : BTreeMap (String Global) FuncOrDataId → Option (List ℕ) → Type 0
HasName names None = ⊥
HasName names (Some name) = is_some (get_by_text names name) ≡ true

-- a text stands twice in the list
abbrev pub has_repeat : List (List ℕ) → Bool
has_repeat [] = false
has_repeat (x ∷ xs) = list_any (bytes_eq x) xs || has_repeat xs

-- all names, those of the functions first
abbrev pub names_of : List FunctionRow → List DataRow → List (List ℕ)
names_of functions objects = filter_map (λ row. row.name) functions ++ filter_map (λ row. row.name) objects

-- what stands of the declarations at every moment: names are found, an identifier is below 2^32 - 1, and
-- no name stands twice
pub record IsSound (names : BTreeMap (String Global) FuncOrDataId) (functions : List FunctionRow) (objects : List DataRow) : Type 0 where
  pub finds : FindsNames names functions objects
  pub few : length functions ≤ 4294967295
  pub few_objects : length objects ≤ 4294967295
  pub distinct : has_repeat (names_of functions objects) ≡ false

-- some rows with their numbers, from this number on
abbrev pub numbered : {A : Type 0} → ℕ → List A → List (ℕ × A)
numbered n [] = []
numbered n (row ∷ rows) = (n, row) ∷ numbered (n + 1) rows
