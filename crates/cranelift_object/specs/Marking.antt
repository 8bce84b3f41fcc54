-- On the way to the symbols of all identifiers.
use Rattle.std.specs.Prelude.{ℕ, Bool, List, [], ◌∷◌, map, take}
use Rattle.object_core.specs.Object.{ObjectData}
use Rattle.object_core.specs.Appending.{file_symbol}
use Rattle.cranelift_module.specs.declared.identifiers.FuncOrDataId.{FuncOrDataId}
use Rattle.cranelift_module.specs.declared.identifiers.FuncOrDataId.TheVariants.{Func, Data}
use Rattle.cranelift_module.specs.LinkState.{LinkState}
use Rattle.cranelift_object.specs.Opened.{OpenModule}
use Rattle.cranelift_object.specs.Linked.{identifier_symbol}
use Rattle.cranelift_object.specs.Product.{begun_object, function_mark, data_mark}

-- the object with the symbols of the first identifiers
abbrev pub with_symbols : OpenModule → ℕ → ObjectData
with_symbols o k = record (begun_object o.settings o.state) { symbols = file_symbol o.settings.file_name ∷ map (identifier_symbol o.state []) (take k o.state.created) }

-- the numbers of the functions among some identifiers
abbrev pub functions_in : List FuncOrDataId → List ℕ
functions_in [] = []
functions_in (Func k ∷ ids) = k ∷ functions_in ids
functions_in (Data k ∷ ids) = functions_in ids

-- the numbers of the data objects among some identifiers
abbrev pub data_in : List FuncOrDataId → List ℕ
data_in [] = []
data_in (Func k ∷ ids) = data_in ids
data_in (Data k ∷ ids) = k ∷ data_in ids

-- the marks of the functions among some identifiers
unfoldable pub marks_of_functions : LinkState → List FuncOrDataId → List (ℕ × Bool)
marks_of_functions s ids = map (function_mark s) (functions_in ids)

-- the marks of the data objects among some identifiers
unfoldable pub marks_of_objects : LinkState → List FuncOrDataId → List (ℕ × Bool)
marks_of_objects s ids = map (data_mark s) (data_in ids)
