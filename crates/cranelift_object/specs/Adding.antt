-- The object of a module while the symbols of what relocations add are added.
use Rattle.std.specs.Prelude.{◌≡◌, ◌<◌, List, ◌++◌, map, length, slice_get, Some}
use Rattle.object_core.specs.Object.{ObjectData}
use Rattle.cranelift_module.specs.declared.identifiers.FuncOrDataId.{FuncOrDataId}
use Rattle.cranelift_module.specs.LinkState.{LinkState}
use Rattle.cranelift_object.specs.Settings.{Settings}
use Rattle.cranelift_object.specs.Placing.{placed}
use Rattle.cranelift_object.specs.Linked.{identifier_symbol, extra_symbol}
use Rattle.cranelift_object.specs.Kept.{IsDeclared}
use Rattle.cranelift_object.specs.Product.{symbol_number}
use Rattle.cranelift_object.specs.Extras.{extra_target}
use Rattle.cranelift_object.specs.declared.extras.Extra.{Extra}
use Rattle.cranelift_object.specs.declared.extras.Extra.TheVariants.{Library, Known, Label}

-- each declared identifier has its symbol, with its definition's place
abbrev pub HasIdentifiers : Settings → LinkState → ObjectData → Type 0
HasIdentifiers settings s o = (id : FuncOrDataId) → IsDeclared (length s.functions) (length s.objects) id → slice_get o.symbols (symbol_number s id) ≡ Some (identifier_symbol s (placed settings s) id)

-- the function of a label is declared
abbrev pub IsOfFunction : LinkState → Extra → Type 0
IsOfFunction s (Library place) = Unit {0}
IsOfFunction s (Known symbol) = Unit {0}
IsOfFunction s (Label function offset) = function < length s.functions

-- an object with the symbols of what relocations add behind the others
abbrev pub with_added : Settings → LinkState → ObjectData → List Extra → ObjectData
with_added settings s o extras = record o { symbols = o.symbols ++ map (λ e. extra_symbol (placed settings s) (extra_target settings e)) extras }
