-- What a function imports.
use Rattle.std.specs.Vec.{vec_len, vec_capacity}
use Rattle.std.specs.Prelude.{ℕ, ◌+◌, ◌<◌, ◌≤◌, ◌-◌, ◌==◌, ◌&&◌, max, Bool, List, [], ◌∷◌, ◌++◌, length, Option, Some, None, unwrap_or}
use Rattle.std.specs.List.{position_from}
use Rattle.ir_core.specs.declared.function.Function.TheInside.{Inside}
use Rattle.ir_core.specs.Signature.{SignatureData}
use Rattle.ir_core.specs.declared.external_name.UserExternalName.{UserExternalName}
use Rattle.ir_core.specs.declared.external_name.ExtFuncData.{ExtFuncData}
use Rattle.ir_core.specs.declared.external_name.GlobalValueData.{GlobalValueData}

-- the four lists; the place in its list is the number of an entry
pub record FunctionLists : Type 0 where
  pub user_named_funcs : List UserExternalName
  pub signatures : List SignatureData
  pub ext_funcs : List ExtFuncData
  pub global_values : List GlobalValueData

-- how many more appends to each list are sure to find room
pub record FunctionRoom : Type 0 where
  pub user_named_funcs : ℕ
  pub signatures : ℕ
  pub ext_funcs : ℕ
  pub global_values : ℕ

pub record FunctionData : Type 0 where
  pub lists : FunctionLists
  pub room : FunctionRoom

abbrev pub function_view : Inside → FunctionData
function_view f =
    record {
      lists =
          record {
            user_named_funcs = f.user_named_funcs.items;
            signatures = f.signatures.items;
            ext_funcs = f.ext_funcs.items;
            global_values = f.global_values.items;
          };
      room =
          record {
            user_named_funcs = f.room_for_names;
            signatures = f.room_for_signatures;
            ext_funcs = f.room_for_functions;
            global_values = f.room_for_values;
          };
    }

-- the memory of each list has space for the entries and for as many more as there is room for
abbrev pub HasCapacity : Inside → Type 0
HasCapacity f =
    (vec_len f.user_named_funcs + f.room_for_names ≤ vec_capacity f.user_named_funcs)
    × (vec_len f.signatures + f.room_for_signatures ≤ vec_capacity f.signatures)
    × (vec_len f.ext_funcs + f.room_for_functions ≤ vec_capacity f.ext_funcs)
    × (vec_len f.global_values + f.room_for_values ≤ vec_capacity f.global_values)

-- a function that imports nothing, and has no room yet
abbrev pub empty_function : FunctionData
empty_function =
    record {
      lists = record { user_named_funcs = []; signatures = []; ext_funcs = []; global_values = [] };
      room = record { user_named_funcs = 0; signatures = 0; ext_funcs = 0; global_values = 0 };
    }

-- each list has room for one more entry
pub record HasRoom (room : FunctionRoom) : Type 0 where
  pub for_name : 0 < room.user_named_funcs
  pub for_signature : 0 < room.signatures
  pub for_function : 0 < room.ext_funcs
  pub for_value : 0 < room.global_values

abbrev pub is_name : UserExternalName → UserExternalName → Bool
is_name name other = other.namespace == name.namespace && other.index == name.index

-- the names with this one behind them, unless it is among them
abbrev pub appended_to : UserExternalName → List UserExternalName → Option ℕ → List UserExternalName
appended_to name names None = names ++ name ∷ []
appended_to name names (Some place) = names

abbrev pub with_name : UserExternalName → List UserExternalName → List UserExternalName
with_name name names = appended_to name names (position_from (is_name name) 0 names)

-- the place of a name, or the next place
abbrev pub name_place : UserExternalName → List UserExternalName → ℕ
name_place name names = unwrap_or (position_from (is_name name) 0 names) (length names)

-- the room beside the names after a name was declared: one less where it was appended
abbrev pub room_behind : Option ℕ → ℕ → ℕ
room_behind None room = room - 1
room_behind (Some place) room = room

abbrev pub room_after : UserExternalName → List UserExternalName → ℕ → ℕ
room_after name names room = room_behind (position_from (is_name name) 0 names) room

-- the function after a name was declared
abbrev pub after_name : FunctionData → UserExternalName → FunctionData
after_name f name =
    record {
      lists = record f.lists { user_named_funcs = with_name name f.lists.user_named_funcs };
      room = record f.room { user_named_funcs = room_after name f.lists.user_named_funcs f.room.user_named_funcs };
    }

-- the function after a signature was appended, and its room lowered by one
abbrev pub after_signature : FunctionData → SignatureData → FunctionData
after_signature f signature =
    record {
      lists = record f.lists { signatures = f.lists.signatures ++ signature ∷ [] };
      room = record f.room { signatures = f.room.signatures - 1 };
    }

-- the function after a called function was appended
abbrev pub after_function : FunctionData → ExtFuncData → FunctionData
after_function f callee =
    record {
      lists = record f.lists { ext_funcs = f.lists.ext_funcs ++ callee ∷ [] };
      room = record f.room { ext_funcs = f.room.ext_funcs - 1 };
    }

-- the function after a global value was appended
abbrev pub after_value : FunctionData → GlobalValueData → FunctionData
after_value f value =
    record {
      lists = record f.lists { global_values = f.lists.global_values ++ value ∷ [] };
      room = record f.room { global_values = f.room.global_values - 1 };
    }

-- the function with room for one more entry in each list
abbrev pub with_room : FunctionData → FunctionData
with_room f =
    record f {
      room =
          record {
            user_named_funcs = max f.room.user_named_funcs 1;
            signatures = max f.room.signatures 1;
            ext_funcs = max f.room.ext_funcs 1;
            global_values = max f.room.global_values 1;
          };
    }
