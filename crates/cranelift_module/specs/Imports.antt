-- What a function or a data description that imports a declared identifier gets.
use Rattle.std.specs.Prelude.{ℕ, pos, Bool, false, [], ◌∷◌, ◌++◌, length, Option, Some, None}
use Rattle.ir_core.specs.Function.{FunctionLists, with_name, name_place}
use Rattle.ir_core.specs.declared.external_name.UserExternalName.{UserExternalName}
use Rattle.ir_core.specs.declared.external_name.ExternalName.TheVariants.{User}
use Rattle.ir_core.specs.Signature.{SignatureData}
use Rattle.cranelift_module.specs.Linkage.{requires_definition}
use Rattle.cranelift_module.specs.Rows.{FunctionRow, DataRow}

-- a name that a user gives
abbrev pub user_name : ℕ → ℕ → UserExternalName
user_name namespace index = record { namespace = namespace; index = index }

-- the lists with a user name where it is not there yet, a signature, and the call under both
abbrev pub with_call : UserExternalName → SignatureData → Bool → FunctionLists → FunctionLists
with_call name signature colocated lists =
    record lists {
      user_named_funcs = with_name name lists.user_named_funcs;
      signatures = lists.signatures ++ signature ∷ [];
      ext_funcs = lists.ext_funcs ++ record { name = User (name_place name lists.user_named_funcs); signature = length lists.signatures; colocated = colocated; patchable = false } ∷ [];
    }

-- the lists with a user name where it is not there yet, and the value at offset 0 under it
abbrev pub with_value : UserExternalName → Bool → Bool → FunctionLists → FunctionLists
with_value name colocated tls lists =
    record lists {
      user_named_funcs = with_name name lists.user_named_funcs;
      global_values = lists.global_values ++ record { name = User (name_place name lists.user_named_funcs); offset = pos 0; colocated = colocated; tls = tls } ∷ [];
    }

-- The lists of a function that imports a declared function: the signature, the user name of namespace 0
-- where it is not there yet, and the call, which is colocated where a definition here is final.
abbrev pub function_imported : Option FunctionRow → ℕ → FunctionLists → FunctionLists
function_imported None id lists = lists
function_imported (Some row) id lists = with_call (user_name 0 id) row.signature (requires_definition row.linkage) lists

-- The lists of a function that imports a declared data object: the user name of namespace 1 where it is not
-- there yet, and the value at offset 0, colocated likewise.
abbrev pub data_imported : Option DataRow → ℕ → FunctionLists → FunctionLists
data_imported None id lists = lists
data_imported (Some row) id lists = with_value (user_name 1 id) (requires_definition row.linkage) row.tls lists
