-- How much longer the lists of a function are behind an import.
use Rattle.std.proofs.Common.{◌≡◌, ℕ, ◌+◌, ◌≤◌, List, [], ◌∷◌, ◌++◌, false, length, Option, Some, None, arith, length-append}
use Rattle.std.specs.Prelude.{Result, Ok, Err, OnOk, OnErr}
use Rattle.std.specs.List.{position_from}
use Rattle.ir_core.specs.Function.{FunctionLists, appended_to, name_place, is_name}
use Rattle.ir_core.specs.declared.external_name.ExtFuncData.{ExtFuncData}
use Rattle.ir_core.specs.declared.external_name.ExternalName.TheVariants.{User}
use Rattle.ir_core.specs.declared.external_name.UserExternalName.{UserExternalName}
use Rattle.cranelift_module.specs.Imports.{function_imported, user_name}
use Rattle.cranelift_module.specs.Linkage.{requires_definition}
use Rattle.cranelift_module.specs.Rows.{FunctionRow}

-- each list that an import of a function appends to has at most one more entry
record IsLonger (old new : FunctionLists) : Type 0 where
  pub names : length new.user_named_funcs ≤ length old.user_named_funcs + 1
  pub signatures : length new.signatures ≤ length old.signatures + 1
  pub functions : length new.ext_funcs ≤ length old.ext_funcs + 1

one_longer : {A : Type 0} (xs : List A) (x : A) → length (xs ++ x ∷ []) ≤ length xs + 1
one_longer xs x = omega (arith, length-append xs (x ∷ []))

name_longer : (name : UserExternalName) (names : List UserExternalName) (place : Option ℕ) → length (appended_to name names place) ≤ length names + 1
name_longer name names None = one_longer names name
name_longer name names (Some place) = omega arith

abbrev called : FunctionRow → ℕ → FunctionLists → ExtFuncData
called row id old = record { name = User (name_place (user_name 0 id) old.user_named_funcs); signature = length old.signatures; colocated = requires_definition row.linkage; patchable = false }

imported_longer : (row : Option FunctionRow) (id : ℕ) (old : FunctionLists) → IsLonger old (function_imported row id old)
imported_longer None id old = record { names = omega arith; signatures = omega arith; functions = omega arith }
imported_longer (Some row) id old =
    record {
      names = name_longer (user_name 0 id) old.user_named_funcs (position_from (is_name (user_name 0 id)) 0 old.user_named_funcs);
      signatures = one_longer old.signatures row.signature;
      functions = one_longer old.ext_funcs (called row id old);
    }

import_longer : {A E : Type 0} (result : Result A E) (row : Option FunctionRow) (id : ℕ) (old new : FunctionLists) → OnOk result (new ≡ function_imported row id old) → OnErr result (new ≡ old) → IsLonger old new
import_longer (Ok a) row id old new made kept = rw made (imported_longer row id old)
import_longer (Err e) row id old new made kept = rw kept (record { names = omega arith; signatures = omega arith; functions = omega arith })

pub import_names : {A E : Type 0} (result : Result A E) (row : Option FunctionRow) (id : ℕ) (old new : FunctionLists) → OnOk result (new ≡ function_imported row id old) → OnErr result (new ≡ old) → length new.user_named_funcs ≤ length old.user_named_funcs + 1
import_names result row id old new made kept = let h : IsLonger old new = import_longer result row id old new made kept in h.names

pub import_signatures : {A E : Type 0} (result : Result A E) (row : Option FunctionRow) (id : ℕ) (old new : FunctionLists) → OnOk result (new ≡ function_imported row id old) → OnErr result (new ≡ old) → length new.signatures ≤ length old.signatures + 1
import_signatures result row id old new made kept = let h : IsLonger old new = import_longer result row id old new made kept in h.signatures

pub import_functions : {A E : Type 0} (result : Result A E) (row : Option FunctionRow) (id : ℕ) (old new : FunctionLists) → OnOk result (new ≡ function_imported row id old) → OnErr result (new ≡ old) → length new.ext_funcs ≤ length old.ext_funcs + 1
import_functions result row id old new made kept = let h : IsLonger old new = import_longer result row id old new made kept in h.functions
