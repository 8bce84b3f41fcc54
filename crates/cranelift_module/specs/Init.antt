-- How data begins.
use Rattle.std.specs.Prelude.{ℕ, ℤ, nat_lt, Bool, false, ◌&&◌, Option, Some, None, [], length}
use Rattle.std.specs.List.{list_all}
use Rattle.cranelift_module.specs.declared.data_context.Init.{Init}
use Rattle.cranelift_module.specs.declared.data_context.Init.TheVariants.{Uninitialized, Zeros, Bytes}
use Rattle.cranelift_module.specs.Call.{Contents, bytes, zeros, Description}

-- what is said of the contents, if anything
abbrev pub init_view : Init → Option Contents
init_view Uninitialized = None
init_view (Zeros size) = Some (zeros size)
init_view (Bytes contents) = Some (bytes contents.items)

-- a description that says nothing
abbrev pub no_description : Description
no_description = record { contents = None; function_decls = []; data_decls = []; function_relocs = []; data_relocs = []; section = None; align = None; used = false }

-- the address of a function that is written refers to one of so many imports
abbrev pub is_function_within : ℕ → ℕ × ℕ → Bool
is_function_within count a = nat_lt a.1 count

-- the address of a data object that is written refers to one of so many imports
abbrev pub is_value_within : ℕ → ℕ × ℕ × ℤ → Bool
is_value_within count a = nat_lt a.1 count

-- each reference of a description lies in the list of what it imports
abbrev pub are_in_range : Description → Bool
are_in_range d = list_all (is_function_within (length d.function_decls)) d.function_relocs && list_all (is_value_within (length d.data_decls)) d.data_relocs
