-- References of a description that lie in range.
use Rattle.std.proofs.Common.{◌≡◌, ◌&&◌, Bool, true, false, length, refl}
use Rattle.std.specs.List.{list_all}
use Rattle.cranelift_module.specs.Call.{Description}
use Rattle.cranelift_module.specs.Init.{is_function_within, is_value_within, are_in_range}

both_left : (a b : Bool) → (a && b) ≡ true → a ≡ true
both_left true b h = refl
both_left false b h = absurd (cc)

both_right : (a b : Bool) → (a && b) ≡ true → b ≡ true
both_right true b h = h
both_right false b h = absurd (cc)

pub functions_within : (d : Description) → are_in_range d ≡ true → list_all (is_function_within (length d.function_decls)) d.function_relocs ≡ true
functions_within d h = both_left (list_all (is_function_within (length d.function_decls)) d.function_relocs) _ h

pub values_within : (d : Description) → are_in_range d ≡ true → list_all (is_value_within (length d.data_decls)) d.data_relocs ≡ true
values_within d h = both_right (list_all (is_function_within (length d.function_decls)) d.function_relocs) _ h
