-- The calls that commands stand for.
use Rattle.std.specs.Prelude.{◌≡◌, ℕ, ◌+◌, Bool, true, false, List, [], ◌∷◌, Option, Some, None, option_map, IfSome}
use Rattle.cranelift_module.specs.Call.{Call, declare_function, declare_anonymous_function, declare_data, declare_anonymous_data}
use Rattle.std.specs.Option.{option_or}
use Rattle.cranelift_module.specs.declared.error.ModuleError.{ModuleError}
use Rattle.cranelift_module.specs.LinkState.{LinkState, step}
use Rattle.cranelift_module.specs.Refusal.{Refusal, refusal, refusal_told}
pub use Rattle.cranelift_object.specs.Command.{command_view}

-- the call declares a function
abbrev pub makes_function : Call → Bool
makes_function (declare_function name linkage signature) = true
makes_function (declare_anonymous_function signature) = true
makes_function _ = false

-- the call declares a data object
abbrev pub makes_data : Call → Bool
makes_data (declare_data name linkage writable tls) = true
makes_data (declare_anonymous_data writable tls) = true
makes_data _ = false

-- the first call that is refused behind those before it, with its number from j on
unfoldable pub first_refusal : LinkState → ℕ → List Call → Option (ℕ × Refusal)
first_refusal s j [] = None
first_refusal s j (c ∷ cs) = option_or (option_map (λ r. (j, r)) (refusal s c)) (first_refusal (step s c) (j + 1) cs)

-- the number and the error tell this refusal, or memory ran out
abbrev pub TellsAt : ℕ → ModuleError → Option (ℕ × Refusal) → Type 0
TellsAt j e first = IfSome (refusal_told e) (λ r. first ≡ Some (j, r))
