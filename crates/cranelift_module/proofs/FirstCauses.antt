-- Refusals of calls that are judged in steps.
use Rattle.std.proofs.Common.{◌≡◌, Option, Some, None, IfSome, ap}
use Rattle.std.specs.Option.{option_or}
use Rattle.cranelift_module.specs.declared.error.ModuleError.{ModuleError}
use Rattle.cranelift_module.specs.Refusal.{Refusal, refusal_told, Tells}

or_told : (told first later : Option Refusal) → IfSome told (λ r. first ≡ Some r) → IfSome told (λ r. option_or first later ≡ Some r)
or_told None first later h = tt
or_told (Some r) first later h = ap (λ o. option_or o later) h

-- what tells the first cause tells the first of it and later ones
pub tells_first : (e : ModuleError) (first later : Option Refusal) → Tells e first → Tells e (option_or first later)
tells_first e first later h = or_told (refusal_told e) first later h
