-- One more value stands behind those before it.
use Rattle.std.proofs.Common.{◌≡◌, ℕ, Bool, List, [], ◌∷◌, ◌++◌, Option, Some, None, refl}
use Rattle.ir_core.specs.Target.{Target}
use Rattle.objtool_run.specs.TargetForm.{IsFlagged}
use Rattle.objtool_run.specs.DefinitionForm.{IsAppended}

-- what was read and appended
pub appended : {A : Type 0} (old new : List A) (o : Option A) → IsAppended old new o → (x : A) × (o ≡ Some x) × (new ≡ old ++ x ∷ [])
appended old new None h = absurd h
appended old new (Some x) h = (x, refl, h)

-- the flag that was read and pushed
pub flagged : (old new : Target) (o : Option (List ℕ × Option Bool)) → IsFlagged old new o → (flag : List ℕ × Option Bool) × (o ≡ Some flag) × (new ≡ record old { flags = old.flags ++ flag ∷ [] })
flagged old new None h = absurd h
flagged old new (Some flag) h = (flag, refl, h)
