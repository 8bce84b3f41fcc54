use Rattle.std.proofs.Common.{◌≡◌, ℕ, ◌<◌, length}
use Rattle.object_core.specs.Object.{SectionData}
use Rattle.object_core.specs.WellFormed.{IsFormedRelocation}
use Rattle.object_core.specs.Checking.{At}
use Rattle.object_core.proofs.well_formed.are_formed_relocations.Given as goal

-- the relocations so far are formed
abbrev pub invariant-loop-relocation : goal.invariant-loop-relocation
invariant-loop-relocation l = (s : SectionData) → length s.contents ≡ l.size → (k : ℕ) → k < l.relocation-index → At (IsFormedRelocation l.object s) l.relocation-items k
