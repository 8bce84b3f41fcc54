use Rattle.std.proofs.Common.{◌≡◌, ℕ, ◌<◌, length}
use Rattle.object_core.specs.declared.relocation.Relocation.{Relocation}
use Rattle.object_core.specs.Object.{SectionData}
use Rattle.object_core.specs.WellFormed.{IsFormedMachRelocation}
use Rattle.object_core.specs.Checking.{At, IsNarrow}
use Rattle.object_core.proofs.well_formed.are_formed_mach_relocations.Given as goal

-- the relocations so far are formed, and their fields are narrow
abbrev pub invariant-loop-relocation : goal.invariant-loop-relocation
invariant-loop-relocation l = record {
  formed : (s : SectionData) → length s.contents ≡ l.size → (k : ℕ) → k < l.relocation-index → At (IsFormedMachRelocation l.object s) l.relocation-items k;
  narrow : (k : ℕ) → k < l.relocation-index → At (λ (r : Relocation). IsNarrow r.flags) l.relocation-items k;
}
