use Rattle.std.proofs.Common.{◌≡◌, ℕ, ◌+◌, ◌<◌, ◌≤◌, Some, slice_get}
use Rattle.object_core.specs.declared.relocation.Relocation.{Relocation}
use Rattle.object_core.specs.WellFormed.{mach_width}
use Rattle.object_core.specs.Checking.{IsApartOfEarlier}
use Rattle.object_core.proofs.well_formed.are_ascending.Given as goal

-- the fields so far are apart, and none ends behind the last one
abbrev pub invariant-loop-relocation : goal.invariant-loop-relocation
invariant-loop-relocation l = record {
  apart : (n : ℕ) → n < l.relocation-index → IsApartOfEarlier l.relocations n;
  end : (k : ℕ) (r : Relocation) → k < l.relocation-index → slice_get l.relocations k ≡ Some r → r.offset + mach_width r.flags ≤ l.end;
}
