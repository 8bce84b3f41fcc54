use Rattle.std.proofs.Common.{◌≡◌, ℕ, ◌<◌, Some, slice_get}
use Rattle.object_core.specs.declared.relocation.Relocation.{Relocation}
use Rattle.object_core.specs.WellFormed.{AreApart}
use Rattle.object_core.proofs.well_formed.is_apart_of_earlier.Given as goal

-- the last field is apart of those so far
abbrev pub invariant-loop-earlier : goal.invariant-loop-earlier
invariant-loop-earlier l = (k : ℕ) (r : Relocation) → k < l.earlier → slice_get l.relocations k ≡ Some r → AreApart r l.last
