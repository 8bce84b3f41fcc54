use Rattle.std.proofs.Common.{ℕ, ◌<◌}
use Rattle.object_core.specs.WellFormed.{IsFormedMachSection}
use Rattle.object_core.specs.Checking.{At}
use Rattle.object_core.proofs.well_formed.are_formed_mach_sections.Given as goal

-- the sections so far are formed
abbrev pub invariant-loop-number : goal.invariant-loop-number
invariant-loop-number l = (k : ℕ) → k < l.number → At (IsFormedMachSection l.object) l.object.sections k
