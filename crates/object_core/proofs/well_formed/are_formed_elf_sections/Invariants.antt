use Rattle.std.proofs.Common.{ℕ, ◌<◌}
use Rattle.object_core.specs.Checking.{At, IsFormedElfSection}
use Rattle.object_core.proofs.well_formed.are_formed_elf_sections.Given as goal

-- the sections so far are formed
abbrev pub invariant-loop-number : goal.invariant-loop-number
invariant-loop-number l = (k : ℕ) → k < l.number → At (IsFormedElfSection l.object) l.object.sections k
