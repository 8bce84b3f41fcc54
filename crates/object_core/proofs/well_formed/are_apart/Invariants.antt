use Rattle.std.proofs.Common.{ℕ, ◌<◌}
use Rattle.object_core.specs.Checking.{IsApartOfEarlier}
use Rattle.object_core.proofs.well_formed.are_apart.Given as goal

-- the fields so far are apart
abbrev pub invariant-loop-number : goal.invariant-loop-number
invariant-loop-number l = (n : ℕ) → n < l.number → IsApartOfEarlier l.relocations n
