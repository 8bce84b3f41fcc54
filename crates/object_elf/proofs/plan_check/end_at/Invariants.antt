use Rattle.std.proofs.Common.{map, take}
use Rattle.object_elf.specs.PartView.{part_view, StandBehind}
use Rattle.object_elf.proofs.plan_check.end_at.Given as goal

-- the parts so far start at these places
abbrev pub invariant-loop-k : goal.invariant-loop-k
invariant-loop-k l = StandBehind l.places l.number l.end l.next (map part_view (take l.k l.parts))
