use Rattle.std.proofs.Common.{map, take}
use Rattle.object_elf.specs.PartView.{content_part_of, StandBehind}
use Rattle.object_elf.proofs.plan_check.end_of_contents.Given as goal

-- the sections so far start at these places
abbrev pub invariant-loop-k : goal.invariant-loop-k
invariant-loop-k l = StandBehind l.places 0 64 l.next (map content_part_of (take l.k l.object.sections))
