use Rattle.std.proofs.Common.{◌≡◌, ◌+◌, take, length}
use Rattle.object_elf.specs.PartView.{relocation_parts_from, StandBehind}
use Rattle.object_elf.proofs.plan_check.end_of_relocations.Given as goal

-- the relocations so far start at these places, and the next has this number
abbrev pub invariant-loop-k : goal.invariant-loop-k
invariant-loop-k l = record {
  parts : StandBehind l.places (length l.object.sections + 1) l.end l.next (relocation_parts_from l.link 1 (take l.k l.object.sections));
  number : l.number ≡ length l.object.sections + 1 + length (relocation_parts_from l.link 1 (take l.k l.object.sections));
}
