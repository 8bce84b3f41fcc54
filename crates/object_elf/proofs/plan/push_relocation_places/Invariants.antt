use Rattle.std.proofs.Common.{take}
use Rattle.object_elf.specs.PartView.{relocation_parts_from, PushesPlaces}
use Rattle.object_elf.proofs.plan.push_relocation_places.Given as goal

-- the places of the relocations so far
abbrev pub invariant-loop-k : goal.invariant-loop-k
invariant-loop-k l = PushesPlaces l.fn.places.items l.places.items l.end l.next (relocation_parts_from l.link 1 (take l.k l.object.sections))
