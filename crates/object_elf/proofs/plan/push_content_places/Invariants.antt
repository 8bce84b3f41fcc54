use Rattle.std.proofs.Common.{map, take}
use Rattle.object_elf.specs.PartView.{content_part_of, PushesPlaces}
use Rattle.object_elf.proofs.plan.push_content_places.Given as goal

-- the places of the sections so far
abbrev pub invariant-loop-k : goal.invariant-loop-k
invariant-loop-k l = PushesPlaces l.fn.places.items l.places.items l.end l.next (map content_part_of (take l.k l.object.sections))
