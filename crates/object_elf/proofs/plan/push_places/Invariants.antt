use Rattle.std.proofs.Common.{map, take}
use Rattle.object_elf.specs.PartView.{part_view, PushesPlaces}
use Rattle.object_elf.proofs.plan.push_places.Given as goal

-- the places of the parts so far
abbrev pub invariant-loop-part : goal.invariant-loop-part
invariant-loop-part l = PushesPlaces l.fn.places.items l.places.items l.end l.next (map part_view (take l.part-index l.parts))
