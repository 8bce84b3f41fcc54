use Rattle.std.proofs.Common.{map, take}
use Rattle.object_elf.specs.PartView.{part_view, PlacesRows}
use Rattle.object_elf.proofs.section_rows.place_part_rows.Given as goal

-- the headers of the parts so far were written
abbrev pub invariant-loop-k : goal.invariant-loop-k
invariant-loop-k l = PlacesRows l.places l.number l.fn.out l.out l.fn.next (record { at = l.at; name = l.name }) (map part_view (take l.k l.parts))
