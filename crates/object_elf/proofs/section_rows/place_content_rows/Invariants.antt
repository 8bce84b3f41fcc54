use Rattle.std.proofs.Common.{map, take}
use Rattle.object_elf.specs.PartView.{content_part_of, PlacesRows}
use Rattle.object_elf.proofs.section_rows.place_content_rows.Given as goal

-- the headers of the sections so far were written
abbrev pub invariant-loop-k : goal.invariant-loop-k
invariant-loop-k l = PlacesRows l.places 0 l.fn.out l.out l.fn.next l.row (map content_part_of (take l.k l.object.sections))
