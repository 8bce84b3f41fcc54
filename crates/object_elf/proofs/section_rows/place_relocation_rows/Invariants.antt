use Rattle.std.proofs.Common.{◌≡◌, ◌+◌, take, length}
use Rattle.object_elf.specs.PartView.{relocation_parts_from, PlacesRows}
use Rattle.object_elf.proofs.section_rows.place_relocation_rows.Given as goal

-- the headers of the relocations so far were written, and the next has this number
abbrev pub invariant-loop-k : goal.invariant-loop-k
invariant-loop-k l = record {
  rows : PlacesRows l.places (length l.object.sections + 1) l.fn.out l.out l.fn.next l.row (relocation_parts_from l.link 1 (take l.k l.object.sections));
  number : l.number ≡ length l.object.sections + 1 + length (relocation_parts_from l.link 1 (take l.k l.object.sections));
}
