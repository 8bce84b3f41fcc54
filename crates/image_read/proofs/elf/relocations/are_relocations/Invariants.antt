use Rattle.image_read.specs.ElfRows.{EachRow, AreSoundRelocations}
use Rattle.image_read.proofs.elf.relocations.are_relocations.Given as goal

abbrev pub invariant-loop-k : goal.invariant-loop-k
invariant-loop-k l = EachRow (AreSoundRelocations l.file) 1 l.k
