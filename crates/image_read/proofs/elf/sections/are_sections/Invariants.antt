use Rattle.image_read.specs.ElfImage.{IsSection}
use Rattle.image_read.specs.ElfRows.{EachRow}
use Rattle.image_read.proofs.elf.sections.are_sections.Given as goal

abbrev pub invariant-loop-k : goal.invariant-loop-k
invariant-loop-k l = EachRow (IsSection l.file) 1 l.k
