use Rattle.image_read.specs.ElfRows.{EachRow}
use Rattle.image_read.specs.MachRows.{IsSoundMachSection}
use Rattle.image_read.proofs.mach.sections.are_sections.Given as goal

abbrev pub invariant-loop-k : goal.invariant-loop-k
invariant-loop-k l = EachRow (IsSoundMachSection l.file) 0 l.k
