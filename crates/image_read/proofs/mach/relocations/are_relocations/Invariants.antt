use Rattle.image_read.specs.ElfRows.{EachRow}
use Rattle.image_read.specs.MachRows.{IsSoundRecord}
use Rattle.image_read.proofs.mach.relocations.are_relocations.Given as goal

abbrev pub invariant-loop-m : goal.invariant-loop-m
invariant-loop-m l = EachRow (IsSoundRecord l.file l.row.reloff) 0 l.m
