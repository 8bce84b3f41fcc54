use Rattle.image_read.specs.ElfRows.{EachRow}
use Rattle.image_read.specs.FatRows.{IsSoundSlice}
use Rattle.image_read.proofs.fat.read.are_slices.Given as goal

abbrev pub invariant-loop-k : goal.invariant-loop-k
invariant-loop-k l = EachRow (IsSoundSlice l.file) 0 l.k
