use Rattle.image_read.specs.ElfRows.{EachRow}
use Rattle.image_read.specs.MachImage.{IsMachSymbol}
use Rattle.image_read.proofs.mach.symbols.are_symbols.Given as goal

abbrev pub invariant-loop-k : goal.invariant-loop-k
invariant-loop-k l = EachRow (IsMachSymbol l.file) 0 l.k
