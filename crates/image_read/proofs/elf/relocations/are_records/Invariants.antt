use Rattle.image_read.specs.ElfRows.{EachRow, NamesSymbol}
use Rattle.image_read.proofs.elf.relocations.are_records.Given as goal

abbrev pub invariant-loop-m : goal.invariant-loop-m
invariant-loop-m l = EachRow (NamesSymbol l.file l.k) 0 l.m
