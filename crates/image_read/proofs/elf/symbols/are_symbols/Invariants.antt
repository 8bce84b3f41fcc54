use Rattle.image_read.specs.ElfImage.{IsSymbol}
use Rattle.image_read.specs.ElfRows.{EachRow}
use Rattle.image_read.proofs.elf.symbols.are_symbols.Given as goal

abbrev pub invariant-loop-m : goal.invariant-loop-m
invariant-loop-m l = EachRow (IsSymbol l.file l.table.number) 1 l.m
