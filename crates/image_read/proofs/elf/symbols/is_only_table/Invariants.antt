use Rattle.image_read.specs.ElfRows.{EachRow, IsTableOnlyAt}
use Rattle.image_read.proofs.elf.symbols.is_only_table.Given as goal

abbrev pub invariant-loop-j : goal.invariant-loop-j
invariant-loop-j l = EachRow (IsTableOnlyAt l.file l.k) 1 l.j
