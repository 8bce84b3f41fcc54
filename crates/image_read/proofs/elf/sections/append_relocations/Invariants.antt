use Rattle.std.proofs.Common.{◌≡◌, map}
use Rattle.image_read.specs.ElfFile.{row_numbers}
use Rattle.image_read.specs.ElfRows.{section_before}
use Rattle.image_read.proofs.elf.sections.append_relocations.Given as goal

abbrev pub invariant-loop-j : goal.invariant-loop-j
invariant-loop-j l = l.sections ≡ map (section_before l.file l.j) (row_numbers l.file)
