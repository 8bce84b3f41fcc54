use Rattle.std.proofs.Common.{◌≡◌, ◌-◌, map}
use Rattle.std.specs.List.{range_with_len}
use Rattle.image_read.specs.ElfRows.{section_before}
use Rattle.image_read.proofs.elf.sections.bare_sections.Given as goal

abbrev pub invariant-loop-k : goal.invariant-loop-k
invariant-loop-k l = l.sections.items ≡ map (section_before l.file 1) (range_with_len 1 (l.k - 1))
