use Rattle.std.proofs.Common.{◌≡◌, map, take}
use Rattle.image_view.specs.View.{elf_view_section}
use Rattle.image_view.proofs.elf.sections_of.Given as goal

abbrev pub invariant-loop-row : goal.invariant-loop-row
invariant-loop-row l = l.sections.items ≡ map elf_view_section (take l.row-index l.rows)
