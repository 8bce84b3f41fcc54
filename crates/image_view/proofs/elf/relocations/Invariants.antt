use Rattle.std.proofs.Common.{◌≡◌, map, take}
use Rattle.image_read.specs.Views.{relocation_of}
use Rattle.image_view.specs.View.{elf_view_reloc}
use Rattle.image_view.proofs.elf.relocations.Given as goal

abbrev pub invariant-loop-row : goal.invariant-loop-row
invariant-loop-row l = l.relocations.items ≡ map elf_view_reloc (map relocation_of (take l.row-index l.rows))
