use Rattle.std.proofs.Common.{◌≡◌, map, take}
use Rattle.image_read.specs.MachViews.{mach_relocation_of}
use Rattle.image_view.specs.View.{mach_view_reloc}
use Rattle.image_view.proofs.mach.relocations.Given as goal

abbrev pub invariant-loop-row : goal.invariant-loop-row
invariant-loop-row l = l.relocations.items ≡ map (mach_view_reloc l.contents) (map mach_relocation_of (take l.row-index l.rows))
