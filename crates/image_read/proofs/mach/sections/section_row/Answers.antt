use Rattle.std.proofs.Common.{arith}
use Rattle.image_read.proofs.MachInside.{section_inside}
use Rattle.image_read.proofs.mach.sections.section_row.Goals as goal

pub section_place-requires : goal.section_place-requires
section_place-requires c = omega (arith, section_inside _ _ c.args.k c.requires.table c.requires.row)
