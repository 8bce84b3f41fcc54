use Rattle.std.proofs.Common.{◌≡◌, map}
use Rattle.std.specs.List.{range_with_len}
use Rattle.image_read.specs.MachRows.{record_at}
use Rattle.image_read.specs.MachViews.{mach_relocation_of}
use Rattle.image_read.proofs.mach.relocations.relocations_of.Given as goal

abbrev pub invariant-loop-m : goal.invariant-loop-m
invariant-loop-m l = map mach_relocation_of l.relocations.items ≡ map (record_at l.file l.row.reloff) (range_with_len 0 l.m)
