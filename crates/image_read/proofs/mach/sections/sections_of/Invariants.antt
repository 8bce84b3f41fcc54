use Rattle.std.proofs.Common.{◌≡◌, map}
use Rattle.std.specs.List.{range_with_len}
use Rattle.image_read.specs.MachImage.{mach_section_data}
use Rattle.image_read.proofs.mach.sections.sections_of.Given as goal

abbrev pub invariant-loop-k : goal.invariant-loop-k
invariant-loop-k l = l.sections.items ≡ map (mach_section_data l.file) (range_with_len 0 l.k)
