use Rattle.std.proofs.Common.{◌∙◌}
use Rattle.image_read.proofs.MachBuilding.{image_is}
use Rattle.image_read.proofs.mach.read.image_of.Goals as goal

pub returns : goal.returns
returns c = c.new.ensures ∙ image_is _ _ _ _ c.build_version_of-build_version.ensures c.in_ok-sections.ensures c.in_ok-symbols.ensures
