use Rattle.cranelift_object.proofs.ShownMachLaws.{mach_linkages_shown}
use Rattle.cranelift_object.proofs.laws.mach_linkage_laws.Goals as goal

pub returns : goal.returns
returns c = record { shown = mach_linkages_shown }
