use Rattle.cranelift_object.proofs.ShownMachLaws.{mach_file_read, mach_file_linkages}
use Rattle.cranelift_object.proofs.laws.mach_file_laws.Goals as goal

pub returns-clause-read : goal.returns-clause-read
returns-clause-read c = mach_file_read

pub returns-clause-linkages : goal.returns-clause-linkages
returns-clause-linkages c = mach_file_linkages
