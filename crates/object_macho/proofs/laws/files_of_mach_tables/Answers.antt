use Rattle.object_macho.proofs.OfBytes.{held_image}
use Rattle.object_macho.proofs.Uniqueness.{one_file}
use Rattle.object_macho.proofs.laws.files_of_mach_tables.Goals as goal

pub returns-clause-file : goal.returns-clause-file
returns-clause-file c = one_file

pub returns-clause-image : goal.returns-clause-image
returns-clause-image c = held_image
