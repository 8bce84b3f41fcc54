use Rattle.cranelift_object.proofs.ShownLaws.{file_read, file_linkages}
use Rattle.cranelift_object.proofs.laws.file_laws.Goals as goal

pub returns-clause-read : goal.returns-clause-read
returns-clause-read c = file_read

pub returns-clause-linkages : goal.returns-clause-linkages
returns-clause-linkages c = file_linkages
