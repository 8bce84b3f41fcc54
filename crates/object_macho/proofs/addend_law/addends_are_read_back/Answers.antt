use Rattle.object_macho.proofs.AddendLaws.{addends_back, sections_keep}
use Rattle.object_macho.proofs.addend_law.addends_are_read_back.Goals as goal

pub returns-clause-back : goal.returns-clause-back
returns-clause-back c = addends_back

pub returns-clause-kept : goal.returns-clause-kept
returns-clause-kept c = sections_keep
