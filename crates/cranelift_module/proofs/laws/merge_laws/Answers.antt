use Rattle.cranelift_module.proofs.LinkageLaws.{merge-assoc, merge-comm, merge-idem}
use Rattle.cranelift_module.proofs.laws.merge_laws.Goals as goal

pub returns-clause-associates : goal.returns-clause-associates
returns-clause-associates c = merge-assoc

pub returns-clause-commutes : goal.returns-clause-commutes
returns-clause-commutes c = merge-comm

pub returns-clause-repeats : goal.returns-clause-repeats
returns-clause-repeats c = merge-idem
