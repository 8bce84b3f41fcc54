use Rattle.part_gen.proofs.Valid.{part_start, part_accepted, part_finished, part_valid}
use Rattle.part_gen.proofs.laws.generated_is_valid.Goals as goal

pub returns-clause-start : goal.returns-clause-start
returns-clause-start c seed n some most = part_start seed n

pub returns-clause-accepted : goal.returns-clause-accepted
returns-clause-accepted c seed n some most = part_accepted seed n most

pub returns-clause-finished : goal.returns-clause-finished
returns-clause-finished c seed n some most = part_finished seed n some most

pub returns-clause-valid : goal.returns-clause-valid
returns-clause-valid c seed n some most = part_valid seed n some most
