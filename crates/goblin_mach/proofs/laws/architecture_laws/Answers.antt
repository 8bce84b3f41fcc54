use Rattle.goblin_mach.proofs.NameLaws.{names_are_rows, pairs_are_rows, names_lead_back}
use Rattle.goblin_mach.proofs.laws.architecture_laws.Goals as goal

pub returns-clause-names : goal.returns-clause-names
returns-clause-names c = names_are_rows

pub returns-clause-pairs : goal.returns-clause-pairs
returns-clause-pairs c = pairs_are_rows

pub returns-clause-back : goal.returns-clause-back
returns-clause-back c = names_lead_back
