use Rattle.goblin_reloc_names.proofs.NameLaws.{names_are_distinct, known_is_told, each_row_is_told}
use Rattle.goblin_reloc_names.proofs.laws.name_laws.Goals as goal

pub returns-clause-distinct : goal.returns-clause-distinct
returns-clause-distinct c = names_are_distinct

pub returns-clause-told : goal.returns-clause-told
returns-clause-told c = known_is_told

pub returns-clause-each : goal.returns-clause-each
returns-clause-each c = each_row_is_told
