use Rattle.goblin_mach.proofs.TableLaws.{entries_by_place, error_is_last, all_are_items}
use Rattle.goblin_mach.proofs.laws.table_laws.Goals as goal

pub returns-clause-entries : goal.returns-clause-entries
returns-clause-entries c = entries_by_place

pub returns-clause-error : goal.returns-clause-error
returns-clause-error c = error_is_last

pub returns-clause-all : goal.returns-clause-all
returns-clause-all c = all_are_items
