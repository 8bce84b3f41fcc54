use Rattle.cranelift_object.proofs.ImportLaws.{import_names, import_signatures, import_functions}
use Rattle.file_tests.proofs.module_tests.import.Goals as goal

pub returns-clause-names : goal.returns-clause-names
returns-clause-names c = import_names _ _ c.args.id _ _ c.declare_func_in_func.ensures.ok c.declare_func_in_func.ensures.kept

pub returns-clause-signatures : goal.returns-clause-signatures
returns-clause-signatures c = import_signatures _ _ c.args.id _ _ c.declare_func_in_func.ensures.ok c.declare_func_in_func.ensures.kept

pub returns-clause-functions : goal.returns-clause-functions
returns-clause-functions c = import_functions _ _ c.args.id _ _ c.declare_func_in_func.ensures.ok c.declare_func_in_func.ensures.kept
