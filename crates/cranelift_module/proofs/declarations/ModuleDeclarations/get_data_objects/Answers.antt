use Rattle.cranelift_module.proofs.Names.{length-numbered}
use Rattle.cranelift_module.proofs.declarations.ModuleDeclarations.get_data_objects.Goals as goal

pub returns-clause-bound : goal.returns-clause-bound
returns-clause-bound c = rw (c.new.ensures, length-numbered, c.deref.ensures.value) c.self.invariant.few_objects
