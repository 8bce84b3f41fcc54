use Rattle.cranelift_module.specs.LinkState.{state_of}
use Rattle.cranelift_module.proofs.RowOrder.{function_any_order, data_any_order}
use Rattle.cranelift_module.proofs.laws.order_laws.Goals as goal

pub returns-clause-functions : goal.returns-clause-functions
unfolding state_of
returns-clause-functions c = function_any_order

pub returns-clause-data_objects : goal.returns-clause-data_objects
unfolding state_of
returns-clause-data_objects c = data_any_order
