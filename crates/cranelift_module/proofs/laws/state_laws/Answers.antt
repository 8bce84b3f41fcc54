use Rattle.cranelift_module.proofs.StateLaws.{state_of-step, state_of-steps}
use Rattle.cranelift_module.proofs.MarkLaws.{marks-state, definitions-state}
use Rattle.cranelift_module.proofs.laws.state_laws.Goals as goal

pub returns-clause-one_more : goal.returns-clause-one_more
returns-clause-one_more c = state_of-step

pub returns-clause-all : goal.returns-clause-all
returns-clause-all c = state_of-steps

pub returns-clause-marks : goal.returns-clause-marks
returns-clause-marks c = marks-state

pub returns-clause-definitions : goal.returns-clause-definitions
returns-clause-definitions c = definitions-state
