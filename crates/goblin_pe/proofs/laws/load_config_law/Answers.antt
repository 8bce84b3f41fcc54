use Rattle.goblin_pe.proofs.LoadConfigFront.{fields_in_front}
use Rattle.goblin_pe.proofs.laws.load_config_law.Goals as goal

pub returns : goal.returns
returns c = fields_in_front
