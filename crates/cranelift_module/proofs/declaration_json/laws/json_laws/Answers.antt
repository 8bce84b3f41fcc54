use Rattle.cranelift_module.proofs.JsonLaws.{reads_back}
use Rattle.cranelift_module.proofs.declaration_json.laws.json_laws.Goals as goal

pub returns : goal.returns
returns c = reads_back
