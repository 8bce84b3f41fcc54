use Rattle.ir_core.proofs.Same.{tells_equal}
use Rattle.ir_core.proofs.signature.Signature.is_same.Goals as goal

pub returns-clause-equal : goal.returns-clause-equal
returns-clause-equal c = tells_equal c.has_same_parts-same.result c.args.self.now c.args.other.now c.has_same_parts-same.ensures
