use Rattle.cranelift_object.proofs.TargetLaws.{identifier_had}
use Rattle.cranelift_object.proofs.backend.ObjectModule.target_symbol.Goals as goal

pub symbol_of-requires-clause-declared : goal.symbol_of-requires-clause-declared
symbol_of-requires-clause-declared c = identifier_had c.args.self.now.settings c.args.self.now.state c.args.target c.resolved.result c.in-Identifier.id c.in-Identifier.is c.resolved.ensures.target c.requires.target
