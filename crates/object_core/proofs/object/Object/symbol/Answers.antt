use Rattle.std.proofs.Common.{ap, arith}
use Rattle.object_core.specs.Object.{ObjectData}
use Rattle.object_core.proofs.ObjectNames.{symbol_here, symbol_plain}
use Rattle.object_core.proofs.object.Object.symbol.Goals as goal

pub index-requires : goal.index-requires
index-requires c = omega (arith, symbol_here _ _ _ _ _ c.self.invariant.names _ _ _ (ap (λ (o : ObjectData). o.symbols) c.self.view_is) c.as_number.ensures c.requires, c.self.inside.symbols.ok.0)

pub returns : goal.returns
returns c = symbol_plain _ _ _ _ _ c.self.invariant.names _ _ _ _ (ap (λ (o : ObjectData). o.symbols) c.self.view_is) c.as_number.ensures c.requires c.index.ensures
