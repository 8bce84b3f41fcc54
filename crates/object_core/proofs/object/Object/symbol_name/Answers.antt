use Rattle.std.proofs.Common.{ap, arith}
use Rattle.object_core.specs.Object.{ObjectData}
use Rattle.object_core.proofs.ObjectNames.{symbol_place, name_place, symbol_named}
use Rattle.object_core.proofs.object.Object.symbol_name.Goals as goal

pub index-requires : goal.index-requires
index-requires c = omega (arith, symbol_place _ _ _ _ _ c.self.invariant.names _ _ _ (ap (λ (o : ObjectData). o.symbols) c.self.view_is) c.as_number.ensures c.requires, c.self.inside.symbol_names.ok.0)

pub text-requires : goal.text-requires
text-requires c = name_place _ _ _ _ _ c.self.invariant.names _ _ _ _ (ap (λ (o : ObjectData). o.symbols) c.self.view_is) c.as_number.ensures c.requires c.index.ensures

pub returns : goal.returns
returns c = symbol_named _ _ _ _ _ c.self.invariant.names _ _ _ _ _ (ap (λ (o : ObjectData). o.symbols) c.self.view_is) c.as_number.ensures c.requires c.index.ensures c.text.ensures
