use Rattle.std.proofs.Common.{length, map, ap, sym, ◌∙◌, arith}
use Rattle.object_core.specs.Object.{ObjectData, plain_symbol}
use Rattle.object_core.proofs.ObjectNames.{symbol_list, count_symbols}
use Rattle.object_core.proofs.object.Object.symbols.Goals as goal

pub returns-clause-value : goal.returns-clause-value
returns-clause-value c = c.deref.ensures.value ∙ sym (symbol_list _ _ _ _ _ c.self.invariant.names) ∙ ap (λ (o : ObjectData). map plain_symbol o.symbols) c.self.view_is

pub returns-clause-bound : goal.returns-clause-bound
returns-clause-bound c = omega (arith, ap (λ (o : ObjectData). length o.symbols) c.self.view_is, count_symbols _ _ _ _ _ c.self.invariant.names, c.self.inside.symbols.ok.0, c.self.inside.symbols.small)
