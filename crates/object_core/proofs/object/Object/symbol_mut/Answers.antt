use Rattle.std.proofs.Common.{ap, refl, arith}
use Rattle.object_core.specs.Object.{ObjectData, SymbolData, named}
use Rattle.object_core.proofs.ObjectNames.{symbol_here, symbol_plain, set_symbol, names_set_symbol}
use Rattle.object_core.proofs.object.Object.symbol_mut.Goals as goal

pub index_mut-requires : goal.index_mut-requires
index_mut-requires c = omega (arith, symbol_here _ _ _ _ _ c.self.invariant.names _ _ _ (ap (λ (o : ObjectData). o.symbols) c.self.view_is) c.as_number.ensures c.requires, c.self.inside.symbols.ok.0)

pub returns : goal.returns
returns c = (
  (
    refl,
    λ w. rw (set_symbol _ _ _ _ _ c.self.invariant.names (λ (old : SymbolData). named old.name w) _ _ w (λ name t. refl) c.index_mut.ensures.value refl, c.as_number.ensures, ← c.self.view_is) refl,
  ),
  record { writes_back = tt; value = symbol_plain _ _ _ _ _ c.self.invariant.names _ _ _ _ (ap (λ (o : ObjectData). o.symbols) c.self.view_is) c.as_number.ensures c.requires c.index_mut.ensures.value },
)

pub invariant_of-self-lent : goal.invariant_of-self-lent
invariant_of-self-lent c = λ w. record { kept = c.self.invariant.kept; names = names_set_symbol _ _ _ _ _ c.self.invariant.names _ _ }
