use Rattle.std.proofs.Common.{ap, arith, refl}
use Rattle.object_core.specs.Object.{ObjectData}
use Rattle.object_core.specs.Appending.{defined_symbol}
use Rattle.object_core.proofs.ObjectNames.{symbol_here, set_symbol, names_set_symbol}
use Rattle.object_core.proofs.Sections.{mapped_within}
use Rattle.object_core.proofs.object.Object.define_symbol.Goals as goal

pub index_mut-requires : goal.index_mut-requires
index_mut-requires c = omega (arith, symbol_here _ _ _ _ _ c.self.invariant.names _ _ _ (ap (λ (o : ObjectData). o.symbols) c.self.view_is) c.as_number.ensures (mapped_within _ _ _ _ c.requires), c.self.inside.symbols.ok.0)

pub returns : goal.returns
returns c =
    rw (set_symbol _ _ _ _ _ c.self.invariant.names (defined_symbol c.args.section c.args.offset c.args.size) _ _ _ (λ name t. refl) c.index_mut.ensures.value c.define.ensures, c.as_number.ensures, ← c.self.view_is) refl

pub invariant_of-self : goal.invariant_of-self
invariant_of-self c = record { kept = c.self.invariant.kept; names = names_set_symbol _ _ _ _ _ c.self.invariant.names _ _ }
