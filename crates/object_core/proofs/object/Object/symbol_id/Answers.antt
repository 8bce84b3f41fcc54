use Rattle.std.proofs.Common.{Some, ap, sym, ◌∙◌}
use Rattle.object_core.specs.Object.{ObjectData}
use Rattle.object_core.proofs.ObjectNames.{first_named}
use Rattle.object_core.proofs.object.Object.symbol_id.Goals as goal

pub returns-in-Some : goal.returns-in-Some
returns-in-Some c = ap Some c.from_number.ensures ∙ sym c.in-Some.is ∙ first_named _ _ _ _ _ c.self.invariant.names _ _ _ _ (ap (λ (o : ObjectData). o.symbols) c.self.view_is) c.deref.ensures.value c.place_named.ensures

pub returns-in-None : goal.returns-in-None
returns-in-None c = sym c.in-None.is ∙ first_named _ _ _ _ _ c.self.invariant.names _ _ _ _ (ap (λ (o : ObjectData). o.symbols) c.self.view_is) c.deref.ensures.value c.place_named.ensures
