use Rattle.std.proofs.Common.{length, map, ap, sym, ◌∙◌, arith}
use Rattle.object_core.specs.Object.{ObjectData, body_of}
use Rattle.object_core.proofs.ObjectNames.{section_list, count_sections}
use Rattle.object_core.proofs.object.Object.sections.Goals as goal

pub returns-clause-value : goal.returns-clause-value
returns-clause-value c = c.deref.ensures.value ∙ sym (section_list _ _ _ _ _ c.self.invariant.names) ∙ ap (λ (o : ObjectData). map body_of o.sections) c.self.view_is

pub returns-clause-bound : goal.returns-clause-bound
returns-clause-bound c = omega (arith, ap (λ (o : ObjectData). length o.sections) c.self.view_is, count_sections _ _ _ _ _ c.self.invariant.names, c.self.inside.sections.ok.0, c.self.inside.sections.small)
