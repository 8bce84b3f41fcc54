use Rattle.std.proofs.Common.{ap, arith}
use Rattle.object_core.specs.Object.{ObjectData}
use Rattle.object_core.proofs.ObjectNames.{section_place, texts_place, section_segmented}
use Rattle.object_core.proofs.object.Object.section_segment.Goals as goal

pub index-requires : goal.index-requires
index-requires c = omega (arith, section_place _ _ _ _ _ c.self.invariant.names _ _ _ (ap (λ (o : ObjectData). o.sections) c.self.view_is) c.as_number.ensures c.requires, c.self.inside.section_names.ok.0)

pub text-requires : goal.text-requires
text-requires c = (texts_place _ _ _ _ _ c.self.invariant.names _ _ _ _ (ap (λ (o : ObjectData). o.sections) c.self.view_is) c.as_number.ensures c.requires c.index.ensures).0

pub returns : goal.returns
returns c = section_segmented _ _ _ _ _ c.self.invariant.names _ _ _ _ _ (ap (λ (o : ObjectData). o.sections) c.self.view_is) c.as_number.ensures c.requires c.index.ensures c.text.ensures
