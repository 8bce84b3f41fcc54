use Rattle.std.proofs.Common.{sym, ◌∙◌, ap}
use Rattle.cranelift_module.specs.SectionText.{seen, parts_between}
use Rattle.cranelift_module.proofs.SectionTexts.{attribute_unknown, less_left}
use Rattle.cranelift_module.proofs.section_text.attributes_of.Goals as goal

pub returns-in_default-attribute_named : goal.returns-in_default-attribute_named
returns-in_default-attribute_named c =
    attribute_unknown c.loop-rest.bits (seen c.loop-rest.rest) c.in-Some.pieces.now c.cut_at.result.0.now (parts_between 43 (seen c.cut_at.result.1)) _ (ap seen c.in-Some.is) c.cut_at.ensures.parts (sym c.attribute_named.ensures ∙ c.in_default-attribute_named.is) c.loop-rest.invariant

-- what is behind a separator is shorter
pub loop-rest-smaller : goal.loop-rest-smaller
loop-rest-smaller c = less_left (seen c.loop-rest.rest) c.cut_at.result.1 c.in-Some.pieces.now (ap seen c.in-Some.is) c.cut_at.ensures.shorter
