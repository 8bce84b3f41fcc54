use Rattle.cranelift_module.proofs.SectionTexts.{cut_there, cut_nowhere}
use Rattle.cranelift_module.proofs.section_text.cut_at.Goals as goal

-- the text is cut at the first separator
pub returns-in-Some-clause-parts : goal.returns-in-Some-clause-parts
returns-in-Some-clause-parts c =
    let at = c.in-Some.ensures.byte c.requires (λ w o h. h) in
    cut_there c.args.separator c.args.text.now c.in-Some.part.now c.in-Some.rest.now at.2 at.0 at.1

-- without a separator the text is the one part
pub returns-in-None-clause-parts : goal.returns-in-None-clause-parts
returns-in-None-clause-parts c = cut_nowhere c.args.separator c.args.text.now (c.in-None.ensures.byte c.requires (λ w o h. h))
