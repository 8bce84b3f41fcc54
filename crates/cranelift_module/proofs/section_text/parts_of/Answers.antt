use Rattle.std.proofs.Common.{subst, sym, ◌∙◌, Bool}
use Rattle.cranelift_module.specs.SectionText.{HasParts, seen, parts_of_text}
use Rattle.cranelift_module.proofs.SectionTexts.{parts_found, same_some}
use Rattle.cranelift_module.proofs.section_text.parts_of.Goals as goal

-- each cut gives the next part
pub returns : goal.returns
returns c =
    let found = parts_found (parts_of_text c.args.text.now) c.cut_at.result.0.now (seen c.cut_at.result.1) (seen c.next_part.result.0) (seen c.next_part.result.1) (seen c.next_part-2.result.0) (seen c.next_part-2.result.1) (seen c.next_part-3.result.0) (seen c.next_part-3.result.1)
    c.cut_at.ensures.parts c.next_part.ensures c.next_part-2.ensures c.next_part-3.ensures in
    subst (λ (b : Bool). HasParts (parts_of_text c.args.text.now) c.cut_at.result.0.now (seen c.next_part.result.0) (seen c.next_part-2.result.0) (seen c.next_part-3.result.0) b) (same_some c.next_part-3.result.1 ∙ sym c.is_some.ensures) found
