use Rattle.std.proofs.Common.{◌≡◌}
use Rattle.std.specs.Prelude.{Some, fold}
use Rattle.cranelift_module.specs.SectionText.{all_attributes, pieces_of, seen, with_attribute}
use Rattle.cranelift_module.proofs.SectionTexts.{left_of}
use Rattle.cranelift_module.proofs.section_text.attributes_of.Given as goal

-- the attributes so far and those that are left
abbrev pub invariant-loop-rest : goal.invariant-loop-rest
invariant-loop-rest l = fold with_attribute (Some l.bits) (pieces_of (seen l.rest)) ≡ all_attributes (pieces_of (seen l.fn.text))

abbrev pub decreases-loop-rest : goal.decreases-loop-rest
decreases-loop-rest l = left_of (seen l.rest)
