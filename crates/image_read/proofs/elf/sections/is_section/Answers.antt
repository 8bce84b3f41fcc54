use Rattle.std.proofs.Common.{refl}
use Rattle.image_read.proofs.Judging.{section_from, name_of_section}
use Rattle.image_read.proofs.elf.sections.is_section.Goals as goal

pub returns-then-row-ne-SHT_REL : goal.returns-then-row-ne-SHT_REL
returns-then-row-ne-SHT_REL c = (
  λ named. section_from _ _ c.section_row-row.result _ c.section_row-row.ensures c.requires.names (c.if-not-is_placed.ensures.0 refl) c.if-row-ne-SHT_REL.true (c.has_text.ensures.0 named),
  λ section. c.has_text.ensures.1 (name_of_section _ _ c.section_row-row.result _ c.section_row-row.ensures c.requires.names section),
)
