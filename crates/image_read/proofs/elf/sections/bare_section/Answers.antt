use Rattle.std.proofs.Common.{◌∙◌}
use Rattle.image_read.proofs.Building.{section_is}
use Rattle.image_read.proofs.elf.sections.bare_section.Goals as goal

pub returns : goal.returns
returns c = c.new.ensures ∙ section_is _ _ c.section_row-row.result _ _ _ c.section_row-row.ensures c.requires.names c.text_or_empty-name.ensures c.stored_bytes-contents.ensures
