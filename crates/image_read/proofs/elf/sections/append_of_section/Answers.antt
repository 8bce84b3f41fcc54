use Rattle.image_read.proofs.Building.{no_relocations, target_inside, target_changed}
use Rattle.image_read.proofs.elf.sections.append_of_section.Goals as goal

pub returns-then-row-ne-SHT_RELA : goal.returns-then-row-ne-SHT_RELA
returns-then-row-ne-SHT_RELA c = no_relocations _ _ c.section_row-row.result _ c.section_row-row.ensures c.if-row-ne-SHT_RELA.true c.requires.behind_null c.requires.before

pub bounds-sections-row : goal.bounds-sections-row
bounds-sections-row c =
    target_inside _ _ c.section_row-row.result _ c.requires.file c.section_row-row.ensures c.if-row-ne-SHT_RELA.false c.requires.behind_null c.requires.row c.requires.before

pub returns : goal.returns
returns c =
    target_changed _ _ c.section_row-row.result _ c.index-sections-row.result _ c.requires.file c.section_row-row.ensures c.if-row-ne-SHT_RELA.false c.requires.behind_null c.requires.row c.requires.before c.in_ok-append_records.ensures
