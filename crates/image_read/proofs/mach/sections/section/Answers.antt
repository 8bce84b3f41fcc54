use Rattle.std.proofs.Common.{◌∙◌}
use Rattle.image_read.proofs.MachBuilding.{row_place, section_is}
use Rattle.image_read.proofs.mach.sections.section.Goals as goal

pub returns : goal.returns
returns c =
    let here = row_place _ _ c.args.k _ c.requires.table c.section_place-at.ensures in
    c.new.ensures ∙ section_is _ _ c.section_row-row.result _ _ _ _ (rw here at c.section_row-row.ensures) (rw here at c.segment_name-segment.ensures) (rw here at c.section_name-name.ensures) c.stored_bytes-contents.ensures c.in_ok-relocations.ensures
