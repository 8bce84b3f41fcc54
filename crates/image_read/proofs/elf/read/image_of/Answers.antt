use Rattle.std.proofs.Common.{◌∙◌}
use Rattle.image_read.proofs.Building.{image_with_table, image_without_table}
use Rattle.image_read.proofs.elf.read.image_of.Goals as goal

pub returns-in_ok-symbols-in-Some : goal.returns-in_ok-symbols-in-Some
returns-in_ok-symbols-in-Some c =
    c.new.ensures ∙ image_with_table _ _ _ _ _ c.requires.table c.in-Some.is c.in_ok-sections.ensures c.in_ok-symbols-in-Some.ensures

pub returns-in-None : goal.returns-in-None
returns-in-None c =
    let rows = rw c.new-in-None.ensures.items at c.new-in-None-2.ensures in
    rows ∙ image_without_table _ _ _ c.requires.table c.in-None.is c.in_ok-sections.ensures
