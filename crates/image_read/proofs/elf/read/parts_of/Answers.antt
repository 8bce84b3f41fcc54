use Rattle.std.proofs.Common.{refl}
use Rattle.image_read.proofs.Building.{elf_from}
use Rattle.image_read.proofs.elf.read.parts_of.Goals as goal

pub returns-clause-found : goal.returns-clause-found
returns-clause-found c =
    let names = rw c.names_number.ensures at c.in_ok-names.ensures.found in
    elf_from _ c.requires names.section (c.if-not-are_sections.ensures.0 refl) c.in_ok-table.ensures.sound (c.if-not-are_relocations.ensures.0 refl)
