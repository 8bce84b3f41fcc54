use Rattle.std.proofs.Common.{map, sym, ◌∙◌}
use Rattle.image_build.specs.Parts.{part_view}
use Rattle.image_build.proofs.PartLists.{none_elf}
use Rattle.image_build.proofs.build.build_several.Goals as goal

pub fat_file-requires-clause-format : goal.fat_file-requires-clause-format
fat_file-requires-clause-format c = none_elf (map part_view c.args.parts.now) 0 (sym c.first_elf_part.ensures ∙ c.in-None.is)
