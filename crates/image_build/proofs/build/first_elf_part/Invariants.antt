use Rattle.std.proofs.Common.{◌≡◌, map, drop}
use Rattle.std.specs.List.{position_from}
use Rattle.image_build.specs.Built.{is_elf_part}
use Rattle.image_build.specs.Parts.{part_view}
use Rattle.image_build.proofs.build.first_elf_part.Given as goal

-- the first ELF part is among those that are left
abbrev pub invariant-loop-number : goal.invariant-loop-number
invariant-loop-number l = position_from is_elf_part 0 (map part_view l.fn.parts) ≡ position_from is_elf_part l.number (map part_view (drop l.number l.fn.parts))
