use Rattle.std.proofs.Common.{◌≡◌, map, take}
use Rattle.image_build.specs.Built.{first_refused_part}
use Rattle.image_build.specs.Parts.{part_view}
use Rattle.image_build.proofs.FatCauses.{refused_from}
use Rattle.image_build.proofs.FatLists.{HoldsParts}
use Rattle.image_build.proofs.fat.fat_file.Given as goal

-- the parts before this one are held, and none of them is refused
abbrev pub invariant-loop-number : goal.invariant-loop-number
invariant-loop-number l = HoldsParts (take l.number (map part_view l.fn.parts)) l.writer × (first_refused_part (map part_view l.fn.parts) ≡ refused_from (map part_view l.fn.parts) l.number)
