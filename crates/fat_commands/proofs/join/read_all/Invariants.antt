use Rattle.std.proofs.Common.{map, take, string_bytes}
use Rattle.image_build.specs.Parts.{part_view}
use Rattle.fat_commands.specs.Files.{ReadsFiles}
use Rattle.fat_commands.specs.Joining.{AreRead}
use Rattle.fat_commands.proofs.join.read_all.Given as goal

-- the files of the paths before this one are read
abbrev pub invariant-loop-path : goal.invariant-loop-path
invariant-loop-path g l =
    let outside = g.H.Host.outside in
    record {
      read : AreRead (outside l.fn.host).files (map string_bytes (take l.path-index l.paths)) (map part_view l.parts.items);
      others : ReadsFiles (outside l.fn.host) (outside l.host);
    }
