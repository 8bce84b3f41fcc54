use Rattle.std.proofs.Common.{◌≡◌, ◌≤◌, ◌-◌, length}
use Rattle.byte_core.specs.Outside.{ReadsFile}
use Rattle.fat_macho.specs.Reading.{HoldsFront}
use Rattle.fat_commands.specs.Files.{current_bytes}
use Rattle.fat_commands.proofs.files.fill.Given as goal

-- the front of the buffer holds the front of the current file
abbrev pub invariant-reading : goal.invariant-reading
invariant-reading g l =
    let outside = g.H.Host.outside in
    record {
      inside : l.done ≤ length l.buf;
      room : length l.buf ≡ length l.fn.buf;
      front : HoldsFront (current_bytes (outside l.fn.host).file) l.buf 0 l.done;
      others : ReadsFile (outside l.fn.host) (outside l.host);
    }

abbrev pub decreases-reading : goal.decreases-reading
decreases-reading g l = length l.buf - l.done
