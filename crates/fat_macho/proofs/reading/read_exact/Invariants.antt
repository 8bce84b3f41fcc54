use Rattle.std.proofs.Common.{◌≡◌, ◌≤◌, ◌-◌, length}
use Rattle.byte_core.specs.Streams.{ChangesFaults}
use Rattle.fat_macho.specs.Reading.{HoldsFront}
use Rattle.fat_macho.proofs.reading.read_exact.Given as goal

-- the front of the buffer holds the bytes from the offset on
abbrev pub invariant-reading : goal.invariant-reading
invariant-reading g l =
    let source = g.S.Source.source in
    record {
      inside : l.done ≤ length l.buf;
      room : length l.buf ≡ length l.fn.buf;
      front : HoldsFront (source l.fn.source).bytes l.buf l.offset l.done;
      others : ChangesFaults (source l.fn.source) (source l.source);
    }

abbrev pub decreases-reading : goal.decreases-reading
decreases-reading g l = length l.buf - l.done
