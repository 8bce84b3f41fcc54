use Rattle.std.proofs.Common.{◌≡◌, ◌-◌, ◌≤◌, length}
use Rattle.byte_core.specs.Streams.{ChangesFaults}
use Rattle.fat_macho.specs.Writing.{Copies}
use Rattle.fat_macho.proofs.writing.copy_by_blocks.Given as goal

-- the first bytes of the range are written
abbrev pub invariant-copying : goal.invariant-copying
invariant-copying g l =
    let source = g.S.Source.source in
    let sink = g.W.Sink.sink in
    record {
      copied : Copies (source l.fn.source).bytes (sink l.fn.sink) (sink l.sink) l.offset l.size l.done;
      bound : l.done ≤ l.size;
      room : length l.buf ≡ length l.fn.buf;
      others : ChangesFaults (source l.fn.source) (source l.source);
      rises : (sink l.fn.sink).faults ≤ (sink l.sink).faults;
    }

abbrev pub decreases-copying : goal.decreases-copying
decreases-copying g l = l.size - l.done
