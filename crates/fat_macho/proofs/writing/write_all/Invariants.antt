use Rattle.std.proofs.Common.{◌-◌, ◌≤◌, length, drop}
use Rattle.fat_macho.specs.Writing.{Part}
use Rattle.fat_macho.proofs.writing.write_all.Given as goal

-- the bytes that are not done are left
abbrev pub invariant-writing : goal.invariant-writing
invariant-writing g l =
    let sink = g.W.Sink.sink in
    record {
      written : Part (sink l.fn.sink) (sink l.sink) l.bytes (drop l.done l.bytes);
      bound : l.done ≤ length l.bytes;
      rises : (sink l.fn.sink).faults ≤ (sink l.sink).faults;
    }

abbrev pub decreases-writing : goal.decreases-writing
decreases-writing g l = length l.bytes - l.done
