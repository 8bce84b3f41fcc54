use Rattle.std.proofs.Common.{◌≤◌, replicate}
use Rattle.fat_macho.specs.Writing.{Part}
use Rattle.fat_macho.proofs.writing.write_repeated.Given as goal

-- so many zeros are left
abbrev pub invariant-zeros : goal.invariant-zeros
invariant-zeros g l =
    let sink = g.W.Sink.sink in
    record {
      written : Part (sink l.fn.sink) (sink l.sink) (replicate l.count 0) (replicate l.left 0);
      bound : l.left ≤ l.count;
      rises : (sink l.fn.sink).faults ≤ (sink l.sink).faults;
    }

abbrev pub decreases-zeros : goal.decreases-zeros
decreases-zeros g l = l.left
