use Rattle.std.proofs.Common.{◌-◌, ◌≤◌, length, take}
use Rattle.byte_core.specs.Outside.{Appends, ChangesOutput}
use Rattle.objtool_run.proofs.output.write_output.Given as goal

-- the front that is done was written
abbrev pub invariant-loop-done : goal.invariant-loop-done
invariant-loop-done g l = record {
  written : Appends (g.H.Host.outside l.fn.host).output (g.H.Host.outside l.host).output (take l.done l.bytes);
  others : ChangesOutput (g.H.Host.outside l.fn.host) (g.H.Host.outside l.host);
  bound : l.done ≤ length l.bytes;
}

abbrev pub decreases-loop-done : goal.decreases-loop-done
decreases-loop-done g l = length l.bytes - l.done
