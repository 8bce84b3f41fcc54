use Rattle.std.proofs.Common.{◌-◌, ◌≤◌, length, take}
use Rattle.byte_core.specs.Outside.{Appends, ChangesErrors}
use Rattle.objtool_run.proofs.output.write_fault_text.Given as goal

-- the front that is done was written
abbrev pub invariant-loop-done : goal.invariant-loop-done
invariant-loop-done g l = record {
  written : Appends (g.H.Host.outside l.fn.host).errors (g.H.Host.outside l.host).errors (take l.done l.bytes);
  others : ChangesErrors (g.H.Host.outside l.fn.host) (g.H.Host.outside l.host);
  bound : l.done ≤ length l.bytes;
}

abbrev pub decreases-loop-done : goal.decreases-loop-done
decreases-loop-done g l = length l.bytes - l.done
