use Rattle.std.proofs.Common.{◌-◌, ◌≤◌, length}
use Rattle.byte_core.specs.Outside.{TakesInput, ChangesInput}
use Rattle.objtool_run.proofs.input.take_blocks.Given as goal

-- what was taken so far is kept, and is within the limit
abbrev pub invariant-taking : goal.invariant-taking
invariant-taking g l = record {
  taken : TakesInput (g.H.Host.outside l.fn.host) (g.H.Host.outside l.host) l.bytes.items;
  others : ChangesInput (g.H.Host.outside l.fn.host) (g.H.Host.outside l.host);
  bound : length l.bytes.items ≤ 67108864;
}

abbrev pub decreases-taking : goal.decreases-taking
decreases-taking g l = 67108865 - length l.bytes.items
