use Rattle.std.proofs.Common.{◌≡◌, ◌++◌, ◌+◌, ◌-◌, take, length}
use Rattle.byte_core.specs.Number.{little_bytes}
use Rattle.byte_core.proofs.placing.place_number.Given as goal

abbrev pub invariant-loop-i : goal.invariant-loop-i
invariant-loop-i l = record {
  bytes : take (l.at + l.i) l.out ++ little_bytes (l.width - l.i) l.rest ≡ take l.at l.fn.out ++ little_bytes l.width l.value;
  len : length l.out ≡ length l.fn.out;
}
