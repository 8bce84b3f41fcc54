-- the bytes so far and the ranges that are left are all of them
use Rattle.std.proofs.Common.{◌≡◌, ◌++◌, length}
use Rattle.std.specs.List.{concat}
use Rattle.pe_json.proofs.signed.joined.Given as goal

abbrev pub invariant-loop-range : goal.invariant-loop-range
invariant-loop-range l = l.bytes.items ++ concat l.ranges ≡ concat l.initial.ranges

abbrev pub decreases-loop-range : goal.decreases-loop-range
decreases-loop-range l = length l.ranges
