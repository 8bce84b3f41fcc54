use Rattle.std.proofs.Common.{◌≡◌, ◌++◌, ◌+◌, ◌-◌, take, drop}
use Rattle.byte_core.specs.Number.{little_bytes}
use Rattle.byte_core.proofs.number.put_le.Given as goal

-- what was written, the bytes that are left of the number, and what stands behind
abbrev pub invariant-loop-i : goal.invariant-loop-i
invariant-loop-i l =
    take (l.at + l.i) l.out ++ (little_bytes (l.width - l.i) l.rest ++ drop (l.at + l.width) l.out) ≡ take l.at l.fn.out ++ (little_bytes l.width l.value ++ drop (l.at + l.width) l.fn.out)
