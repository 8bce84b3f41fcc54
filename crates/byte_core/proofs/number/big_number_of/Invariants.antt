use Rattle.std.proofs.Common.{◌≡◌, ◌<◌, ◌^◌, take, reverse}
use Rattle.byte_core.specs.Number.{little_number}
use Rattle.byte_core.proofs.number.big_number_of.Given as goal

-- the number of the bytes so far
abbrev pub invariant-loop-byte : goal.invariant-loop-byte
invariant-loop-byte l = record {
  value : l.number ≡ little_number (reverse (take l.byte-index l.bytes));
  bound : l.number < 256 ^ l.byte-index;
}
