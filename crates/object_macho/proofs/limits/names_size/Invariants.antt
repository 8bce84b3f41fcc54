use Rattle.std.proofs.Common.{◌≡◌, ◌+◌, ◌*◌, ◌≤◌, ◌^◌, take}
use Rattle.std.specs.Prelude.{sum_by}
use Rattle.object_macho.specs.PlainCounts.{row_name_size}
use Rattle.object_macho.proofs.limits.names_size.Given as goal

-- the bytes of the names so far
abbrev pub invariant-loop-k : goal.invariant-loop-k
invariant-loop-k l = record {
  value : l.size ≡ 1 + sum_by row_name_size (take l.k l.object.symbols);
  bound : l.size ≤ 1 + l.k * 2 ^ 64;
}
