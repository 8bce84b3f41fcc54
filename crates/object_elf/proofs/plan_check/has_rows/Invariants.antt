use Rattle.std.proofs.Common.{◌≡◌, ℕ, ◌+◌, ◌<◌, take, slice_get, Some}
use Rattle.std.specs.Prelude.{count_by}
use Rattle.object_core.specs.Object.{is_local, is_global}
use Rattle.object_core.specs.ElfRows.{row_in}
use Rattle.object_elf.proofs.plan_check.has_rows.Given as goal

-- the next rows of both kinds, and the rows so far
abbrev pub invariant-loop-k : goal.invariant-loop-k
invariant-loop-k l = record {
  local : l.local ≡ 1 + count_by is_local (take l.k l.object.symbols);
  other : l.other ≡ 1 + count_by is_local l.object.symbols + count_by is_global (take l.k l.object.symbols);
  rows : (k : ℕ) → k < l.k → slice_get l.rows k ≡ Some (row_in l.object.symbols k);
}
