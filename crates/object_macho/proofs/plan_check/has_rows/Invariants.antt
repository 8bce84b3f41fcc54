use Rattle.std.proofs.Common.{◌≡◌, ◌+◌, ◌++◌, take, drop}
use Rattle.std.specs.Prelude.{count_by}
use Rattle.object_core.specs.Object.{is_global}
use Rattle.object_core.specs.MachRows.{is_mach_local}
use Rattle.object_macho.specs.Plan.{row_of, rows_of}
use Rattle.object_macho.proofs.Pushing.{each_from}
use Rattle.object_macho.proofs.plan_check.has_rows.Given as goal

-- the next rows of both kinds; the rows so far and those that are left are all
abbrev pub invariant-loop-k : goal.invariant-loop-k
invariant-loop-k l = record {
  local : l.local ≡ count_by is_mach_local (take l.k l.object.symbols);
  other : l.other ≡ count_by is_mach_local l.object.symbols + count_by is_global (take l.k l.object.symbols);
  rows : take l.k l.rows ++ each_from (row_of l.object.symbols) l.k (drop l.k l.object.symbols) ≡ rows_of l.object.symbols;
}
