use Rattle.std.proofs.Common.{◌≡◌, ◌+◌, ◌++◌, take, drop}
use Rattle.std.specs.Prelude.{count_by}
use Rattle.object_core.specs.Object.{is_global}
use Rattle.object_core.specs.MachRows.{is_mach_local}
use Rattle.object_macho.specs.Plan.{row_of, rows_of}
use Rattle.object_macho.proofs.Pushing.{each_from}
use Rattle.object_macho.proofs.counted.rows_of.Given as goal

-- the next rows of both kinds; the rows so far and those that are left are all
abbrev pub invariant-loop-symbol : goal.invariant-loop-symbol
invariant-loop-symbol l = record {
  local : l.local ≡ count_by is_mach_local (take l.symbol-index l.object.symbols);
  other : l.other ≡ count_by is_mach_local l.object.symbols + count_by is_global (take l.symbol-index l.object.symbols);
  rows : l.rows.items ++ each_from (row_of l.object.symbols) l.symbol-index (drop l.symbol-index l.object.symbols) ≡ rows_of l.object.symbols;
}
