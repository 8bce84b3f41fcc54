use Rattle.std.proofs.Common.{◌≡◌, ℕ, ◌+◌, ◌<◌, length, take, slice_get, Some}
use Rattle.std.specs.Prelude.{count_by}
use Rattle.object_core.specs.Object.{is_local, is_global}
use Rattle.object_core.specs.ElfRows.{row_in}
use Rattle.object_elf.proofs.relocation_rows.rows_of_symbols.Given as goal

-- the next rows of both kinds, and the rows so far
abbrev pub invariant-loop-symbol : goal.invariant-loop-symbol
invariant-loop-symbol l = record {
  local : l.local ≡ 1 + count_by is_local (take l.symbol-index l.object.symbols);
  other : l.other ≡ 1 + count_by is_local l.object.symbols + count_by is_global (take l.symbol-index l.object.symbols);
  count : length l.rows.items ≡ l.symbol-index;
  rows : (k : ℕ) → k < l.symbol-index → slice_get l.rows.items k ≡ Some (row_in l.object.symbols k);
}
