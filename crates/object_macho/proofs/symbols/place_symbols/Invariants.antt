use Rattle.std.proofs.Common.{◌≡◌, ◌+◌, ◌*◌, ◌++◌, take, drop, length}
use Rattle.std.specs.Prelude.{flat_map}
use Rattle.byte_core.specs.Strings.{name_place}
use Rattle.object_core.specs.MachRows.{macho_table_of}
use Rattle.object_macho.specs.Layout.{mach_names}
use Rattle.object_macho.specs.File.{mach_symbol_bytes, mach_symbol_rows_from}
use Rattle.object_macho.proofs.symbols.place_symbols.Given as goal

-- what was written and the rows that are left are what was there and all rows; the next name stands behind those before it
abbrev pub invariant-loop-n : goal.invariant-loop-n
invariant-loop-n l = record {
  bytes : take l.end l.out ++ flat_map mach_symbol_bytes (drop l.n (mach_symbol_rows_from (macho_table_of l.object) 0 (macho_table_of l.object).symbols)) ≡ take l.at l.fn.out ++ flat_map mach_symbol_bytes (mach_symbol_rows_from (macho_table_of l.object) 0 (macho_table_of l.object).symbols);
  end : l.end ≡ l.at + 16 * l.n;
  strx : l.strx ≡ name_place (mach_names (macho_table_of l.object)) l.n;
  len : length l.out ≡ length l.fn.out;
}
