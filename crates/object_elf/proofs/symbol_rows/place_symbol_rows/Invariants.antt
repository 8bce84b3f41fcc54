use Rattle.std.proofs.Common.{◌≡◌, ℕ, ◌+◌, ◌*◌, ◌<◌, ◌^◌, ◌++◌, take, drop, length, slice_get, Some, true}
use Rattle.object_core.specs.Object.{SymbolData}
use Rattle.object_elf.specs.Writing.{is_chosen, chosen, names_size}
use Rattle.object_elf.proofs.SymbolLoops.{rows_bytes}
use Rattle.object_elf.proofs.symbol_rows.place_symbol_rows.Given as goal

-- what was written and the rows that are left are what was there and all rows; so are the places of the rows and of their names
abbrev pub invariant-loop-k : goal.invariant-loop-k
invariant-loop-k l = record {
  rows : take l.at l.out ++ rows_bytes l.name (chosen l.local (drop l.k l.object.symbols)) ≡ take l.fn.next.at l.fn.out ++ rows_bytes l.fn.next.name (chosen l.local l.object.symbols);
  at : l.at + 24 * length (chosen l.local (drop l.k l.object.symbols)) ≡ l.fn.next.at + 24 * length (chosen l.local l.object.symbols);
  names : l.name + names_size (chosen l.local (drop l.k l.object.symbols)) ≡ l.fn.next.name + names_size (chosen l.local l.object.symbols);
  len : length l.out ≡ length l.fn.out;
  sizes : (k : ℕ) (s : SymbolData) → k < l.k → slice_get l.object.symbols k ≡ Some s → is_chosen l.local s ≡ true → s.size < 2 ^ 64;
}
