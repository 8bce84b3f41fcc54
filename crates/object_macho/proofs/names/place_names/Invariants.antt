use Rattle.std.proofs.Common.{◌≡◌, ℕ, ◌+◌, ◌++◌, List, take, drop, length}
use Rattle.std.specs.Prelude.{flat_map, sum_by}
use Rattle.byte_core.specs.Strings.{with_zero}
use Rattle.object_core.specs.MachRows.{macho_table_of}
use Rattle.object_macho.specs.Layout.{mach_names}
use Rattle.object_macho.proofs.names.place_names.Given as goal

-- what was written and the names that are left are what was there and all names
abbrev pub invariant-loop-n : goal.invariant-loop-n
invariant-loop-n l = record {
  bytes : take l.end l.out ++ flat_map with_zero (drop l.n (mach_names (macho_table_of l.object))) ≡ take l.at l.fn.out ++ flat_map with_zero (mach_names (macho_table_of l.object));
  end : l.end + sum_by (λ (name : List ℕ). length name + 1) (drop l.n (mach_names (macho_table_of l.object))) ≡ l.at + sum_by (λ (name : List ℕ). length name + 1) (mach_names (macho_table_of l.object));
  len : length l.out ≡ length l.fn.out;
}
