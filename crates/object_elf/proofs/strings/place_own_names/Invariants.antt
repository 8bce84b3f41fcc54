use Rattle.std.proofs.Common.{◌≡◌, ◌+◌, ◌++◌, take, drop, length, map}
use Rattle.std.specs.Prelude.{flat_map, sum_by}
use Rattle.byte_core.specs.Strings.{with_zero}
use Rattle.object_elf.specs.Writing.{own_name, own_name_size}
use Rattle.object_elf.proofs.strings.place_own_names.Given as goal

-- what was written and the names that are left are what was there and all names
abbrev pub invariant-loop-k : goal.invariant-loop-k
invariant-loop-k l = record {
  names : take l.end l.out ++ flat_map with_zero (map own_name (drop l.k l.object.sections)) ≡ take l.at l.fn.out ++ flat_map with_zero (map own_name l.object.sections);
  end : l.end + sum_by own_name_size (drop l.k l.object.sections) ≡ l.at + sum_by own_name_size l.object.sections;
  len : length l.out ≡ length l.fn.out;
}
