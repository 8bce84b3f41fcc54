use Rattle.std.proofs.Common.{◌≡◌, ◌+◌, ◌++◌, take, drop, length, map}
use Rattle.std.specs.Prelude.{filter, flat_map, sum_by}
use Rattle.byte_core.specs.Strings.{with_zero}
use Rattle.object_elf.specs.Writing.{record_name, record_name_size, has_relocations}
use Rattle.object_elf.proofs.strings.place_record_names.Given as goal

-- what was written and the names that are left are what was there and all names
abbrev pub invariant-loop-k : goal.invariant-loop-k
invariant-loop-k l = record {
  names : take l.end l.out ++ flat_map with_zero (map record_name (filter has_relocations (drop l.k l.object.sections))) ≡ take l.at l.fn.out ++ flat_map with_zero (map record_name (filter has_relocations l.object.sections));
  end : l.end + sum_by record_name_size (filter has_relocations (drop l.k l.object.sections)) ≡ l.at + sum_by record_name_size (filter has_relocations l.object.sections);
  len : length l.out ≡ length l.fn.out;
}
