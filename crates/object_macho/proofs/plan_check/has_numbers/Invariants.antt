use Rattle.std.proofs.Common.{◌≡◌, ◌+◌, ◌++◌, take, drop}
use Rattle.std.specs.Prelude.{count_by}
use Rattle.object_core.specs.MachRows.{is_mach_stored, is_mach_zero_fill}
use Rattle.object_macho.specs.Plan.{number_of, section_numbers}
use Rattle.object_macho.proofs.Pushing.{each_from}
use Rattle.object_macho.proofs.plan_check.has_numbers.Given as goal

-- the next numbers of both kinds; the numbers so far and those that are left are all
abbrev pub invariant-loop-k : goal.invariant-loop-k
invariant-loop-k l = record {
  stored : l.stored ≡ count_by is_mach_stored (take l.k l.object.sections);
  other : l.other ≡ count_by is_mach_stored l.object.sections + count_by is_mach_zero_fill (take l.k l.object.sections);
  numbers : take l.k l.numbers ++ each_from (number_of l.object.sections) l.k (drop l.k l.object.sections) ≡ section_numbers l.object.sections;
}
