use Rattle.std.proofs.Common.{◌≡◌, ◌+◌, ◌*◌, ◌≤◌, ◌^◌, take}
use Rattle.std.specs.Prelude.{sum_by}
use Rattle.object_elf.specs.PlainCounts.{section_name_size}
use Rattle.object_elf.proofs.limits.section_names_size.Given as goal

-- the bytes of the names so far
abbrev pub invariant-loop-k : goal.invariant-loop-k
invariant-loop-k l = record {
  value : l.size ≡ 43 + sum_by section_name_size (take l.k l.object.sections);
  bound : l.size ≤ 43 + l.k * 2 ^ 66;
}
