use Rattle.std.proofs.Common.{◌≡◌, ◌*◌, ◌≤◌, ◌^◌, take}
use Rattle.std.specs.Prelude.{sum_by}
use Rattle.object_macho.specs.PlainCounts.{section_records}
use Rattle.object_macho.proofs.limits.record_count.Given as goal

-- the records of the sections so far
abbrev pub invariant-loop-section : goal.invariant-loop-section
invariant-loop-section l = record {
  value : l.count ≡ sum_by (section_records l.cputype) (take l.section-index l.object.sections);
  bound : l.count ≤ l.section-index * 2 ^ 66;
}
