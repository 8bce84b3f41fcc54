use Rattle.std.proofs.Common.{◌≡◌, ◌*◌, ◌≤◌, ◌^◌, take}
use Rattle.std.specs.Prelude.{sum_by}
use Rattle.gen_summary.specs.Summary.{section_relocations}
use Rattle.gen_summary.proofs.summary.relocation_count.Given as goal

-- the relocations so far
abbrev pub invariant-loop-section : goal.invariant-loop-section
invariant-loop-section l = record {
  value : l.count ≡ sum_by section_relocations (take l.section-index l.sections);
  bound : l.count ≤ l.section-index * 2 ^ 64;
}
