use Rattle.std.proofs.Common.{◌≡◌, ◌*◌, ◌≤◌, ◌^◌, take}
use Rattle.object_macho.specs.PlainCounts.{stored_end}
use Rattle.object_macho.proofs.limits.stored_end.Given as goal

-- where the sections so far end
abbrev pub invariant-loop-section : goal.invariant-loop-section
invariant-loop-section l = record {
  value : l.end ≡ stored_end (take l.section-index l.object.sections);
  bound : l.end ≤ l.section-index * 2 ^ 33;
}
