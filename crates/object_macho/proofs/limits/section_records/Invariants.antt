use Rattle.std.proofs.Common.{◌≡◌, ◌*◌, ◌≤◌, take}
use Rattle.object_macho.specs.Orders.{record_counts}
use Rattle.object_macho.proofs.limits.section_records.Given as goal

-- the records of the relocations so far
abbrev pub invariant-loop-relocation : goal.invariant-loop-relocation
invariant-loop-relocation l = record {
  value : l.count ≡ record_counts l.cputype (take l.relocation-index l.relocations);
  bound : l.count ≤ l.relocation-index * 2;
}
