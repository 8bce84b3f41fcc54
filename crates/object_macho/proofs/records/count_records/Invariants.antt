use Rattle.std.proofs.Common.{◌≡◌, ◌+◌, drop}
use Rattle.object_macho.specs.Orders.{record_counts}
use Rattle.object_macho.proofs.records.count_records.Given as goal

-- the records so far and those that are left are all
abbrev pub invariant-loop-relocation : goal.invariant-loop-relocation
invariant-loop-relocation l = l.count + record_counts l.cputype (drop l.relocation-index l.relocations) ≡ record_counts l.cputype l.relocations
