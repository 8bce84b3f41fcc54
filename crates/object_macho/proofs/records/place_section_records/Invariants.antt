use Rattle.std.proofs.Common.{◌≡◌, ◌+◌, ◌*◌, ◌++◌, take, drop, length}
use Rattle.std.specs.Prelude.{flat_map}
use Rattle.object_macho.specs.Orders.{record_bytes_by, record_counts}
use Rattle.object_macho.proofs.records.place_section_records.Given as goal

-- what was written and the records that are left are what was there and all records
abbrev pub invariant-loop-relocation : goal.invariant-loop-relocation
invariant-loop-relocation l = record {
  bytes : take l.end l.out ++ flat_map (record_bytes_by l.cputype l.rows) (drop l.relocation-index l.relocation-items) ≡ take l.at l.fn.out ++ flat_map (record_bytes_by l.cputype l.rows) l.relocation-items;
  end : l.end + 8 * record_counts l.cputype (drop l.relocation-index l.relocation-items) ≡ l.at + 8 * record_counts l.cputype l.relocation-items;
  len : length l.out ≡ length l.fn.out;
}
