use Rattle.std.proofs.Common.{◌≡◌, ℕ, ◌+◌, ◌*◌, ◌<◌, ◌++◌, take, drop, length, slice_get, Some}
use Rattle.object_core.specs.declared.relocation.Relocation.{Relocation}
use Rattle.object_elf.specs.Writing.{FitsRecord, record_bytes_by}
use Rattle.object_elf.proofs.relocation_rows.place_records.Given as goal

-- what was written and the records that are left are what was there and all records
abbrev pub invariant-loop-relocation : goal.invariant-loop-relocation
invariant-loop-relocation l = record {
  records : take l.end l.out ++ record_bytes_by l.rows (drop l.relocation-index l.relocations) ≡ take l.at l.fn.out ++ record_bytes_by l.rows l.relocations;
  end : l.end ≡ l.at + 24 * l.relocation-index;
  len : length l.out ≡ length l.fn.out;
  fit : (k : ℕ) (r : Relocation) → k < l.relocation-index → slice_get l.relocations k ≡ Some r → FitsRecord r;
}
