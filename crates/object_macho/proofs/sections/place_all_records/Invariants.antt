use Rattle.std.proofs.Common.{◌≡◌, ◌+◌, ◌*◌, ◌++◌, take, drop, length}
use Rattle.std.specs.Prelude.{flat_map}
use Rattle.object_core.specs.LinkTable.{MachTableSection}
use Rattle.object_core.specs.MachRows.{macho_table_of}
use Rattle.object_macho.specs.Layout.{records_of, record_count}
use Rattle.object_macho.specs.File.{mach_record_bytes}
use Rattle.object_macho.proofs.sections.place_all_records.Given as goal

-- what was written and the records that are left are what was there and all records
abbrev pub invariant-loop-n : goal.invariant-loop-n
invariant-loop-n l = record {
  bytes : take l.end l.out ++ flat_map (λ (s : MachTableSection). flat_map mach_record_bytes (records_of l.cputype s)) (drop l.n (macho_table_of l.object).sections) ≡ take l.at l.fn.out ++ flat_map (λ (s : MachTableSection). flat_map mach_record_bytes (records_of l.cputype s)) (macho_table_of l.object).sections;
  end : l.end + 8 * record_count l.cputype (drop l.n (macho_table_of l.object).sections) ≡ l.at + 8 * record_count l.cputype (macho_table_of l.object).sections;
  len : length l.out ≡ length l.fn.out;
}
