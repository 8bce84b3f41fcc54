use Rattle.std.proofs.Common.{◌≡◌, ◌+◌, ◌*◌, ◌++◌, take, drop, length}
use Rattle.std.specs.Prelude.{flat_map}
use Rattle.object_core.specs.MachRows.{macho_table_of}
use Rattle.object_macho.specs.Layout.{records_start}
use Rattle.object_macho.specs.File.{mach_section_bytes, section_headers_from}
use Rattle.object_macho.proofs.sections.place_section_rows.Given as goal

-- what was written and the headers that are left are what was there and all headers; the next records stand behind those before
abbrev pub invariant-loop-n : goal.invariant-loop-n
invariant-loop-n l = record {
  bytes : take l.end l.out ++ flat_map mach_section_bytes (drop l.n (section_headers_from (macho_table_of l.object) 0 (macho_table_of l.object).sections)) ≡ take l.at l.fn.out ++ flat_map mach_section_bytes (section_headers_from (macho_table_of l.object) 0 (macho_table_of l.object).sections);
  end : l.end ≡ l.at + 80 * l.n;
  reloff : l.reloff ≡ records_start (macho_table_of l.object) l.n;
  len : length l.out ≡ length l.fn.out;
}
