use Rattle.std.proofs.Common.{◌≡◌, ◌+◌, ◌++◌, take, length}
use Rattle.byte_core.specs.LaidOut.{laid_out, end_of_aligned}
use Rattle.object_core.specs.MachRows.{macho_table_of}
use Rattle.object_macho.proofs.ContentLoops.{contents_before}
use Rattle.object_macho.proofs.sections.place_all_contents.Given as goal

-- the contents so far stand behind what was there
abbrev pub invariant-loop-n : goal.invariant-loop-n
invariant-loop-n l = record {
  bytes : take l.end l.out ≡ take l.at l.fn.out ++ laid_out 0 (contents_before (macho_table_of l.object) l.n);
  end : l.end ≡ l.at + end_of_aligned 0 (contents_before (macho_table_of l.object) l.n);
  len : length l.out ≡ length l.fn.out;
}
