use Rattle.std.proofs.Common.{◌≡◌, ℕ, ◌<◌, take, length, slice_get, Some}
use Rattle.byte_core.specs.LaidOut.{LaysOut, end_of_aligned}
use Rattle.object_core.specs.Object.{SectionData}
use Rattle.object_elf.specs.Writing.{FitRecords}
use Rattle.object_elf.proofs.SectionLoops.{relocated}
use Rattle.object_elf.proofs.relocation_rows.place_relocations.Given as goal

-- the records of the sections so far are laid out
abbrev pub invariant-loop-section : goal.invariant-loop-section
invariant-loop-section l = record {
  records : LaysOut (take l.at l.fn.out) (take l.end l.out) (relocated l.rows (take l.section-index l.object.sections));
  end : l.end ≡ end_of_aligned l.at (relocated l.rows (take l.section-index l.object.sections));
  len : length l.out ≡ length l.fn.out;
  fit : (k : ℕ) (s : SectionData) → k < l.section-index → slice_get l.object.sections k ≡ Some s → FitRecords s.relocations;
}
