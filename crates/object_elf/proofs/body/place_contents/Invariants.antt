use Rattle.std.proofs.Common.{◌≡◌, ℕ, ◌<◌, ◌^◌, map, take, length, slice_get, Some}
use Rattle.byte_core.specs.LaidOut.{LaysOut, end_of_aligned}
use Rattle.object_core.specs.Object.{SectionData}
use Rattle.object_elf.specs.Writing.{plain, contents_at}
use Rattle.object_elf.proofs.body.place_contents.Given as goal

-- the bytes of the sections so far are laid out
abbrev pub invariant-loop-section : goal.invariant-loop-section
invariant-loop-section l = record {
  contents : LaysOut (take l.at l.fn.out) (take l.end l.out) (map contents_at (take l.section-index (map plain l.sections)));
  end : l.end ≡ end_of_aligned l.at (map contents_at (take l.section-index (map plain l.sections)));
  len : length l.out ≡ length l.fn.out;
  aligns : (k : ℕ) (s : SectionData) → k < l.section-index → slice_get (map plain l.sections) k ≡ Some s → s.align < 2 ^ 64;
}
