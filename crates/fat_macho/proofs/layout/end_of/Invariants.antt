use Rattle.std.proofs.Common.{◌≡◌, ◌≤◌, ◌+◌, ◌*◌, map, drop}
use Rattle.fat_macho.specs.Layout.{end_from, sizes_of}
use Rattle.fat_macho.proofs.layout.end_of.Given as goal

-- what is left ends where all do
abbrev pub invariant-loop-slice : goal.invariant-loop-slice
invariant-loop-slice g l =
    record {
      all : end_from l.align l.end (sizes_of (map g.T.Shaped.shape (drop l.slice-index l.slices))) ≡ end_from l.align l.start (sizes_of (map g.T.Shaped.shape l.slices));
      bound : l.end ≤ 0x10000000000000000 + 0x20000000000000000 * l.slice-index;
    }
