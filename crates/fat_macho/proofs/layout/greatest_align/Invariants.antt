use Rattle.std.proofs.Common.{◌≡◌, ◌<◌, ◌≤◌, max, map, drop, take, fold}
use Rattle.std.specs.List.{AllByRecursion}
use Rattle.fat_macho.specs.FatBytes.{FitsShape}
use Rattle.fat_macho.specs.Layout.{greatest_align}
use Rattle.fat_macho.specs.Slices.{align_of}
use Rattle.fat_macho.proofs.layout.greatest_align.Given as goal

-- the greatest of what was seen and of what is left is that of all
abbrev pub invariant-loop-slice : goal.invariant-loop-slice
invariant-loop-slice g l =
    record {
      all : fold (λ align a. max align (align_of a)) l.align (map g.T.Shaped.shape (drop l.slice-index l.slices)) ≡ greatest_align (map g.T.Shaped.shape l.slices);
      some : 0 < l.align;
      bound : l.align ≤ 0x4000;
      fits : AllByRecursion FitsShape (map g.T.Shaped.shape (take l.slice-index l.slices));
    }
