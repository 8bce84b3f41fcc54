use Rattle.std.proofs.Common.{◌≡◌, map}
use Rattle.std.specs.List.{range_with_len}
use Rattle.image_read.specs.FatImage.{slice_data}
use Rattle.image_read.specs.FatViews.{fat_slice_of}
use Rattle.image_read.proofs.fat.read.slices_of.Given as goal

abbrev pub invariant-loop-k : goal.invariant-loop-k
invariant-loop-k l = map fat_slice_of l.slices.items ≡ map (slice_data l.file) (range_with_len 0 l.k)
