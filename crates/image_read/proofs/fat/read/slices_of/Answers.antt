use Rattle.std.proofs.Common.{◌+◌, [], arith}
use Rattle.std.proofs.lemmas.List.{map-append}
use Rattle.image_read.proofs.Lists.{row_more}
use Rattle.image_read.proofs.fat.read.slices_of.Goals as goal

pub loop-k-preserved : goal.loop-k-preserved
loop-k-preserved c =
    rw (c.in_ok-push.ensures.items, map-append) (row_more _ [] _ _ 0 c.loop-k.k (c.loop-k.k + 1) c.loop-k.k c.loop-k.invariant c.slice.ensures (omega arith) (omega arith))
