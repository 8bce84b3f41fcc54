use Rattle.std.proofs.Common.{◌+◌, [], arith}
use Rattle.image_read.proofs.Lists.{row_more}
use Rattle.image_read.proofs.mach.sections.sections_of.Goals as goal

pub loop-k-preserved : goal.loop-k-preserved
loop-k-preserved c =
    rw c.in_ok-push.ensures.items (row_more _ [] _ _ 0 c.loop-k.k (c.loop-k.k + 1) c.loop-k.k c.loop-k.invariant c.in_ok-section.ensures (omega arith) (omega arith))
