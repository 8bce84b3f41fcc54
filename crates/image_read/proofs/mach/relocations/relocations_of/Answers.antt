use Rattle.std.proofs.Common.{◌+◌, [], arith}
use Rattle.std.proofs.lemmas.List.{map-append}
use Rattle.image_read.proofs.Lists.{row_more}
use Rattle.image_read.proofs.mach.relocations.relocations_of.Goals as goal

pub loop-m-preserved : goal.loop-m-preserved
loop-m-preserved c =
    rw (c.in_ok-push.ensures.items, map-append) (row_more _ [] _ _ 0 c.loop-m.m (c.loop-m.m + 1) c.loop-m.m c.loop-m.invariant c.relocation.ensures (omega arith) (omega arith))
