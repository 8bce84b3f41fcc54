use Rattle.std.proofs.Common.{◌+◌, arith}
use Rattle.std.proofs.lemmas.List.{map-append}
use Rattle.image_read.proofs.Lists.{row_more}
use Rattle.image_read.proofs.elf.relocations.append_records.Goals as goal

pub loop-m-preserved : goal.loop-m-preserved
loop-m-preserved c =
    let record_is = rw c.section_row-row.ensures.offset at c.relocation.ensures in
    rw (c.in_ok-push.ensures.items, map-append) (row_more _ _ _ _ 0 c.loop-m.m (c.loop-m.m + 1) c.loop-m.m c.loop-m.invariant record_is (omega arith) (omega arith))
