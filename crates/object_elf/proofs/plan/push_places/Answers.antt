use Rattle.std.proofs.Common.{[], get_or}
use Rattle.object_elf.specs.declared.layout.PartHeader.{PartHeader}
use Rattle.object_elf.specs.PartView.{part_view}
use Rattle.object_elf.proofs.PartLoops.{view_next, pushes_none, pushes_one, pushes_more, place_is}
use Rattle.object_elf.proofs.plan.push_places.Goals as goal

-- the header that the loop's item has past the end
abbrev no_part : PartHeader
no_part = record { prefix = record { ref_ptr = (0, 0); now = [] }; name = record { ref_ptr = (0, 0); now = [] }; sh_type = 0; flags = 0; size = 0; link = 0; info = 0; align = 0; entsize = 0 }

pub loop-part-init : goal.loop-part-init
loop-part-init c = pushes_none _ _

pub loop-part-preserved : goal.loop-part-preserved
loop-part-preserved c =
    let part = part_view (get_or c.args.parts.now c.loop-part.part-index no_part) in
    let start = place_is c.start_behind.result _ c.in_ok-start.start c.start_behind.ensures c.in_ok-start.ensures.ok_part in
    let next = place_is c.end_behind.result _ c.in_ok-next.next c.end_behind.ensures c.in_ok-next.ensures.ok_part in
    pushes_more _ _ _ _ _ _ _ _ _ c.loop-part.invariant (pushes_one _ _ _ _ _ part start next c.in_ok-push.ensures.items) (view_next c.args.parts.now c.loop-part.part-index no_part c.loop-part-test.true)
