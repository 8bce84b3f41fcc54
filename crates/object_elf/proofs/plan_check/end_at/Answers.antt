use Rattle.std.proofs.Common.{◌≡◌, ◌+◌, [], arith, length, map, take, get_or}
use Rattle.object_elf.specs.declared.layout.PartHeader.{PartHeader}
use Rattle.object_elf.specs.PartView.{part_view}
use Rattle.object_elf.proofs.PartLoops.{length-map_take, view_next, view_split, stand_none, stand_one, stand_more, one_stops, stops}
use Rattle.object_elf.proofs.plan_check.end_at.Goals as goal

-- the header that the loop's item has past the end
abbrev no_part : PartHeader
no_part = record { prefix = record { ref_ptr = (0, 0); now = [] }; name = record { ref_ptr = (0, 0); now = [] }; sh_type = 0; flags = 0; size = 0; link = 0; info = 0; align = 0; entsize = 0 }

pub loop-k-init : goal.loop-k-init
loop-k-init c = stand_none _ _ _

pub returns-in_err-next : goal.returns-in_err-next
returns-in_err-next c =
    let count : c.args.number + c.loop-k.k ≡ c.args.number + length (map part_view (take c.loop-k.k c.args.parts.now)) = omega (arith, length-map_take part_view c.args.parts.now c.loop-k.k (omega (arith, c.loop-k-test.true))) in
    rw c.from_residual.ensures
    (stops _ _ _ _ _ _ _ _ _ c.loop-k.invariant count (view_split c.args.parts.now c.loop-k.k no_part c.loop-k-test.true) (one_stops _ _ _ (part_view (get_or c.args.parts.now c.loop-k.k no_part)) c.in_err-next.ensures))

pub loop-k-preserved : goal.loop-k-preserved
loop-k-preserved c =
    let count : c.args.number + c.loop-k.k ≡ c.args.number + length (map part_view (take c.loop-k.k c.args.parts.now)) = omega (arith, length-map_take part_view c.args.parts.now c.loop-k.k (omega (arith, c.loop-k-test.true))) in
    stand_more _ _ _ _ _ _ _ _ _ c.loop-k.invariant (stand_one _ _ _ _ (part_view (get_or c.args.parts.now c.loop-k.k no_part)) c.in_ok-next.ensures) count (view_next c.args.parts.now c.loop-k.k no_part c.loop-k-test.true)
