use Rattle.std.proofs.Common.{◌+◌, List, ℕ, sym, subst}
use Rattle.image_place.specs.Spanning.{AreWider}
use Rattle.image_place.proofs.SpanLaws.{wider_more}
use Rattle.image_place.proofs.spans.wider_rows.Goals as goal

pub loop-place-preserved : goal.loop-place-preserved
loop-place-preserved c =
    subst (λ (ws : List ℕ). AreWider c.args.rows.now ws (c.loop-place.place + 1)) (sym c.in_ok-push.ensures.items)
    (wider_more c.args.rows.now c.loop-place.wider.items c.loop-place.place c.wider_before-before.result c.loop-place.invariant c.wider_before-before.ensures)
