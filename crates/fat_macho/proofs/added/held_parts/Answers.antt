use Rattle.fat_macho.specs.AddedViews.{IsSliceOf}
use Rattle.fat_macho.proofs.AddedLaws.{zip_more}
use Rattle.fat_macho.proofs.added.held_parts.Goals as goal

pub loop-part-preserved : goal.loop-part-preserved
loop-part-preserved c =
    zip_more (IsSliceOf c.args.input) c.args.parts.now c.loop-part.slices.items c.push.new.self.items c.loop-part.part-index _ c.in_ok-slice.slice c.loop-part-test.true c.loop-part.invariant c.in_ok-slice.ensures c.in_ok-push.ensures.items
