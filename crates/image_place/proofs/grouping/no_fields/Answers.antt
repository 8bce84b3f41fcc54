use Rattle.image_place.proofs.GroupLaws.{empty_pushed}
use Rattle.image_place.proofs.grouping.no_fields.Goals as goal

pub loop-preserved : goal.loop-preserved
loop-preserved c = empty_pushed c.loop.index c.loop.fields.items c.push.new.self.items c.new.result c.loop.invariant c.in_ok-push.ensures.items c.new.ensures.items
