use Rattle.byte_core.proofs.Lists.{item_get}
use Rattle.image_place.proofs.GroupLaws.{one_pushed}
use Rattle.image_place.proofs.grouping.push_field.Goals as goal

pub returns : goal.returns
returns c =
    one_pushed c.args.fields.now.items c.args.number c.args.r c.index_mut.result.now c.push.new.self c.requires.inside (item_get c.args.fields.now.items c.args.number c.index_mut.result.now c.requires.inside c.index_mut.ensures.value) c.in_ok-push.ensures.items
