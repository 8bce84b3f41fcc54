use Rattle.std.proofs.Common.{length, sym, subst}
use Rattle.image_place.specs.Spanning.{IsHolder}
use Rattle.image_place.proofs.HolderLaws.{held_any}
use Rattle.image_place.proofs.holding.is_held.Goals as goal

pub returns : goal.returns
returns c =
    let ps = c.spans.result.now in
    sym (held_any c.args.definitions.now ps c.args.section c.args.at c.args.width c.last_holder.result c.spans.ensures c.requires.near (subst (λ t. IsHolder ps t c.args.width (length ps) c.last_holder.result) c.line_place-place.ensures.place c.last_holder.ensures))
