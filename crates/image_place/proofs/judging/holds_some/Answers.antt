use Rattle.std.proofs.Common.{◌+◌, sym, ap, ◌∙◌}
use Rattle.std.specs.List.{list_any}
use Rattle.image_place.specs.Placed.{holds}
use Rattle.image_place.proofs.JudgingLaws.{any_field}
use Rattle.image_place.proofs.judging.holds_some.Goals as goal

pub returns : goal.returns
returns c =
    let ds = c.args.definitions.now in
    c.is_held.ensures
    ∙ ap (λ at. list_any (holds c.args.k (at + c.from-2.result) c.width_of.result) ds) c.from.ensures
    ∙ ap (λ at. list_any (holds c.args.k (c.args.start + at) c.width_of.result) ds) c.from-2.ensures
    ∙ ap (λ n. list_any (holds c.args.k (c.args.start + c.args.r.offset) n) ds) c.width_of.ensures.width
    ∙ sym (any_field c.args.k c.args.start c.args.r c.args.kind ds)
