use Rattle.std.proofs.Common.{◌∙◌, ap}
use Rattle.std.specs.List.{list_any}
use Rattle.cranelift_object.specs.Extras.{has_key, extra_key}
use Rattle.cranelift_object.proofs.ExtraLaws.{noted_before}
use Rattle.cranelift_object.proofs.extras.Extras.has.Goals as goal

pub returns : goal.returns
returns c =
    c.contains_key.ensures ∙ noted_before c.self.inside.places c.self.inside.found.items c.key.result c.self.invariant ∙ ap (λ k. list_any (has_key k) c.self.inside.found.items) c.key.ensures
    ∙ ap (list_any (has_key (extra_key c.args.extra.now))) c.self.view_is
