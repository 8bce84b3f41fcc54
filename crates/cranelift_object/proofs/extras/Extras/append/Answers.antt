use Rattle.std.proofs.Common.{◌∙◌, ap, length, arith, ◌++◌, ◌∷◌, []}
use Rattle.std.specs.List.{list_any}
use Rattle.cranelift_object.specs.Extras.{has_key, extra_key}
use Rattle.cranelift_object.proofs.ExtraLaws.{finds_more}
use Rattle.cranelift_object.proofs.extras.Extras.append.Goals as goal

pub invariant_of-self-2 : goal.invariant_of-self-2
invariant_of-self-2 c =
    finds_more c.self.inside.places c.insert.new.self c.self.inside.found.items c.push.new.self.items c.args.extra c.key-key.result c.len.result c.self.invariant c.in_ok-insert.ensures.updates c.key-key.ensures
    (omega (arith, c.len.ensures, c.reserve.new.self.ok.0, ap length c.in_ok-reserve.ensures.items))
    (ap (list_any (has_key (extra_key c.args.extra))) c.self.view_is ∙ c.requires) (c.in-Ok.ensures.items ∙ ap (λ es. es ++ c.args.extra ∷ []) c.in_ok-reserve.ensures.items)
