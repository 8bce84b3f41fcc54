use Rattle.std.proofs.Common.{sym, ◌∙◌, ap, arith}
use Rattle.std.specs.List.{position_or_len}
use Rattle.std.specs.Option.{option_copied}
use Rattle.cranelift_object.specs.Extras.{has_key, extra_key}
use Rattle.cranelift_object.proofs.ExtraLaws.{place_none, place_some}
use Rattle.cranelift_object.proofs.extras.Extras.place.Goals as goal

pub returns-in-Some-clause-bound : goal.returns-in-Some-clause-bound
returns-in-Some-clause-bound c =
    let found = place_some c.self.inside.places c.self.inside.found.items c.key.result c.in-Some.place.now c.self.invariant (sym c.get.ensures.value ∙ ap option_copied c.in-Some.is) in
    omega (arith, found.1, c.self.inside.found.small, c.self.inside.found.ok.0)

pub returns-in-None-clause-place : goal.returns-in-None-clause-place
returns-in-None-clause-place c =
    let past = place_none c.self.inside.places c.self.inside.found.items c.key.result c.self.invariant (sym c.get.ensures.value ∙ ap option_copied c.in-None.is) in
    c.len.ensures ∙ c.self.inside.found.ok.0 ∙ past ∙ ap (λ k. position_or_len (has_key k) c.self.inside.found.items) c.key.ensures ∙ ap (position_or_len (has_key (extra_key c.args.extra))) c.self.view_is
