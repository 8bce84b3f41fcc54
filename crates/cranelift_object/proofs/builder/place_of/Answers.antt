use Rattle.std.proofs.Common.{length, sym, ◌∙◌, ap}
use Rattle.std.specs.Prelude.{unwrap_or}
use Rattle.cranelift_object.proofs.TextLaws.{place_is}
use Rattle.cranelift_object.proofs.builder.place_of.Goals as goal

pub returns-in-Some : goal.returns-in-Some
returns-in-Some c = ap (λ o. unwrap_or o (length c.args.texts.now)) (sym c.in-Some.is ∙ c.found_text.ensures) ∙ place_is c.args.text.now c.args.texts.now

pub returns-in-None : goal.returns-in-None
returns-in-None c = ap (λ o. unwrap_or o (length c.args.texts.now)) (sym c.in-None.is ∙ c.found_text.ensures) ∙ place_is c.args.text.now c.args.texts.now
