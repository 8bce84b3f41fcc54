use Rattle.std.proofs.Common.{◌≡◌, ◌∷◌, Err, ◌∙◌, ap}
use Rattle.std.proofs.lemmas.Result.{err_from_is_err_and}
use Rattle.goblin_mach.proofs.Items.{AllGiven, all_items, error_item}
use Rattle.goblin_mach.proofs.fat.MultiArch.arches.Goals as goal

pub returns-in_err-arch-clause-cause : goal.returns-in_err-arch-clause-cause
returns-in_err-arch-clause-cause c =
    let p = err_from_is_err_and c.from_residual.result c.from_residual.ensures.1 in
    let next : c.loop-arch.arch-iterator ≡ Err c.in_err-arch.field-0.0 ∷ c.next.new.self = c.in-Some.ensures.steps ∙ ap (λ item. item ∷ c.next.new.self) c.in_err-arch.was in
    rw (p.1, p.2) (error_item c.args.self.now c.loop-arch.arches.items c.loop-arch.arch-iterator c.next.new.self c.in_err-arch.field-0.0 next c.loop-arch.invariant.items)

all : (c : goal.In-None) → AllGiven c.args.self.now c.loop-arch.arches.items
all c = all_items c.args.self.now c.loop-arch.arches.items c.loop-arch.arch-iterator c.in-None.ensures.steps.0 c.loop-arch.invariant.items

pub returns-clause-ok : goal.returns-clause-ok
returns-clause-ok c = (all c).entries

pub returns-clause-whole : goal.returns-clause-whole
returns-clause-whole c = (all c).whole
