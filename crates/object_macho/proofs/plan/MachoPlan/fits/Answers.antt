use Rattle.std.proofs.Common.{◌≡◌, ap, not, ◌∙◌, false}
use Rattle.std.specs.Prelude.{is_ok}
use Rattle.object_macho.proofs.Counting.{counts_are}
use Rattle.object_macho.proofs.Comparing.{not_chosen}
use Rattle.object_macho.proofs.Filling.{numbers_of_plan}
use Rattle.object_core.proofs.Judged.{ok_cause}
use Rattle.object_macho.proofs.Judging.{within_limits}
use Rattle.object_macho.proofs.Planning.{plan_is}
use Rattle.object_macho.specs.PlainCounts.{plain_counts}
use Rattle.object_macho.specs.Limits.{mach_limit_cause}
use Rattle.object_macho.proofs.plan.MachoPlan.fits.Goals as goal

pub returns-then-is_err : goal.returns-then-is_err
returns-then-is_err c = (
  λ h. absurd (cc),
  λ p.
      let within = c.check_limits.ensures.within (rw (counts_are c.args.object.now) p.limits) in
      let fails : is_ok c.check_limits.result ≡ false = c.is_err.ensures.negation ∙ ap not c.if-is_err.true in
      not_chosen fails within,
)

pub returns : goal.returns
returns c =
    let o = c.args.object.now in
    let passes = c.is_err.ensures.negation ∙ ap not c.if-is_err.false in
    let limits = within_limits (plain_counts o) (ok_cause c.check_limits.result (mach_limit_cause (plain_counts o)) passes c.check_limits.ensures.judged) in (
      λ h. record { limits = rw (counts_are o) at limits; numbers = plan_is c.args.self.now o (c.has_plan.ensures.yes h) },
      λ p. c.has_plan.ensures.all (numbers_of_plan c.args.self.now o p.numbers),
    )
