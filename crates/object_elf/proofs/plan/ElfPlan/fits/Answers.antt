use Rattle.std.proofs.Common.{◌≡◌, ap, sym, arith, not, ◌∙◌, false, true}
use Rattle.std.specs.Prelude.{is_ok}
use Rattle.std.proofs.lemmas.Bool.{eqb-true, eq-eqb}
use Rattle.object_elf.specs.PlainCounts.{plain_counts}
use Rattle.object_elf.proofs.Judging.{within_limits, ok_cause}
use Rattle.object_elf.proofs.Tables.{counts_are}
use Rattle.object_elf.proofs.SymbolLoops.{not_chosen}
use Rattle.object_elf.proofs.Planning.{plan_rows, plan_places, plan_length, plan_is}
use Rattle.object_elf.proofs.plan.ElfPlan.fits.Goals as goal

pub returns-then-is_err : goal.returns-then-is_err
returns-then-is_err c = (
  λ h. absurd (cc),
  λ p.
      let within = c.check_limits.ensures.within (rw (counts_are c.args.object.now) at p.limits) in
      let fails : is_ok c.check_limits.result ≡ false = c.is_err.ensures.negation ∙ ap not c.if-is_err.true in
      not_chosen fails within,
)

pub returns-then-not-has_rows : goal.returns-then-not-has_rows
returns-then-not-has_rows c = (
  λ h. absurd (cc),
  λ p. absurd (c.has_rows.ensures.no c.if-not-has_rows.true (c.rows.ensures ∙ plan_rows c.args.self.now c.args.object.now p.numbers)),
)

pub returns-in-Some : goal.returns-in-Some
returns-in-Some c =
    let o = c.args.object.now in
    let passes : is_ok c.check_limits.result ≡ true = c.is_err.ensures.negation ∙ ap not c.if-is_err.false in
    let limits = within_limits (plain_counts o) (ok_cause c.check_limits.result (plain_counts o) passes c.check_limits.ensures.judged) in (
      λ h.
          let rows = sym c.rows.ensures ∙ c.has_rows.ensures.yes c.if-not-has_rows.false in
          let places = sym c.places.ensures ∙ c.in-Some.ensures.starts in
          let size = sym c.len-length.ensures ∙ sym (eqb-true c.in-Some.found c.len-length.result h) ∙ c.in-Some.ensures.end in
          record { limits = rw (counts_are o) limits; numbers = plan_is c.args.self.now o rows places size },
      λ p. eq-eqb c.in-Some.found c.len-length.result (c.in-Some.ensures.end ∙ sym (plan_length c.args.self.now o p.numbers) ∙ sym c.len-length.ensures),
    )

pub returns-in-None : goal.returns-in-None
returns-in-None c =
    let o = c.args.object.now in (
      λ h. absurd (cc),
      λ p. absurd (omega (arith, c.in-None.ensures (c.places.ensures ∙ plan_places c.args.self.now o p.numbers), plan_length c.args.self.now o p.numbers, c.len-length.ensures)),
    )
