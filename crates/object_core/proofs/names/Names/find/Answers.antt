use Rattle.std.proofs.Common.{ℕ, ap, sym, ◌∙◌, arith}
use Rattle.object_core.specs.Names.{last_with}
use Rattle.object_core.specs.NamesView.{NamesData}
use Rattle.object_core.proofs.Texts.{search_begins, search_continues, search_nearer, search_within, older_is, older_within}
use Rattle.object_core.proofs.names.Names.find.Goals as goal

pub loop-place-init : goal.loop-place-init
loop-place-init c = search_begins _ _ _ (c.last_with-place.ensures ∙ ap (λ (n : ℕ). last_with n c.args.self.now.texts) c.number_of.ensures)

pub text-requires : goal.text-requires
text-requires c = search_within _ _ _ _ c.loop-place.invariant c.in-Some.is

pub index-place-requires : goal.index-place-requires
index-place-requires c =
    let below = search_within _ _ _ _ c.loop-place.invariant c.in-Some.is in
    omega (arith, older_within _ _ _ _ _ _ c.self.invariant (ap (λ (n : NamesData). n.texts) c.self.view_is) below, c.self.inside.older.ok.0)

pub loop-place-smaller : goal.loop-place-smaller
loop-place-smaller c = search_nearer _ _ _ _ _ c.in-Some.is (older_is _ _ _ _ _ _ _ _ c.self.invariant (ap (λ (n : NamesData). n.texts) c.self.view_is) c.text.ensures c.index-place.ensures)

pub loop-place-preserved : goal.loop-place-preserved
loop-place-preserved c = search_continues _ _ _ _ _ _ c.loop-place.invariant c.in-Some.is c.text.ensures (sym c.eq.ensures ∙ c.if-eq.false) (older_is _ _ _ _ _ _ _ _ c.self.invariant (ap (λ (n : NamesData). n.texts) c.self.view_is) c.text.ensures c.index-place.ensures)
