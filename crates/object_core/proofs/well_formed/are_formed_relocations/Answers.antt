use Rattle.std.proofs.Common.{arith, ap, refl, sym, ◌∙◌, subst, length}
use Rattle.std.proofs.lemmas.Option.{slice_get_read}
use Rattle.object_core.specs.Object.{SectionBody}
use Rattle.object_core.specs.WellFormed.{IsFormedRelocation}
use Rattle.object_core.specs.Checking.{Each, At}
use Rattle.object_core.proofs.Forming.{below_more, each_all, at_item}
use Rattle.object_core.proofs.well_formed.are_formed_relocations.Goals as goal

pub returns-then-not-is_formed_relocation-clause-no : goal.returns-then-not-is_formed_relocation-clause-no
returns-then-not-is_formed_relocation-clause-no c = λ s same _ all.
    let i = c.loop-relocation.relocation-index in
    let rs = c.relocations-relocation-items.result.now in
    let size = ap (λ (b : SectionBody). length b.contents) same ∙ sym (ap length c.contents-size.ensures) in
    let here = slice_get_read rs (length rs) i c.relocation-item.result refl c.loop-relocation-test.true c.relocation-item.is in
    let list = c.relocations-relocation-items.ensures ∙ ap (λ (b : SectionBody). b.relocations) (sym same) in
    c.is_formed_relocation.ensures.no s size c.if-not-is_formed_relocation.true (subst (Each (IsFormedRelocation c.args.object.now s)) (sym list) all i c.relocation-item.result here)

pub loop-relocation-preserved : goal.loop-relocation-preserved
loop-relocation-preserved c = λ s e.
    let i = c.loop-relocation.relocation-index in
    let rs = c.relocations-relocation-items.result.now in
    let here = slice_get_read rs (length rs) i c.relocation-item.result refl c.loop-relocation-test.true c.relocation-item.is in
    below_more (At (IsFormedRelocation c.args.object.now s) rs) i (c.loop-relocation.invariant s e) (at_item (IsFormedRelocation c.args.object.now s) rs i c.relocation-item.result here (c.is_formed_relocation.ensures.yes s e c.if-not-is_formed_relocation.false))

pub returns-clause-yes : goal.returns-clause-yes
returns-clause-yes c = λ s same _.
    let rs = c.relocations-relocation-items.result.now in
    let size = ap (λ (b : SectionBody). length b.contents) same ∙ sym (ap length c.contents-size.ensures) in
    let list = c.relocations-relocation-items.ensures ∙ ap (λ (b : SectionBody). b.relocations) (sym same) in
    subst (Each (IsFormedRelocation c.args.object.now s)) list (each_all (IsFormedRelocation c.args.object.now s) rs c.loop-relocation.relocation-index (omega (arith, c.loop-relocation-test.false)) (c.loop-relocation.invariant s size))
