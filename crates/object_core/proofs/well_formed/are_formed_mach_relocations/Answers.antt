use Rattle.std.proofs.Common.{arith, ap, refl, sym, ◌∙◌, subst, length}
use Rattle.std.proofs.lemmas.Option.{slice_get_read}
use Rattle.object_core.specs.declared.relocation.Relocation.{Relocation}
use Rattle.object_core.specs.Object.{SectionBody}
use Rattle.object_core.specs.WellFormed.{IsFormedMachRelocation}
use Rattle.object_core.specs.Checking.{Each, At, IsNarrow, AreNarrow}
use Rattle.object_core.proofs.Forming.{below_more, each_all, at_item}
use Rattle.object_core.proofs.well_formed.are_formed_mach_relocations.Goals as goal

pub returns-then-not-is_formed_mach_relocation-clause-no : goal.returns-then-not-is_formed_mach_relocation-clause-no
returns-then-not-is_formed_mach_relocation-clause-no c = λ s same _ all.
    let i = c.loop-relocation.relocation-index in
    let rs = c.relocations-relocation-items.result.now in
    let size = ap (λ (b : SectionBody). length b.contents) same ∙ sym (ap length c.contents-size.ensures) in
    let here = slice_get_read rs (length rs) i c.relocation-item.result refl c.loop-relocation-test.true c.relocation-item.is in
    let list = c.relocations-relocation-items.ensures ∙ ap (λ (b : SectionBody). b.relocations) (sym same) in
    c.is_formed_mach_relocation.ensures.no s size c.if-not-is_formed_mach_relocation.true (subst (Each (IsFormedMachRelocation c.args.object.now s)) (sym list) all i c.relocation-item.result here)

pub loop-relocation-preserved : goal.loop-relocation-preserved
loop-relocation-preserved c =
    let i = c.loop-relocation.relocation-index in
    let rs = c.relocations-relocation-items.result.now in
    let here = slice_get_read rs (length rs) i c.relocation-item.result refl c.loop-relocation-test.true c.relocation-item.is in
    let true_here = c.if-not-is_formed_mach_relocation.false in
    record {
      formed = λ s e. below_more (At (IsFormedMachRelocation c.args.object.now s) rs) i (c.loop-relocation.invariant.formed s e) (at_item (IsFormedMachRelocation c.args.object.now s) rs i c.relocation-item.result here (c.is_formed_mach_relocation.ensures.yes s e true_here));
      narrow = below_more (At (λ (r : Relocation). IsNarrow r.flags) rs) i c.loop-relocation.invariant.narrow (at_item (λ (r : Relocation). IsNarrow r.flags) rs i c.relocation-item.result here (c.is_formed_mach_relocation.ensures.narrow true_here));
    }

pub returns-clause-yes : goal.returns-clause-yes
returns-clause-yes c = λ s same _.
    let rs = c.relocations-relocation-items.result.now in
    let size = ap (λ (b : SectionBody). length b.contents) same ∙ sym (ap length c.contents-size.ensures) in
    let list = c.relocations-relocation-items.ensures ∙ ap (λ (b : SectionBody). b.relocations) (sym same) in
    subst (Each (IsFormedMachRelocation c.args.object.now s)) list (each_all (IsFormedMachRelocation c.args.object.now s) rs c.loop-relocation.relocation-index (omega (arith, c.loop-relocation-test.false)) (c.loop-relocation.invariant.formed s size))

pub returns-clause-narrow : goal.returns-clause-narrow
returns-clause-narrow c = λ _.
    let rs = c.relocations-relocation-items.result.now in
    subst AreNarrow c.relocations-relocation-items.ensures (each_all (λ (r : Relocation). IsNarrow r.flags) rs c.loop-relocation.relocation-index (omega (arith, c.loop-relocation-test.false)) c.loop-relocation.invariant.narrow)
