use Rattle.std.proofs.Common.{ap, sym, ◌∙◌, arith, not, length}
use Rattle.std.proofs.lemmas.List.{length-map}
use Rattle.byte_core.proofs.Lists.{count_yes, count_no}
use Rattle.ir_core.specs.MachO.{is_zero_fill_type}
use Rattle.object_core.specs.Object.{SectionBody, body_of}
use Rattle.object_core.specs.MachRows.{is_mach_stored, is_mach_zero_fill}
use Rattle.object_macho.specs.Plan.{number_of}
use Rattle.object_macho.proofs.Comparing.{next_kept}
use Rattle.object_macho.proofs.Items.{item_of}
use Rattle.object_macho.proofs.Numbering.{stored_number, other_number, filled_no, filled_yes}
use Rattle.object_macho.proofs.Pushing.{more_given, each_next}
use Rattle.object_macho.proofs.SymbolLoops.{length-section_numbers}
use Rattle.object_macho.proofs.plan_check.has_numbers.Goals as goal

pub returns-then-numbers-sections-clause-all : goal.returns-then-numbers-sections-clause-all
returns-then-numbers-sections-clause-all c = λ e.
    let ss = c.args.object.now.sections in
    absurd (omega (arith, c.if-numbers-sections.true, ap length e, length-section_numbers ss, ap length c.sections-sections.ensures.value, length-map ss body_of))

pub returns-then-numbers-k-clause-all : goal.returns-then-numbers-k-clause-all
returns-then-numbers-k-clause-all c = λ e.
    let ss = c.args.object.now.sections in
    let k = c.loop-k.k in
    let item = item_of body_of ss _ k c.index-sections-k.result c.sections-sections.ensures.value c.loop-k-test.true c.index-sections-k.is in
    let passes = ap (λ (b : SectionBody). not (is_zero_fill_type b.macho_flags)) item.same ∙ sym c.is_stored.ensures ∙ c.if-is_stored.true in
    let kept = next_kept c.args.numbers.now _ _ _ k _ c.loop-k.invariant.numbers (each_next (number_of ss) ss k item.whole item.found) (omega (arith, c.loop-k-test.true, c.if-numbers-sections.false)) e in
    absurd (omega (arith, c.if-numbers-k.true, kept, stored_number ss k item.whole item.found passes, c.loop-k.invariant.stored))

pub loop-k-preserved-then-is_stored : goal.loop-k-preserved-then-is_stored
loop-k-preserved-then-is_stored c =
    let ss = c.args.object.now.sections in
    let k = c.loop-k.k in
    let item = item_of body_of ss _ k c.index-sections-k.result c.sections-sections.ensures.value c.loop-k-test.true c.index-sections-k.is in
    let s = item.whole in
    let passes = ap (λ (b : SectionBody). not (is_zero_fill_type b.macho_flags)) item.same ∙ sym c.is_stored.ensures ∙ c.if-is_stored.true in
    let number = stored_number ss k s item.found passes in
    record {
      stored = omega (arith, c.loop-k.invariant.stored, count_yes is_mach_stored ss k s item.within item.here passes);
      other = omega (arith, c.loop-k.invariant.other, count_no is_mach_zero_fill ss k s item.within item.here (filled_no s passes));
      numbers = more_given c.args.numbers.now _ _ _ k _ c.loop-k.invariant.numbers (each_next (number_of ss) ss k s item.found) (omega (arith, c.loop-k-test.true, c.if-numbers-sections.false)) (omega (arith, c.if-numbers-k.false, number, c.loop-k.invariant.stored));
    }

pub returns-then-numbers-k-2-clause-all : goal.returns-then-numbers-k-2-clause-all
returns-then-numbers-k-2-clause-all c = λ e.
    let ss = c.args.object.now.sections in
    let k = c.loop-k.k in
    let item = item_of body_of ss _ k c.index-sections-k.result c.sections-sections.ensures.value c.loop-k-test.true c.index-sections-k.is in
    let fails = ap (λ (b : SectionBody). not (is_zero_fill_type b.macho_flags)) item.same ∙ sym c.is_stored.ensures ∙ c.if-is_stored.false in
    let kept = next_kept c.args.numbers.now _ _ _ k _ c.loop-k.invariant.numbers (each_next (number_of ss) ss k item.whole item.found) (omega (arith, c.loop-k-test.true, c.if-numbers-sections.false)) e in
    absurd (omega (arith, c.if-numbers-k-2.true, kept, other_number ss k item.whole item.found fails, c.loop-k.invariant.other))

pub loop-k-preserved : goal.loop-k-preserved
loop-k-preserved c =
    let ss = c.args.object.now.sections in
    let k = c.loop-k.k in
    let item = item_of body_of ss _ k c.index-sections-k.result c.sections-sections.ensures.value c.loop-k-test.true c.index-sections-k.is in
    let s = item.whole in
    let fails = ap (λ (b : SectionBody). not (is_zero_fill_type b.macho_flags)) item.same ∙ sym c.is_stored.ensures ∙ c.if-is_stored.false in
    let number = other_number ss k s item.found fails in
    record {
      stored = omega (arith, c.loop-k.invariant.stored, count_no is_mach_stored ss k s item.within item.here fails);
      other = omega (arith, c.loop-k.invariant.other, count_yes is_mach_zero_fill ss k s item.within item.here (filled_yes s fails));
      numbers = more_given c.args.numbers.now _ _ _ k _ c.loop-k.invariant.numbers (each_next (number_of ss) ss k s item.found) (omega (arith, c.loop-k-test.true, c.if-numbers-sections.false)) (omega (arith, c.if-numbers-k-2.false, number, c.loop-k.invariant.other));
    }
