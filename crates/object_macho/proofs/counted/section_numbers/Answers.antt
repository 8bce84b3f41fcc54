use Rattle.std.proofs.Common.{◌+◌, ◌∷◌, ap, sym, ◌∙◌, arith, not, drop}
use Rattle.byte_core.proofs.Lists.{count_yes, count_no}
use Rattle.ir_core.specs.MachO.{is_zero_fill_type}
use Rattle.object_core.specs.Object.{SectionBody, body_of}
use Rattle.object_core.specs.MachRows.{is_mach_stored, is_mach_zero_fill}
use Rattle.object_macho.specs.Plan.{number_of}
use Rattle.object_macho.proofs.Items.{item_of}
use Rattle.object_macho.proofs.Numbering.{stored_number, other_number, filled_no, filled_yes}
use Rattle.object_macho.proofs.Pushing.{more, each_from, each_next}
use Rattle.object_macho.proofs.counted.section_numbers.Goals as goal

pub loop-section-preserved-then-is_stored : goal.loop-section-preserved-then-is_stored
loop-section-preserved-then-is_stored c =
    let ss = c.args.object.now.sections in
    let k = c.loop-section.section-index in
    let item = item_of body_of ss _ k c.section-item.result c.sections-sections.ensures.value c.loop-section-test.true c.section-item.is in
    let s = item.whole in
    let passes = ap (λ (b : SectionBody). not (is_zero_fill_type b.macho_flags)) item.same ∙ sym c.is_stored.ensures ∙ c.if-is_stored.true in
    let number = c.loop-section.invariant.stored ∙ sym (stored_number ss k s item.found passes) in
    record {
      stored = omega (arith, c.loop-section.invariant.stored, count_yes is_mach_stored ss k s item.within item.here passes);
      other = omega (arith, c.loop-section.invariant.other, count_no is_mach_zero_fill ss k s item.within item.here (filled_no s passes));
      numbers = more _ _ _ _ _ c.loop-section.stored c.loop-section.invariant.numbers (each_next (number_of ss) ss k s item.found ∙ ap (λ n. n ∷ each_from (number_of ss) (k + 1) (drop (k + 1) ss)) (sym number)) c.in_ok-push.ensures.items;
    }

pub loop-section-preserved : goal.loop-section-preserved
loop-section-preserved c =
    let ss = c.args.object.now.sections in
    let k = c.loop-section.section-index in
    let item = item_of body_of ss _ k c.section-item.result c.sections-sections.ensures.value c.loop-section-test.true c.section-item.is in
    let s = item.whole in
    let fails = ap (λ (b : SectionBody). not (is_zero_fill_type b.macho_flags)) item.same ∙ sym c.is_stored.ensures ∙ c.if-is_stored.false in
    let number = c.loop-section.invariant.other ∙ sym (other_number ss k s item.found fails) in
    record {
      stored = omega (arith, c.loop-section.invariant.stored, count_no is_mach_stored ss k s item.within item.here fails);
      other = omega (arith, c.loop-section.invariant.other, count_yes is_mach_zero_fill ss k s item.within item.here (filled_yes s fails));
      numbers = more _ _ _ _ _ c.loop-section.other c.loop-section.invariant.numbers (each_next (number_of ss) ss k s item.found ∙ ap (λ n. n ∷ each_from (number_of ss) (k + 1) (drop (k + 1) ss)) (sym number)) c.in_ok-push-2.ensures.items;
    }
