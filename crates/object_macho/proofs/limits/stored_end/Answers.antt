use Rattle.std.proofs.Common.{◌+◌, ap, sym, ◌∙◌, not, length, arith}
use Rattle.std.specs.Int.{next_multiple_of}
use Rattle.std.proofs.lemmas.List.{length-map}
use Rattle.ir_core.specs.MachO.{is_zero_fill_type}
use Rattle.object_core.specs.Object.{SectionBody, body_of}
use Rattle.object_macho.proofs.Items.{item_of, bounded, none_stored, stored_more, stored_same}
use Rattle.object_macho.proofs.limits.stored_end.Goals as goal

pub loop-section-init : goal.loop-section-init
loop-section-init c = record { value = sym none_stored; bound = omega arith }

pub end_behind-end-requires-clause-end : goal.end_behind-end-requires-clause-end
end_behind-end-requires-clause-end c =
    let count = ap length c.sections-section-items.ensures.value ∙ length-map c.args.object.now.sections body_of in
    omega (arith, c.loop-section.invariant.bound, c.loop-section-test.true, count, c.requires.sections)

pub end_behind-end-requires-clause-some : goal.end_behind-end-requires-clause-some
end_behind-end-requires-clause-some c =
    let o = c.args.object.now in
    let item = item_of body_of o.sections _ c.loop-section.section-index c.section-item.result c.sections-section-items.ensures.value c.loop-section-test.true c.section-item.is in
    omega (arith, (bounded o _ item.whole c.sections-section-items.ensures.sound item.found).some, ap (λ (b : SectionBody). b.align) item.same)

pub end_behind-end-requires-clause-align : goal.end_behind-end-requires-clause-align
end_behind-end-requires-clause-align c =
    let o = c.args.object.now in
    let item = item_of body_of o.sections _ c.loop-section.section-index c.section-item.result c.sections-section-items.ensures.value c.loop-section-test.true c.section-item.is in
    omega (arith, (bounded o _ item.whole c.sections-section-items.ensures.sound item.found).align, ap (λ (b : SectionBody). b.align) item.same, c.requires.contents, c.requires.sections)

pub end_behind-end-requires-clause-size : goal.end_behind-end-requires-clause-size
end_behind-end-requires-clause-size c =
    let o = c.args.object.now in
    let item = item_of body_of o.sections _ c.loop-section.section-index c.section-item.result c.sections-section-items.ensures.value c.loop-section-test.true c.section-item.is in
    omega (arith, (bounded o _ item.whole c.sections-section-items.ensures.sound item.found).size, ap (λ (b : SectionBody). b.size) item.same, c.requires.contents)

pub loop-section-preserved : goal.loop-section-preserved
loop-section-preserved c =
    let o = c.args.object.now in
    let item = item_of body_of o.sections _ c.loop-section.section-index c.section-item.result c.sections-section-items.ensures.value c.loop-section-test.true c.section-item.is in
    let passes = ap (λ (b : SectionBody). not (is_zero_fill_type b.macho_flags)) item.same ∙ sym c.is_stored.ensures ∙ c.if-not-is_stored.false in
    record {
      value =
          c.end_behind-end.ensures.value
          ∙ ap (λ (b : SectionBody). next_multiple_of c.loop-section.end b.align + b.size) (sym item.same)
          ∙ ap (λ n. next_multiple_of n item.whole.align + item.whole.size) c.loop-section.invariant.value
          ∙ sym (stored_more o.sections c.loop-section.section-index item.whole item.within item.here passes);
      bound = omega (arith, c.loop-section.invariant.bound, c.end_behind-end.ensures.bound);
    }

pub loop-section-preserved-then-not-is_stored : goal.loop-section-preserved-then-not-is_stored
loop-section-preserved-then-not-is_stored c =
    let o = c.args.object.now in
    let item = item_of body_of o.sections _ c.loop-section.section-index c.section-item.result c.sections-section-items.ensures.value c.loop-section-test.true c.section-item.is in
    let fails = ap (λ (b : SectionBody). not (is_zero_fill_type b.macho_flags)) item.same ∙ sym c.is_stored.ensures ∙ c.if-not-is_stored.true in
    record {
      value = c.loop-section.invariant.value ∙ sym (stored_same o.sections c.loop-section.section-index item.whole item.within item.here fails);
      bound = omega (arith, c.loop-section.invariant.bound);
    }
