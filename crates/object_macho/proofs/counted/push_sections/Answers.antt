use Rattle.std.proofs.Common.{ap, sym, ◌∙◌}
use Rattle.object_core.specs.Object.{SectionBody, body_of}
use Rattle.object_macho.specs.Orders.{is_flags_in, is_section_in}
use Rattle.object_macho.proofs.Items.{item_of}
use Rattle.object_macho.proofs.Pushing.{more, passed, numbers_yes, numbers_no}
use Rattle.object_macho.proofs.counted.push_sections.Goals as goal

pub loop-k-preserved-then-not-is_section_in : goal.loop-k-preserved-then-not-is_section_in
loop-k-preserved-then-not-is_section_in c =
    let o = c.args.object.now in
    let item = item_of body_of o.sections _ c.loop-k.k c.index-sections-k.result c.sections-sections.ensures.value c.loop-k-test.true c.index-sections-k.is in
    let fails = ap (λ (b : SectionBody). is_flags_in c.args.stored b.macho_flags) item.same ∙ sym c.is_section_in.ensures ∙ c.if-not-is_section_in.true in
    passed _ _ _ _ c.loop-k.invariant (numbers_no (is_section_in c.args.stored) o.sections c.loop-k.k item.whole item.found fails)

pub loop-k-preserved : goal.loop-k-preserved
loop-k-preserved c =
    let o = c.args.object.now in
    let item = item_of body_of o.sections _ c.loop-k.k c.index-sections-k.result c.sections-sections.ensures.value c.loop-k-test.true c.index-sections-k.is in
    let passes = ap (λ (b : SectionBody). is_flags_in c.args.stored b.macho_flags) item.same ∙ sym c.is_section_in.ensures ∙ c.if-not-is_section_in.false in
    more _ _ _ _ _ _ c.loop-k.invariant (numbers_yes (is_section_in c.args.stored) o.sections c.loop-k.k item.whole item.found passes) c.in_ok-push.ensures.items
