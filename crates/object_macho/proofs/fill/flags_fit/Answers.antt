use Rattle.std.proofs.Common.{◌≡◌, ◌<◌, ◌^◌, ap, ◌∙◌, arith}
use Rattle.std.specs.Prelude.{slice_get, Some}
use Rattle.byte_core.proofs.Lists.{each_more, get_map, get_within}
use Rattle.object_core.specs.Object.{SectionBody, body_of}
use Rattle.object_macho.proofs.fill.flags_fit.Goals as goal

pub loop-section-preserved : goal.loop-section-preserved
loop-section-preserved c = each_more (λ (s : SectionBody). s.macho_flags < 2 ^ 32) c.sections-section-items.result.now c.loop-section.section-index c.section-item.result c.loop-section-test.true c.section-item.is c.loop-section.invariant (omega (arith, c.macho_flags-flags.ensures, c.macho_flags-flags.type_inv))

pub returns : goal.returns
returns c = λ k s e.
    let bs = c.sections-section-items.result.now in
    let there : slice_get bs k ≡ Some (body_of s) = ap (λ xs. slice_get xs k) c.sections-section-items.ensures.value ∙ get_map body_of c.args.object.now.sections k s e in
    c.loop-section.invariant k (body_of s) (omega (arith, get_within bs k (body_of s) there, c.loop-section-test.false)) there
