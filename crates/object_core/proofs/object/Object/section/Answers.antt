use Rattle.std.proofs.Common.{◌<◌, ap, sym, ◌∙◌, refl, length, arith}
use Rattle.std.specs.Prelude.{slice_get, option_map}
use Rattle.std.proofs.lemmas.List.{length-map}
use Rattle.std.proofs.lemmas.Option.{slice_get_read, slice_get-map}
use Rattle.object_core.specs.Object.{body_of}
use Rattle.object_core.proofs.object.Object.section.Goals as goal

pub returns : goal.returns
returns c =
    let o = c.args.self.now in
    let k = c.as_number.result in
    let bs = c.sections-sections.result.now in
    let within : k < length bs = omega (arith, c.as_number.ensures, c.requires, ap length c.sections-sections.ensures.value, length-map o.sections body_of) in
    ap (λ i. option_map body_of (slice_get o.sections i)) (sym c.as_number.ensures)
    ∙ sym (slice_get-map body_of o.sections k)
    ∙ ap (λ xs. slice_get xs k) (sym c.sections-sections.ensures.value)
    ∙ slice_get_read bs (length bs) k c.index-sections-as_number.result refl within c.index-sections-as_number.is
