use Rattle.std.proofs.Common.{◌≡◌, ◌∙◌, ap, sym, map, List}
use Rattle.byte_core.specs.Streams.{SourceData}
use Rattle.fat_macho.specs.Held.{shapes_held}
use Rattle.fat_macho.specs.HeldViews.{raw_shape}
use Rattle.fat_macho.specs.LayoutSteps.{layout_steps}
use Rattle.fat_macho.proofs.WriterLaws.{shapes_of_view}
use Rattle.fat_macho.proofs.writer.FatWriter.layout.Goals as goal

pub returns : goal.returns
returns g c =
    let sources : List SourceData = map (λ s. g.S.Source.source s) c.self.inside.sources.items in
    let steps : c.steps_of.result ≡ layout_steps (map raw_shape c.self.inside.slices.items) = rw c.deref.ensures.value at c.steps_of.ensures in
    steps ∙ ap layout_steps (sym (shapes_of_view sources c.self.inside.slices.items)) ∙ ap (λ held. layout_steps (shapes_held held)) c.self.view_is
