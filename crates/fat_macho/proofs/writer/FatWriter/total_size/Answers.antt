use Rattle.std.proofs.Common.{◌∙◌, ap, sym}
use Rattle.fat_macho.specs.HeldViews.{raw_shape}
use Rattle.fat_macho.specs.Held.{shapes_held}
use Rattle.fat_macho.specs.Layout.{total_of}
use Rattle.std.proofs.Common.{map}
use Rattle.fat_macho.proofs.WriterLaws.{shapes_of_view}
use Rattle.fat_macho.proofs.writer.FatWriter.total_size.Goals as goal

pub returns : goal.returns
returns g c =
    c.total_of.ensures ∙ ap (λ xs. total_of (map raw_shape xs)) c.deref.ensures.value ∙ ap total_of (sym (shapes_of_view (map (λ s. g.S.Source.source s) c.self.inside.sources.items) c.self.inside.slices.items)) ∙ ap (λ held. total_of (shapes_held held)) c.self.view_is
