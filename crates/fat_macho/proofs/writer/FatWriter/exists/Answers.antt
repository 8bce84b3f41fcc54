use Rattle.std.proofs.Common.{◌≡◌, ◌∙◌, ap, map, is_some, List}
use Rattle.byte_core.specs.Streams.{SourceData}
use Rattle.fat_macho.specs.Held.{slice_named}
use Rattle.fat_macho.specs.HeldViews.{raw_shape}
use Rattle.fat_macho.specs.Named.{place_named}
use Rattle.fat_macho.proofs.NamedLaws.{named_exists}
use Rattle.fat_macho.proofs.writer.FatWriter.exists.Goals as goal

pub returns : goal.returns
returns g c =
    let sources : List SourceData = map (λ s. g.S.Source.source s) c.self.inside.sources.items in
    let place : c.place_named.result ≡ place_named (map raw_shape c.self.inside.slices.items) c.args.arch.now = rw c.deref.ensures.value at c.place_named.ensures.place in
    c.is_some.ensures ∙ ap is_some place ∙ named_exists sources c.self.inside.slices.items c.args.arch.now ∙ ap (λ held. is_some (slice_named held c.args.arch.now)) c.self.view_is
