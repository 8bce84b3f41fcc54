use Rattle.std.proofs.Common.{◌≡◌, List, map, refl, length, Some, ap, ◌∙◌}
use Rattle.std.specs.List.{AllZip}
use Rattle.std.proofs.lemmas.Result.{err_from_is_err_and}
use Rattle.byte_core.specs.Streams.{SourceData}
use Rattle.fat_macho.specs.AddedViews.{IsSeenPart}
use Rattle.fat_macho.specs.Held.{owned, shapes_held, IsAdded}
use Rattle.fat_macho.specs.HeldViews.{held_list}
use Rattle.fat_macho.proofs.AddLaws.{refused_add, is_added, added_writer, sure_input_fails}
use Rattle.fat_macho.proofs.writer.FatWriter.add_owned.Goals as goal

pub returns-in_err-parts : goal.returns-in_err-parts
returns-in_err-parts g c =
    let p = err_from_is_err_and c.from_residual.result c.from_residual.ensures.1 in
    let same : c.new.result ≡ c.args.bytes.items = c.new.ensures ∙ c.deref.ensures.value in
    record { added = rw (p.1, p.2) (refused_add c.in_err-parts.field-0.0 c.args.self.now owned (c.args.bytes.items) (sure_input_fails _ _ (shapes_held c.args.self.now) (c.args.bytes.items) c.in_err-parts.field-0.0 (ap Some same) refl c.in_err-parts.ensures.cause)) }

pub invariant_of-self : goal.invariant_of-self
invariant_of-self g c =
    let sources : List SourceData = map (λ s. g.S.Source.source s) c.self.inside.sources.items in
    let same : c.new.result ≡ c.args.bytes.items = c.new.ensures ∙ c.deref.ensures.value in
    let seen : AllZip (IsSeenPart owned 0 (Some c.args.bytes.items) sources) c.in_ok-parts.parts.items c.in_ok-slices.slices.items = (rw c.deref-2.ensures.value at c.in_ok-slices.ensures).each sources in
    added_writer c.join.result owned (Some (c.args.bytes.items)) sources c.self.inside.slices.items c.in_ok-slices.slices.items c.join.new.held.items c.in_ok-parts.parts.items c.self.invariant
    c.in_ok-parts.ensures.parts.apart seen c.join.ensures.none c.join.ensures.ok c.join.ensures.err

pub returns : goal.returns
returns g c =
    let sources : List SourceData = map (λ s. g.S.Source.source s) c.self.inside.sources.items in
    let same : c.new.result ≡ c.args.bytes.items = c.new.ensures ∙ c.deref.ensures.value in
    let seen : AllZip (IsSeenPart owned 0 (Some c.args.bytes.items) sources) c.in_ok-parts.parts.items c.in_ok-slices.slices.items = (rw c.deref-2.ensures.value at c.in_ok-slices.ensures).each sources in
    let added : IsAdded c.join.result (held_list sources c.self.inside.slices.items) (held_list sources c.join.new.held.items) owned (c.args.bytes.items) =
    is_added c.join.result owned (c.args.bytes.items) _ sources c.self.inside.slices.items c.in_ok-slices.slices.items c.join.new.held.items c.in_ok-parts.parts.items c.self.invariant
    (ap Some same) (ap length same) c.in_ok-parts.ensures.parts seen c.join.ensures.none c.join.ensures.cause c.join.ensures.ok c.join.ensures.err in
    record { added = rw c.self.view_is at added }
