use Rattle.std.proofs.Common.{◌≡◌, List, map, refl, length, Some, ap, ◌∙◌}
use Rattle.std.specs.List.{AllByRecursion, AllZip}
use Rattle.std.specs.Rc.{rc_slice_items}
use Rattle.std.proofs.lemmas.Result.{err_from_is_err_and}
use Rattle.byte_core.specs.Streams.{SourceData}
use Rattle.fat_macho.specs.AddedViews.{IsSeenPart}
use Rattle.fat_macho.specs.Held.{owned, shapes_held, IsAdded}
use Rattle.fat_macho.specs.HeldViews.{held_list}
use Rattle.fat_macho.specs.Parts.{IsInside}
use Rattle.fat_macho.proofs.AddLaws.{refused_add, is_added, added_writer, sure_input_fails, shared_seen, each_holds}
use Rattle.fat_macho.proofs.writer.FatWriter.add_shared.Goals as goal

pub returns-in_err-parts : goal.returns-in_err-parts
returns-in_err-parts g c =
    let p = err_from_is_err_and c.from_residual.result c.from_residual.ensures.1 in
    let same : c.new.result ≡ rc_slice_items c.args.bytes = c.new.ensures ∙ c.as_slice.ensures.value in
    record { added = rw (p.1, p.2) (refused_add c.in_err-parts.field-0.0 c.args.self.now owned (rc_slice_items c.args.bytes) (sure_input_fails _ _ (shapes_held c.args.self.now) (rc_slice_items c.args.bytes) c.in_err-parts.field-0.0 (ap Some same) refl c.in_err-parts.ensures.cause)) }

pub held_parts-requires : goal.held_parts-requires
held_parts-requires g c =
    let same : c.new.result ≡ rc_slice_items c.args.bytes = c.new.ensures ∙ c.as_slice.ensures.value in
    let inside : AllByRecursion (IsInside (length (rc_slice_items c.args.bytes))) c.in_ok-parts.parts.items = rw same at c.in_ok-parts.ensures.parts.inside in
    rw c.deref.ensures.value (each_holds (rc_slice_items c.args.bytes) c.in_ok-parts.parts.items inside)

pub invariant_of-self : goal.invariant_of-self
invariant_of-self g c =
    let sources : List SourceData = map (λ s. g.S.Source.source s) c.self.inside.sources.items in
    let same : c.new.result ≡ rc_slice_items c.args.bytes = c.new.ensures ∙ c.as_slice.ensures.value in
    let inside : AllByRecursion (IsInside (length (rc_slice_items c.args.bytes))) c.in_ok-parts.parts.items = rw same at c.in_ok-parts.ensures.parts.inside in
    let seen : AllZip (IsSeenPart owned 0 (Some (rc_slice_items c.args.bytes)) sources) c.in_ok-parts.parts.items c.in_ok-slices.slices.items = shared_seen sources _ c.in_ok-parts.parts.items c.in_ok-slices.slices.items inside (rw c.deref.ensures.value at c.in_ok-slices.ensures) in
    added_writer c.join.result owned (Some (rc_slice_items c.args.bytes)) sources c.self.inside.slices.items c.in_ok-slices.slices.items c.join.new.held.items c.in_ok-parts.parts.items c.self.invariant
    c.in_ok-parts.ensures.parts.apart seen c.join.ensures.none c.join.ensures.ok c.join.ensures.err

pub returns : goal.returns
returns g c =
    let sources : List SourceData = map (λ s. g.S.Source.source s) c.self.inside.sources.items in
    let same : c.new.result ≡ rc_slice_items c.args.bytes = c.new.ensures ∙ c.as_slice.ensures.value in
    let inside : AllByRecursion (IsInside (length (rc_slice_items c.args.bytes))) c.in_ok-parts.parts.items = rw same at c.in_ok-parts.ensures.parts.inside in
    let seen : AllZip (IsSeenPart owned 0 (Some (rc_slice_items c.args.bytes)) sources) c.in_ok-parts.parts.items c.in_ok-slices.slices.items = shared_seen sources _ c.in_ok-parts.parts.items c.in_ok-slices.slices.items inside (rw c.deref.ensures.value at c.in_ok-slices.ensures) in
    let added : IsAdded c.join.result (held_list sources c.self.inside.slices.items) (held_list sources c.join.new.held.items) owned (rc_slice_items c.args.bytes) =
    is_added c.join.result owned (rc_slice_items c.args.bytes) _ sources c.self.inside.slices.items c.in_ok-slices.slices.items c.join.new.held.items c.in_ok-parts.parts.items c.self.invariant
    (ap Some same) (ap length same) c.in_ok-parts.ensures.parts seen c.join.ensures.none c.join.ensures.cause c.join.ensures.ok c.join.ensures.err in
    record { added = rw c.self.view_is at added }
