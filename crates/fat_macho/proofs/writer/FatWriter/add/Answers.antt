use Rattle.std.proofs.Common.{List, map, refl, length, Some, ap}
use Rattle.std.specs.List.{AllByRecursion, AllZip}
use Rattle.std.proofs.lemmas.Result.{err_from_is_err_and}
use Rattle.byte_core.specs.Streams.{SourceData}
use Rattle.fat_macho.specs.AddedViews.{IsSliceOf}
use Rattle.fat_macho.specs.Held.{borrowed, shapes_held, IsAdded}
use Rattle.fat_macho.specs.HeldViews.{held_list}
use Rattle.fat_macho.specs.Parts.{IsInside}
use Rattle.fat_macho.specs.declared.added.InputBytes.TheVariants as from
use Rattle.fat_macho.proofs.AddLaws.{refused_add, is_added, added_writer, borrowed_seen, borrowed_holds, sure_input_fails}
use Rattle.fat_macho.proofs.writer.FatWriter.add.Goals as goal

pub returns-in_err-parts : goal.returns-in_err-parts
returns-in_err-parts g c =
    let p = err_from_is_err_and c.from_residual.result c.from_residual.ensures.1 in
    record { added = rw (p.1, p.2) (refused_add c.in_err-parts.field-0.0 c.args.self.now borrowed c.args.bytes.now (sure_input_fails _ _ (shapes_held c.args.self.now) c.args.bytes.now c.in_err-parts.field-0.0 (ap Some c.new.ensures) refl c.in_err-parts.ensures.cause)) }

pub held_parts-requires : goal.held_parts-requires
held_parts-requires g c =
    let inside : AllByRecursion (IsInside (length c.args.bytes.now)) c.in_ok-parts.parts.items = rw c.new.ensures at c.in_ok-parts.ensures.parts.inside in
    rw c.deref.ensures.value (borrowed_holds c.args.bytes c.in_ok-parts.parts.items inside)

pub invariant_of-self : goal.invariant_of-self
invariant_of-self g c =
    let sources : List SourceData = map (λ s. g.S.Source.source s) c.self.inside.sources.items in
    let inside : AllByRecursion (IsInside (length c.args.bytes.now)) c.in_ok-parts.parts.items = rw c.new.ensures at c.in_ok-parts.ensures.parts.inside in
    let zip : AllZip (IsSliceOf (from.Borrowed c.args.bytes)) c.in_ok-parts.parts.items c.in_ok-slices.slices.items = rw c.deref.ensures.value at c.in_ok-slices.ensures in
    added_writer c.join.result borrowed (Some c.args.bytes.now) sources c.self.inside.slices.items c.in_ok-slices.slices.items c.join.new.held.items c.in_ok-parts.parts.items c.self.invariant
    c.in_ok-parts.ensures.parts.apart (borrowed_seen sources c.args.bytes c.in_ok-parts.parts.items c.in_ok-slices.slices.items inside zip) c.join.ensures.none c.join.ensures.ok c.join.ensures.err

pub returns : goal.returns
returns g c =
    let sources : List SourceData = map (λ s. g.S.Source.source s) c.self.inside.sources.items in
    let inside : AllByRecursion (IsInside (length c.args.bytes.now)) c.in_ok-parts.parts.items = rw c.new.ensures at c.in_ok-parts.ensures.parts.inside in
    let zip : AllZip (IsSliceOf (from.Borrowed c.args.bytes)) c.in_ok-parts.parts.items c.in_ok-slices.slices.items = rw c.deref.ensures.value at c.in_ok-slices.ensures in
    let added : IsAdded c.join.result (held_list sources c.self.inside.slices.items) (held_list sources c.join.new.held.items) borrowed c.args.bytes.now =
    is_added c.join.result borrowed c.args.bytes.now _ sources c.self.inside.slices.items c.in_ok-slices.slices.items c.join.new.held.items c.in_ok-parts.parts.items c.self.invariant
    (ap Some c.new.ensures) (ap length c.new.ensures) c.in_ok-parts.ensures.parts (borrowed_seen sources c.args.bytes c.in_ok-parts.parts.items c.in_ok-slices.slices.items inside zip) c.join.ensures.none c.join.ensures.cause c.join.ensures.ok c.join.ensures.err in
    record { added = rw c.self.view_is at added }
