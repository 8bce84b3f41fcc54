use Rattle.std.proofs.Common.{◌≡◌, List, length, map, ap, sym, ◌∙◌, ◌++◌, ◌∷◌, [], subst, IfSome, Result, Err, Ok}
use Rattle.std.specs.List.{AllZip}
use Rattle.std.proofs.lemmas.List.{length-map, map-append}
use Rattle.std.proofs.lemmas.Result.{err_from_is_err_and}
use Rattle.byte_core.specs.Streams.{SourceData}
use Rattle.fat_macho.specs.AddedViews.{IsSliceOf}
use Rattle.fat_macho.specs.Held.{IsTaken, AddsShapes}
use Rattle.fat_macho.specs.HeldViews.{held_list, IsWriter}
use Rattle.fat_macho.specs.declared.added.InputBytes.TheVariants as from
use Rattle.fat_macho.specs.declared.error.Error.{Error}
use Rattle.fat_macho.proofs.SourceLaws.{refused_source, source_holds, unjoined_source, taken_source, told_source, adds_shapes}
use Rattle.fat_macho.proofs.writer.FatWriter.add_source.Goals as goal

pub returns-in_err-parts-clause-added : goal.returns-in_err-parts-clause-added
returns-in_err-parts-clause-added g c =
    let p = err_from_is_err_and c.from_residual.result c.from_residual.ensures.1 in
    rw (p.1, p.2) (refused_source _ _ c.args.self.now c.in_err-parts.field-0.0 c.in_err-parts.ensures.cause)

pub held_parts-requires : goal.held_parts-requires
held_parts-requires g c = source_holds c.len-number.result c.deref.result.now

pub returns-in_err-join-clause-added : goal.returns-in_err-join-clause-added
returns-in_err-join-clause-added g c =
    let source = g.S.Source.source in
    let p = err_from_is_err_and c.from_residual-in_err-join.result c.from_residual-in_err-join.ensures.1 in
    let sources : List SourceData = map source c.self.inside.sources.items in
    let number : c.len-number.result ≡ length sources = c.len-number.ensures ∙ c.self.inside.sources.ok.0 ∙ sym (length-map c.self.inside.sources.items source) in
    let zip : AllZip (IsSliceOf (from.Source c.len-number.result)) c.in_ok-parts.parts.items c.in_ok-slices.slices.items = rw c.deref.ensures.value at c.in_ok-slices.ensures in
    let r : Result (Unit {0}) Error = Err c.in_err-join.field-0.0 in
    let told : IfSome (source c.args.source).bytes (IsTaken r (held_list sources c.self.inside.slices.items) (held_list sources c.self.inside.slices.items)) =
    unjoined_source (source c.args.source) (source c.input_parts.new.source) sources c.self.inside.slices.items c.in_ok-slices.slices.items c.in_ok-parts.parts.items c.len-number.result c.in_err-join.field-0.0
    c.input_parts.ensures.known c.input_parts.ensures.others c.in_ok-parts.ensures.parts number zip c.in_err-join.ensures.cause c.self.invariant in
    rw (p.1, p.2, c.in_err-join.ensures.err, c.reserve.ensures.items, c.self.view_is) (rw c.self.view_is at told)

pub invariant_of-self-2 : goal.invariant_of-self-2
invariant_of-self-2 g c =
    let source = g.S.Source.source in
    let sources : List SourceData = map source c.self.inside.sources.items in
    let number : c.len-number.result ≡ length sources = c.len-number.ensures ∙ c.self.inside.sources.ok.0 ∙ sym (length-map c.self.inside.sources.items source) in
    let zip : AllZip (IsSliceOf (from.Source c.len-number.result)) c.in_ok-parts.parts.items c.in_ok-slices.slices.items = rw c.deref.ensures.value at c.in_ok-slices.ensures in
    let both : map source c.push_reserved.new.list.items ≡ sources ++ source c.input_parts.new.source ∷ [] =
    ap (map source) (c.push_reserved.ensures ∙ ap (λ xs. xs ++ c.input_parts.new.source ∷ []) c.reserve.ensures.items) ∙ map-append source c.self.inside.sources.items (c.input_parts.new.source ∷ []) in
    let taken = taken_source (source c.args.source) (source c.input_parts.new.source) sources c.self.inside.slices.items c.in_ok-slices.slices.items c.join.new.held.items c.in_ok-parts.parts.items c.len-number.result
    c.self.invariant c.input_parts.ensures.known c.input_parts.ensures.others c.in_ok-parts.ensures.parts number zip c.in_ok-join.ensures.none c.in_ok-join.ensures.ok in
    subst (λ ss. IsWriter ss c.join.new.held.items) (sym both) taken.joined.writer

pub returns-clause-added : goal.returns-clause-added
returns-clause-added g c =
    let source = g.S.Source.source in
    let sources : List SourceData = map source c.self.inside.sources.items in
    let number : c.len-number.result ≡ length sources = c.len-number.ensures ∙ c.self.inside.sources.ok.0 ∙ sym (length-map c.self.inside.sources.items source) in
    let zip : AllZip (IsSliceOf (from.Source c.len-number.result)) c.in_ok-parts.parts.items c.in_ok-slices.slices.items = rw c.deref.ensures.value at c.in_ok-slices.ensures in
    let both : map source c.push_reserved.new.list.items ≡ sources ++ source c.input_parts.new.source ∷ [] =
    ap (map source) (c.push_reserved.ensures ∙ ap (λ xs. xs ++ c.input_parts.new.source ∷ []) c.reserve.ensures.items) ∙ map-append source c.self.inside.sources.items (c.input_parts.new.source ∷ []) in
    let taken = taken_source (source c.args.source) (source c.input_parts.new.source) sources c.self.inside.slices.items c.in_ok-slices.slices.items c.join.new.held.items c.in_ok-parts.parts.items c.len-number.result
    c.self.invariant c.input_parts.ensures.known c.input_parts.ensures.others c.in_ok-parts.ensures.parts number zip c.in_ok-join.ensures.none c.in_ok-join.ensures.ok in
    let r : Result (Unit {0}) Error = Ok tt in
    let told : IfSome (source c.args.source).bytes (IsTaken r (held_list sources c.self.inside.slices.items) (held_list (sources ++ source c.input_parts.new.source ∷ []) c.join.new.held.items)) =
    told_source (source c.args.source) (source c.input_parts.new.source) sources c.self.inside.slices.items c.join.new.held.items c.in_ok-parts.parts.items c.input_parts.ensures.known c.in_ok-parts.ensures.parts taken in
    subst (λ held. IfSome (source c.args.source).bytes (IsTaken r held (held_list (map source c.push_reserved.new.list.items) c.join.new.held.items))) c.self.view_is
    (subst (λ ss. IfSome (source c.args.source).bytes (IsTaken r (held_list sources c.self.inside.slices.items) (held_list ss c.join.new.held.items))) (sym both) told)

pub returns-clause-untold : goal.returns-clause-untold
returns-clause-untold g c =
    λ untold.
    let source = g.S.Source.source in
    let sources : List SourceData = map source c.self.inside.sources.items in
    let number : c.len-number.result ≡ length sources = c.len-number.ensures ∙ c.self.inside.sources.ok.0 ∙ sym (length-map c.self.inside.sources.items source) in
    let zip : AllZip (IsSliceOf (from.Source c.len-number.result)) c.in_ok-parts.parts.items c.in_ok-slices.slices.items = rw c.deref.ensures.value at c.in_ok-slices.ensures in
    let both : map source c.push_reserved.new.list.items ≡ sources ++ source c.input_parts.new.source ∷ [] =
    ap (map source) (c.push_reserved.ensures ∙ ap (λ xs. xs ++ c.input_parts.new.source ∷ []) c.reserve.ensures.items) ∙ map-append source c.self.inside.sources.items (c.input_parts.new.source ∷ []) in
    let taken = taken_source (source c.args.source) (source c.input_parts.new.source) sources c.self.inside.slices.items c.in_ok-slices.slices.items c.join.new.held.items c.in_ok-parts.parts.items c.len-number.result
    c.self.invariant c.input_parts.ensures.known c.input_parts.ensures.others c.in_ok-parts.ensures.parts number zip c.in_ok-join.ensures.none c.in_ok-join.ensures.ok in
    subst (λ held. AddsShapes held (held_list (map source c.push_reserved.new.list.items) c.join.new.held.items)) c.self.view_is
    (subst (λ ss. AddsShapes (held_list sources c.self.inside.slices.items) (held_list ss c.join.new.held.items)) (sym both)
    (adds_shapes (source c.args.source) (source c.input_parts.new.source) sources c.self.inside.slices.items c.join.new.held.items c.in_ok-parts.parts.items untold taken))
