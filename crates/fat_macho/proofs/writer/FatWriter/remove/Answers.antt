use Rattle.std.proofs.Common.{List, map, refl, sym, subst, ap, ◌∙◌}
use Rattle.std.proofs.lemmas.Result.{err_from_is_err_and}
use Rattle.byte_core.specs.Streams.{SourceData}
use Rattle.fat_macho.specs.Filing.{ChangesSources}
use Rattle.fat_macho.specs.Held.{slice_named, other_slices, KeepsSlices, NamedRose}
use Rattle.fat_macho.specs.HeldViews.{held_list, IsWriter}
use Rattle.fat_macho.proofs.FilingLaws.{sources_same, lent_back, keeps_slices, writer_same}
use Rattle.fat_macho.proofs.RemoveLaws.{named_at, named_nowhere, removed_writer, handed_out, named_some, named_lent, left_slices, fails_to_remove}
use Rattle.fat_macho.proofs.writer.FatWriter.remove.Goals as goal

pub returns-in_default-clause-none : goal.returns-in_default-clause-none
returns-in_default-clause-none g c =
    let sources : List SourceData = map (λ s. g.S.Source.source s) c.self.inside.sources.items in
    let nowhere = named_nowhere c.self.inside.slices.items c.args.arch.now (sym (rw c.deref.ensures.value at c.place_named.ensures.place) ∙ c.in_default.is) in
    ((λ e. ap (λ held. slice_named held c.args.arch.now) (sym c.self.view_is) ∙ nowhere.named sources), (λ e. refl))

pub returns-in_default-clause-ok : goal.returns-in_default-clause-ok
returns-in_default-clause-ok g c =
    let sources : List SourceData = map (λ s. g.S.Source.source s) c.self.inside.sources.items in
    let nowhere = named_nowhere c.self.inside.slices.items c.args.arch.now (sym (rw c.deref.ensures.value at c.place_named.ensures.place) ∙ c.in_default.is) in
    subst (λ held. KeepsSlices (other_slices held c.args.arch.now) held) c.self.view_is
    (subst (λ held. KeepsSlices held (held_list sources c.self.inside.slices.items)) (sym (nowhere.others sources)) (keeps_slices sources sources c.self.inside.slices.items (sources_same sources)))

pub take_out-requires-clause-placed : goal.take_out-requires-clause-placed
take_out-requires-clause-placed g c = rw c.deref_mut.ensures.value c.self.invariant.places

pub invariant_of-self : goal.invariant_of-self
invariant_of-self g c =
    let source = g.S.Source.source in
    let sources : List SourceData = map (λ s. source s) c.self.inside.sources.items in
    let others : ChangesSources sources (map (λ s. source s) c.take_out.new.sources) = rw c.deref_mut.ensures.value at c.take_out.ensures.others in
    let back = lent_back (λ s. source s) c.self.inside.sources.items c.take_out.new.sources c.self.inside.sources.len c.self.inside.sources.ok.0 others in
    subst (λ items. IsWriter (map (λ s. source s) items) c.take_out.new.slices.items) (sym back)
    (subst (λ slices. IsWriter (map (λ s. source s) c.take_out.new.sources) slices) (sym c.in_err-bytes.ensures.err) (writer_same _ _ c.self.inside.slices.items others c.self.invariant))

pub invariant_of-self-2 : goal.invariant_of-self-2
invariant_of-self-2 g c =
    let source = g.S.Source.source in
    let sources : List SourceData = map (λ s. source s) c.self.inside.sources.items in
    let now : List SourceData = map (λ s. source s) c.take_out.new.sources in
    let others : ChangesSources sources now = rw c.deref_mut.ensures.value at c.take_out.ensures.others in
    let back = lent_back (λ s. source s) c.self.inside.sources.items c.take_out.new.sources c.self.inside.sources.len c.self.inside.sources.ok.0 others in
    subst (λ items. IsWriter (map (λ s. source s) items) c.take_out.new.slices.items) (sym back)
    (subst (λ slices. IsWriter now slices) (sym c.in_ok-bytes.ensures.ok) (removed_writer now c.self.inside.slices.items c.in-Some.place (writer_same _ _ c.self.inside.slices.items others c.self.invariant)))

pub returns-in_err-bytes-clause-reading : goal.returns-in_err-bytes-clause-reading
returns-in_err-bytes-clause-reading g c =
    let source = g.S.Source.source in
    let p = err_from_is_err_and c.from_residual.result c.from_residual.ensures.1 in
    let sources : List SourceData = map (λ s. source s) c.self.inside.sources.items in
    let now : List SourceData = map (λ s. source s) c.take_out.new.sources in
    let others : ChangesSources sources now = rw c.deref_mut.ensures.value at c.take_out.ensures.others in
    let back = lent_back (λ s. source s) c.self.inside.sources.items c.take_out.new.sources c.self.inside.sources.len c.self.inside.sources.ok.0 others in
    let at = named_at c.self.inside.slices.items c.args.arch.now c.in-Some.place c.self.invariant.once (sym (rw c.deref.ensures.value at c.in-Some.ensures.place)) in
    let fails = fails_to_remove sources now c.self.inside.slices.items c.take_out.new.slices.items c.args.arch.now c.in-Some.place c.args.self.now c.in_err-bytes.field-0.0 at c.self.view_is c.in_err-bytes.ensures.err (rw c.deref_mut.ensures.value at c.in_err-bytes.ensures.cause) in
    rw (p.1, p.2) (λ same. subst (λ items. NamedRose c.args.self.now (held_list (map (λ s. source s) items) c.take_out.new.slices.items) c.args.arch.now) (sym back) (fails.rose same))

pub returns-in_err-bytes-clause-causes : goal.returns-in_err-bytes-clause-causes
returns-in_err-bytes-clause-causes g c =
    let source = g.S.Source.source in
    let p = err_from_is_err_and c.from_residual.result c.from_residual.ensures.1 in
    let sources : List SourceData = map (λ s. source s) c.self.inside.sources.items in
    let now : List SourceData = map (λ s. source s) c.take_out.new.sources in
    let at = named_at c.self.inside.slices.items c.args.arch.now c.in-Some.place c.self.invariant.once (sym (rw c.deref.ensures.value at c.in-Some.ensures.place)) in
    let fails = fails_to_remove sources now c.self.inside.slices.items c.take_out.new.slices.items c.args.arch.now c.in-Some.place c.args.self.now c.in_err-bytes.field-0.0 at c.self.view_is c.in_err-bytes.ensures.err (rw c.deref_mut.ensures.value at c.in_err-bytes.ensures.cause) in
    rw (p.1, p.2) fails.causes

pub returns-in_err-bytes-clause-err : goal.returns-in_err-bytes-clause-err
returns-in_err-bytes-clause-err g c =
    let source = g.S.Source.source in
    let p = err_from_is_err_and c.from_residual.result c.from_residual.ensures.1 in
    let sources : List SourceData = map (λ s. source s) c.self.inside.sources.items in
    let now : List SourceData = map (λ s. source s) c.take_out.new.sources in
    let others : ChangesSources sources now = rw c.deref_mut.ensures.value at c.take_out.ensures.others in
    let back = lent_back (λ s. source s) c.self.inside.sources.items c.take_out.new.sources c.self.inside.sources.len c.self.inside.sources.ok.0 others in
    rw p.1
    (subst (λ items. KeepsSlices c.args.self.now (held_list (map (λ s. source s) items) c.take_out.new.slices.items)) (sym back)
    (subst (λ slices. KeepsSlices c.args.self.now (held_list now slices)) (sym c.in_err-bytes.ensures.err) (subst (λ held. KeepsSlices held (held_list now c.self.inside.slices.items)) c.self.view_is (keeps_slices sources now c.self.inside.slices.items others))))

pub returns-in_err-bytes-clause-absent : goal.returns-in_err-bytes-clause-absent
returns-in_err-bytes-clause-absent g c =
    λ none.
    let sources : List SourceData = map (λ s. g.S.Source.source s) c.self.inside.sources.items in
    let at = named_at c.self.inside.slices.items c.args.arch.now c.in-Some.place c.self.invariant.once (sym (rw c.deref.ensures.value at c.in-Some.ensures.place)) in
    absurd (named_some sources c.self.inside.slices.items c.args.arch.now c.in-Some.place c.args.self.now at c.self.view_is none)

pub returns-in_err-bytes-clause-given : goal.returns-in_err-bytes-clause-given
returns-in_err-bytes-clause-given g c =
    let sources : List SourceData = map (λ s. g.S.Source.source s) c.self.inside.sources.items in
    let at = named_at c.self.inside.slices.items c.args.arch.now c.in-Some.place c.self.invariant.once (sym (rw c.deref.ensures.value at c.in-Some.ensures.place)) in
    named_lent sources c.self.inside.slices.items c.args.arch.now c.in-Some.place c.args.self.now _ at c.self.view_is c.in_err-bytes.ensures.lent

pub returns-clause-none : goal.returns-clause-none
returns-clause-none g c =
    let sources : List SourceData = map (λ s. g.S.Source.source s) c.self.inside.sources.items in
    let at = named_at c.self.inside.slices.items c.args.arch.now c.in-Some.place c.self.invariant.once (sym (rw c.deref.ensures.value at c.in-Some.ensures.place)) in
    let out = handed_out sources c.self.inside.slices.items c.args.arch.now c.in-Some.place c.args.self.now c.in_ok-bytes.bytes at c.self.view_is (rw c.deref_mut.ensures.value at c.in_ok-bytes.ensures.bytes) in
    ((λ e. absurd (cc)), (λ e. absurd (out.some e)))

pub returns-clause-bytes : goal.returns-clause-bytes
returns-clause-bytes g c =
    let sources : List SourceData = map (λ s. g.S.Source.source s) c.self.inside.sources.items in
    let at = named_at c.self.inside.slices.items c.args.arch.now c.in-Some.place c.self.invariant.once (sym (rw c.deref.ensures.value at c.in-Some.ensures.place)) in
    (handed_out sources c.self.inside.slices.items c.args.arch.now c.in-Some.place c.args.self.now c.in_ok-bytes.bytes at c.self.view_is (rw c.deref_mut.ensures.value at c.in_ok-bytes.ensures.bytes)).known

pub returns-clause-lent : goal.returns-clause-lent
returns-clause-lent g c =
    let sources : List SourceData = map (λ s. g.S.Source.source s) c.self.inside.sources.items in
    let at = named_at c.self.inside.slices.items c.args.arch.now c.in-Some.place c.self.invariant.once (sym (rw c.deref.ensures.value at c.in-Some.ensures.place)) in
    (handed_out sources c.self.inside.slices.items c.args.arch.now c.in-Some.place c.args.self.now c.in_ok-bytes.bytes at c.self.view_is (rw c.deref_mut.ensures.value at c.in_ok-bytes.ensures.bytes)).lent

pub returns-clause-ok : goal.returns-clause-ok
returns-clause-ok g c =
    let source = g.S.Source.source in
    let sources : List SourceData = map (λ s. source s) c.self.inside.sources.items in
    let now : List SourceData = map (λ s. source s) c.take_out.new.sources in
    let others : ChangesSources sources now = rw c.deref_mut.ensures.value at c.take_out.ensures.others in
    let back = lent_back (λ s. source s) c.self.inside.sources.items c.take_out.new.sources c.self.inside.sources.len c.self.inside.sources.ok.0 others in
    let at = named_at c.self.inside.slices.items c.args.arch.now c.in-Some.place c.self.invariant.once (sym (rw c.deref.ensures.value at c.in-Some.ensures.place)) in
    subst (λ items. KeepsSlices (other_slices c.args.self.now c.args.arch.now) (held_list (map (λ s. source s) items) c.take_out.new.slices.items)) (sym back)
    (left_slices sources now c.self.inside.slices.items c.take_out.new.slices.items c.args.arch.now c.in-Some.place c.args.self.now at c.self.view_is others c.in_ok-bytes.ensures.ok)
