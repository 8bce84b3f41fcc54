use Rattle.std.proofs.Common.{◌≡◌, ◌<◌, List, length, map, sym, subst, arith, rules, OnOk, OnErr, IfErr}
use Rattle.std.specs.List.{AllByRecursion}
use Rattle.byte_core.specs.Count.{Rose}
use Rattle.byte_core.specs.Streams.{SourceData}
use Rattle.fat_macho.specs.FatBytes.{FitsShape}
use Rattle.fat_macho.specs.Filing.{ChangesSources, known_file}
use Rattle.fat_macho.specs.Held.{SomeRose, KeepsSlices, TakesFile, TakesFront}
use Rattle.fat_macho.specs.HeldViews.{raw_shape, held_list, IsWriter}
use Rattle.fat_macho.specs.Writing.{PutsKnown, FrontKnown, FailsBy}
use Rattle.fat_macho.proofs.FilingLaws.{lent_back, keeps_slices, writer_same}
use Rattle.fat_macho.proofs.Results.{on_ok_as, on_err_as, err_as}
use Rattle.fat_macho.proofs.TakenLaws.{takes_file, takes_front, takes_none, read_rose}
use Rattle.fat_macho.proofs.writer.FatWriter.write_to.Goals as goal

pub returns-then-is_empty-clause-ok : goal.returns-then-is_empty-clause-ok
returns-then-is_empty-clause-ok g c =
    let sources : List SourceData = map (λ s. g.S.Source.source s) c.self.inside.sources.items in
    let none : length c.self.inside.slices.items ≡ 0 = grind (arith, rules, c.is_empty.ensures, c.if-is_empty.true, c.self.inside.slices.ok.0) in
    subst (λ held. TakesFile held (g.W.Sink.sink c.args.sink.now).written (g.W.Sink.sink c.args.sink.now).written) c.self.view_is (takes_none sources c.self.inside.slices.items (g.W.Sink.sink c.args.sink.now) none)

pub invariant_of-self : goal.invariant_of-self
invariant_of-self g c =
    let source = g.S.Source.source in
    let others : ChangesSources (map (λ s. source s) c.self.inside.sources.items) (map (λ s. source s) c.write_fat.new.sources) = rw c.deref_mut.ensures.value at c.write_fat.ensures.others in
    let back = lent_back (λ s. source s) c.self.inside.sources.items c.write_fat.new.sources c.self.inside.sources.len c.self.inside.sources.ok.0 others in
    subst (λ items. IsWriter (map (λ s. source s) items) c.self.inside.slices.items) (sym back) (writer_same _ _ c.self.inside.slices.items others c.self.invariant)

pub returns-clause-ok : goal.returns-clause-ok
returns-clause-ok g c =
    let sources : List SourceData = map (λ s. g.S.Source.source s) c.self.inside.sources.items in
    let more : 0 < length c.self.inside.slices.items = grind (arith, rules, c.is_empty.ensures, c.if-is_empty.false, c.self.inside.slices.ok.0) in
    let fits : AllByRecursion FitsShape (map raw_shape c.self.inside.slices.items) = rw c.deref.ensures.value at c.write_fat.ensures.fits in
    let puts : OnOk c.write_fat.result (PutsKnown (known_file sources c.self.inside.slices.items) (g.W.Sink.sink c.args.sink.now) (g.W.Sink.sink c.write_fat.new.sink)) = rw (c.deref_mut.ensures.value, c.deref.ensures.value) at c.write_fat.ensures.ok in
    subst (λ held. OnOk c.write_fat.result (TakesFile held (g.W.Sink.sink c.args.sink.now).written (g.W.Sink.sink c.write_fat.new.sink).written)) c.self.view_is
    (on_ok_as c.write_fat.result _ _ (takes_file sources c.self.inside.slices.items (g.W.Sink.sink c.args.sink.now) (g.W.Sink.sink c.write_fat.new.sink) c.self.invariant fits more) puts)

pub returns-clause-front : goal.returns-clause-front
returns-clause-front g c =
    let sources : List SourceData = map (λ s. g.S.Source.source s) c.self.inside.sources.items in
    let more : 0 < length c.self.inside.slices.items = grind (arith, rules, c.is_empty.ensures, c.if-is_empty.false, c.self.inside.slices.ok.0) in
    let fits : AllByRecursion FitsShape (map raw_shape c.self.inside.slices.items) = rw c.deref.ensures.value at c.write_fat.ensures.fits in
    let front : OnErr c.write_fat.result (FrontKnown (known_file sources c.self.inside.slices.items) (g.W.Sink.sink c.args.sink.now) (g.W.Sink.sink c.write_fat.new.sink)) = rw (c.deref_mut.ensures.value, c.deref.ensures.value) at c.write_fat.ensures.front in
    subst (λ held. OnErr c.write_fat.result (TakesFront held (g.W.Sink.sink c.args.sink.now).written (g.W.Sink.sink c.write_fat.new.sink).written)) c.self.view_is
    (on_err_as c.write_fat.result _ _ (takes_front sources c.self.inside.slices.items (g.W.Sink.sink c.args.sink.now) (g.W.Sink.sink c.write_fat.new.sink) c.self.invariant fits more) front)

pub returns-clause-reading : goal.returns-clause-reading
returns-clause-reading g c =
    let source = g.S.Source.source in
    let sources : List SourceData = map (λ s. source s) c.self.inside.sources.items in
    let now : List SourceData = map (λ s. source s) c.write_fat.new.sources in
    let others : ChangesSources sources now = rw c.deref_mut.ensures.value at c.write_fat.ensures.others in
    let back = lent_back (λ s. source s) c.self.inside.sources.items c.write_fat.new.sources c.self.inside.sources.len c.self.inside.sources.ok.0 others in
    let cause : IfErr c.write_fat.result (FailsBy (SomeRose (held_list sources c.self.inside.slices.items) (held_list now c.self.inside.slices.items)) (Rose (g.W.Sink.sink c.args.sink.now).faults (g.W.Sink.sink c.write_fat.new.sink).faults)) =
    rw (c.deref_mut.ensures.value, c.deref.ensures.value) at c.write_fat.ensures.cause in
    err_as c.write_fat.result _ _
    (λ e h same.
    subst (λ items. SomeRose c.args.self.now (held_list (map (λ s. source s) items) c.self.inside.slices.items)) (sym back) (subst (λ held. SomeRose held (held_list now c.self.inside.slices.items)) c.self.view_is (read_rose _ _ e h same)))
    cause

pub returns-clause-kept : goal.returns-clause-kept
returns-clause-kept g c =
    let source = g.S.Source.source in
    let sources : List SourceData = map (λ s. source s) c.self.inside.sources.items in
    let others : ChangesSources sources (map (λ s. source s) c.write_fat.new.sources) = rw c.deref_mut.ensures.value at c.write_fat.ensures.others in
    let back = lent_back (λ s. source s) c.self.inside.sources.items c.write_fat.new.sources c.self.inside.sources.len c.self.inside.sources.ok.0 others in
    subst (λ items. KeepsSlices c.args.self.now (held_list (map (λ s. source s) items) c.self.inside.slices.items)) (sym back)
    (subst (λ held. KeepsSlices held (held_list (map (λ s. source s) c.write_fat.new.sources) c.self.inside.slices.items)) c.self.view_is (keeps_slices sources (map (λ s. source s) c.write_fat.new.sources) c.self.inside.slices.items others))
