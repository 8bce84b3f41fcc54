use Rattle.std.proofs.Common.{arith, map, List}
use Rattle.std.proofs.lemmas.Result.{err_from_is_err_and}
use Rattle.byte_core.specs.Streams.{SourceData}
use Rattle.byte_core.proofs.Lists.{item_drop, item_get}
use Rattle.fat_macho.specs.HeldViews.{IsPlaced}
use Rattle.fat_macho.proofs.CopyLaws.{fails_as, rose_after}
use Rattle.fat_macho.proofs.FilingLaws.{sources_again, some_rose}
use Rattle.fat_macho.proofs.LaysLaws.{lays_on, lays_fail, lays_end, end_on, end_room, none_left}
use Rattle.fat_macho.proofs.Pairs.{all_at}
use Rattle.fat_macho.proofs.PutLaws.{on_err}
use Rattle.fat_macho.proofs.filing.write_slices.Goals as goal

pub write_next-requires-clause-room : goal.write_next-requires-clause-room
write_next-requires-clause-room g c =
    let split = item_drop c.args.slices.now c.loop-slice.slice-index c.slice-item.result c.loop-slice-test.true c.slice-item.is in
    end_room c.args.align c.loop-slice.end _ _ c.slice-item.result _ _ c.loop-slice.invariant.ends split c.requires.short

pub returns-in_err-end-clause-front : goal.returns-in_err-end-clause-front
returns-in_err-end-clause-front g c =
    let split = item_drop c.args.slices.now c.loop-slice.slice-index c.slice-item.result c.loop-slice-test.true c.slice-item.is in
    let first : List SourceData = map (λ s. g.S.Source.source s) c.args.sources.now in
    let now : List SourceData = map (λ s. g.S.Source.source s) c.loop-slice.sources in
    on_err _ _
    (lays_fail first now c.args.align c.args.start c.loop-slice.end c.args.slices.now _ _ c.slice-item.result (g.W.Sink.sink c.args.sink.now) (g.W.Sink.sink c.loop-slice.sink) (g.W.Sink.sink c.write_next.new.sink)
    c.loop-slice.invariant.written split c.loop-slice.invariant.others c.in_err-end.ensures.front)

pub returns-in_err-end-clause-cause : goal.returns-in_err-end-clause-cause
returns-in_err-end-clause-cause g c =
    let p = err_from_is_err_and c.from_residual.result c.from_residual.ensures.1 in
    let here = item_get c.args.slices.now c.loop-slice.slice-index c.slice-item.result c.loop-slice-test.true c.slice-item.is in
    let first : List SourceData = map (λ s. g.S.Source.source s) c.args.sources.now in
    let now : List SourceData = map (λ s. g.S.Source.source s) c.loop-slice.sources in
    let then : List SourceData = map (λ s. g.S.Source.source s) c.write_next.new.sources in
    rw (p.1, p.2)
    (fails_as _ _ _ _ c.in_err-end.field-0.0 (some_rose first now then c.args.slices.now c.loop-slice.slice-index c.slice-item.result here c.loop-slice.invariant.others) (rose_after _ _ _ c.loop-slice.invariant.rises) c.in_err-end.ensures.cause)

pub loop-slice-preserved : goal.loop-slice-preserved
loop-slice-preserved g c =
    let split = item_drop c.args.slices.now c.loop-slice.slice-index c.slice-item.result c.loop-slice-test.true c.slice-item.is in
    let here = item_get c.args.slices.now c.loop-slice.slice-index c.slice-item.result c.loop-slice-test.true c.slice-item.is in
    let first : List SourceData = map (λ s. g.S.Source.source s) c.args.sources.now in
    let now : List SourceData = map (λ s. g.S.Source.source s) c.loop-slice.sources in
    let placed = all_at (λ h. IsPlaced first h.bytes) c.args.slices.now c.loop-slice.slice-index c.slice-item.result c.requires.placed here in
    record {
      written =
          lays_on first now c.args.align c.args.start c.loop-slice.end c.in_ok-end.end c.args.slices.now _ _ c.slice-item.result (g.W.Sink.sink c.args.sink.now) (g.W.Sink.sink c.loop-slice.sink) (g.W.Sink.sink c.write_next.new.sink)
          c.loop-slice.invariant.written split c.loop-slice.invariant.others c.requires.lengths placed c.in_ok-end.ensures.end c.in_ok-end.ensures.ok;
      ends = end_on c.args.align c.loop-slice.end c.in_ok-end.end _ c.slice-item.result _ _ c.loop-slice.invariant.ends split c.in_ok-end.ensures.end;
      others = sources_again _ _ _ c.loop-slice.invariant.others c.write_next.ensures.others;
      rises = omega (arith, c.loop-slice.invariant.rises, c.write_next.ensures.rises);
    }

pub returns-clause-ok : goal.returns-clause-ok
returns-clause-ok g c =
    lays_end _ c.args.align c.args.start c.loop-slice.end c.args.slices.now _ _ _ c.loop-slice.invariant.written (none_left c.args.slices.now c.loop-slice.slice-index (omega (arith, c.loop-slice-test.false)))
