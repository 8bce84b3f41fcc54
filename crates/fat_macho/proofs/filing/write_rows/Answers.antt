use Rattle.std.proofs.Common.{arith}
use Rattle.byte_core.proofs.Lists.{item_drop}
use Rattle.fat_macho.proofs.LaysLaws.{rows_on, rows_fail, rows_end, end_on, end_room, none_left}
use Rattle.fat_macho.proofs.PutLaws.{on_err}
use Rattle.fat_macho.proofs.filing.write_rows.Goals as goal

pub write_next_row-requires-clause-room : goal.write_next_row-requires-clause-room
write_next_row-requires-clause-room g c =
    let split = item_drop c.args.slices.now c.loop-slice.slice-index c.slice-item.result c.loop-slice-test.true c.slice-item.is in
    end_room c.args.align c.loop-slice.end _ _ c.slice-item.result _ _ c.loop-slice.invariant.ends split c.requires.short

pub returns-in_err-end-clause-front : goal.returns-in_err-end-clause-front
returns-in_err-end-clause-front g c =
    let split = item_drop c.args.slices.now c.loop-slice.slice-index c.slice-item.result c.loop-slice-test.true c.slice-item.is in
    on_err _ _ (rows_fail c.args.wide c.args.align c.loop-slice.end c.slice-item.result _ _ _ _ (g.W.Sink.sink c.loop-slice.sink) (g.W.Sink.sink c.write_next_row.new.sink) c.loop-slice.invariant.written split c.in_err-end.ensures.front)

pub loop-slice-preserved : goal.loop-slice-preserved
loop-slice-preserved g c =
    let split = item_drop c.args.slices.now c.loop-slice.slice-index c.slice-item.result c.loop-slice-test.true c.slice-item.is in
    record {
      written = rows_on c.args.wide c.args.align c.loop-slice.end c.in_ok-end.end c.slice-item.result _ _ _ _ _ _ c.loop-slice.invariant.written split c.in_ok-end.ensures.end c.in_ok-end.ensures.ok;
      ends = end_on c.args.align c.loop-slice.end c.in_ok-end.end _ c.slice-item.result _ _ c.loop-slice.invariant.ends split c.in_ok-end.ensures.end;
      rises = omega (arith, c.loop-slice.invariant.rises, c.write_next_row.ensures.rises);
    }

pub returns-clause-ok : goal.returns-clause-ok
returns-clause-ok g c = rows_end c.args.wide c.args.align c.loop-slice.end _ _ _ _ c.loop-slice.invariant.written (none_left c.args.slices.now c.loop-slice.slice-index (omega (arith, c.loop-slice-test.false)))
