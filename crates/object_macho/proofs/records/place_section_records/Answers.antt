use Rattle.std.proofs.Common.{◌+◌, ◌++◌, drop, take, length, refl, ap, sym, ◌∙◌, subst, arith}
use Rattle.std.specs.Prelude.{flat_map}
use Rattle.std.proofs.lemmas.Option.{slice_get_read}
use Rattle.byte_core.proofs.Lists.{item_drop, flat_more}
use Rattle.object_macho.specs.Layout.{records_for}
use Rattle.object_macho.specs.File.{mach_record_bytes}
use Rattle.object_macho.specs.Rows.{relocation_with}
use Rattle.object_macho.specs.Orders.{record_bytes_by, record_counts, FitRelocationsBy}
use Rattle.object_macho.proofs.RecordLoops.{row_count, counts_next}
use Rattle.object_macho.proofs.records.place_section_records.Goals as goal

pub row_of-row-requires : goal.row_of-row-requires
row_of-row-requires c =
    let rs = c.relocations-relocation-items.result.now in
    let here = slice_get_read rs (length rs) c.loop-relocation.relocation-index c.relocation-item.result refl c.loop-relocation-test.true c.relocation-item.is in
    let fits : FitRelocationsBy c.args.cputype c.args.rows.now rs = subst (FitRelocationsBy c.args.cputype c.args.rows.now) (sym c.relocations-relocation-items.ensures) c.requires.fits in
    (fits c.loop-relocation.relocation-index c.relocation-item.result here).within

pub place_relocation-end-requires-clause-row : goal.place_relocation-end-requires-clause-row
place_relocation-end-requires-clause-row c =
    let rs = c.relocations-relocation-items.result.now in
    let here = slice_get_read rs (length rs) c.loop-relocation.relocation-index c.relocation-item.result refl c.loop-relocation-test.true c.relocation-item.is in
    let fits : FitRelocationsBy c.args.cputype c.args.rows.now rs = subst (FitRelocationsBy c.args.cputype c.args.rows.now) (sym c.relocations-relocation-items.ensures) c.requires.fits in
    omega (arith, (fits c.loop-relocation.relocation-index c.relocation-item.result here).row, c.row_of-row.ensures)

pub place_relocation-end-requires-clause-fits : goal.place_relocation-end-requires-clause-fits
place_relocation-end-requires-clause-fits c =
    let rs = c.relocations-relocation-items.result.now in
    let here = slice_get_read rs (length rs) c.loop-relocation.relocation-index c.relocation-item.result refl c.loop-relocation-test.true c.relocation-item.is in
    let fits : FitRelocationsBy c.args.cputype c.args.rows.now rs = subst (FitRelocationsBy c.args.cputype c.args.rows.now) (sym c.relocations-relocation-items.ensures) c.requires.fits in
    (fits c.loop-relocation.relocation-index c.relocation-item.result here).fits

pub place_relocation-end-requires-clause-room : goal.place_relocation-end-requires-clause-room
place_relocation-end-requires-clause-room c =
    let rs = c.relocations-relocation-items.result.now in
    let next = item_drop rs c.loop-relocation.relocation-index c.relocation-item.result c.loop-relocation-test.true c.relocation-item.is in
    omega (arith, row_count c.args.cputype c.row_of-row.result c.relocation-item.result, counts_next c.args.cputype (drop c.loop-relocation.relocation-index rs) (drop (c.loop-relocation.relocation-index + 1) rs) c.relocation-item.result next, c.loop-relocation.invariant.end, c.loop-relocation.invariant.len, c.requires.room, ap (record_counts c.args.cputype) c.relocations-relocation-items.ensures)

pub loop-relocation-preserved : goal.loop-relocation-preserved
loop-relocation-preserved c =
    let rs = c.relocations-relocation-items.result.now in
    let r = c.relocation-item.result in
    let next = item_drop rs c.loop-relocation.relocation-index r c.loop-relocation-test.true c.relocation-item.is in
    let bytes = c.place_relocation-end.ensures.bytes ∙ ap (λ row. take c.loop-relocation.end c.loop-relocation.out ++ flat_map mach_record_bytes (records_for c.args.cputype (relocation_with row r))) c.row_of-row.ensures in
    record {
      bytes = flat_more (record_bytes_by c.args.cputype c.args.rows.now) r _ _ _ _ _ next bytes c.loop-relocation.invariant.bytes;
      end = omega (arith, c.place_relocation-end.ensures.end, row_count c.args.cputype c.row_of-row.result r, counts_next c.args.cputype (drop c.loop-relocation.relocation-index rs) (drop (c.loop-relocation.relocation-index + 1) rs) c.relocation-item.result next, c.loop-relocation.invariant.end);
      len = c.place_relocation-end.ensures.len ∙ c.loop-relocation.invariant.len;
    }
