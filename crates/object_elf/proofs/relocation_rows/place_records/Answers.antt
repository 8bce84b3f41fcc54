use Rattle.std.proofs.Common.{arith, get_or, ap, sym, ◌∙◌}
use Rattle.object_core.specs.declared.relocation.Relocation.{Relocation}
use Rattle.object_elf.specs.File.{relocation_row_bytes}
use Rattle.object_elf.specs.Writing.{FitsRecord, record_by}
use Rattle.byte_core.proofs.Lists.{item_get, item_drop, each_more, each_all, flat_more}
use Rattle.object_elf.proofs.relocation_rows.place_records.Goals as goal

pub bounds-rows-as_number : goal.bounds-rows-as_number
bounds-rows-as_number c =
    let named = c.requires.names c.loop-relocation.relocation-index c.relocation-item.result (item_get c.args.relocations.now c.loop-relocation.relocation-index c.relocation-item.result c.loop-relocation-test.true c.relocation-item.is) in
    omega (arith, named, c.as_number.ensures)

pub loop-relocation-preserved : goal.loop-relocation-preserved
loop-relocation-preserved c = record {
  records =
      flat_more (λ (r : Relocation). relocation_row_bytes (record_by c.args.rows.now r)) c.relocation-item.result _ _ _ _ _ (item_drop c.args.relocations.now c.loop-relocation.relocation-index c.relocation-item.result c.loop-relocation-test.true c.relocation-item.is)
      (c.place_record-end.ensures.record c.args.rows.now (ap (λ n. get_or c.args.rows.now n 0) (sym c.as_number.ensures))) c.loop-relocation.invariant.records;
  end = omega (arith, c.place_record-end.ensures.end, c.loop-relocation.invariant.end);
  len = c.place_record-end.ensures.len ∙ c.loop-relocation.invariant.len;
  fit = each_more FitsRecord c.args.relocations.now c.loop-relocation.relocation-index c.relocation-item.result c.loop-relocation-test.true c.relocation-item.is c.loop-relocation.invariant.fit c.place_record-end.ensures.fits;
}

pub returns-clause-fit : goal.returns-clause-fit
returns-clause-fit c = each_all FitsRecord c.args.relocations.now c.loop-relocation.relocation-index c.loop-relocation-test.false c.loop-relocation.invariant.fit
