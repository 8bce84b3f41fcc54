use Rattle.std.proofs.Common.{ap, sym, ◌∙◌, arith, not, length}
use Rattle.std.proofs.lemmas.List.{length-map}
use Rattle.byte_core.proofs.Lists.{count_yes, count_no}
use Rattle.object_core.specs.Object.{plain_symbol, is_global, is_local_symbol}
use Rattle.object_core.specs.MachRows.{is_mach_local}
use Rattle.object_macho.specs.Plan.{row_of}
use Rattle.object_macho.proofs.Comparing.{length-rows_of, next_kept}
use Rattle.object_macho.proofs.Counting.{local_and_global}
use Rattle.object_macho.proofs.Items.{item_of}
use Rattle.object_macho.proofs.Numbering.{local_row, other_row, other_room, local_room, file_local, row_local, not_local}
use Rattle.object_macho.proofs.Pushing.{more_given, each_next}
use Rattle.object_macho.proofs.plan_check.has_rows.Goals as goal

pub returns-then-rows-symbols-clause-all : goal.returns-then-rows-symbols-clause-all
returns-then-rows-symbols-clause-all c = λ e.
    let ss = c.args.object.now.symbols in
    absurd (omega (arith, c.if-rows-symbols.true, ap length e, length-rows_of ss, ap length c.symbols-symbols.ensures.value, length-map ss plain_symbol))

pub overflow_cast-other : goal.overflow_cast-other
overflow_cast-other c = omega (arith, c.local_count-other.ensures, local_and_global c.args.object.now.symbols, c.requires)

pub returns-then-rows-k-clause-all : goal.returns-then-rows-k-clause-all
returns-then-rows-k-clause-all c = λ e.
    let ss = c.args.object.now.symbols in
    let k = c.loop-k.k in
    let item = item_of plain_symbol ss _ k c.index-symbols-k.result c.symbols-symbols.ensures.value c.loop-k-test.true c.index-symbols-k.is in
    let s = item.whole in
    let fails = ap is_local_symbol item.same ∙ sym c.is_local.ensures ∙ c.if-not-is_local.true in
    let kept = next_kept c.args.rows.now _ _ _ k _ c.loop-k.invariant.rows (each_next (row_of ss) ss k s item.found) (omega (arith, c.loop-k-test.true, c.if-rows-symbols.false)) e in
    absurd (omega (arith, c.if-rows-k.true, kept, other_row ss k s item.found fails, c.loop-k.invariant.other))

pub overflow_add-other : goal.overflow_add-other
overflow_add-other c =
    let ss = c.args.object.now.symbols in
    let k = c.loop-k.k in
    let item = item_of plain_symbol ss _ k c.index-symbols-k.result c.symbols-symbols.ensures.value c.loop-k-test.true c.index-symbols-k.is in
    let s = item.whole in
    let fails = ap is_local_symbol item.same ∙ sym c.is_local.ensures ∙ c.if-not-is_local.true in
    omega (arith, c.loop-k.invariant.other, other_room ss k s item.within item.here fails, c.requires)

pub loop-k-preserved-then-not-is_local : goal.loop-k-preserved-then-not-is_local
loop-k-preserved-then-not-is_local c =
    let ss = c.args.object.now.symbols in
    let k = c.loop-k.k in
    let item = item_of plain_symbol ss _ k c.index-symbols-k.result c.symbols-symbols.ensures.value c.loop-k-test.true c.index-symbols-k.is in
    let s = item.whole in
    let fails = ap is_local_symbol item.same ∙ sym c.is_local.ensures ∙ c.if-not-is_local.true in
    let row = other_row ss k s item.found fails in
    record {
      local = omega (arith, c.loop-k.invariant.local, count_no is_mach_local ss k s item.within item.here (not_local s fails));
      other = omega (arith, c.loop-k.invariant.other, count_yes is_global ss k s item.within item.here (ap not fails));
      rows = more_given c.args.rows.now _ _ _ k _ c.loop-k.invariant.rows (each_next (row_of ss) ss k s item.found) (omega (arith, c.loop-k-test.true, c.if-rows-symbols.false)) (omega (arith, c.if-rows-k.false, row, c.loop-k.invariant.other));
    }

pub returns-then-rows-k-2-clause-all : goal.returns-then-rows-k-2-clause-all
returns-then-rows-k-2-clause-all c = λ e.
    let ss = c.args.object.now.symbols in
    let k = c.loop-k.k in
    let item = item_of plain_symbol ss _ k c.index-symbols-k.result c.symbols-symbols.ensures.value c.loop-k-test.true c.index-symbols-k.is in
    let s = item.whole in
    let passes = ap is_local_symbol item.same ∙ sym c.is_local.ensures ∙ c.if-not-is_local.false in
    let kept = next_kept c.args.rows.now _ _ _ k _ c.loop-k.invariant.rows (each_next (row_of ss) ss k s item.found) (omega (arith, c.loop-k-test.true, c.if-rows-symbols.false)) e in
    absurd (omega (arith, c.if-rows-k-2.true, kept, local_row ss k s item.found passes, c.loop-k.invariant.local))

pub loop-k-preserved-then-not-has_row : goal.loop-k-preserved-then-not-has_row
loop-k-preserved-then-not-has_row c =
    let ss = c.args.object.now.symbols in
    let k = c.loop-k.k in
    let item = item_of plain_symbol ss _ k c.index-symbols-k.result c.symbols-symbols.ensures.value c.loop-k-test.true c.index-symbols-k.is in
    let s = item.whole in
    let passes = ap is_local_symbol item.same ∙ sym c.is_local.ensures ∙ c.if-not-is_local.false in
    let row = local_row ss k s item.found passes in
    let none = file_local s _ item.same (sym c.has_row.ensures ∙ c.if-not-has_row.true) in
    record {
      local = omega (arith, c.loop-k.invariant.local, count_no is_mach_local ss k s item.within item.here none);
      other = omega (arith, c.loop-k.invariant.other, count_no is_global ss k s item.within item.here (ap not passes));
      rows = more_given c.args.rows.now _ _ _ k _ c.loop-k.invariant.rows (each_next (row_of ss) ss k s item.found) (omega (arith, c.loop-k-test.true, c.if-rows-symbols.false)) (omega (arith, c.if-rows-k-2.false, row, c.loop-k.invariant.local));
    }

pub overflow_add-local : goal.overflow_add-local
overflow_add-local c = omega (arith, c.loop-k.invariant.local, local_room c.args.object.now.symbols c.loop-k.k, c.requires)

pub loop-k-preserved : goal.loop-k-preserved
loop-k-preserved c =
    let ss = c.args.object.now.symbols in
    let k = c.loop-k.k in
    let item = item_of plain_symbol ss _ k c.index-symbols-k.result c.symbols-symbols.ensures.value c.loop-k-test.true c.index-symbols-k.is in
    let s = item.whole in
    let passes = ap is_local_symbol item.same ∙ sym c.is_local.ensures ∙ c.if-not-is_local.false in
    let row = local_row ss k s item.found passes in
    let own = row_local s _ item.same passes (sym c.has_row.ensures ∙ c.if-not-has_row.false) in
    record {
      local = omega (arith, c.loop-k.invariant.local, count_yes is_mach_local ss k s item.within item.here own);
      other = omega (arith, c.loop-k.invariant.other, count_no is_global ss k s item.within item.here (ap not passes));
      rows = more_given c.args.rows.now _ _ _ k _ c.loop-k.invariant.rows (each_next (row_of ss) ss k s item.found) (omega (arith, c.loop-k-test.true, c.if-rows-symbols.false)) (omega (arith, c.if-rows-k-2.false, row, c.loop-k.invariant.local));
    }
