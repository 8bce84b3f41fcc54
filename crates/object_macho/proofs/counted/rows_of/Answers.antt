use Rattle.std.proofs.Common.{◌+◌, ◌∷◌, ap, sym, ◌∙◌, arith, not, drop}
use Rattle.byte_core.proofs.Lists.{count_yes, count_no}
use Rattle.object_core.specs.Object.{plain_symbol, is_global, is_local_symbol}
use Rattle.object_core.specs.MachRows.{is_mach_local}
use Rattle.object_macho.specs.Plan.{row_of}
use Rattle.object_macho.proofs.Counting.{local_and_global}
use Rattle.object_macho.proofs.Items.{item_of}
use Rattle.object_macho.proofs.Numbering.{local_row, other_row, other_room, local_room, file_local, row_local, not_local}
use Rattle.object_macho.proofs.Pushing.{more, each_from, each_next}
use Rattle.object_macho.proofs.counted.rows_of.Goals as goal

pub overflow_cast-other : goal.overflow_cast-other
overflow_cast-other c = omega (arith, c.local_count-other.ensures, local_and_global c.args.object.now.symbols, c.requires)

pub overflow_add-other : goal.overflow_add-other
overflow_add-other c =
    let ss = c.args.object.now.symbols in
    let k = c.loop-symbol.symbol-index in
    let item = item_of plain_symbol ss _ k c.symbol-item.result c.symbols-symbols.ensures.value c.loop-symbol-test.true c.symbol-item.is in
    let fails = ap is_local_symbol item.same ∙ sym c.is_local.ensures ∙ c.if-not-is_local.true in
    omega (arith, c.loop-symbol.invariant.other, other_room ss k item.whole item.within item.here fails, c.requires)

pub loop-symbol-preserved-then-not-is_local : goal.loop-symbol-preserved-then-not-is_local
loop-symbol-preserved-then-not-is_local c =
    let ss = c.args.object.now.symbols in
    let k = c.loop-symbol.symbol-index in
    let item = item_of plain_symbol ss _ k c.symbol-item.result c.symbols-symbols.ensures.value c.loop-symbol-test.true c.symbol-item.is in
    let s = item.whole in
    let fails = ap is_local_symbol item.same ∙ sym c.is_local.ensures ∙ c.if-not-is_local.true in
    let row = c.loop-symbol.invariant.other ∙ sym (other_row ss k s item.found fails) in
    record {
      local = omega (arith, c.loop-symbol.invariant.local, count_no is_mach_local ss k s item.within item.here (not_local s fails));
      other = omega (arith, c.loop-symbol.invariant.other, count_yes is_global ss k s item.within item.here (ap not fails));
      rows = more _ _ _ _ _ c.loop-symbol.other c.loop-symbol.invariant.rows (each_next (row_of ss) ss k s item.found ∙ ap (λ n. n ∷ each_from (row_of ss) (k + 1) (drop (k + 1) ss)) (sym row)) c.in_ok-push.ensures.items;
    }

pub loop-symbol-preserved-then-not-has_row : goal.loop-symbol-preserved-then-not-has_row
loop-symbol-preserved-then-not-has_row c =
    let ss = c.args.object.now.symbols in
    let k = c.loop-symbol.symbol-index in
    let item = item_of plain_symbol ss _ k c.symbol-item.result c.symbols-symbols.ensures.value c.loop-symbol-test.true c.symbol-item.is in
    let s = item.whole in
    let passes = ap is_local_symbol item.same ∙ sym c.is_local.ensures ∙ c.if-not-is_local.false in
    let row = c.loop-symbol.invariant.local ∙ sym (local_row ss k s item.found passes) in
    let none = file_local s _ item.same (sym c.has_row.ensures ∙ c.if-not-has_row.true) in
    record {
      local = omega (arith, c.loop-symbol.invariant.local, count_no is_mach_local ss k s item.within item.here none);
      other = omega (arith, c.loop-symbol.invariant.other, count_no is_global ss k s item.within item.here (ap not passes));
      rows = more _ _ _ _ _ c.loop-symbol.local c.loop-symbol.invariant.rows (each_next (row_of ss) ss k s item.found ∙ ap (λ n. n ∷ each_from (row_of ss) (k + 1) (drop (k + 1) ss)) (sym row)) c.in_ok-push-2.ensures.items;
    }

pub overflow_add-local : goal.overflow_add-local
overflow_add-local c = omega (arith, c.loop-symbol.invariant.local, local_room c.args.object.now.symbols c.loop-symbol.symbol-index, c.requires)

pub loop-symbol-preserved : goal.loop-symbol-preserved
loop-symbol-preserved c =
    let ss = c.args.object.now.symbols in
    let k = c.loop-symbol.symbol-index in
    let item = item_of plain_symbol ss _ k c.symbol-item.result c.symbols-symbols.ensures.value c.loop-symbol-test.true c.symbol-item.is in
    let s = item.whole in
    let passes = ap is_local_symbol item.same ∙ sym c.is_local.ensures ∙ c.if-not-is_local.false in
    let row = c.loop-symbol.invariant.local ∙ sym (local_row ss k s item.found passes) in
    let some = row_local s _ item.same passes (sym c.has_row.ensures ∙ c.if-not-has_row.false) in
    record {
      local = omega (arith, c.loop-symbol.invariant.local, count_yes is_mach_local ss k s item.within item.here some);
      other = omega (arith, c.loop-symbol.invariant.other, count_no is_global ss k s item.within item.here (ap not passes));
      rows = more _ _ _ _ _ c.loop-symbol.local c.loop-symbol.invariant.rows (each_next (row_of ss) ss k s item.found ∙ ap (λ n. n ∷ each_from (row_of ss) (k + 1) (drop (k + 1) ss)) (sym row)) c.in_ok-push-2.ensures.items;
    }
