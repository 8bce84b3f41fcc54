use Rattle.std.proofs.Common.{arith, ap, sym, ◌∙◌, not}
use Rattle.object_core.specs.Object.{plain_symbol, is_local, is_global}
use Rattle.object_elf.proofs.Items.{item_of, local_same}
use Rattle.object_elf.proofs.RowNumbers.{rows_next, local_row, other_row, other_room}
use Rattle.byte_core.proofs.Lists.{count_yes, count_no, length_next}
use Rattle.object_elf.proofs.relocation_rows.rows_of_symbols.Goals as goal

pub loop-symbol-preserved-then-is_local : goal.loop-symbol-preserved-then-is_local
loop-symbol-preserved-then-is_local c =
    let ss = c.args.object.now.symbols in
    let i = c.loop-symbol.symbol-index in
    let item = item_of plain_symbol ss _ i c.symbol-item.result c.symbols-symbols.ensures.value c.loop-symbol-test.true c.symbol-item.is in
    let s = item.whole in
    let passes = sym (local_same s _ item.same) ∙ sym c.is_local.ensures ∙ c.if-is_local.true in
    record {
      local = omega (arith, c.loop-symbol.invariant.local, count_yes is_local ss i s item.within item.here passes);
      other = omega (arith, c.loop-symbol.invariant.other, count_no is_global ss i s item.within item.here (ap not passes));
      count = length_next _ _ _ _ c.in_ok-push.ensures.items c.loop-symbol.invariant.count;
      rows = rows_next _ _ ss i c.loop-symbol.local c.loop-symbol.invariant.count c.in_ok-push.ensures.items c.loop-symbol.invariant.rows (c.loop-symbol.invariant.local ∙ sym (local_row ss i s item.within item.here passes));
    }

pub overflow_add-other-in-loop-symbol : goal.overflow_add-other-in-loop-symbol
overflow_add-other-in-loop-symbol c =
    let ss = c.args.object.now.symbols in
    let i = c.loop-symbol.symbol-index in
    let item = item_of plain_symbol ss _ i c.symbol-item.result c.symbols-symbols.ensures.value c.loop-symbol-test.true c.symbol-item.is in
    let s = item.whole in
    let fails = sym (local_same s _ item.same) ∙ sym c.is_local.ensures ∙ c.if-is_local.false in
    omega (arith, c.loop-symbol.invariant.other, other_room ss i s item.within item.here fails, c.requires)

pub loop-symbol-preserved : goal.loop-symbol-preserved
loop-symbol-preserved c =
    let ss = c.args.object.now.symbols in
    let i = c.loop-symbol.symbol-index in
    let item = item_of plain_symbol ss _ i c.symbol-item.result c.symbols-symbols.ensures.value c.loop-symbol-test.true c.symbol-item.is in
    let s = item.whole in
    let fails = sym (local_same s _ item.same) ∙ sym c.is_local.ensures ∙ c.if-is_local.false in
    record {
      local = omega (arith, c.loop-symbol.invariant.local, count_no is_local ss i s item.within item.here fails);
      other = omega (arith, c.loop-symbol.invariant.other, count_yes is_global ss i s item.within item.here (ap not fails));
      count = length_next _ _ _ _ c.in_ok-push-2.ensures.items c.loop-symbol.invariant.count;
      rows = rows_next _ _ ss i c.loop-symbol.other c.loop-symbol.invariant.count c.in_ok-push-2.ensures.items c.loop-symbol.invariant.rows (c.loop-symbol.invariant.other ∙ sym (other_row ss i s item.within item.here fails));
    }
