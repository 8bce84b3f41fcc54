use Rattle.std.proofs.Common.{◌≡◌, arith, ap, sym, ◌∙◌, not, length}
use Rattle.object_core.specs.Object.{plain_symbol, is_local, is_global}
use Rattle.byte_core.proofs.Lists.{count_yes, count_no}
use Rattle.std.proofs.lemmas.List.{length-map}
use Rattle.object_elf.proofs.Items.{item_of, local_same}
use Rattle.object_elf.proofs.RowNumbers.{local_row, other_row, other_room}
use Rattle.object_elf.proofs.Planning.{length-rows_of, row_kept, kept_more, rows_are}
use Rattle.object_elf.proofs.plan_check.has_rows.Goals as goal

pub returns-then-rows-symbols-clause-no : goal.returns-then-rows-symbols-clause-no
returns-then-rows-symbols-clause-no c = λ _ e. absurd (omega (arith, c.if-rows-symbols.true, ap length e, length-rows_of c.args.object.now.symbols, ap length c.symbols-symbols.ensures.value, length-map c.args.object.now.symbols plain_symbol))

pub returns-then-rows-k-clause-no : goal.returns-then-rows-k-clause-no
returns-then-rows-k-clause-no c = λ _ e.
    let ss = c.args.object.now.symbols in
    let k = c.loop-k.k in
    let item = item_of plain_symbol ss _ k c.index-symbols-k.result c.symbols-symbols.ensures.value c.loop-k-test.true c.index-symbols-k.is in
    let s = item.whole in
    let passes = sym (local_same s _ item.same) ∙ sym c.is_local.ensures ∙ c.if-is_local.true in
    let kept = row_kept c.args.rows.now ss k s item.found e in
    absurd (omega (arith, c.if-rows-k.true, kept, local_row ss k s item.within item.here passes, c.loop-k.invariant.local))

pub loop-k-preserved-then-is_local : goal.loop-k-preserved-then-is_local
loop-k-preserved-then-is_local c =
    let ss = c.args.object.now.symbols in
    let k = c.loop-k.k in
    let item = item_of plain_symbol ss _ k c.index-symbols-k.result c.symbols-symbols.ensures.value c.loop-k-test.true c.index-symbols-k.is in
    let s = item.whole in
    let passes = sym (local_same s _ item.same) ∙ sym c.is_local.ensures ∙ c.if-is_local.true in
    let row = local_row ss k s item.within item.here passes in
    record {
      local = omega (arith, c.loop-k.invariant.local, count_yes is_local ss k s item.within item.here passes);
      other = omega (arith, c.loop-k.invariant.other, count_no is_global ss k s item.within item.here (ap not passes));
      rows = kept_more c.args.rows.now ss k (omega (arith, c.loop-k-test.true, c.if-rows-symbols.false)) c.loop-k.invariant.rows (omega (arith, c.if-rows-k.false, row, c.loop-k.invariant.local));
    }

pub returns-then-rows-k-2-clause-no : goal.returns-then-rows-k-2-clause-no
returns-then-rows-k-2-clause-no c = λ _ e.
    let ss = c.args.object.now.symbols in
    let k = c.loop-k.k in
    let item = item_of plain_symbol ss _ k c.index-symbols-k.result c.symbols-symbols.ensures.value c.loop-k-test.true c.index-symbols-k.is in
    let s = item.whole in
    let fails = sym (local_same s _ item.same) ∙ sym c.is_local.ensures ∙ c.if-is_local.false in
    let kept = row_kept c.args.rows.now ss k s item.found e in
    absurd (omega (arith, c.if-rows-k-2.true, kept, other_row ss k s item.within item.here fails, c.loop-k.invariant.other))

pub overflow_add-other-in-loop-k : goal.overflow_add-other-in-loop-k
overflow_add-other-in-loop-k c =
    let ss = c.args.object.now.symbols in
    let k = c.loop-k.k in
    let item = item_of plain_symbol ss _ k c.index-symbols-k.result c.symbols-symbols.ensures.value c.loop-k-test.true c.index-symbols-k.is in
    let s = item.whole in
    let fails = sym (local_same s _ item.same) ∙ sym c.is_local.ensures ∙ c.if-is_local.false in
    omega (arith, c.loop-k.invariant.other, other_room ss k s item.within item.here fails, c.requires)

pub loop-k-preserved : goal.loop-k-preserved
loop-k-preserved c =
    let ss = c.args.object.now.symbols in
    let k = c.loop-k.k in
    let item = item_of plain_symbol ss _ k c.index-symbols-k.result c.symbols-symbols.ensures.value c.loop-k-test.true c.index-symbols-k.is in
    let s = item.whole in
    let fails = sym (local_same s _ item.same) ∙ sym c.is_local.ensures ∙ c.if-is_local.false in
    let row = other_row ss k s item.within item.here fails in
    record {
      local = omega (arith, c.loop-k.invariant.local, count_no is_local ss k s item.within item.here fails);
      other = omega (arith, c.loop-k.invariant.other, count_yes is_global ss k s item.within item.here (ap not fails));
      rows = kept_more c.args.rows.now ss k (omega (arith, c.loop-k-test.true, c.if-rows-symbols.false)) c.loop-k.invariant.rows (omega (arith, c.if-rows-k-2.false, row, c.loop-k.invariant.other));
    }

pub returns-clause-yes : goal.returns-clause-yes
returns-clause-yes c = λ _.
    let ss = c.args.object.now.symbols in
    let count : length c.symbols-symbols.result.now ≡ length ss = ap length c.symbols-symbols.ensures.value ∙ length-map ss plain_symbol in
    rows_are c.args.rows.now ss (omega (arith, count, c.if-rows-symbols.false)) (λ k h. c.loop-k.invariant.rows k (omega (arith, h, count, c.loop-k-test.false)))
