use Rattle.std.proofs.Common.{ap, sym, ◌∙◌, arith}
use Rattle.byte_core.proofs.Lists.{get_within}
use Rattle.object_core.specs.Object.{plain_symbol}
use Rattle.object_macho.specs.Orders.{is_row_in, is_symbol_in}
use Rattle.object_macho.proofs.Items.{item_of}
use Rattle.object_macho.proofs.Comparing.{next_there, same_there}
use Rattle.object_macho.proofs.Pushing.{more_given, passed, numbers_yes, numbers_no}
use Rattle.object_macho.proofs.plan_check.behind_symbols.Goals as goal

pub loop-k-preserved-then-not-is_row_in : goal.loop-k-preserved-then-not-is_row_in
loop-k-preserved-then-not-is_row_in c =
    let o = c.args.object.now in
    let item = item_of plain_symbol o.symbols _ c.loop-k.k c.index-symbols-k.result c.symbols-symbols.ensures.value c.loop-k-test.true c.index-symbols-k.is in
    let fails = ap (is_row_in c.args.local) item.same ∙ sym c.is_row_in.ensures ∙ c.if-not-is_row_in.true in
    record { room = c.loop-k.invariant.room; front = passed _ _ _ _ c.loop-k.invariant.front (numbers_no (is_symbol_in c.args.local) o.symbols c.loop-k.k item.whole item.found fails) }

pub returns-then-at-order : goal.returns-then-at-order
returns-then-at-order c = λ rest e.
    let o = c.args.object.now in
    let item = item_of plain_symbol o.symbols _ c.loop-k.k c.index-symbols-k.result c.symbols-symbols.ensures.value c.loop-k-test.true c.index-symbols-k.is in
    let passes = ap (is_row_in c.args.local) item.same ∙ sym c.is_row_in.ensures ∙ c.if-not-is_row_in.false in
    let there = next_there c.args.order.now _ _ _ rest c.args.from c.loop-k.at c.loop-k.k c.loop-k.invariant.front (numbers_yes (is_symbol_in c.args.local) o.symbols c.loop-k.k item.whole item.found passes) c.loop-k.invariant.room e in
    omega (arith, c.if-at-order.true, get_within c.args.order.now c.loop-k.at c.loop-k.k there)

pub returns-then-order-at : goal.returns-then-order-at
returns-then-order-at c = λ rest e.
    let o = c.args.object.now in
    let item = item_of plain_symbol o.symbols _ c.loop-k.k c.index-symbols-k.result c.symbols-symbols.ensures.value c.loop-k-test.true c.index-symbols-k.is in
    let passes = ap (is_row_in c.args.local) item.same ∙ sym c.is_row_in.ensures ∙ c.if-not-is_row_in.false in
    let there = next_there c.args.order.now _ _ _ rest c.args.from c.loop-k.at c.loop-k.k c.loop-k.invariant.front (numbers_yes (is_symbol_in c.args.local) o.symbols c.loop-k.k item.whole item.found passes) c.loop-k.invariant.room e in
    omega (arith, c.if-order-at.true, same_there c.args.order.now c.loop-k.at c.loop-k.k there)

pub loop-k-preserved : goal.loop-k-preserved
loop-k-preserved c =
    let o = c.args.object.now in
    let item = item_of plain_symbol o.symbols _ c.loop-k.k c.index-symbols-k.result c.symbols-symbols.ensures.value c.loop-k-test.true c.index-symbols-k.is in
    let passes = ap (is_row_in c.args.local) item.same ∙ sym c.is_row_in.ensures ∙ c.if-not-is_row_in.false in
    record {
      room = omega (arith, c.if-at-order.false);
      front = more_given c.args.order.now _ _ _ c.loop-k.at c.loop-k.k c.loop-k.invariant.front (numbers_yes (is_symbol_in c.args.local) o.symbols c.loop-k.k item.whole item.found passes) (omega (arith, c.if-at-order.false)) (omega (arith, c.if-order-at.false));
    }
