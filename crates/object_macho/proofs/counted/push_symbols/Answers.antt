use Rattle.std.proofs.Common.{ap, sym, ◌∙◌}
use Rattle.object_core.specs.Object.{plain_symbol}
use Rattle.object_macho.specs.Orders.{is_row_in, is_symbol_in}
use Rattle.object_macho.proofs.Items.{item_of}
use Rattle.object_macho.proofs.Pushing.{more, passed, numbers_yes, numbers_no}
use Rattle.object_macho.proofs.counted.push_symbols.Goals as goal

pub loop-k-preserved-then-not-is_row_in : goal.loop-k-preserved-then-not-is_row_in
loop-k-preserved-then-not-is_row_in c =
    let o = c.args.object.now in
    let item = item_of plain_symbol o.symbols _ c.loop-k.k c.index-symbols-k.result c.symbols-symbols.ensures.value c.loop-k-test.true c.index-symbols-k.is in
    let fails = ap (is_row_in c.args.local) item.same ∙ sym c.is_row_in.ensures ∙ c.if-not-is_row_in.true in
    passed _ _ _ _ c.loop-k.invariant (numbers_no (is_symbol_in c.args.local) o.symbols c.loop-k.k item.whole item.found fails)

pub loop-k-preserved : goal.loop-k-preserved
loop-k-preserved c =
    let o = c.args.object.now in
    let item = item_of plain_symbol o.symbols _ c.loop-k.k c.index-symbols-k.result c.symbols-symbols.ensures.value c.loop-k-test.true c.index-symbols-k.is in
    let passes = ap (is_row_in c.args.local) item.same ∙ sym c.is_row_in.ensures ∙ c.if-not-is_row_in.false in
    more _ _ _ _ _ _ c.loop-k.invariant (numbers_yes (is_symbol_in c.args.local) o.symbols c.loop-k.k item.whole item.found passes) c.in_ok-push.ensures.items
