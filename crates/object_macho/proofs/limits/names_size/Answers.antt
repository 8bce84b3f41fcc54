use Rattle.std.proofs.Common.{arith, ap, sym, ◌∙◌}
use Rattle.std.proofs.lemmas.List.Sums.{sum_by_more}
use Rattle.object_core.specs.Object.{plain_symbol}
use Rattle.object_macho.specs.PlainCounts.{row_name_size}
use Rattle.object_macho.proofs.Items.{item_of, file_none, row_some}
use Rattle.object_macho.proofs.limits.names_size.Goals as goal

pub loop-k-preserved-then-not-has_row : goal.loop-k-preserved-then-not-has_row
loop-k-preserved-then-not-has_row c =
    let o = c.args.object.now in
    let item = item_of plain_symbol o.symbols _ c.loop-k.k c.index-symbols-k.result c.symbols-symbols.ensures.value c.loop-k-test.true c.index-symbols-k.is in
    let s = item.whole in
    let none = file_none s _ item.same (sym c.has_row.ensures ∙ c.if-not-has_row.true) in
    record {
      value = omega (arith, c.loop-k.invariant.value, none, sum_by_more row_name_size o.symbols c.loop-k.k s item.within, ap row_name_size item.here);
      bound = omega (arith, c.loop-k.invariant.bound);
    }

pub loop-k-preserved : goal.loop-k-preserved
loop-k-preserved c =
    let o = c.args.object.now in
    let item = item_of plain_symbol o.symbols _ c.loop-k.k c.index-symbols-k.result c.symbols-symbols.ensures.value c.loop-k-test.true c.index-symbols-k.is in
    let s = item.whole in
    let some = row_some s _ c.row_name_size-size.result item.same (sym c.has_row.ensures ∙ c.if-not-has_row.false) (c.row_name_size-size.ensures.value s item.found) in
    record {
      value = omega (arith, c.loop-k.invariant.value, some, sum_by_more row_name_size o.symbols c.loop-k.k s item.within, ap row_name_size item.here);
      bound = omega (arith, c.loop-k.invariant.bound, c.row_name_size-size.ensures.bound);
    }
