use Rattle.std.proofs.Common.{arith, ap, length}
use Rattle.std.proofs.lemmas.List.{length-map}
use Rattle.object_core.specs.Object.{plain_symbol}
use Rattle.object_core.specs.WellFormed.{IsFormedSymbol}
use Rattle.object_core.specs.Checking.{At}
use Rattle.object_core.proofs.Forming.{below_more, each_all}
use Rattle.object_core.proofs.well_formed.are_formed_symbols.Goals as goal

pub returns-then-not-is_formed_symbol-clause-no : goal.returns-then-not-is_formed_symbol-clause-no
returns-then-not-is_formed_symbol-clause-no c = λ _ all. c.is_formed_symbol.ensures.no c.if-not-is_formed_symbol.true (all c.loop-number.number)

pub loop-number-preserved : goal.loop-number-preserved
loop-number-preserved c = below_more (At (IsFormedSymbol c.args.object.now) c.args.object.now.symbols) c.loop-number.number c.loop-number.invariant (c.is_formed_symbol.ensures.yes c.if-not-is_formed_symbol.false)

pub returns-clause-yes : goal.returns-clause-yes
returns-clause-yes c = λ _.
    let o = c.args.object.now in
    each_all (IsFormedSymbol o) o.symbols c.loop-number.number (omega (arith, c.loop-number-test.false, ap length c.symbols-count.ensures.value, length-map o.symbols plain_symbol)) c.loop-number.invariant
