use Rattle.std.proofs.Common.{[], false}
use Rattle.std.proofs.lemmas.Bool.{eqb-true, eq-eqb}
use Rattle.object_macho.specs.Orders.{is_symbol_in}
use Rattle.object_macho.specs.Plan.{numbers_of, symbol_order}
use Rattle.object_macho.proofs.Comparing.{stand_whole, stand_second, stand_end}
use Rattle.object_macho.proofs.plan_check.has_symbols.Goals as goal

pub returns-in-Some-behind_symbols-clause-yes : goal.returns-in-Some-behind_symbols-clause-yes
unfolding symbol_order
returns-in-Some-behind_symbols-clause-yes c = λ h. stand_whole c.args.order.now _ _ _ _ c.in-Some.ensures c.in-Some-behind_symbols.ensures (eqb-true _ _ h)

pub returns-in-Some-behind_symbols-clause-all : goal.returns-in-Some-behind_symbols-clause-all
unfolding symbol_order
returns-in-Some-behind_symbols-clause-all c = λ e. eq-eqb _ _ (stand_end c.args.order.now _ _ _ _ c.in-Some.ensures c.in-Some-behind_symbols.ensures e)

pub returns-in-None-behind_symbols-clause-all : goal.returns-in-None-behind_symbols-clause-all
unfolding symbol_order
returns-in-None-behind_symbols-clause-all c = λ e. absurd (c.in-None-behind_symbols.ensures [] (stand_second c.args.order.now _ _ _ c.in-Some.ensures e))

pub returns-in-None-clause-all : goal.returns-in-None-clause-all
unfolding symbol_order
returns-in-None-clause-all c = λ e. absurd (c.in-None.ensures (numbers_of (is_symbol_in false) c.args.object.now.symbols) e)
