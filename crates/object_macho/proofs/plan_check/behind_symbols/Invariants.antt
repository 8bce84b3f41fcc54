use Rattle.std.proofs.Common.{◌≡◌, ◌≤◌, ◌++◌, take, drop, length}
use Rattle.object_macho.specs.Orders.{is_symbol_in}
use Rattle.object_macho.specs.Plan.{numbers_of}
use Rattle.object_macho.proofs.Pushing.{numbers_from}
use Rattle.object_macho.proofs.plan_check.behind_symbols.Given as goal

-- the numbers so far and those that are left are what stood before and all numbers
abbrev pub invariant-loop-k : goal.invariant-loop-k
invariant-loop-k l = record {
  room : l.at ≤ length l.order;
  front : take l.at l.order ++ numbers_from (is_symbol_in l.local) l.k (drop l.k l.object.symbols) ≡ take l.from l.order ++ numbers_of (is_symbol_in l.local) l.object.symbols;
}
