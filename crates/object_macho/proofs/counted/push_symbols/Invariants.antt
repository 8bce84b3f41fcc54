use Rattle.std.proofs.Common.{◌≡◌, ◌++◌, drop}
use Rattle.object_macho.specs.Orders.{is_symbol_in}
use Rattle.object_macho.specs.Plan.{numbers_of}
use Rattle.object_macho.proofs.Pushing.{numbers_from}
use Rattle.object_macho.proofs.counted.push_symbols.Given as goal

-- the numbers so far and those that are left are what was there and all numbers
abbrev pub invariant-loop-k : goal.invariant-loop-k
invariant-loop-k l = l.order.items ++ numbers_from (is_symbol_in l.local) l.k (drop l.k l.object.symbols) ≡ l.fn.order.items ++ numbers_of (is_symbol_in l.local) l.object.symbols
