use Rattle.std.proofs.Common.{ℕ, ◌<◌}
use Rattle.object_core.specs.WellFormed.{IsFormedSymbol}
use Rattle.object_core.specs.Checking.{At}
use Rattle.object_core.proofs.well_formed.are_formed_symbols.Given as goal

-- the symbols so far are formed
abbrev pub invariant-loop-number : goal.invariant-loop-number
invariant-loop-number l = (k : ℕ) → k < l.number → At (IsFormedSymbol l.object) l.object.symbols k
