use Rattle.std.proofs.Common.{◌≡◌, ◌+◌, ◌++◌, take, drop, length}
use Rattle.object_elf.specs.Writing.{chosen, chosen_names, names_size}
use Rattle.object_elf.proofs.strings.place_symbol_names.Given as goal

-- what was written and the names that are left are what was there and all names
abbrev pub invariant-loop-k : goal.invariant-loop-k
invariant-loop-k l = record {
  names : take l.end l.out ++ chosen_names l.local (drop l.k l.object.symbols) ≡ take l.at l.fn.out ++ chosen_names l.local l.object.symbols;
  end : l.end + names_size (chosen l.local (drop l.k l.object.symbols)) ≡ l.at + names_size (chosen l.local l.object.symbols);
  len : length l.out ≡ length l.fn.out;
}
