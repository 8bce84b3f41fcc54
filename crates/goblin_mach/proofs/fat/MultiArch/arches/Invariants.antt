use Rattle.std.proofs.Common.{◌≡◌, ◌++◌, map, Ok}
use Rattle.goblin_mach.specs.FatTable.{fat_items}
use Rattle.goblin_mach.proofs.fat.MultiArch.arches.Given as goal

-- the entries so far and what is left are all items
abbrev pub invariant-loop-arch : goal.invariant-loop-arch
invariant-loop-arch l =
    record {
      can : (goal.iterator-loop-arch).can_next l.arch-iterator;
      ends : (goal.iterator-loop-arch).is_finite l.arch-iterator;
      items : map Ok l.arches.items ++ l.arch-iterator ≡ fat_items l.self;
    }
