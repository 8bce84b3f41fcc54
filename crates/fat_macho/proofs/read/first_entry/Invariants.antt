use Rattle.std.proofs.Common.{◌≡◌, find}
use Rattle.goblin_mach.specs.FatTable.{fat_arches}
use Rattle.fat_macho.specs.Reader.{is_entry_of}
use Rattle.fat_macho.proofs.FirstEntry.{first_among}
use Rattle.fat_macho.proofs.read.first_entry.Given as goal

-- the first of what is left is the first of all
abbrev pub invariant-loop-item : goal.invariant-loop-item
invariant-loop-item l =
    record {
      can : (goal.iterator-loop-item).can_next l.item-iterator;
      ends : (goal.iterator-loop-item).is_finite l.item-iterator;
      first : first_among (is_entry_of l.pair) l.item-iterator ≡ find (is_entry_of l.pair) (fat_arches l.table);
    }
