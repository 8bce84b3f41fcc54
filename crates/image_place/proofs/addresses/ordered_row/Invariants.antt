use Rattle.std.proofs.Common.{◌≡◌, ◌-◌, ◌<◌, ◌≤◌, ℕ, length, slice_get, Some, false}
use Rattle.image_place.specs.Placed.{AddressRow}
use Rattle.image_place.specs.Finding.{is_row}
use Rattle.image_place.proofs.addresses.ordered_row.Given as goal

abbrev pub invariant-loop-first : goal.invariant-loop-first
invariant-loop-first l =
    record {
      order : l.first ≤ l.end;
      bound : l.end ≤ length l.rows;
      below : (m : ℕ) (a : AddressRow) → m < l.first → slice_get l.rows m ≡ Some a → is_row l.image l.symbol a ≡ false;
      above : (m : ℕ) (a : AddressRow) → l.end ≤ m → slice_get l.rows m ≡ Some a → is_row l.image l.symbol a ≡ false;
    }

abbrev pub decreases-loop-first : goal.decreases-loop-first
decreases-loop-first l = l.end - l.first
