use Rattle.std.proofs.Common.{◌≡◌, ◌<◌, ℕ, map, take, slice_get, Some}
use Rattle.image_place.specs.Placed.{Definition}
use Rattle.image_place.specs.RangeRows.{definition_seen}
use Rattle.image_place.specs.Indexed.{IsSmall, spans_from}
use Rattle.image_place.proofs.holding.ranges_of.Given as goal

abbrev pub invariant-loop-number : goal.invariant-loop-number
invariant-loop-number l =
    record {
      ranges : l.ranges.items ≡ spans_from 0 (take l.number (map definition_seen l.rows));
      small : (k : ℕ) (d : Definition) → k < l.number → slice_get (map definition_seen l.rows) k ≡ Some d → IsSmall d;
    }
