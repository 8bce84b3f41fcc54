use Rattle.std.proofs.Common.{take}
use Rattle.image_place.specs.Finding.{FindsRows}
use Rattle.image_place.proofs.addresses.first_rows.Given as goal

abbrev pub invariant-loop-row : goal.invariant-loop-row
invariant-loop-row l = FindsRows l.first (take l.row-index l.rows)
