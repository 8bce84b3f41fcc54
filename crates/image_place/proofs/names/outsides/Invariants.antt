use Rattle.std.proofs.Common.{map, take}
use Rattle.image_place.specs.Naming.{Outsides}
use Rattle.image_place.specs.Views.{extern_view}
use Rattle.image_place.proofs.names.outsides.Given as goal

abbrev pub invariant-loop-row : goal.invariant-loop-row
invariant-loop-row l = Outsides l.names (map extern_view (take l.row-index l.externs))
