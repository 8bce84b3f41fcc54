use Rattle.std.proofs.Common.{◌≡◌, map, take}
use Rattle.std.specs.List.{filter_map, enumerate_from}
use Rattle.image_place.specs.RangeRows.{definition_seen}
use Rattle.image_place.proofs.RangeSteps.{definition_by}
use Rattle.image_place.proofs.ranges.definitions_in.Given as goal

abbrev pub invariant-loop-row : goal.invariant-loop-row
invariant-loop-row l = map definition_seen l.definitions.items ≡ filter_map (definition_by l.addresses l.image) (enumerate_from 0 (take l.row l.view.symbols))
