use Rattle.std.proofs.Common.{◌≡◌, map, take}
use Rattle.image_place.specs.DefinitionRows.{found_seen}
use Rattle.image_place.proofs.DefinitionLaws.{found_in}
use Rattle.image_place.proofs.definitions.definitions_of.Given as goal

abbrev pub invariant-loop-image : goal.invariant-loop-image
invariant-loop-image l = map found_seen l.found.items ≡ found_in (take l.image l.views)
