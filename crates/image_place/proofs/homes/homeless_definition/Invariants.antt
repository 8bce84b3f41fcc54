use Rattle.std.proofs.Common.{◌≡◌, map, drop}
use Rattle.image_place.specs.Placed.{first_fault, address_fault}
use Rattle.image_place.specs.DefinitionRows.{found_seen}
use Rattle.image_place.proofs.homes.homeless_definition.Given as goal

abbrev pub invariant-loop-definition : goal.invariant-loop-definition
invariant-loop-definition l = first_fault (map (address_fault l.views l.addresses) (map found_seen l.definitions)) ≡ first_fault (map (address_fault l.views l.addresses) (map found_seen (drop l.definition-index l.definitions)))
