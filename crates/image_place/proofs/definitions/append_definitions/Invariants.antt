use Rattle.std.proofs.Common.{◌≡◌, ◌++◌, map, take}
use Rattle.std.specs.Prelude.{filter}
use Rattle.std.specs.List.{enumerate_from}
use Rattle.image_place.specs.DefinitionRows.{found_seen, is_found}
use Rattle.image_place.proofs.DefinitionLaws.{at_row}
use Rattle.image_place.proofs.definitions.append_definitions.Given as goal

abbrev pub invariant-loop-row : goal.invariant-loop-row
invariant-loop-row l = map found_seen l.found.items ≡ map found_seen l.fn.found.items ++ filter is_found (map (at_row l.image) (enumerate_from 0 (take l.row l.view.symbols)))
