use Rattle.std.proofs.Common.{map, take}
use Rattle.image_place.specs.Placed.{given}
use Rattle.image_place.specs.Naming.{NotesAll}
use Rattle.image_place.specs.RangeRows.{definition_seen}
use Rattle.image_place.proofs.exports.append_exports.Given as goal

abbrev pub invariant-loop-definition : goal.invariant-loop-definition
invariant-loop-definition l = NotesAll l.fn.exports l.exports (given l.addresses l.image) l.view (map definition_seen (take l.definition-index l.definitions))
