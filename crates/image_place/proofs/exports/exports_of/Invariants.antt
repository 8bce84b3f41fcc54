use Rattle.std.proofs.Common.{take}
use Rattle.image_place.specs.Placed.{all_pieces, given}
use Rattle.image_place.specs.Naming.{Exports}
use Rattle.image_place.proofs.exports.exports_of.Given as goal

abbrev pub invariant-loop-image : goal.invariant-loop-image
invariant-loop-image l = Exports l.exports (all_pieces l.addresses (take l.image l.views)) (given l.addresses)
