use Rattle.std.proofs.Common.{◌≡◌, map, drop}
use Rattle.image_place.specs.Leading.{fault_by}
use Rattle.image_place.specs.Naming.{address_found}
use Rattle.image_place.specs.Placed.{first_fault, given}
use Rattle.image_place.proofs.judging.section_fault.Given as goal

abbrev pub invariant-loop-relocation : goal.invariant-loop-relocation
invariant-loop-relocation l =
    let one = fault_by (address_found l.scene.exports.now l.scene.outsides.now) (given l.scene.addresses.now l.scene.image) l.scene.image l.scene.view.now l.scene.definitions.now l.k l.section.start in
    first_fault (map one l.section.relocations) ≡ first_fault (map one (drop l.relocation-index l.section.relocations))
