use Rattle.std.proofs.Common.{◌≡◌, drop}
use Rattle.std.specs.Prelude.{flat_map}
use Rattle.std.specs.List.{enumerate_from}
use Rattle.image_place.specs.Leading.{section_faults, view_faults}
use Rattle.image_place.specs.Naming.{address_found}
use Rattle.image_place.specs.Placed.{first_fault, given}
use Rattle.image_place.proofs.judging.view_fault.Given as goal

abbrev pub invariant-loop-k : goal.invariant-loop-k
invariant-loop-k l =
    let F = address_found l.scene.exports.now l.scene.outsides.now in
    let at = given l.scene.addresses.now l.scene.image in
    let ds = l.scene.definitions.now in
    first_fault (view_faults F at l.scene.image l.scene.view.now ds) ≡ first_fault (flat_map (section_faults F at l.scene.image l.scene.view.now ds) (enumerate_from l.k (drop l.k l.scene.view.now.sections)))
