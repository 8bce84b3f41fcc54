use Rattle.std.proofs.Common.{◌≡◌, ◌++◌, map, take}
use Rattle.std.specs.List.{filter_map}
use Rattle.image_place.specs.Applying.{entry_by}
use Rattle.image_place.specs.Naming.{address_found}
use Rattle.image_place.specs.Placed.{given}
use Rattle.image_place.specs.Views.{placed_view}
use Rattle.image_place.proofs.filling.append_entries.Given as goal

abbrev pub invariant-loop-number : goal.invariant-loop-number
invariant-loop-number l =
    let F = address_found l.scene.exports.now l.scene.outsides.now in
    let at = given l.scene.addresses.now l.scene.image in
    let ds = l.scene.definitions.now in
    map placed_view l.out.items ≡ map placed_view l.fn.out.items ++ filter_map (entry_by F at l.scene.image l.scene.view.now ds) (take l.number ds)
