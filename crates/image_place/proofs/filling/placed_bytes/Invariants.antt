use Rattle.std.proofs.Common.{◌≡◌, ◌≤◌, length, drop}
use Rattle.image_place.specs.Fixups.{fixed}
use Rattle.image_place.specs.Applying.{bytes_by, held_by}
use Rattle.image_place.specs.Naming.{address_found}
use Rattle.image_place.specs.Placed.{given}
use Rattle.image_place.specs.RangeRows.{definition_seen}
use Rattle.image_place.proofs.filling.placed_bytes.Given as goal

abbrev pub invariant-loop-relocation : goal.invariant-loop-relocation
invariant-loop-relocation l =
    let F = address_found l.scene.exports.now l.scene.outsides.now in
    let at = given l.scene.addresses.now l.scene.image in
    let ds = l.scene.definitions.now in
    let d = definition_seen l.definition in
    record {
      rest : bytes_by F at l.scene.view.now ds d l.section ≡ fixed l.bytes.items d.address (held_by F at l.scene.view.now ds d l.section.start (drop l.relocation-index l.fields));
      long : l.definition.size ≤ length l.bytes.items;
    }
