use Rattle.image_place.specs.Placed.{given}
use Rattle.image_place.proofs.NamingLaws.{notes_step}
use Rattle.image_place.proofs.exports.append_exports.Goals as goal

pub loop-definition-preserved : goal.loop-definition-preserved
loop-definition-preserved c =
    notes_step c.args.exports.now c.loop-definition.exports c.append_export.new.exports (given c.args.addresses.now c.args.image) c.args.view.now c.args.definitions.now c.loop-definition.definition-index _ c.loop-definition-test.true c.loop-definition.invariant c.in_ok-append_export.ensures
