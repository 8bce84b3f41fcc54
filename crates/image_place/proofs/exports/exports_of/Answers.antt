use Rattle.std.proofs.Common.{◌≡◌, List, map, ap, ◌∙◌, subst}
use Rattle.image_place.specs.Placed.{Definition, definitions_in, given}
use Rattle.image_place.specs.RangeRows.{definition_seen}
use Rattle.image_place.specs.Naming.{NotesAll}
use Rattle.image_place.proofs.ExportLaws.{exports_step}
use Rattle.image_place.proofs.exports.exports_of.Goals as goal

pub loop-image-preserved : goal.loop-image-preserved
loop-image-preserved c =
    let here : map definition_seen c.deref.result.now ≡ definitions_in c.args.addresses.now c.loop-image.image c.index-views-image.result = ap (map definition_seen) c.deref.ensures.value ∙ c.in_ok-definitions.ensures.ok in
    exports_step c.loop-image.exports c.append_exports.new.exports c.args.addresses.now c.args.views.now c.loop-image.image c.index-views-image.result c.loop-image-test.true c.index-views-image.is c.loop-image.invariant
    (subst (λ (ds : List Definition). NotesAll c.loop-image.exports c.append_exports.new.exports (given c.args.addresses.now c.loop-image.image) c.index-views-image.result ds) here c.in_ok-append_exports.ensures)
