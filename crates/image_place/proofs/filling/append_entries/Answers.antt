use Rattle.std.proofs.Common.{◌<◌, map, length, ap, arith}
use Rattle.image_place.specs.Applying.{entry_by}
use Rattle.image_place.specs.Naming.{address_found}
use Rattle.image_place.specs.Placed.{given}
use Rattle.image_place.specs.RangeRows.{definition_seen}
use Rattle.image_place.specs.Views.{placed_view}
use Rattle.image_place.proofs.DefinitionLaws.{long_map}
use Rattle.image_place.proofs.HolderLaws.{row_at}
use Rattle.image_place.proofs.GroupLaws.{fields_at, items_of}
use Rattle.image_place.proofs.PlacingLaws.{entry_row_next}
use Rattle.image_place.proofs.filling.append_entries.Goals as goal

pub append_entry-requires : goal.append_entry-requires
append_entry-requires c =
    let ds = c.args.scene.definitions.now in
    let i = c.loop-number.number in
    let rows = c.rows-definition-items.result.now in
    let below : i < length c.args.fields.now = omega (arith, c.loop-number-test.true, ap length c.rows-definition-items.ensures, long_map definition_seen rows, c.requires.grouped.long, long_map items_of c.args.fields.now) in
    let here = row_at rows ds i _ c.rows-definition-items.ensures c.loop-number-test.true in
    record {
      home = c.requires.ranges i _ here;
      fields = fields_at c.args.scene.view.now ds c.args.fields.now i _ c.index-fields-number.result c.deref.result.now c.requires.grouped here below c.index-fields-number.is c.deref.ensures.value;
    }

pub loop-number-preserved : goal.loop-number-preserved
loop-number-preserved c =
    entry_row_next (entry_by (address_found c.args.scene.exports.now c.args.scene.outsides.now) (given c.args.scene.addresses.now c.args.scene.image) c.args.scene.image c.args.scene.view.now c.args.scene.definitions.now) (map placed_view c.args.out.now.items) (map placed_view c.loop-number.out.items)
    (map placed_view c.append_entry.new.out.items) c.rows-definition-items.result.now c.args.scene.definitions.now c.loop-number.number _ c.rows-definition-items.ensures c.loop-number-test.true c.in_ok-append_entry.ensures c.loop-number.invariant
