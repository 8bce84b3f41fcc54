use Rattle.std.proofs.Common.{map}
use Rattle.image_place.specs.RangeRows.{definition_seen}
use Rattle.image_place.proofs.RangeSteps.{range_step}
use Rattle.image_place.proofs.ranges.definitions_in.Goals as goal

pub loop-row-preserved : goal.loop-row-preserved
loop-row-preserved c =
    range_step c.args.addresses.now c.args.image (map definition_seen c.loop-row.definitions.items) (map definition_seen c.append_definition.new.definitions.items) c.symbols-symbol-items.result.now c.args.view.now.symbols c.loop-row.row _ c.symbols-symbol-items.ensures c.loop-row-test.true
    c.in_ok-append_definition.ensures.ok c.loop-row.invariant
