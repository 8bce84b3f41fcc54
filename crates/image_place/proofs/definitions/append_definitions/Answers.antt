use Rattle.std.proofs.Common.{map}
use Rattle.image_place.specs.DefinitionRows.{found_seen}
use Rattle.image_place.proofs.DefinitionLaws.{found_step}
use Rattle.image_place.proofs.definitions.append_definitions.Goals as goal

pub loop-row-preserved : goal.loop-row-preserved
loop-row-preserved c =
    found_step c.args.image (map found_seen c.args.found.now.items) (map found_seen c.loop-row.found.items) (map found_seen c.append_definition.new.found.items) c.symbols-symbol-items.result.now c.args.view.now.symbols c.loop-row.row _ c.symbols-symbol-items.ensures c.loop-row-test.true c.in_ok-append_definition.ensures.ok c.loop-row.invariant
