use Rattle.std.proofs.Common.{length, ap, sym, arith}
use Rattle.image_place.specs.RangeRows.{definition_seen}
use Rattle.image_place.proofs.DefinitionLaws.{long_map}
use Rattle.image_place.proofs.HolderLaws.{first_found, none_found}
use Rattle.image_place.proofs.holding.first_holder.Goals as goal

pub returns-then-number-rows : goal.returns-then-number-rows
returns-then-number-rows c =
    sym (none_found c.args.definitions.now c.args.section c.args.at 1 c.first_number-number.result c.first_number-number.ensures (omega (arith, c.if-number-rows.true, ap length c.rows.ensures, long_map definition_seen c.rows.result.now)))

pub returns : goal.returns
returns c = sym (first_found c.args.definitions.now c.args.section c.args.at 1 c.first_number-number.result _ c.first_number-number.ensures c.row.ensures)
