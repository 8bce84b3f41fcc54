use Rattle.std.proofs.Common.{map, arith}
use Rattle.byte_core.proofs.Lists.{each_all}
use Rattle.image_place.specs.RangeRows.{definition_seen}
use Rattle.image_place.specs.Indexed.{IsSmall}
use Rattle.image_place.proofs.DefinitionLaws.{long_map}
use Rattle.image_place.proofs.HolderLaws.{spans_row_next, small_row_next}
use Rattle.image_place.proofs.holding.ranges_of.Goals as goal

pub loop-number-preserved : goal.loop-number-preserved
loop-number-preserved c =
    record {
      ranges = spans_row_next c.args.rows.now c.loop-number.number _ c.loop-number.ranges.items c.push.new.self.items c.in_ok-range_of.field-0 c.loop-number-test.true c.loop-number.invariant.ranges c.in_ok-push.ensures.items c.in_ok-range_of.ensures.ok;
      small = small_row_next c.args.rows.now c.loop-number.number _ c.loop-number-test.true c.loop-number.invariant.small c.in_ok-range_of.ensures.small;
    }

pub returns-clause-small : goal.returns-clause-small
returns-clause-small c =
    record { each = each_all IsSmall (map definition_seen c.args.rows.now) c.loop-number.number (omega (arith, c.loop-number-test.false, long_map definition_seen c.args.rows.now)) c.loop-number.invariant.small }
