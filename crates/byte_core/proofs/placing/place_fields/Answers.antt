use Rattle.std.proofs.Common.{arith, rules, sym, ◌∙◌}
use Rattle.byte_core.proofs.Writing.{fields_more, fields_all, widths_more}
use Rattle.byte_core.proofs.placing.place_fields.Goals as goal

pub loop-field-preserved : goal.loop-field-preserved
loop-field-preserved c = record {
  bytes = fields_more c.args.fields.now c.loop-field.field-index _ _ _ _ c.loop-field-test.true c.place_number-end.ensures.bytes c.loop-field.invariant.bytes;
  end = omega (arith, c.place_number-end.ensures.end, c.loop-field.invariant.end, widths_more c.args.fields.now c.loop-field.field-index (record { width = 0; value = 0 }) c.loop-field-test.true);
  len = search rules;
}

pub returns-clause-bytes : goal.returns-clause-bytes
returns-clause-bytes c = sym (fields_all c.args.fields.now c.loop-field.field-index _ (omega arith)) ∙ c.loop-field.invariant.bytes
