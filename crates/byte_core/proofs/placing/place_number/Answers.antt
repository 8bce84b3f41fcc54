use Rattle.std.proofs.Common.{arith, rules, sym, ◌∙◌}
use Rattle.byte_core.proofs.Writing.{number_more, number_all}
use Rattle.byte_core.proofs.placing.place_number.Goals as goal

pub loop-i-preserved : goal.loop-i-preserved
loop-i-preserved c = record {
  bytes = number_more c.loop-i.out c.args.at c.args.width c.loop-i.i c.loop-i.rest _ c.loop-i-test.true (omega (arith, c.requires, c.loop-i.invariant.len)) c.loop-i.invariant.bytes;
  len = search rules;
}

pub returns-clause-bytes : goal.returns-clause-bytes
returns-clause-bytes c = sym (number_all c.loop-i.out c.args.at c.args.width c.loop-i.i c.loop-i.rest (omega arith) (omega arith)) ∙ c.loop-i.invariant.bytes
