use Rattle.std.proofs.Common.{arith}
use Rattle.fat_macho.proofs.PutLaws.{part_further}
use Rattle.fat_macho.proofs.writing.write_all.Goals as goal

pub writing-preserved : goal.writing-preserved
writing-preserved g c = record {
  written = part_further _ _ _ _ _ _ c.writing.invariant.written c.in_ok-done.ensures.ok;
  bound = omega (arith, c.in_ok-done.ensures.count, c.writing-test.true);
  rises = omega (arith, c.writing.invariant.rises, c.write_some.ensures.rises);
}
