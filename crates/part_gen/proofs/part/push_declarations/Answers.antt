use Rattle.part_gen.specs.Generated.{declarations_at}
use Rattle.part_gen.proofs.Numbers.{pushed_next}
use Rattle.part_gen.proofs.part.push_declarations.Goals as goal

pub loop-k-preserved : goal.loop-k-preserved
loop-k-preserved c = pushed_next declarations_at c.loop-k.k c.args.n _ _ _ c.loop-k-test.true c.loop-k.invariant c.in_ok-push_declarations_of.ensures
