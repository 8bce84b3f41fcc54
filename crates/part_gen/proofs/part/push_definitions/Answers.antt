use Rattle.std.proofs.Common.{◌≡◌, ◌+◌, ◌*◌, ap, ◌∙◌, arith, rules}
use Rattle.part_gen.specs.Draws.{number_after}
use Rattle.part_gen.specs.Generated.{definitions_at}
use Rattle.part_gen.proofs.Numbers.{pushed_next}
use Rattle.part_gen.proofs.part.push_definitions.Goals as goal

pub loop-k-init : goal.loop-k-init
unfolding number_after
loop-k-init c = record { pushed = search rules; drawn = c.new-draws.ensures }

pub loop-k-preserved : goal.loop-k-preserved
loop-k-preserved c =
    let held = c.loop-k.invariant in
    let place : 4 * c.loop-k.k + 4 ≡ 4 * (c.loop-k.k + 1) = omega arith in
    record {
      pushed = pushed_next (definitions_at c.args.seed c.args.n) c.loop-k.k c.args.n _ _ _ c.loop-k-test.true held.pushed (c.in_ok-push_definitions_of.ensures.pushed c.args.seed held.drawn);
      drawn = c.in_ok-push_definitions_of.ensures.drawn c.args.seed held.drawn ∙ ap (number_after c.args.seed) place;
    }
