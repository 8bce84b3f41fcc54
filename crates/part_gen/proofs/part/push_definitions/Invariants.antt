use Rattle.std.proofs.Common.{◌≡◌, ◌-◌, ◌*◌, ◌++◌, map}
use Rattle.std.specs.List.{range_with_len, flat_map}
use Rattle.cranelift_object.specs.Command.{command_view}
use Rattle.part_gen.specs.Draws.{number_after}
use Rattle.part_gen.specs.Generated.{definitions_at}
use Rattle.part_gen.proofs.part.push_definitions.Given as goal

abbrev pub invariant-loop-k : goal.invariant-loop-k
invariant-loop-k l = record {
  pushed : map command_view l.commands.items ++ flat_map (definitions_at l.seed l.n) (range_with_len l.k (l.n - l.k)) ≡ map command_view l.fn.commands.items ++ flat_map (definitions_at l.seed l.n) (range_with_len 0 l.n);
  drawn : l.draws ≡ number_after l.seed (4 * l.k);
}
