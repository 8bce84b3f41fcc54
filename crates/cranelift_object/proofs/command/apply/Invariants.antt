use Rattle.std.proofs.Common.{map, drop}
use Rattle.cranelift_object.specs.Commands.{command_view}
use Rattle.cranelift_object.proofs.ApplyLaws.{IsRunning}
use Rattle.cranelift_object.proofs.command.apply.Given as goal

abbrev pub invariant-loop-number : goal.invariant-loop-number
invariant-loop-number g l = record {
  run : IsRunning (g.M.Module.state l.fn.backend) (g.M.Module.state l.backend) (map command_view l.commands) (map command_view (drop l.number l.commands)) l.number;
  keeps : g.M.Module.Keeps l.fn.backend l.backend;
}
