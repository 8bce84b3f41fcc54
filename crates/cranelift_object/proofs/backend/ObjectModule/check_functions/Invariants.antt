use Rattle.std.proofs.Common.{◌≡◌, map, drop}
use Rattle.std.specs.List.{enumerate_from}
use Rattle.cranelift_module.specs.Refusal.{first_cause}
use Rattle.cranelift_object.specs.EndCause.{missing_function}
use Rattle.cranelift_object.proofs.backend.ObjectModule.check_functions.Given as goal

abbrev pub invariant-loop-number : goal.invariant-loop-number
invariant-loop-number l = first_cause (map (missing_function l.self.state) (enumerate_from 0 l.self.state.functions)) ≡ first_cause (map (missing_function l.self.state) (enumerate_from l.number (drop l.number l.self.state.functions)))
