use Rattle.std.proofs.Common.{◌≡◌, map, drop}
use Rattle.std.specs.List.{enumerate_from}
use Rattle.cranelift_module.specs.Refusal.{first_cause}
use Rattle.cranelift_object.specs.EndCause.{missing_data}
use Rattle.cranelift_object.proofs.backend.ObjectModule.check_objects.Given as goal

abbrev pub invariant-loop-number : goal.invariant-loop-number
invariant-loop-number l = first_cause (map (missing_data l.self.state) (enumerate_from 0 l.self.state.objects)) ≡ first_cause (map (missing_data l.self.state) (enumerate_from l.number (drop l.number l.self.state.objects)))
