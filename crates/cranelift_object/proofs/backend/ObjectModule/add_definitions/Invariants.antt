use Rattle.std.proofs.Common.{◌≡◌, take}
use Rattle.cranelift_object.specs.Partial.{partial}
use Rattle.cranelift_object.proofs.backend.ObjectModule.add_definitions.Given as goal

abbrev pub invariant-loop-number : goal.invariant-loop-number
invariant-loop-number l = l.object ≡ partial l.self.settings l.self.state (take l.number l.self.state.definitions)
