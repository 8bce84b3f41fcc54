use Rattle.std.proofs.Common.{take}
use Rattle.cranelift_object.specs.Targets.{targets}
use Rattle.cranelift_object.specs.Extras.{AreAdded}
use Rattle.cranelift_object.proofs.backend.ObjectModule.extras.Given as goal

-- what the definitions so far add is noted
abbrev pub invariant-loop-number : goal.invariant-loop-number
invariant-loop-number l = AreAdded l.self.settings (targets l.self.settings l.self.state (take l.number l.self.state.definitions)) l.extras
