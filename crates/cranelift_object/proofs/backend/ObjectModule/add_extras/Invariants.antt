use Rattle.std.proofs.Common.{◌≡◌, take}
use Rattle.cranelift_object.specs.Adding.{with_added}
use Rattle.cranelift_object.proofs.backend.ObjectModule.add_extras.Given as goal

-- the symbols so far are there
abbrev pub invariant-loop-extra : goal.invariant-loop-extra
invariant-loop-extra l = l.object ≡ with_added l.self.settings l.self.state l.initial.object (take l.extra-index l.extras)
