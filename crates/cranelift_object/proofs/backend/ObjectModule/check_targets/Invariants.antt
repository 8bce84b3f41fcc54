use Rattle.std.proofs.Common.{◌≡◌, drop}
use Rattle.cranelift_object.specs.EndCause.{first_bad_target}
use Rattle.cranelift_object.proofs.backend.ObjectModule.check_targets.Given as goal

-- none of those so far is refused
abbrev pub invariant-loop-reloc : goal.invariant-loop-reloc
invariant-loop-reloc l = first_bad_target l.self.state l.relocs ≡ first_bad_target l.self.state (drop l.reloc-index l.relocs)
