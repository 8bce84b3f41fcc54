use Rattle.std.proofs.Common.{◌≡◌, drop}
use Rattle.std.specs.Prelude.{flat_map}
use Rattle.cranelift_module.specs.Definitions.{Definition}
use Rattle.cranelift_object.specs.EndCause.{first_bad_target}
use Rattle.cranelift_object.proofs.backend.ObjectModule.check_references.Given as goal

-- none of those so far is refused
abbrev pub invariant-loop-number : goal.invariant-loop-number
invariant-loop-number l =
    first_bad_target l.self.state (flat_map (λ (d : Definition). d.relocs) l.self.state.definitions) ≡ first_bad_target l.self.state (flat_map (λ (d : Definition). d.relocs) (drop l.number l.self.state.definitions))
