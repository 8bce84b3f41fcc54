use Rattle.std.proofs.Common.{◌≡◌, [], take, drop}
use Rattle.cranelift_module.specs.Refusal.{bad_reloc_from}
use Rattle.cranelift_module.specs.TakenBytes.{AreTaken}
use Rattle.cranelift_module.proofs.reloc_checks.check_relocs.Given as goal

-- none of those so far is refused, and the bytes of their fields are marked
abbrev pub invariant-loop-index : goal.invariant-loop-index
invariant-loop-index l = (bad_reloc_from l.isa l.size [] l.relocs ≡ bad_reloc_from l.isa l.size (take l.index l.relocs) (drop l.index l.relocs)) × AreTaken l.isa.triple.binary_format l.size l.taken.items (take l.index l.relocs)
