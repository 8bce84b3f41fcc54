-- The protections of memory: Apple's mach/vm_prot.h.
use Rattle.std.specs.Prelude.{ℕ, List, [], ◌∷◌}
use Rattle.goblin_mach.specs.declared.constants.TheConstants.{VM_PROT_READ, VM_PROT_WRITE, VM_PROT_EXECUTE}

-- each constant beside its bit
unfoldable pub protections : List (ℕ × ℕ)
protections = (VM_PROT_READ, 0x1) ∷ (VM_PROT_WRITE, 0x2) ∷ (VM_PROT_EXECUTE, 0x4) ∷ []
