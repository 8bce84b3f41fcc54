use Rattle.std.proofs.Common.{◌≡◌, ℕ, ◌<◌, Some, slice_get}
use Rattle.ir_core.specs.declared.reloc.Reloc.{Reloc}
use Rattle.ir_core.specs.MachKind.{mach_number}
use Rattle.object_core.proofs.relocation_kinds.mach_kind.Given as goal

-- none of the kinds so far has the numbers
abbrev pub invariant-loop-kind : goal.invariant-loop-kind
invariant-loop-kind l = (k : ℕ) (kind : Reloc) → k < l.kind-index → slice_get l.kind-items k ≡ Some kind → mach_number l.architecture kind ≡ Some l.number → ⊥
