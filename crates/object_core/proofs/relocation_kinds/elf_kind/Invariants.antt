use Rattle.std.proofs.Common.{◌≡◌, ℕ, ◌<◌, Some, slice_get}
use Rattle.ir_core.specs.declared.reloc.Reloc.{Reloc}
use Rattle.ir_core.specs.Kind.{elf_number}
use Rattle.object_core.proofs.relocation_kinds.elf_kind.Given as goal

-- none of the kinds so far has the number
abbrev pub invariant-loop-kind : goal.invariant-loop-kind
invariant-loop-kind l = (k : ℕ) (kind : Reloc) → k < l.kind-index → slice_get l.kind-items k ≡ Some kind → elf_number l.architecture kind ≡ Some l.r_type → ⊥
