use Rattle.std.proofs.Common.{◌≡◌, Some, slice_get, arith}
use Rattle.std.proofs.lemmas.Option.{slice_get_within, slice_get-get_or}
use Rattle.ir_core.specs.declared.reloc.Reloc.{Reloc}
use Rattle.ir_core.specs.Kind.{elf_number}
use Rattle.object_core.proofs.Forming.{below_more, at_item}
use Rattle.object_core.proofs.AllKinds.{all_kinds, every_kind}
use Rattle.object_core.proofs.relocation_kinds.elf_kind.Goals as goal

pub loop-kind-preserved : goal.loop-kind-preserved
loop-kind-preserved c = λ k kind h e.
    below_more (λ k. (kind : Reloc) → slice_get all_kinds k ≡ Some kind → elf_number c.args.architecture kind ≡ Some c.args.r_type → ⊥) c.loop-kind.kind-index (λ k h kind e. c.loop-kind.invariant k kind h e)
    (at_item (λ kind. elf_number c.args.architecture kind ≡ Some c.args.r_type → ⊥) all_kinds c.loop-kind.kind-index _ (slice_get-get_or all_kinds c.loop-kind.kind-index _ c.loop-kind-test.true) (c.is_elf_number.ensures.no c.if-is_elf_number.false))
    k h kind e

pub returns-clause-none : goal.returns-clause-none
returns-clause-none c = λ _. every_kind (λ kind. elf_number c.args.architecture kind ≡ Some c.args.r_type → ⊥) (λ k kind e. c.loop-kind.invariant k kind (omega (arith, c.loop-kind-test.false, slice_get_within all_kinds k kind e)) e)
