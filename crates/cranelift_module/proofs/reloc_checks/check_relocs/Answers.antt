use Rattle.std.proofs.Common.{◌≡◌, List, Bool, take, sym, ◌∙◌, arith, length, length-take-le, subst}
use Rattle.cranelift_module.specs.declared.reloc.ModuleReloc.{ModuleReloc}
use Rattle.cranelift_module.specs.TakenBytes.{AreTaken}
use Rattle.cranelift_module.proofs.TakenBytes.{bad_step, more_before, not_outside}
use Rattle.cranelift_module.proofs.reloc_checks.check_relocs.Goals as goal

-- the next relocation isn't refused, and its field is marked
pub loop-index-preserved : goal.loop-index-preserved
loop-index-preserved c =
    let i = c.loop-index.index in
    let r = c.index-relocs-index.result in
    let format = c.args.isa.now.triple.binary_format in
    let before = take i c.args.relocs.now in
    let many : length before ≡ i = length-take-le i c.args.relocs.now (omega (arith, c.loop-index-test.true)) in
    let taken = subst (λ (marks : List Bool). AreTaken format c.args.size marks before) (sym c.deref.ensures.value) c.loop-index.invariant.1 in
    let cause = c.in_default.ensures.accepted before many taken in
    let marked = c.take_field.ensures format c.args.size before (not_outside c.args.isa.now c.args.size before r cause) c.loop-index.invariant.1 in (
      c.loop-index.invariant.0 ∙ bad_step c.args.isa.now c.args.size c.args.relocs.now i r c.loop-index-test.true c.index-relocs-index.is cause,
      subst (λ (relocs : List ModuleReloc). AreTaken format c.args.size c.take_field.new.taken.items relocs) (sym (more_before c.args.relocs.now i r c.loop-index-test.true c.index-relocs-index.is)) marked,
    )
