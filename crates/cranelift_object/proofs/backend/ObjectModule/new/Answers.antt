use Rattle.cranelift_object.proofs.KeptLaws.{kept_none}
use Rattle.cranelift_object.proofs.backend.ObjectModule.new.Goals as goal

pub invariant_of-result : goal.invariant_of-result
invariant_of-result c =
    rw (c.new.ensures, c.new-2.ensures.items, c.new-3.ensures.items, c.new-4.ensures.items, c.new-5.ensures.items) (kept_none c.args.builder.settings c.args.builder.target c.alloc-alloc.ensures)
