use Rattle.std.proofs.Common.{◌≡◌, arith}
use Rattle.cranelift_module.specs.LibraryNames.{usual_texts}
use Rattle.cranelift_module.proofs.libcall_names.default_libcall_names.Goals as goal

pub returns : goal.returns
unfolding usual_texts
returns c = let e : c.taking.text-index ≡ 18 = omega arith in rw e at c.taking.invariant
