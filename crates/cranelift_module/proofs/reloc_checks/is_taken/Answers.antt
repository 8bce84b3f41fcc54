use Rattle.std.proofs.Common.{ℕ, take, drop, ap, ◌∙◌, arith}
use Rattle.std.specs.List.{list_any}
use Rattle.cranelift_module.proofs.reloc_checks.is_taken.Goals as goal

pub returns-then-end-taken : goal.returns-then-end-taken
returns-then-end-taken c = λ inside. c.is_any_marked.ensures ∙ ap (λ (n : ℕ). list_any (λ mark. mark) (take n (drop c.args.reloc.now.offset c.args.taken.now))) (omega (arith, c.field_width.ensures))
