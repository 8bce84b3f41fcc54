use Rattle.std.proofs.Common.{◌≡◌, ◌≤◌, ℕ, ◌+◌, ◌-◌, take, drop, replicate, true, ◌++◌, ap, ◌∙◌, arith, length}
use Rattle.cranelift_module.specs.Kind.{field_width}
use Rattle.cranelift_module.proofs.TakenBytes.{taken_more, with_marked}
use Rattle.cranelift_module.proofs.reloc_checks.take_field.Goals as goal

-- the marks between are those of the field
pub returns-then-end-len : goal.returns-then-end-len
returns-then-end-len c = λ format size before outside taken.
    let marks = c.args.taken.now.items in
    let start = c.args.reloc.now.offset in
    let wide : start + c.field_width.result - start ≡ c.field_width.result = omega arith in
    let inside : start + field_width c.args.reloc.now.kind ≤ length marks = omega (arith, c.if-end-len.true, c.len.ensures, c.field_width.ensures) in
    taken_more format size c.args.reloc.now marks c.mark.new.taken.items before inside
    (c.mark.ensures ∙ ap (λ (n : ℕ). take start marks ++ (replicate n true ++ drop (start + c.field_width.result) marks)) wide ∙ ap (λ (n : ℕ). with_marked start n marks) c.field_width.ensures) taken
