use Rattle.std.proofs.Common.{ap, sym, ◌∙◌}
use Rattle.cranelift_object.specs.Product.{with_kept}
use Rattle.cranelift_object.proofs.FormatLaws.{kept_written}
use Rattle.cranelift_object.proofs.finishing.keep_symbol.Goals as goal

pub returns-then-marked : goal.returns-then-marked
returns-then-marked c =
    kept_written c.args.object.now c.args.symbol c.symbol_mut.result.now c.symbol_mut.ensures.value ∙ ap (λ b. with_kept b c.args.object.now c.args.symbol) (sym c.if-marked.true)
