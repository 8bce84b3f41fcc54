use Rattle.std.proofs.Common.{◌≡◌, arith}
use Rattle.byte_core.specs.Number.{number_at}
use Rattle.byte_core.proofs.NumberBounds.{number_bound}
use Rattle.byte_core.proofs.inside.number_field.Goals as goal

pub returns-clause-bound : goal.returns-clause-bound
returns-clause-bound c =
    let value : c.unwrap.result ≡ number_at c.args.bytes.now c.args.at c.args.width = grind (arith, c.le_at.ensures, c.unwrap.ensures, c.requires.inside) in
    rw value (number_bound c.args.bytes.now c.args.at c.args.width (λ i. grind (arith, c.type_inv.bytes i)))
