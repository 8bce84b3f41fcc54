use Rattle.std.proofs.Common.{◌≡◌, arith}
use Rattle.byte_core.specs.Number.{big_number_at}
use Rattle.image_read.proofs.BigNumbers.{big_number_below}
use Rattle.image_read.proofs.fat.file.big_field.Goals as goal

pub returns-clause-bound : goal.returns-clause-bound
returns-clause-bound c =
    let value : c.unwrap.result ≡ big_number_at c.args.bytes.now c.args.at c.args.width = grind (arith, c.be_at.ensures, c.unwrap.ensures, c.requires.inside) in
    rw value (big_number_below c.args.bytes.now c.args.at c.args.width (λ i. grind (arith, c.type_inv.bytes i)) c.requires.inside)
