use Rattle.std.proofs.Common.{arith, refl, take}
use Rattle.std.proofs.lemmas.List.{length-take}
use Rattle.byte_core.specs.Number.{little_bytes}
use Rattle.byte_core.proofs.Numbers.{length-little_bytes}
use Rattle.fat_macho.specs.FatBytes.{big_bytes}
use Rattle.fat_macho.proofs.TableLaws.{reversed}
use Rattle.fat_macho.proofs.table.place_big.Goals as goal

pub returns-clause-bytes : goal.returns-clause-bytes
unfolding big_bytes
returns-clause-bytes c =
    reversed c.args.out.now c.place_number-end.new.out c.reverse.new.self (take c.args.at c.args.out.now) (little_bytes c.args.width c.args.value) c.args.at c.args.width c.place_number-end.result _
    c.place_number-end.ensures.end refl (omega (arith, length-take c.args.at c.args.out.now, c.requires)) (length-little_bytes c.args.width c.args.value) (omega (arith, c.place_number-end.ensures.end, c.place_number-end.ensures.len, c.requires))
    c.place_number-end.ensures.bytes c.reverse.ensures.after
