use Rattle.std.proofs.Common.{arith}
use Rattle.goblin_mach.proofs.Words.{word_inside}
use Rattle.goblin_mach.proofs.fat.word.Goals as goal

pub overflow_cast-word : goal.overflow_cast-word
overflow_cast-word c = omega (arith, word_inside c.args.bytes.now c.args.offset c.in_ok-number.number (λ k. omega (arith, c.type_inv.bytes k)) c.in_ok-number.ensures)
