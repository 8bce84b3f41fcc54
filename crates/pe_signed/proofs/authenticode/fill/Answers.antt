use Rattle.std.proofs.Common.{refl, arith}
use Rattle.pe_signed.proofs.FreshRanges.{fill_some}
use Rattle.pe_signed.proofs.authenticode.fill.Goals as goal

pub returns : goal.returns
returns c = fill_some c.args.len _ _ refl refl (grind (arith, c.if-count-eq0.false))
