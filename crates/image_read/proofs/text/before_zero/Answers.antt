use Rattle.image_read.proofs.FirstZero.{before_zero_at, before_zero_all}
use Rattle.image_read.proofs.text.before_zero.Goals as goal

pub returns-in-Some : goal.returns-in-Some
returns-in-Some c = before_zero_at c.args.bytes.now c.in-Some.end c.in-Some.ensures.first

pub returns-in-None : goal.returns-in-None
returns-in-None c = before_zero_all c.args.bytes.now c.in-None.ensures.first
