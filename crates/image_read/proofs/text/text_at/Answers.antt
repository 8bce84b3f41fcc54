use Rattle.std.proofs.Common.{sym, Some, None}
use Rattle.image_read.proofs.Texts.{text_behind}
use Rattle.image_read.proofs.text.text_at.Goals as goal

pub returns-in-Some : goal.returns-in-Some
returns-in-Some c = sym (text_behind c.args.strings.now c.args.at (Some c.in-Some.end) c.in-Some.ensures.first)

pub returns-in-None : goal.returns-in-None
returns-in-None c = sym (text_behind c.args.strings.now c.args.at None c.in-None.ensures.first)
