use Rattle.std.proofs.Common.{Some, None, refl}
use Rattle.pe_clr.specs.Storage.{ended_text_at}
use Rattle.pe_clr.proofs.Texts.{text_behind}
use Rattle.pe_clr.proofs.clr.storage.ended_text.Goals as goal

pub returns-in-Some-clause-text : goal.returns-in-Some-clause-text
unfolding ended_text_at
returns-in-Some-clause-text c = rw (text_behind c.args.bytes.now c.args.at (Some c.in-Some.size) c.in-Some.ensures.first) c.text.ensures.text

pub returns-in-None-clause-text : goal.returns-in-None-clause-text
unfolding ended_text_at
returns-in-None-clause-text c = rw (text_behind c.args.bytes.now c.args.at None c.in-None.ensures.first) refl
