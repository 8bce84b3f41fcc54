use Rattle.pe_clr.proofs.Texts.{good_text, bad_text}
use Rattle.pe_clr.proofs.clr.storage.text.Goals as goal

pub returns-in-Ok-clause-text : goal.returns-in-Ok-clause-text
returns-in-Ok-clause-text c = good_text _ _ c.in-Ok.ensures.cases.0 c.in-Ok.ensures.cases.1

pub returns-in-Err-clause-text : goal.returns-in-Err-clause-text
returns-in-Err-clause-text c = bad_text _ c.in-Err.ensures.cases.0
