use Rattle.object_core.proofs.Texts.{kept_text}
use Rattle.object_core.proofs.names.Names.put.Goals as goal

pub returns-in-Some-clause-texts : goal.returns-in-Some-clause-texts
returns-in-Some-clause-texts c = kept_text _ _ _ c.in-Some.ensures.found
