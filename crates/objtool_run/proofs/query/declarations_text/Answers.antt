use Rattle.objtool_run.proofs.NoFloat.{declarations_text}
use Rattle.objtool_run.proofs.query.declarations_text.Goals as goal

pub returns : goal.returns
returns c = declarations_text _ c.args.declarations.now _ c.in_ok-value.ensures.value c.in_ok-text.ensures.text
