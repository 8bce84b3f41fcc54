use Rattle.std.proofs.Common.{◌∙◌, ap, sym}
use Rattle.objtool_run.specs.Words.{is_number}
use Rattle.objtool_run.proofs.NumberWords.{number_none}
use Rattle.objtool_run.proofs.words.number_up_to.Goals as goal

pub returns-in-Err : goal.returns-in-Err
returns-in-Err c =
    sym (number_none c.args.word.now c.args.limit (ap is_number (sym c.as_bytes.ensures.value) ∙ sym c.is_number.ensures ∙ c.if-not-is_number.false) c.ranges.limit.fits c.in-Err.ensures.value.0)
