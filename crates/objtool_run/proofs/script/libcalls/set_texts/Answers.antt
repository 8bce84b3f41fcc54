use Rattle.std.proofs.Common.{refl}
use Rattle.serde_json.specs.View.{view}
use Rattle.objtool_run.proofs.Libcalls.{no_front, text_step, text_stop, text_end}
use Rattle.objtool_run.proofs.script.libcalls.set_texts.Goals as goal

pub loop-call-init : goal.loop-call-init
loop-call-init c = record { texts = no_front _; len = c.requires }

pub returns-in-Err : goal.returns-in-Err
returns-in-Err c = text_stop (view c.args.value.now) c.loop-call.call-index _ _ c.loop-call.names _ c.in-Err.error c.loop-call-test.true refl c.loop-call.invariant.len c.loop-call.invariant.texts c.in-Err.ensures

pub loop-call-preserved : goal.loop-call-preserved
loop-call-preserved c =
    let all = text_step (view c.args.value.now) c.loop-call.call-index _ _ c.loop-call.names c.set_text.new.names _ c.loop-call-test.true refl c.loop-call.invariant.len c.loop-call.invariant.texts c.in-Ok.ensures in
    record { texts = all.0; len = all.1 }

pub returns : goal.returns
returns c = text_end (view c.args.value.now) c.loop-call.call-index c.loop-call.names _ c.loop-call-test.false c.loop-call.invariant.len c.loop-call.invariant.texts
