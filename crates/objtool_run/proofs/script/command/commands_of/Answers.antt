use Rattle.cranelift_object.specs.Command.{command_view}
use Rattle.objtool_run.specs.Script.{command_of}
use Rattle.json_form.proofs.EachOf.{each_step, each_stop, each_end}
use Rattle.objtool_run.proofs.script.command.commands_of.Goals as goal

pub returns-in-Err : goal.returns-in-Err
returns-in-Err c = each_stop (command_of c.args.convention) c.args.values.now c.loop-value.value-index c.value-item.result _ c.in-Err.error _ c.loop-value-test.true c.value-item.is c.loop-value.invariant c.in-Err.ensures

pub loop-value-preserved : goal.loop-value-preserved
loop-value-preserved c =
    each_step (command_of c.args.convention) command_view c.args.values.now c.loop-value.value-index c.value-item.result c.loop-value.commands.items c.push.new.self.items c.in-Ok.command _
    c.loop-value-test.true c.value-item.is c.in_ok-push-in-Ok.ensures.items c.loop-value.invariant c.in-Ok.ensures

pub returns : goal.returns
returns c = each_end (command_of c.args.convention) c.args.values.now c.loop-value.value-index _ _ c.loop-value-test.false c.loop-value.invariant
