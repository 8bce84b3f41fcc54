use Rattle.image_build.specs.Parts.{part_view}
use Rattle.objtool_run.specs.Script.{part_of}
use Rattle.json_form.proofs.EachOf.{each_step, each_stop, each_end}
use Rattle.objtool_run.proofs.PartLists.{few_pushed}
use Rattle.objtool_run.proofs.script.part.parts_in.Goals as goal

pub returns-in-Err : goal.returns-in-Err
returns-in-Err c = record { form = each_stop part_of c.args.values.now c.loop-value.value-index c.value-item.result _ c.in-Err.error _ c.loop-value-test.true c.value-item.is c.loop-value.invariant.form c.in-Err.ensures.form; few = tt }

pub loop-value-preserved : goal.loop-value-preserved
loop-value-preserved c =
    record {
      form = each_step part_of part_view c.args.values.now c.loop-value.value-index c.value-item.result c.loop-value.parts.items c.push.new.self.items c.in-Ok.part _
          c.loop-value-test.true c.value-item.is c.in_ok-push-in-Ok.ensures.items c.loop-value.invariant.form c.in-Ok.ensures.form;
      few = few_pushed c.loop-value.parts.items c.push.new.self.items c.in-Ok.part c.in_ok-push-in-Ok.ensures.items c.loop-value.invariant.few c.in-Ok.ensures.few;
    }

pub returns : goal.returns
returns c = record { form = each_end part_of c.args.values.now c.loop-value.value-index _ _ c.loop-value-test.false c.loop-value.invariant.form; few = c.loop-value.invariant.few }
