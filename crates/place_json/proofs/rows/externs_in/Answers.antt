use Rattle.image_place.specs.Views.{extern_view}
use Rattle.json_form.proofs.EachOf.{each_step, each_stop, each_end}
use Rattle.place_json.specs.Input.{extern_of}
use Rattle.place_json.proofs.rows.externs_in.Goals as goal

pub returns-in-Err : goal.returns-in-Err
returns-in-Err c = each_stop extern_of c.args.values.now c.loop-value.value-index c.value-item.result _ c.in-Err.error _ c.loop-value-test.true c.value-item.is c.loop-value.invariant c.in-Err.ensures

pub loop-value-preserved : goal.loop-value-preserved
loop-value-preserved c =
    each_step extern_of extern_view c.args.values.now c.loop-value.value-index c.value-item.result c.loop-value.externs.items c.push.new.self.items c.in-Ok.outside _
    c.loop-value-test.true c.value-item.is c.in_ok-push-in-Ok.ensures.items c.loop-value.invariant c.in-Ok.ensures

pub returns : goal.returns
returns c = each_end extern_of c.args.values.now c.loop-value.value-index _ _ c.loop-value-test.false c.loop-value.invariant
