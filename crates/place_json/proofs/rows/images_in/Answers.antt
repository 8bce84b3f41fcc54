use Rattle.json_form.proofs.EachOf.{each_step, each_stop, each_end}
use Rattle.place_json.specs.Input.{image_of}
use Rattle.place_json.proofs.rows.images_in.Goals as goal

pub returns-in-Err : goal.returns-in-Err
returns-in-Err c = each_stop image_of c.args.values.now c.loop-value.value-index c.value-item.result _ c.in-Err.error _ c.loop-value-test.true c.value-item.is c.loop-value.invariant c.in-Err.ensures

pub loop-value-preserved : goal.loop-value-preserved
loop-value-preserved c =
    each_step image_of (λ b. b.items) c.args.values.now c.loop-value.value-index c.value-item.result c.loop-value.images.items c.push.new.self.items c.in-Ok.image _
    c.loop-value-test.true c.value-item.is c.in_ok-push-in-Ok.ensures.items c.loop-value.invariant c.in-Ok.ensures

pub returns : goal.returns
returns c = each_end image_of c.args.values.now c.loop-value.value-index _ _ c.loop-value-test.false c.loop-value.invariant
