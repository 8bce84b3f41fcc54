use Rattle.std.proofs.Common.{◌∙◌, ap, Some}
use Rattle.std.proofs.lemmas.List.{map-id}
use Rattle.image_place.specs.declared.rows.DefAddress.{DefAddress}
use Rattle.json_form.proofs.EachOf.{each_step, each_stop, each_end}
use Rattle.place_json.specs.Input.{address_of}
use Rattle.place_json.proofs.rows.addresses_in.Goals as goal

pub returns-in-Err : goal.returns-in-Err
returns-in-Err c = each_stop address_of c.args.values.now c.loop-value.value-index c.value-item.result _ c.in-Err.error _ c.loop-value-test.true c.value-item.is c.loop-value.invariant c.in-Err.ensures

pub loop-value-preserved : goal.loop-value-preserved
loop-value-preserved c =
    each_step address_of (λ (a : DefAddress). a) c.args.values.now c.loop-value.value-index c.value-item.result c.loop-value.addresses.items c.push.new.self.items c.in-Ok.address _
    c.loop-value-test.true c.value-item.is c.in_ok-push-in-Ok.ensures.items c.loop-value.invariant c.in-Ok.ensures

pub returns : goal.returns
returns c = each_end address_of c.args.values.now c.loop-value.value-index _ _ c.loop-value-test.false c.loop-value.invariant ∙ ap Some (map-id c.loop-value.addresses.items)
