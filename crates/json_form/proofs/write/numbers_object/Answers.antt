use Rattle.std.proofs.Common.{◌-◌, ◌∙◌, ap, arith}
use Rattle.serde_json.specs.View.{members_view}
use Rattle.json_form.specs.Written.{number_field}
use Rattle.json_form.proofs.Ascending.{put_before, none_behind}
use Rattle.json_form.proofs.write.numbers_object.Goals as goal

pub putting-init : goal.putting-init
putting-init c = record { place = omega arith; put = ap members_view c.new-object.ensures.empty ∙ none_behind number_field c.args.members.now }

pub putting-preserved : goal.putting-preserved
putting-preserved c =
    record {
      place = omega (arith, c.putting.invariant.place);
      put = c.in_ok-put.ensures.ok ∙ rw (c.number_or_null-number.ensures, c.putting.invariant.put) (put_before number_field c.args.members.now (c.putting.left - 1) c.putting.left _ (omega (arith, c.putting.invariant.place, c.putting-test.true)) (omega (arith, c.putting-test.true)) c.requires);
    }
