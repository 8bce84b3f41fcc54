use Rattle.serde_json.specs.View.{view}
use Rattle.pe_json.specs.Views.{image_view}
use Rattle.pe_json.specs.Clr.{clr_json}
use Rattle.pe_json.proofs.PlainValues.{json_told, clr_plain}
use Rattle.pe_json.proofs.clr.clr_answer.Goals as goal

pub returns-in_ok-to_vec-in-Ok : goal.returns-in_ok-to_vec-in-Ok
returns-in_ok-to_vec-in-Ok c =
    json_told (clr_json (image_view c.args.image.now)) (view c.in-Ok.value) _ (clr_plain (image_view c.args.image.now) (view c.in-Ok.value) c.in-Ok.ensures) c.in-Ok.ensures c.in_ok-to_vec-in-Ok.ensures.text
