use Rattle.serde_json.specs.View.{view}
use Rattle.pe_json.specs.Views.{based_view}
use Rattle.pe_json.specs.Tls.{tls_json}
use Rattle.pe_json.proofs.PlainValues.{json_told, tls_plain}
use Rattle.pe_json.proofs.tls.tls_answer.Goals as goal

pub returns-in_ok-to_vec-in-Ok : goal.returns-in_ok-to_vec-in-Ok
returns-in_ok-to_vec-in-Ok c =
    json_told (tls_json (based_view c.args.input.now)) (view c.in-Ok.value) _ (tls_plain (based_view c.args.input.now) (view c.in-Ok.value) c.in-Ok.ensures) c.in-Ok.ensures c.in_ok-to_vec-in-Ok.ensures.text
