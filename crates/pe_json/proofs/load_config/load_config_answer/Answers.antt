use Rattle.serde_json.specs.View.{view}
use Rattle.pe_json.specs.Views.{wide_view}
use Rattle.pe_json.specs.LoadConfig.{load_config_json}
use Rattle.pe_json.proofs.PlainValues.{json_told, load_config_plain}
use Rattle.pe_json.proofs.load_config.load_config_answer.Goals as goal

pub returns-in_ok-to_vec-in-Ok : goal.returns-in_ok-to_vec-in-Ok
returns-in_ok-to_vec-in-Ok c =
    json_told (load_config_json (wide_view c.args.input.now)) (view c.in-Ok.value) _ (load_config_plain (wide_view c.args.input.now) (view c.in-Ok.value) c.in-Ok.ensures) c.in-Ok.ensures c.in_ok-to_vec-in-Ok.ensures.text
