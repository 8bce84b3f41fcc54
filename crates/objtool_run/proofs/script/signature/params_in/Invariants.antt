use Rattle.std.proofs.Common.{◌≡◌, drop, map}
use Rattle.serde_json.specs.View.{items_view}
use Rattle.json_form.specs.Form.{each_of}
use Rattle.objtool_run.specs.SignatureForm.{param_of}
use Rattle.json_form.proofs.EachOf.{with_front}
use Rattle.objtool_run.proofs.script.signature.params_in.Given as goal

-- the parameters so far, and those of the rest, are all parameters
abbrev pub invariant-loop-value : goal.invariant-loop-value
invariant-loop-value l = each_of param_of (items_view l.values) ≡ with_front (map (λ p. p) l.params.items) (each_of param_of (items_view (drop l.value-index l.values)))
