use Rattle.std.proofs.Common.{◌≡◌, map, take}
use Rattle.serde_json.specs.View.{view}
use Rattle.cranelift_module.specs.DeclarationForm.{param_value}
use Rattle.cranelift_module.proofs.declaration_json.write.params_value.Given as goal

-- those so far are written
abbrev pub invariant-loop-param : goal.invariant-loop-param
invariant-loop-param l = map view l.values.items ≡ map param_value (take l.param-index l.params)
