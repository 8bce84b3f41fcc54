use Rattle.std.proofs.Common.{◌≡◌, map, take}
use Rattle.serde_json.specs.View.{view}
use Rattle.cranelift_module.specs.DeclarationForm.{function_value}
use Rattle.cranelift_module.proofs.declaration_json.write.functions_value.Given as goal

-- those so far are written
abbrev pub invariant-loop-function : goal.invariant-loop-function
invariant-loop-function l = map view l.values.items ≡ map function_value (take l.function-index l.functions)
