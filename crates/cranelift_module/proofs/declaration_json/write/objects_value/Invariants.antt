use Rattle.std.proofs.Common.{◌≡◌, map, take}
use Rattle.serde_json.specs.View.{view}
use Rattle.cranelift_module.specs.DeclarationForm.{object_value}
use Rattle.cranelift_module.proofs.declaration_json.write.objects_value.Given as goal

-- those so far are written
abbrev pub invariant-loop-object : goal.invariant-loop-object
invariant-loop-object l = map view l.values.items ≡ map object_value (take l.object-index l.objects)
