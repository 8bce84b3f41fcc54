use Rattle.std.proofs.Common.{◌≡◌, drop, map}
use Rattle.serde_json.specs.View.{items_view}
use Rattle.json_form.specs.Form.{each_of}
use Rattle.cranelift_module.specs.DeclarationForm.{object_of}
use Rattle.json_form.proofs.EachOf.{with_front}
use Rattle.cranelift_module.proofs.declaration_json.read.objects_in.Given as goal

-- the data objects so far, and those of the rest, are all data objects
abbrev pub invariant-loop-value : goal.invariant-loop-value
invariant-loop-value l = each_of object_of (items_view l.values) ≡ with_front (map (λ x. x) l.objects.items) (each_of object_of (items_view (drop l.value-index l.values)))
