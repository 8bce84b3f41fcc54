use Rattle.std.proofs.Common.{◌≡◌, drop, map}
use Rattle.serde_json.specs.View.{items_view}
use Rattle.json_form.specs.Form.{each_of}
use Rattle.cranelift_module.specs.DeclarationForm.{function_of}
use Rattle.json_form.proofs.EachOf.{with_front}
use Rattle.cranelift_module.proofs.declaration_json.read.functions_in.Given as goal

-- the functions so far, and those of the rest, are all functions
abbrev pub invariant-loop-value : goal.invariant-loop-value
invariant-loop-value l = each_of function_of (items_view l.values) ≡ with_front (map (λ x. x) l.functions.items) (each_of function_of (items_view (drop l.value-index l.values)))
