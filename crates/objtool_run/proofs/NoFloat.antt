-- The value of declarations has no float, so its text is exact.
use Rattle.std.proofs.Common.{◌≡◌, ℕ, false, List, Option, Some, None, refl}
use Rattle.serde_json.specs.Data.{Data}
use Rattle.serde_json.specs.Written.{has_float, compact_text}
use Rattle.json_form.proofs.Plain.{list_plain, exact_text}
use Rattle.ir_core.specs.Signature.{SignatureData}
use Rattle.ir_core.specs.declared.signature.AbiParam.{AbiParam}
use Rattle.cranelift_module.specs.Rows.{FunctionRow, DataRow}
use Rattle.cranelift_module.specs.Declarations.{DeclarationLists}
use Rattle.cranelift_module.specs.DeclarationForm.{name_value, param_value, signature_value, function_value, object_value}
use Rattle.cranelift_module.specs.DeclarationJson.{value_of}

name_float : (o : Option (List ℕ)) → has_float (name_value o) ≡ false
name_float None = refl
name_float (Some name) = refl

param_float : (p : AbiParam) → has_float (param_value p) ≡ false
unfolding param_value
param_float p = refl

signature_float : (s : SignatureData) → has_float (signature_value s) ≡ false
unfolding signature_value
signature_float s = rw (list_plain param_value param_float s.params, list_plain param_value param_float s.returns) refl

function_float : (f : FunctionRow) → has_float (function_value f) ≡ false
unfolding function_value
function_float f = rw (name_float f.name, signature_float f.signature) refl

object_float : (o : DataRow) → has_float (object_value o) ≡ false
unfolding object_value
object_float o = rw (name_float o.name) refl

declarations_float : (d : DeclarationLists) → has_float (value_of d) ≡ false
unfolding value_of
declarations_float d = rw (list_plain object_value object_float d.objects, list_plain function_value function_float d.functions) refl

-- the exact text of a value that stands for declarations
pub declarations_text : (v : Data) (d : DeclarationLists) (text : List ℕ) → v ≡ value_of d → (has_float v ≡ false → text ≡ compact_text v) → text ≡ compact_text (value_of d)
declarations_text v d text is exact = exact_text v (value_of d) text is (declarations_float d) exact
