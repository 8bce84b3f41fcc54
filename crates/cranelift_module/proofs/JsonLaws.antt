-- What is written of a declaration is read as this declaration.
use Rattle.std.proofs.Common.{◌≡◌, ℕ, List, [], ◌∷◌, map, false, Option, Some, None, Ok, refl}
use Rattle.serde_json.specs.Data.{Data}
use Rattle.serde_json.specs.View.{items_of}
use Rattle.ir_core.specs.Signature.{SignatureData}
use Rattle.ir_core.specs.declared.signature.AbiParam.{AbiParam}
use Rattle.ir_core.specs.declared.types.ValueType.{ValueType}
use Rattle.ir_core.specs.declared.types.ValueType.TheVariants.{I8, I16, I32, I64, I128, F32, F64}
use Rattle.ir_core.specs.declared.types.ArgumentExtension.{ArgumentExtension}
use Rattle.ir_core.specs.declared.types.ArgumentExtension.TheVariants.{None as Unextended, Uext, Sext}
use Rattle.ir_core.specs.declared.types.ArgumentPurpose.{ArgumentPurpose}
use Rattle.ir_core.specs.declared.types.ArgumentPurpose.TheVariants.{Normal, StructReturn, VMContext}
use Rattle.ir_core.specs.declared.types.CallConv.{CallConv}
use Rattle.ir_core.specs.declared.types.CallConv.TheVariants.{Fast, Tail, SystemV, WindowsFastcall, AppleAarch64}
use Rattle.cranelift_module.specs.declared.linkage.Linkage.{Linkage}
use Rattle.cranelift_module.specs.declared.linkage.Linkage.TheVariants.{Import, Local, Preemptible, Hidden, Export}
use Rattle.cranelift_module.specs.Rows.{FunctionRow, DataRow}
use Rattle.cranelift_module.specs.Declarations.{DeclarationLists, has_repeat, names_of}
use Rattle.cranelift_module.specs.Words.{linkage_word, type_word, extension_word, purpose_word, convention_word, linkage_named, type_named, extension_named, purpose_named, convention_named}
use Rattle.json_form.specs.Form.{each_of, text_or_null}
use Rattle.cranelift_module.specs.DeclarationForm.{name_value, param_value, signature_value, function_value, object_value, param_of, signature_of, function_of, object_of}
use Rattle.cranelift_module.specs.DeclarationJson.{value_of, version_of, rows_at, from_json}

-- -- words

linkage-back : (l : Linkage) → linkage_named (linkage_word l) ≡ Some l
linkage-back Import = refl
linkage-back Local = refl
linkage-back Preemptible = refl
linkage-back Hidden = refl
linkage-back Export = refl

type-back : (t : ValueType) → type_named (type_word t) ≡ Some t
type-back I8 = refl
type-back I16 = refl
type-back I32 = refl
type-back I64 = refl
type-back I128 = refl
type-back F32 = refl
type-back F64 = refl

extension-back : (e : ArgumentExtension) → extension_named (extension_word e) ≡ Some e
extension-back Unextended = refl
extension-back Uext = refl
extension-back Sext = refl

purpose-back : (p : ArgumentPurpose) → purpose_named (purpose_word p) ≡ Some p
purpose-back Normal = refl
purpose-back StructReturn = refl
purpose-back VMContext = refl

convention-back : (c : CallConv) → convention_named (convention_word c) ≡ Some c
convention-back Fast = refl
convention-back Tail = refl
convention-back SystemV = refl
convention-back WindowsFastcall = refl
convention-back AppleAarch64 = refl

name-back : (name : Option (List ℕ)) → text_or_null (name_value name) ≡ Some name
name-back None = refl
name-back (Some name) = refl

-- -- values

each-back : {A : Type 0} (read : Data → Option A) (write : A → Data) → ((x : A) → read (write x) ≡ Some x) → (xs : List A) → each_of read (items_of (map write xs)) ≡ Some xs
unfolding each_of
each-back read write h [] = refl
each-back read write h (x ∷ xs) = rw (h x, each-back read write h xs) refl

param-back : (p : AbiParam) → param_of (param_value p) ≡ Some p
unfolding param_of param_value
param-back p = rw (type-back p.value_type, extension-back p.extension, purpose-back p.purpose) refl

signature-back : (s : SignatureData) → signature_of (signature_value s) ≡ Some s
unfolding signature_of signature_value
signature-back s = rw (convention-back s.call_conv, each-back param_of param_value param-back s.params, each-back param_of param_value param-back s.returns) refl

function-back : (f : FunctionRow) → function_of (function_value f) ≡ Some f
unfolding function_of function_value
function-back f = rw (name-back f.name, linkage-back f.linkage, signature-back f.signature) refl

object-back : (o : DataRow) → object_of (object_value o) ≡ Some o
unfolding object_of object_value
object-back o = rw (name-back o.name, linkage-back o.linkage) refl

-- -- the whole

pub reads_back : (d : DeclarationLists) → has_repeat (names_of d.functions d.objects) ≡ false → from_json (value_of d) ≡ Ok d
unfolding from_json value_of version_of rows_at
reads_back d h = rw (each-back function_of function_value function-back d.functions, each-back object_of object_value object-back d.objects, h) refl

-- so is any value that stands for them
pub reads_back_at : (d e : DeclarationLists) (value : Data) → d ≡ e → value ≡ value_of d → has_repeat (names_of e.functions e.objects) ≡ false → from_json value ≡ Ok d
reads_back_at d e value same is h = rw (is, same) (reads_back e h)
