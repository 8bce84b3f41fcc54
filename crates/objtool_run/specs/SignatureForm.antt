-- Signatures in their JSON form.
use Rattle.std.specs.Prelude.{ℕ, List, [], ◌∷◌, codes, if◌then◌else◌, Option, Some, None}
use Rattle.std.specs.Str.{bytes_eq}
use Rattle.serde_json.specs.Data.{Data, Items}
use Rattle.serde_json.specs.Find.{get, as_str, as_array}
use Rattle.ir_core.specs.Signature.{SignatureData}
use Rattle.ir_core.specs.declared.signature.AbiParam.{AbiParam}
use Rattle.ir_core.specs.declared.types.ValueType.{ValueType}
use Rattle.ir_core.specs.declared.types.ValueType.TheVariants.{I8, I16, I32, I64, I128, F32, F64}
use Rattle.ir_core.specs.declared.types.ArgumentExtension.{ArgumentExtension}
use Rattle.ir_core.specs.declared.types.ArgumentExtension.TheVariants as extension
use Rattle.ir_core.specs.declared.types.ArgumentPurpose.{ArgumentPurpose}
use Rattle.ir_core.specs.declared.types.ArgumentPurpose.TheVariants.{Normal, StructReturn, VMContext}
use Rattle.ir_core.specs.declared.types.CallConv.{CallConv}
use Rattle.ir_core.specs.declared.types.CallConv.TheVariants.{Fast, Tail, SystemV, WindowsFastcall, AppleAarch64}
use Rattle.json_form.specs.Form.{◌>>=◌, each_of, or_else, with_keys, text_at}

abbrev pub type_named : List ℕ → Option ValueType
type_named text =
    if bytes_eq text (codes "I8") then Some I8
    else if bytes_eq text (codes "I16") then Some I16
    else if bytes_eq text (codes "I32") then Some I32
    else if bytes_eq text (codes "I64") then Some I64
    else if bytes_eq text (codes "I128") then Some I128
    else if bytes_eq text (codes "F32") then Some F32
    else if bytes_eq text (codes "F64") then Some F64
    else None

abbrev pub extension_named : List ℕ → Option ArgumentExtension
extension_named text =
    if bytes_eq text (codes "None") then Some extension.None
    else if bytes_eq text (codes "Uext") then Some extension.Uext
    else if bytes_eq text (codes "Sext") then Some extension.Sext
    else None

abbrev pub purpose_named : List ℕ → Option ArgumentPurpose
purpose_named text =
    if bytes_eq text (codes "Normal") then Some Normal
    else if bytes_eq text (codes "StructReturn") then Some StructReturn
    else if bytes_eq text (codes "VMContext") then Some VMContext
    else None

abbrev pub convention_named : List ℕ → Option CallConv
convention_named text =
    if bytes_eq text (codes "Fast") then Some Fast
    else if bytes_eq text (codes "Tail") then Some Tail
    else if bytes_eq text (codes "SystemV") then Some SystemV
    else if bytes_eq text (codes "WindowsFastcall") then Some WindowsFastcall
    else if bytes_eq text (codes "AppleAarch64") then Some AppleAarch64
    else None

abbrev pub extension_of : Data → Option ArgumentExtension
extension_of d = as_str d >>= λ text. extension_named text

abbrev pub purpose_of : Data → Option ArgumentPurpose
purpose_of d = as_str d >>= λ text. purpose_named text

abbrev pub convention_of : Data → Option CallConv
convention_of d = as_str d >>= λ text. convention_named text

-- a parameter as an object
unfoldable pub param_object : Data → Option AbiParam
param_object d = with_keys (codes "type" ∷ codes "extension" ∷ codes "purpose" ∷ []) d do
  name ← text_at (codes "type") d
  value_type ← type_named name
  extension ← or_else extension_of extension.None (get (codes "extension") d)
  purpose ← or_else purpose_of Normal (get (codes "purpose") d)
  Some (record { value_type = value_type; extension = extension; purpose = purpose })

-- a parameter is a type's name, or an object
abbrev pub named_or : Option (List ℕ) → Option AbiParam → Option AbiParam
named_or None other = other
named_or (Some name) other = type_named name >>= λ value_type. Some (record { value_type = value_type; extension = extension.None; purpose = Normal })

unfoldable pub param_of : Data → Option AbiParam
param_of d = named_or (as_str d) (param_object d)

abbrev pub params_in : Items → Option (List AbiParam)
params_in ds = each_of param_of ds

abbrev pub params_of : Data → Option (List AbiParam)
params_of d = as_array d >>= λ ds. params_in ds

-- a signature; without a convention it has this one
unfoldable pub signature_object : CallConv → Data → Option SignatureData
signature_object convention d = with_keys (codes "call_conv" ∷ codes "params" ∷ codes "returns" ∷ []) d do
  call_conv ← or_else convention_of convention (get (codes "call_conv") d)
  params ← or_else params_of [] (get (codes "params") d)
  returns ← or_else params_of [] (get (codes "returns") d)
  Some (record { params = params; returns = returns; call_conv = call_conv })

-- the signature of a command, which is empty where it names none
abbrev pub signature_at : CallConv → Data → Option SignatureData
signature_at convention d = or_else (signature_object convention) (record { params = []; returns = []; call_conv = convention }) (get (codes "signature") d)
