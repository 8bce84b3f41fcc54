-- One declared function or data object as a JSON value, written and read. The keys of an object stand in the order of their bytes.
use Rattle.std.specs.Prelude.{ℕ, List, [], ◌∷◌, codes, Option, Some, None}
use Rattle.serde_json.specs.Data.{Data, null, boolean, string, object, no_members, member}
use Rattle.serde_json.specs.Find.{get}
use Rattle.ir_core.specs.Signature.{SignatureData}
use Rattle.ir_core.specs.declared.signature.AbiParam.{AbiParam}
use Rattle.cranelift_module.specs.Rows.{FunctionRow, DataRow}
use Rattle.cranelift_module.specs.Words.{linkage_word, type_word, extension_word, purpose_word, convention_word, linkage_named, type_named, extension_named, purpose_named, convention_named}
use Rattle.json_form.specs.Written.{list_value}
use Rattle.json_form.specs.Form.{◌>>=◌, each_of, text_at, items_at, mark_at, name_at, with_keys}

-- -- written

-- a name, or null where there is none
abbrev pub name_value : Option (List ℕ) → Data
name_value None = null
name_value (Some name) = string name

unfoldable pub param_value : AbiParam → Data
param_value p =
    object (
    member (codes "extension") (string (extension_word p.extension)) (
    member (codes "purpose") (string (purpose_word p.purpose)) (
    member (codes "type") (string (type_word p.value_type)) no_members)))

unfoldable pub signature_value : SignatureData → Data
signature_value s =
    object (
    member (codes "call_conv") (string (convention_word s.call_conv)) (
    member (codes "params") (list_value param_value s.params) (
    member (codes "returns") (list_value param_value s.returns) no_members)))

unfoldable pub function_value : FunctionRow → Data
function_value f =
    object (
    member (codes "linkage") (string (linkage_word f.linkage)) (
    member (codes "name") (name_value f.name) (
    member (codes "signature") (signature_value f.signature) no_members)))

unfoldable pub object_value : DataRow → Data
object_value o =
    object (
    member (codes "linkage") (string (linkage_word o.linkage)) (
    member (codes "name") (name_value o.name) (
    member (codes "tls") (boolean o.tls) (
    member (codes "writable") (boolean o.writable) no_members))))

-- -- read: an object has exactly its keys

unfoldable pub param_of : Data → Option AbiParam
param_of d = with_keys (codes "type" ∷ codes "extension" ∷ codes "purpose" ∷ []) d do
  type_text ← text_at (codes "type") d
  value_type ← type_named type_text
  extension_text ← text_at (codes "extension") d
  extension ← extension_named extension_text
  purpose_text ← text_at (codes "purpose") d
  purpose ← purpose_named purpose_text
  Some (record { value_type = value_type; extension = extension; purpose = purpose })

-- the parameters of the list under a key
abbrev pub params_at : List ℕ → Data → Option (List AbiParam)
params_at key d = items_at key d >>= λ ds. each_of param_of ds

unfoldable pub signature_of : Data → Option SignatureData
signature_of d = with_keys (codes "call_conv" ∷ codes "params" ∷ codes "returns" ∷ []) d do
  text ← text_at (codes "call_conv") d
  call_conv ← convention_named text
  params ← params_at (codes "params") d
  returns ← params_at (codes "returns") d
  Some (record { params = params; returns = returns; call_conv = call_conv })

unfoldable pub function_of : Data → Option FunctionRow
function_of d = with_keys (codes "name" ∷ codes "linkage" ∷ codes "signature" ∷ []) d do
  name ← name_at (codes "name") d
  text ← text_at (codes "linkage") d
  linkage ← linkage_named text
  value ← get (codes "signature") d
  signature ← signature_of value
  Some (record { name = name; linkage = linkage; signature = signature })

unfoldable pub object_of : Data → Option DataRow
object_of d = with_keys (codes "name" ∷ codes "linkage" ∷ codes "writable" ∷ codes "tls" ∷ []) d do
  name ← name_at (codes "name") d
  text ← text_at (codes "linkage") d
  linkage ← linkage_named text
  writable ← mark_at (codes "writable") d
  tls ← mark_at (codes "tls") d
  Some (record { name = name; linkage = linkage; writable = writable; tls = tls })
