-- The list of parts that a JSON value stands for.
use Rattle.std.specs.Prelude.{◌≡◌, ℕ, false, List, [], ◌∷◌, codes, if◌then◌else◌, Option, Some, None, is_some}
use Rattle.std.specs.Str.{bytes_eq, IsUtf8}
use Rattle.serde_json.specs.Data.{Data, Items}
use Rattle.serde_json.specs.Find.{as_array, get}
use Rattle.serde_json.specs.Read.{read}
use Rattle.ir_core.specs.Target.{default_call_conv}
use Rattle.ir_core.specs.declared.types.CallConv.{CallConv}
use Rattle.cranelift_module.specs.declared.linkage.Linkage.{Linkage}
use Rattle.cranelift_module.specs.declared.linkage.Linkage.TheVariants.{Import, Local, Preemptible, Hidden, Export}
use Rattle.cranelift_module.specs.Call.{Call, declare_function, declare_anonymous_function, declare_data, declare_anonymous_data}
use Rattle.cranelift_object.specs.Settings.{Settings}
use Rattle.image_build.specs.Built.{BuildPart, commands, image}
use Rattle.objtool_run.specs.TargetForm.{libcalls_at, part_target}
use Rattle.objtool_run.specs.SignatureForm.{signature_at}
use Rattle.objtool_run.specs.DefinitionForm.{define_of, define_data_of}
use Rattle.json_form.specs.Form.{◌>>=◌, each_of, text_at, items_at, hex_at, mark_or, with_keys}

-- -- commands

abbrev pub linkage_of : List ℕ → Option Linkage
linkage_of text =
    if bytes_eq text (codes "Import") then Some Import
    else if bytes_eq text (codes "Local") then Some Local
    else if bytes_eq text (codes "Preemptible") then Some Preemptible
    else if bytes_eq text (codes "Hidden") then Some Hidden
    else if bytes_eq text (codes "Export") then Some Export
    else None

-- a declaration; where it names no signature, the function has the target's default convention
unfoldable pub declare_of : CallConv → Data → Option Call
declare_of convention d = with_keys (codes "op" ∷ codes "name" ∷ codes "linkage" ∷ codes "signature" ∷ []) d do
  name ← text_at (codes "name") d
  text ← text_at (codes "linkage") d
  linkage ← linkage_of text
  signature ← signature_at convention d
  Some (declare_function name linkage signature)

-- a declaration without a name
unfoldable pub anonymous_of : CallConv → Data → Option Call
anonymous_of convention d = with_keys (codes "op" ∷ codes "signature" ∷ []) d do
  signature ← signature_at convention d
  Some (declare_anonymous_function signature)

-- a declaration of data, which is neither writable nor thread-local where it doesn't say so
unfoldable pub declare_data_of : Data → Option Call
declare_data_of d = with_keys (codes "op" ∷ codes "name" ∷ codes "linkage" ∷ codes "writable" ∷ codes "tls" ∷ []) d do
  name ← text_at (codes "name") d
  text ← text_at (codes "linkage") d
  linkage ← linkage_of text
  writable ← mark_or (codes "writable") false d
  tls ← mark_or (codes "tls") false d
  Some (declare_data name linkage writable tls)

-- a declaration of data without a name
unfoldable pub anonymous_data_of : Data → Option Call
anonymous_data_of d = with_keys (codes "op" ∷ codes "writable" ∷ codes "tls" ∷ []) d do
  writable ← mark_or (codes "writable") false d
  tls ← mark_or (codes "tls") false d
  Some (declare_anonymous_data writable tls)

-- a definition by its `op`
abbrev pub definition_by : List ℕ → Data → Option Call
definition_by op d = if bytes_eq op (codes "define_function") then define_of d else if bytes_eq op (codes "define_data") then define_data_of d else None

-- a command over data, or a definition, by its `op`
abbrev pub data_command_by : List ℕ → Data → Option Call
data_command_by op d =
    if bytes_eq op (codes "declare_data") then declare_data_of d
    else if bytes_eq op (codes "declare_anonymous_data") then anonymous_data_of d
    else definition_by op d

-- a command by its `op`
unfoldable pub command_of : CallConv → Data → Option Call
command_of convention d = do
  op ← text_at (codes "op") d
  if bytes_eq op (codes "declare_function") then declare_of convention d
      else if bytes_eq op (codes "declare_anonymous_function") then anonymous_of convention d
      else data_command_by op d

-- the commands of a list
abbrev pub commands_of : CallConv → Items → Option (List Call)
commands_of convention ds = each_of (command_of convention) ds

-- -- parts

-- what a part gives a builder beside the calls: both section options are off where it doesn't say so
unfoldable pub settings_of : Data → Option Settings
settings_of d = do
  file_name ← text_at (codes "name") d
  library_names ← libcalls_at d
  function_sections ← mark_or (codes "function_sections") false d
  data_sections ← mark_or (codes "data_sections") false d
  Some (record { file_name = file_name; library_names = library_names; function_sections = function_sections; data_sections = data_sections })

abbrev pub part_keys : List (List ℕ)
part_keys =
    codes "name" ∷ codes "arch" ∷ codes "format" ∷ codes "system" ∷ codes "version" ∷ codes "environment" ∷ codes "flags" ∷ codes "function_sections" ∷ codes "data_sections"
    ∷ codes "libcalls" ∷ codes "commands" ∷ []

-- a part of commands; a function that names no convention has the default one of the part's own target
unfoldable pub command_part_of : Data → Option BuildPart
command_part_of d = with_keys part_keys d do
  settings ← settings_of d
  target ← part_target d
  items ← items_at (codes "commands") d
  calls ← commands_of (default_call_conv target.triple) items
  Some (commands (record { settings = settings; target = target; calls = calls }))

-- an image: the bytes of a Mach-O file in hexadecimal
unfoldable pub image_part_of : Data → Option BuildPart
image_part_of d = with_keys (codes "image" ∷ []) d do
  bytes ← hex_at (codes "image") d
  Some (image bytes)

-- an image, where the object has that key, else a part of commands
abbrev pub part_of : Data → Option BuildPart
part_of d = if is_some (get (codes "image") d) then image_part_of d else command_part_of d

-- a list of parts
abbrev pub parts_of : Data → Option (List BuildPart)
parts_of d = as_array d >>= λ ds. each_of part_of ds

-- -- the bytes of an input

-- the bytes are a text, and the text is this JSON value within 127 levels
pub record HasJson (bytes : List ℕ) (d : Data) : Type 0 where
  pub utf8 : IsUtf8 bytes
  pub value : read bytes ≡ Some d

-- the input has no JSON reading, or one that isn't of the form of parts
abbrev pub HasNoParts : List ℕ → Type 0
HasNoParts input = (d : Data) → HasJson input d → parts_of d ≡ None

-- the input stands for these parts
abbrev pub StandsFor : List ℕ → List BuildPart → Type 0
StandsFor input parts = (d : Data) × HasJson input d × (parts_of d ≡ Some parts)
