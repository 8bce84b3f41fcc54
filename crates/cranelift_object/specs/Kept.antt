-- What holds of every module that can be made.
use Rattle.std.specs.Prelude.{◌≡◌, ℕ, ◌+◌, ◌<◌, ◌≤◌, ◌^◌, Bool, true, false, List, [], ◌∷◌, length, slice_get, slice_index_or, option_map, unwrap_or, Option, Some, None}
use Rattle.std.specs.List.{All, list_any}
use Rattle.ir_core.specs.Moments.{Moment, moments}
use Rattle.ir_core.specs.declared.target.BinaryFormat.{BinaryFormat}
use Rattle.ir_core.specs.declared.target.BinaryFormat.TheVariants.{Macho}
use Rattle.object_core.specs.WellFormed.{is_supported}
use Rattle.cranelift_module.specs.declared.identifiers.FuncOrDataId.{FuncOrDataId}
use Rattle.cranelift_module.specs.declared.identifiers.FuncOrDataId.TheVariants.{Func, Data}
use Rattle.cranelift_module.specs.Rows.{FunctionRow, DataRow}
use Rattle.ir_core.specs.Target.{Target}
use Rattle.cranelift_module.specs.Call.{Contents, bytes, zeros}
use Rattle.cranelift_module.specs.Definitions.{Definition, size_of}
use Rattle.cranelift_module.specs.Refusal.{is_same_identifier, zero_byte, bad_reloc, is_bad_align, section_cause}
use Rattle.cranelift_object.specs.Opened.{BuilderData, OpenModule}

-- what holds of every builder
pub record IsBegun (b : BuilderData) : Type 0 where
  pub supported : is_supported b.target.triple.architecture b.target.triple.binary_format ≡ true
  pub file_name : zero_byte b.settings.file_name ≡ None
  pub library_names : All (λ (text : List ℕ). zero_byte text ≡ None) b.settings.library_names

-- one of so many functions, or of so many data objects
abbrev pub IsDeclared : ℕ → ℕ → FuncOrDataId → Type 0
IsDeclared functions objects (Func k) = k < functions
IsDeclared functions objects (Data k) = k < objects

-- contents of bytes
abbrev pub AreBytes : Contents → Type 0
AreBytes (bytes xs) = Unit {0}
AreBytes (zeros n) = ⊥

-- a function is defined by bytes, in no section of a text, and without the mark of use
abbrev pub IsPlainBody : FuncOrDataId → Contents → Option (List ℕ) → Bool → Type 0
IsPlainBody (Func k) contents section used = AreBytes contents × (section ≡ None) × (used ≡ false)
IsPlainBody (Data k) contents section used = Unit {0}

-- a definition of one of so many functions or data objects that was accepted
pub record IsBody (target : Target) (functions objects : ℕ) (d : Definition) : Type 0 where
  pub declared : IsDeclared functions objects d.identifier
  pub sized : size_of d.contents < 2 ^ 64
  pub aligned : is_bad_align d.align ≡ false
  pub judged : bad_reloc target d.contents d.relocs ≡ None
  pub text : zero_byte (unwrap_or d.section []) ≡ None
  pub section : section_cause target.triple.binary_format (Some d.contents) d.section ≡ None
  pub plain : IsPlainBody d.identifier d.contents d.section d.used

-- an identifier of a function, or of data that isn't thread-local
abbrev pub IsPlain : List DataRow → FuncOrDataId → Type 0
IsPlain objects (Func k) = Unit {0}
IsPlain objects (Data k) = option_map (λ (row : DataRow). row.tls) (slice_get objects k) ≡ Some false

-- in Mach-O what is defined is a function, or data that isn't thread-local
abbrev pub HasPlaceIn : BinaryFormat → List DataRow → FuncOrDataId → Type 0
HasPlaceIn Macho objects id = IsPlain objects id
HasPlaceIn _ objects id = Unit {0}

-- a name has no zero byte
abbrev pub IsName : Option (List ℕ) → Type 0
IsName None = Unit {0}
IsName (Some name) = zero_byte name ≡ None

-- no definition before it is of the same identifier
abbrev pub IsFirst : Moment Definition → Type 0
IsFirst m = list_any (λ (d : Definition). is_same_identifier m.here.identifier d.identifier) m.before ≡ false

-- identifiers that are each the next number of its kind, from the first two numbers on up to the last two
abbrev pub IsNumbered : ℕ → ℕ → List FuncOrDataId → ℕ → ℕ → Type 0
IsNumbered functions objects [] all_functions all_objects = (functions ≡ all_functions) × (objects ≡ all_objects)
IsNumbered functions objects (Func k ∷ ids) all_functions all_objects = (k ≡ functions) × IsNumbered (functions + 1) objects ids all_functions all_objects
IsNumbered functions objects (Data k ∷ ids) all_functions all_objects = (k ≡ objects) × IsNumbered functions (objects + 1) ids all_functions all_objects

-- for each function and each data object by number, whether it has a definition
pub record Marks : Type 0 where
  pub functions : List Bool
  pub objects : List Bool

pub record IsModule (o : OpenModule) (marks : Marks) : Type 0 where
  pub begun : IsBegun (record { settings = o.settings; target = o.state.target })
  pub names : All (λ (row : FunctionRow). IsName row.name) o.state.functions
  pub object_names : All (λ (row : DataRow). IsName row.name) o.state.objects
  pub few : length o.state.functions ≤ 4294967295
  pub few_objects : length o.state.objects ≤ 4294967295
  pub order : IsNumbered 0 0 o.state.created (length o.state.functions) (length o.state.objects)
  pub bodies : All (IsBody o.state.target (length o.state.functions) (length o.state.objects)) o.state.definitions
  pub placed : All (λ (d : Definition). HasPlaceIn o.state.target.triple.binary_format o.state.objects d.identifier) o.state.definitions
  pub apart : All IsFirst (moments o.state.definitions)
  pub marked : length marks.functions ≡ length o.state.functions
  pub marking : (k : ℕ) → slice_index_or marks.functions k false ≡ list_any (λ (d : Definition). is_same_identifier (Func k) d.identifier) o.state.definitions
  pub marked_objects : length marks.objects ≡ length o.state.objects
  pub marking_objects : (k : ℕ) → slice_index_or marks.objects k false ≡ list_any (λ (d : Definition). is_same_identifier (Data k) d.identifier) o.state.definitions
