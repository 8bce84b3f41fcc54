-- The printed texts of targets and refusals.
use Rattle.std.specs.Prelude.{◌≡◌, ℕ, ◌==◌, Bool, true, false, if◌then◌else◌, Option, Some, None, List, ◌++◌, codes, decimal, string_bytes}
use Rattle.ir_core.specs.Names.{reloc_name, libcall_name, known_symbol_name}
use Rattle.ir_core.specs.Signature.{signature_text}
use Rattle.cranelift_module.specs.declared.identifiers.FuncOrDataId.{FuncOrDataId}
use Rattle.cranelift_module.specs.declared.identifiers.FuncOrDataId.TheVariants.{Func, Data}
use Rattle.cranelift_module.specs.declared.reloc.ModuleRelocTarget.{ModuleRelocTarget}
use Rattle.cranelift_module.specs.declared.reloc.ModuleRelocTarget.TheVariants.{User, LibCall, KnownSymbol as Known, FunctionOffset}
use Rattle.cranelift_module.specs.declared.error.SectionFault.{SectionFault}
use Rattle.cranelift_module.specs.declared.error.SectionFault.TheVariants.{SegmentLong, NoComma, SectionLong, UnknownType, UnknownAttribute, TooManyParts}
use Rattle.cranelift_module.specs.declared.error.BackendCause.{BackendCause}
use Rattle.cranelift_module.specs.declared.error.BackendCause.TheVariants.{UnsupportedTarget, NulByte, BadSection, TlsPlace, BadAlign, NoContents, UnsupportedReloc, BadReloc, ZerofillBytes}
use Rattle.cranelift_module.specs.declared.error.ModuleError.{ModuleError}
use Rattle.cranelift_module.specs.declared.error.ModuleError.TheVariants.{Undeclared, IncompatibleDeclaration, IncompatibleSignature, IncompatibleDataTls, DuplicateDefinition, InvalidImportDefinition, MissingDefinition, Backend, Allocation}

-- functions are in namespace 0, data objects in namespace 1
abbrev pub user_target : FuncOrDataId → ModuleRelocTarget
user_target (Func id) = User 0 id
user_target (Data id) = User 1 id

-- the target is of a namespace and an index
abbrev pub IsUser : ModuleRelocTarget → Type 0
IsUser (User namespace index) = Unit {0}
IsUser _ = ⊥

-- the target is of namespace 0
abbrev pub IsFunctionTarget : ModuleRelocTarget → Type 0
IsFunctionTarget (User namespace index) = namespace ≡ 0
IsFunctionTarget _ = ⊥

-- the target is of namespace 1
abbrev pub IsDataTarget : ModuleRelocTarget → Type 0
IsDataTarget (User namespace index) = namespace ≡ 1
IsDataTarget _ = ⊥

-- the function that a target stands for, where it is of namespace 0
abbrev pub function_of : ModuleRelocTarget → Option ℕ
function_of (User namespace index) = if namespace == 0 then Some index else None
function_of _ = None

-- the data object that a target stands for, where it is of namespace 1
abbrev pub data_of : ModuleRelocTarget → Option ℕ
data_of (User namespace index) = if namespace == 1 then Some index else None
data_of _ = None

-- a user's target is a function where its namespace is 0
abbrev pub is_function_target : ModuleRelocTarget → Bool
is_function_target (User namespace index) = namespace == 0
is_function_target _ = false

-- how a user's target prints
abbrev pub user_text : ℕ → ℕ → List ℕ
user_text namespace index = codes "u" ++ (decimal namespace ++ (codes ":" ++ decimal index))

-- how the target of a relocation prints
abbrev pub target_text : ModuleRelocTarget → List ℕ
target_text (User namespace index) = user_text namespace index
target_text (LibCall call) = codes "%" ++ libcall_name call
target_text (Known symbol) = known_symbol_name symbol
target_text (FunctionOffset function offset) = codes "funcid" ++ (decimal function ++ (codes "+" ++ decimal offset))

abbrev pub bool_text : Bool → List ℕ
bool_text true = codes "true"
bool_text false = codes "false"

-- how a fault of a section text prints
abbrev pub section_fault_text : SectionFault → List ℕ
section_fault_text SegmentLong = codes "segment name longer than 16 bytes"
section_fault_text NoComma = codes "no comma"
section_fault_text SectionLong = codes "section name longer than 16 bytes"
section_fault_text UnknownType = codes "unknown type"
section_fault_text UnknownAttribute = codes "unknown attribute"
section_fault_text TooManyParts = codes "too many parts"

-- how a cause of a back end prints
abbrev pub cause_text : BackendCause → List ℕ
cause_text UnsupportedTarget = codes "unsupported target"
cause_text (NulByte position) = codes "zero byte at " ++ decimal position
cause_text (BadSection fault) = codes "bad section: " ++ section_fault_text fault
cause_text TlsPlace = codes "thread-local data not allowed here"
cause_text (BadAlign align) = codes "bad alignment " ++ decimal align
cause_text NoContents = codes "no contents"
cause_text (UnsupportedReloc index kind) = codes "relocation " ++ (decimal index ++ (codes ": kind " ++ (reloc_name kind ++ codes " not supported")))
cause_text (BadReloc index offset) = codes "relocation " ++ (decimal index ++ (codes ": bad field at " ++ decimal offset))
cause_text ZerofillBytes = codes "bytes in a zero-fill section"

-- how an error prints
abbrev pub error_text : ModuleError → List ℕ
error_text (Undeclared name) = codes "Undeclared identifier: " ++ string_bytes name
error_text (IncompatibleDeclaration name) = codes "Incompatible declaration of identifier: " ++ string_bytes name
error_text (IncompatibleSignature name old new) = codes "Function " ++ (string_bytes name ++ (codes " signature " ++ (signature_text new ++ (codes " is incompatible with previous declaration " ++ signature_text old))))
error_text (IncompatibleDataTls name old new) = codes "Data object " ++ (string_bytes name ++ (codes " TLS " ++ (bool_text new ++ (codes " is incompatible with previous declaration TLS " ++ bool_text old))))
error_text (DuplicateDefinition name) = codes "Duplicate definition of identifier: " ++ string_bytes name
error_text (InvalidImportDefinition name) = codes "Invalid to define identifier declared as an import: " ++ string_bytes name
error_text (MissingDefinition name) = codes "Missing definition of identifier: " ++ string_bytes name
error_text (Backend cause) = codes "Backend error: " ++ cause_text cause
error_text Allocation = codes "Allocation error: out of memory"
