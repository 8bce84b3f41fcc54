-- The words that stand in JSON for linkages, types, marks and calling conventions: the names of their variants.
use Rattle.std.specs.Prelude.{ℕ, List, [], ◌∷◌, codes, Option}
use Rattle.std.specs.List.{find}
use Rattle.std.specs.Str.{bytes_eq}
use Rattle.ir_core.specs.declared.types.ValueType.{ValueType}
use Rattle.ir_core.specs.declared.types.ValueType.TheVariants.{I8, I16, I32, I64, I128, F32, F64}
use Rattle.ir_core.specs.declared.types.ArgumentExtension.{ArgumentExtension}
use Rattle.ir_core.specs.declared.types.ArgumentExtension.TheVariants.{None as Unextended, Uext, Sext}
use Rattle.ir_core.specs.declared.types.ArgumentPurpose.{ArgumentPurpose}
use Rattle.ir_core.specs.declared.types.ArgumentPurpose.TheVariants.{Normal, StructReturn, VMContext}
use Rattle.ir_core.specs.declared.types.CallConv.{CallConv}
use Rattle.ir_core.specs.declared.types.CallConv.TheVariants.{Fast, Tail, SystemV, WindowsFastcall, AppleAarch64}
use Rattle.cranelift_module.specs.declared.linkage.Linkage.{Linkage}
use Rattle.cranelift_module.specs.declared.linkage.Linkage.TheVariants.{Import, Local, Preemptible, Hidden, Export}

abbrev pub linkage_word : Linkage → List ℕ
linkage_word Import = codes "Import"
linkage_word Local = codes "Local"
linkage_word Preemptible = codes "Preemptible"
linkage_word Hidden = codes "Hidden"
linkage_word Export = codes "Export"

abbrev pub type_word : ValueType → List ℕ
type_word I8 = codes "I8"
type_word I16 = codes "I16"
type_word I32 = codes "I32"
type_word I64 = codes "I64"
type_word I128 = codes "I128"
type_word F32 = codes "F32"
type_word F64 = codes "F64"

abbrev pub extension_word : ArgumentExtension → List ℕ
extension_word Unextended = codes "None"
extension_word Uext = codes "Uext"
extension_word Sext = codes "Sext"

abbrev pub purpose_word : ArgumentPurpose → List ℕ
purpose_word Normal = codes "Normal"
purpose_word StructReturn = codes "StructReturn"
purpose_word VMContext = codes "VMContext"

abbrev pub convention_word : CallConv → List ℕ
convention_word Fast = codes "Fast"
convention_word Tail = codes "Tail"
convention_word SystemV = codes "SystemV"
convention_word WindowsFastcall = codes "WindowsFastcall"
convention_word AppleAarch64 = codes "AppleAarch64"

-- the first of some values whose word is the text
abbrev pub with_word : {A : Type 0} → (A → List ℕ) → List A → List ℕ → Option A
with_word word values text = find (λ value. bytes_eq text (word value)) values

-- the value that a word stands for
abbrev pub linkage_named : List ℕ → Option Linkage
linkage_named = with_word linkage_word (Import ∷ Local ∷ Preemptible ∷ Hidden ∷ Export ∷ [])

abbrev pub type_named : List ℕ → Option ValueType
type_named = with_word type_word (I8 ∷ I16 ∷ I32 ∷ I64 ∷ I128 ∷ F32 ∷ F64 ∷ [])

abbrev pub extension_named : List ℕ → Option ArgumentExtension
extension_named = with_word extension_word (Unextended ∷ Uext ∷ Sext ∷ [])

abbrev pub purpose_named : List ℕ → Option ArgumentPurpose
purpose_named = with_word purpose_word (Normal ∷ StructReturn ∷ VMContext ∷ [])

abbrev pub convention_named : List ℕ → Option CallConv
convention_named = with_word convention_word (Fast ∷ Tail ∷ SystemV ∷ WindowsFastcall ∷ AppleAarch64 ∷ [])
