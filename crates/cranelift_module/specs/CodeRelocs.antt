-- What a relocation of a function's code is as a relocation of the function's definition.
use Rattle.std.specs.Prelude.{ℕ, ◌<◌, List, length, slice_get, Option, Some, None, option_map}
use Rattle.ir_core.specs.declared.external_name.UserExternalName.{UserExternalName}
use Rattle.ir_core.specs.declared.external_name.ExternalName.{ExternalName}
use Rattle.ir_core.specs.declared.external_name.ExternalName.TheVariants as names
use Rattle.ir_core.specs.declared.external_name.RelocTarget.{RelocTarget}
use Rattle.ir_core.specs.declared.external_name.RelocTarget.TheVariants as code
use Rattle.ir_core.specs.declared.external_name.MachReloc.{MachReloc}
use Rattle.cranelift_module.specs.declared.reloc.ModuleReloc.{ModuleReloc}
use Rattle.cranelift_module.specs.declared.reloc.ModuleRelocTarget.{ModuleRelocTarget}
use Rattle.cranelift_module.specs.declared.reloc.ModuleRelocTarget.TheVariants as targets

-- the name stands for something: it is no name of a test, and a user's lies in this list of the function's
abbrev pub IsNamed : List UserExternalName → ExternalName → Type 0
IsNamed users (names.User place) = place < length users
IsNamed users names.TestCase = ⊥
IsNamed users (names.LibCall call) = Unit {0}
IsNamed users (names.KnownSymbol symbol) = Unit {0}

-- the relocation's target stands for something; a label always does
abbrev pub HasName : List UserExternalName → RelocTarget → Type 0
HasName users (code.ExternalName name) = IsNamed users name
HasName users (code.Label place) = Unit {0}

-- the target of a user's name
abbrev pub named_target : UserExternalName → ModuleRelocTarget
named_target name = targets.User name.namespace name.index

-- what an external name goes to: a user's to the name at its place in the list, a name of a test to nothing, the others to themselves
abbrev pub external_target : List UserExternalName → ExternalName → Option ModuleRelocTarget
external_target users (names.User place) = option_map named_target (slice_get users place)
external_target users names.TestCase = None
external_target users (names.LibCall call) = Some (targets.LibCall call)
external_target users (names.KnownSymbol symbol) = Some (targets.KnownSymbol symbol)

-- what the target of a relocation in this function's code goes to: a label is a place in the function itself
abbrev pub code_target : List UserExternalName → ℕ → RelocTarget → Option ModuleRelocTarget
code_target users function (code.ExternalName name) = external_target users name
code_target users function (code.Label place) = Some (targets.FunctionOffset function place)

-- the relocation of this function's definition; its offset, kind and addend are those in the code
abbrev pub module_reloc : List UserExternalName → ℕ → MachReloc → Option ModuleReloc
module_reloc users function r = option_map (λ target. record { offset = r.offset; kind = r.kind; name = target; addend = r.addend }) (code_target users function r.target)
