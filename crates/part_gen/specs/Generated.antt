-- The part that a seed and a count stand for.
use Rattle.std.specs.Prelude.{ℕ, ◌+◌, ◌*◌, ◌%◌, negsuc, false, List, [], ◌∷◌, ◌++◌, replicate, flat_map, codes, decimal, Some, None}
use Rattle.std.specs.List.{range_with_len}
use Rattle.ir_core.specs.Signature.{SignatureData}
use Rattle.ir_core.specs.Target.{Target, default_call_conv}
use Rattle.ir_core.specs.declared.target.Triple.{Triple}
use Rattle.ir_core.specs.declared.target.Architecture.TheVariants.{X86_64}
use Rattle.ir_core.specs.declared.target.BinaryFormat.TheVariants.{Elf}
use Rattle.ir_core.specs.declared.target.System.TheVariants as system
use Rattle.ir_core.specs.declared.target.Environment.TheVariants as environment
use Rattle.ir_core.specs.declared.reloc.Reloc.TheVariants.{X86PCRel4}
use Rattle.cranelift_module.specs.declared.linkage.Linkage.TheVariants.{Export, Local}
use Rattle.cranelift_module.specs.declared.reloc.ModuleReloc.{ModuleReloc}
use Rattle.cranelift_module.specs.declared.reloc.ModuleRelocTarget.TheVariants.{User}
use Rattle.cranelift_module.specs.Call.{Call, bytes, declare_function, declare_data, define_function, define_data}
use Rattle.cranelift_module.specs.Init.{no_description}
use Rattle.cranelift_module.specs.LibraryNames.{usual_texts}
use Rattle.cranelift_object.specs.Settings.{plain_settings}
use Rattle.cranelift_object.specs.Part.{PartData}
use Rattle.part_gen.specs.Draws.{draw}

-- ELF for x86_64, for no operating system
abbrev pub target_triple : Triple
target_triple = record { architecture = X86_64; binary_format = Elf; system = system.Unknown; version = None; environment = environment.Unknown }

abbrev pub elf_target : Target
elf_target = record { triple = target_triple; flags = [] }

-- a signature without values, of the target's convention
abbrev pub default_signature : SignatureData
default_signature = record { params = []; returns = []; call_conv = default_call_conv target_triple }

-- the name of function k
abbrev pub function_name : ℕ → List ℕ
function_name k = codes "f" ++ decimal k

-- the name of data object k
abbrev pub data_name : ℕ → List ℕ
data_name k = codes "d" ++ decimal k

-- function k is exported
abbrev pub function_declared : ℕ → Call
function_declared k = declare_function (function_name k) Export default_signature

-- data object k is local and only read
abbrev pub data_declared : ℕ → Call
data_declared k = declare_data (data_name k) Local false false

-- the declarations of number k
abbrev pub declarations_at : ℕ → List Call
declarations_at k = function_declared k ∷ data_declared k ∷ []

-- four bytes from the second on hold the distance to a data object
abbrev pub distance_to : ℕ → ModuleReloc
distance_to object = record { offset = 1; kind = X86PCRel4; name = User 1 object; addend = negsuc 3 }

-- function k has so many bytes, and refers to a data object
abbrev pub function_defined : ℕ → ℕ → ℕ → Call
function_defined k size object = define_function k 16 (replicate size 0x90) (distance_to object ∷ [])

-- data object k has 16 equal bytes, and the address of a function is written over the first of them
abbrev pub data_defined : ℕ → ℕ → ℕ → Call
data_defined k byte function =
    define_data k
    (record no_description { contents = Some (bytes (replicate 16 byte)); function_decls = User 0 function ∷ []; function_relocs = (0, 0) ∷ []; align = Some 8 })

-- Function k and data object k. Of four draws in a row the first gives the function's size, the second the data object
-- that it refers to, the third the bytes of the data, and the last the function that the data refers to.
abbrev pub definitions_at : ℕ → ℕ → ℕ → List Call
definitions_at seed n k =
    function_defined k (16 + draw seed (4 * k) % 16) (draw seed (4 * k + 1) % n)
    ∷ data_defined k (draw seed (4 * k + 2) % 256) (draw seed (4 * k + 3) % n) ∷ []

-- all declarations by number, then all definitions by number
abbrev pub calls_of : ℕ → ℕ → List Call
calls_of seed n = flat_map declarations_at (range_with_len 0 n) ++ flat_map (definitions_at seed n) (range_with_len 0 n)

-- the part of n functions and n data objects that a seed gives: the file `gen.o`, without section options
unfoldable pub generated : ℕ → ℕ → PartData
generated seed n = record { settings = plain_settings (codes "gen.o") usual_texts; target = elf_target; calls = calls_of seed n }
