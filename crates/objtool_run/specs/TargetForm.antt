-- The target of a part in JSON, and the texts of its calls into the runtime.
use Rattle.std.specs.Prelude.{◌≡◌, ℕ, ◌^◌, ◌++◌, nat_lt, Bool, List, [], ◌∷◌, map, codes, zip, if◌then◌else◌, Option, Some, None, option_and_then, option_map, slice_set}
use Rattle.serde_json.specs.Data.{Data}
use Rattle.serde_json.specs.Find.{get, at, as_bool, as_str}
use Rattle.ir_core.specs.Names.{libcall_name}
use Rattle.ir_core.specs.Target.{Target}
use Rattle.ir_core.specs.declared.reloc.LibCall.{LibCall}
use Rattle.ir_core.specs.declared.reloc.LibCall.TheVariants.{Probestack, CeilF32, CeilF64, FloorF32, FloorF64, TruncF32, TruncF64, NearestF32, NearestF64, FmaF32, FmaF64, Memcpy, Memset, Memmove, Memcmp, ElfTlsGetAddr, ElfTlsGetOffset, X86Pshufb}
use Rattle.ir_core.specs.declared.target.Architecture.{Architecture}
use Rattle.ir_core.specs.declared.target.Architecture.TheVariants.{X86_32, X86_64, Arm, Aarch64, Riscv64, S390x}
use Rattle.ir_core.specs.declared.target.BinaryFormat.{BinaryFormat}
use Rattle.ir_core.specs.declared.target.BinaryFormat.TheVariants as formats
use Rattle.ir_core.specs.declared.target.System.{System}
use Rattle.ir_core.specs.declared.target.System.TheVariants as systems
use Rattle.ir_core.specs.declared.target.Environment.{Environment}
use Rattle.ir_core.specs.declared.target.Environment.TheVariants as environments
use Rattle.ir_core.specs.declared.target.Version.{Version}
use Rattle.ir_core.specs.declared.target.Triple.{Triple}
use Rattle.cranelift_module.specs.LibraryNames.{library_place, usual_texts}
use Rattle.cranelift_module.specs.Words.{with_word}
use Rattle.objtool_run.specs.ValueForm.{list_at}
use Rattle.json_form.specs.Form.{◌>>=◌, each_of, or_else, unless_null, text_at, number_in, with_keys, ended_before}

-- -- words

abbrev pub architecture_word : Architecture → List ℕ
architecture_word X86_32 = codes "x86_32"
architecture_word X86_64 = codes "x86_64"
architecture_word Arm = codes "arm"
architecture_word Aarch64 = codes "aarch64"
architecture_word Riscv64 = codes "riscv64"
architecture_word S390x = codes "s390x"

abbrev pub format_word : BinaryFormat → List ℕ
format_word formats.Elf = codes "elf"
format_word formats.Coff = codes "coff"
format_word formats.Macho = codes "macho"
format_word formats.Wasm = codes "wasm"
format_word formats.Unknown = codes "unknown"

abbrev pub system_word : System → List ℕ
system_word systems.Unknown = codes "unknown"
system_word systems.Linux = codes "linux"
system_word systems.Darwin = codes "darwin"
system_word systems.MacOSX = codes "macosx"
system_word systems.IOS = codes "ios"
system_word systems.TvOS = codes "tvos"
system_word systems.VisionOS = codes "visionos"
system_word systems.WatchOS = codes "watchos"
system_word systems.XROS = codes "xros"

abbrev pub environment_word : Environment → List ℕ
environment_word environments.Unknown = codes "unknown"
environment_word environments.Macabi = codes "macabi"
environment_word environments.Sim = codes "sim"

-- the processor, the format, the system and the environment that a word stands for
abbrev pub architecture_named : List ℕ → Option Architecture
architecture_named = with_word architecture_word (X86_32 ∷ X86_64 ∷ Arm ∷ Aarch64 ∷ Riscv64 ∷ S390x ∷ [])

abbrev pub format_named : List ℕ → Option BinaryFormat
format_named = with_word format_word (formats.Elf ∷ formats.Coff ∷ formats.Macho ∷ formats.Wasm ∷ formats.Unknown ∷ [])

abbrev pub system_named : List ℕ → Option System
system_named =
    with_word system_word
    (systems.Unknown ∷ systems.Linux ∷ systems.Darwin ∷ systems.MacOSX ∷ systems.IOS ∷ systems.TvOS ∷ systems.VisionOS ∷ systems.WatchOS ∷ systems.XROS ∷ [])

abbrev pub environment_named : List ℕ → Option Environment
environment_named = with_word environment_word (environments.Unknown ∷ environments.Macabi ∷ environments.Sim ∷ [])

-- -- the triple

abbrev pub architecture_at : Data → Option Architecture
architecture_at d = text_at (codes "arch") d >>= λ text. architecture_named text

abbrev pub format_at : Data → Option BinaryFormat
format_at d = text_at (codes "format") d >>= λ text. format_named text

-- the system, unknown where none is named
abbrev pub system_at : Data → Option System
system_at d = or_else (λ v. as_str v >>= λ text. system_named text) systems.Unknown (get (codes "system") d)

-- the environment, unknown where none is named
abbrev pub environment_at : Data → Option Environment
environment_at d = or_else (λ v. as_str v >>= λ text. environment_named text) environments.Unknown (get (codes "environment") d)

-- the number at a place, below a limit
abbrev pub below_in : ℕ → ℕ → Data → Option ℕ
below_in limit place d = number_in place d >>= λ n. if nat_lt n limit then Some n else None

-- a version: three numbers, of 16, 8 and 8 bits
unfoldable pub version_of : Data → Option Version
version_of d = ended_before 3 d do
  major ← below_in (2 ^ 16) 0 d
  minor ← below_in (2 ^ 8) 1 d
  patch ← below_in (2 ^ 8) 2 d
  Some (record { major = major; minor = minor; patch = patch })

-- the version of the system, where there is one
abbrev pub version_at : Data → Option (Option Version)
version_at d = or_else (λ v. version_of v >>= λ version. Some (Some version)) None (get (codes "version") d)

unfoldable pub triple_of : Data → Option Triple
triple_of d = do
  architecture ← architecture_at d
  binary_format ← format_at d
  system ← system_at d
  version ← version_at d
  environment ← environment_at d
  Some (record { architecture = architecture; binary_format = binary_format; system = system; version = version; environment = environment })

-- -- the target

-- the text at a place of a list
abbrev pub text_in : ℕ → Data → Option (List ℕ)
text_in place d = option_and_then as_str (at place d)

-- the truth value at a place of a list, or none where null stands there
abbrev pub mark_in : ℕ → Data → Option (Option Bool)
mark_in place d = at place d >>= λ value. unless_null as_bool value

-- a flag: a text with a truth value, or with null where it has none
unfoldable pub flag_of : Data → Option (List ℕ × Option Bool)
flag_of d = ended_before 2 d do
  name ← text_in 0 d
  mark ← mark_in 1 d
  Some (name, mark)

-- the flag that was read stands behind those of the target
abbrev pub IsFlagged : Target → Target → Option (List ℕ × Option Bool) → Type 0
IsFlagged old new None = ⊥
IsFlagged old new (Some flag) = new ≡ record old { flags = old.flags ++ flag ∷ [] }

-- the flags in their order, none where there is no such key
abbrev pub flags_at : Data → Option (List (List ℕ × Option Bool))
flags_at d = list_at (codes "flags") d >>= λ ds. each_of flag_of ds

-- what a part is made for
unfoldable pub part_target : Data → Option Target
part_target d = do
  triple ← triple_of d
  flags ← flags_at d
  Some (record { triple = triple; flags = flags })

-- -- calls into the runtime

-- all calls, in the order of their texts
abbrev pub libcalls : List LibCall
libcalls =
    Probestack ∷ CeilF32 ∷ CeilF64 ∷ FloorF32 ∷ FloorF64 ∷ TruncF32 ∷ TruncF64 ∷ NearestF32 ∷ NearestF64 ∷ FmaF32 ∷ FmaF64 ∷ Memcpy ∷ Memset ∷ Memmove ∷ Memcmp
    ∷ ElfTlsGetAddr ∷ ElfTlsGetOffset ∷ X86Pshufb ∷ []

-- the call that a name stands for
abbrev pub libcall_named : List ℕ → Option LibCall
libcall_named = with_word libcall_name libcalls

-- what is read for each of a list, where each gives something
unfoldable pub all_of : {A B : Type 0} → (A → Option B) → List A → Option (List B)
all_of read [] = Some []
all_of read (x ∷ xs) = read x >>= λ b. all_of read xs >>= λ rest. Some (b ∷ rest)

-- the text of a call: that under its name, or else the usual one
abbrev pub libcall_text : Data → LibCall → List ℕ → Option (List ℕ)
libcall_text d call usual = or_else as_str usual (get (libcall_name call) d)

-- an object of texts under names of calls gives the texts of all calls
unfoldable pub libcalls_of : Data → Option (List (List ℕ))
libcalls_of d = with_keys (map libcall_name libcalls) d (all_of (λ row. libcall_text d row.0 row.1) (zip libcalls usual_texts))

-- the texts of all calls, the usual ones where there is no such object
abbrev pub libcalls_at : Data → Option (List (List ℕ))
libcalls_at d = or_else libcalls_of usual_texts (get (codes "libcalls") d)

-- these texts, but of a call the text under its name, where there is one
abbrev pub with_text : List (List ℕ) → LibCall → Data → Option (List (List ℕ))
with_text texts call d = or_else (λ value. option_map (λ text. slice_set texts (library_place call) text) (as_str value)) texts (get (libcall_name call) d)
