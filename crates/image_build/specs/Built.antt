-- What a build gives for a list of parts, and what refuses it.
use Rattle.std.specs.Prelude.{◌≡◌, ℕ, Bool, true, false, List, [], ◌∷◌, length, map, take, flat_map, slice_get, Option, Some, None, option_map, option_and_then, IsSome, IsSomeAnd}
use Rattle.std.specs.Option.{option_or}
use Rattle.std.specs.List.{AllZip, filter_map, position_from, range_with_len}
use Rattle.ir_core.specs.declared.target.BinaryFormat.{BinaryFormat}
use Rattle.ir_core.specs.declared.target.BinaryFormat.TheVariants.{Elf}
use Rattle.object_core.specs.declared.error.EmitError.{EmitError}
use Rattle.object_core.specs.declared.error.EmitError.TheVariants as limits
use Rattle.object_core.specs.LinkTable.{LinkTable, elf, mach}
use Rattle.object_macho.specs.Layout.{mach_length}
use Rattle.cranelift_module.specs.declared.error.ModuleError.{ModuleError}
use Rattle.cranelift_module.specs.Refusal.{refusal_told}
use Rattle.cranelift_object.specs.Linked.{link_table}
pub use Rattle.cranelift_object.specs.Emitted.{FileHolds}
use Rattle.cranelift_object.specs.Part.{PartData, PartRefusal, at_start, at_call, at_end, over, part_state, part_cause}
use Rattle.fat_macho.specs.declared.error.Error.{Error as FatError}
use Rattle.fat_macho.specs.FatHolds.{FatHolds}
use Rattle.fat_macho.specs.Input.{FatRefusal, input_slices, joining_cause, add_cause}
use Rattle.fat_macho.specs.Input as fat
use Rattle.fat_macho.specs.Slices.{Shape, Slice, shape_of}
use Rattle.image_build.specs.declared.error.BuildError.{BuildError}
use Rattle.image_build.specs.declared.error.BuildCause.{BuildCause}
use Rattle.image_build.specs.declared.error.BuildCause.TheVariants.{Module, Fat, TooMany, TooLarge, Mixed, OutOfMemory}
use Rattle.image_build.specs.declared.error.Place.{Place}
use Rattle.image_build.specs.declared.error.Place.TheVariants.{Start, Command, End}

-- a part of a build, without where its texts and bytes lie
pub data BuildPart : Type 0 where
  commands : PartData → BuildPart
  image : List ℕ → BuildPart

-- the link table that a part's commands leave
abbrev pub table_of_part : PartData → LinkTable
table_of_part part = link_table part.settings (part_state part)

-- the bytes are the file of a part: they hold its link table
abbrev pub IsFileOf : PartData → List ℕ → Type 0
IsFileOf part b = FileHolds b (table_of_part part)

-- a Mach-O file is a slice, under the numbers of its table; a fat file holds no other
abbrev pub slices_of_file : LinkTable → List ℕ → List Slice
slices_of_file (mach t) b = record { cputype = t.cputype; cpusubtype = t.cpusubtype; bytes = b } ∷ []
slices_of_file (elf t) b = []

-- the slices of a part: a command part gives its file, an image part gives itself, or the slices of a fat file in order
abbrev pub IsSlicesOf : BuildPart → List Slice → Type 0
IsSlicesOf (commands part) slices = (b : List ℕ) × IsFileOf part b × (slices ≡ slices_of_file (table_of_part part) b)
IsSlicesOf (image b) slices = slices ≡ input_slices b

-- the bytes are the fat file of the slices of the parts
pub record BuiltFat (parts : List BuildPart) (b : List ℕ) : Type 0 where
  pub slices : List (List Slice)
  pub each : AllZip IsSlicesOf parts slices
  pub file : FatHolds b (flat_map (λ here. here) slices)

-- the bytes are what the parts build: nothing for no part, the file of one command part, else a fat file
abbrev pub Built : List BuildPart → List ℕ → Type 0
Built [] b = b ≡ []
Built (commands part ∷ []) b = IsFileOf part b
Built (image bytes ∷ []) b = BuiltFat (image bytes ∷ []) b
Built (p ∷ q ∷ parts) b = BuiltFat (p ∷ q ∷ parts) b

-- what refuses a part: what refuses its commands; the writer of fat files, at an image or at the file of a command part; its
-- format, of an ELF part beside others
pub data Refused : Type 0 where
  by_module : PartRefusal → Refused
  of_image : FatRefusal → Refused
  of_file : FatRefusal → Refused
  mixed : Refused

-- what refuses a build: a part by its number, from 0, and its first cause
pub record BuildRefusal : Type 0 where
  pub part : ℕ
  pub refusal : Refused

-- the architecture and the length of a Mach-O file
abbrev pub shapes_of_file : LinkTable → List Shape
shapes_of_file (mach t) = record { cputype = t.cputype; cpusubtype = t.cpusubtype; size = mach_length t } ∷ []
shapes_of_file (elf t) = []

-- those of the slices of a part that isn't refused
abbrev pub shapes_of_part : BuildPart → List Shape
shapes_of_part (commands part) = shapes_of_file (table_of_part part)
shapes_of_part (image b) = map shape_of (input_slices b)

-- those of the slices of some parts
abbrev pub shapes_of_parts : List BuildPart → List Shape
shapes_of_parts parts = flat_map shapes_of_part parts

-- why a part is refused behind slices of these architectures and sizes, where a fat file is built
abbrev pub refused_behind : List Shape → BuildPart → Option Refused
refused_behind held (commands part) = option_or (option_map (λ r. by_module r) (part_cause part)) (option_map (λ r. of_file r) (joining_cause held (shapes_of_file (table_of_part part))))
refused_behind held (image b) = option_map (λ r. of_image r) (add_cause held b)

abbrev pub refusal_at : ℕ → Option Refused → Option BuildRefusal
refusal_at k refused = option_map (λ r. record { part = k; refusal = r }) refused

-- why part k is refused behind the parts before it
abbrev pub refused_at : List BuildPart → ℕ → Option BuildRefusal
refused_at parts k = option_and_then (λ part. refusal_at k (refused_behind (shapes_of_parts (take k parts)) part)) (slice_get parts k)

-- the first part that is refused
abbrev pub first_refused_part : List BuildPart → Option BuildRefusal
first_refused_part parts = slice_get (filter_map (refused_at parts) (range_with_len 0 (length parts))) 0

abbrev pub is_elf : BinaryFormat → Bool
is_elf Elf = true
is_elf _ = false

abbrev pub is_elf_part : BuildPart → Bool
is_elf_part (commands part) = is_elf part.target.triple.binary_format
is_elf_part (image b) = false

-- the first ELF part
abbrev pub mixed_cause : List BuildPart → Option BuildRefusal
mixed_cause parts = option_map (λ k. record { part = k; refusal = mixed }) (position_from is_elf_part 0 parts)

-- the first cause that refuses a build: of several parts none is of ELF
abbrev pub build_cause : List BuildPart → Option BuildRefusal
build_cause [] = None
build_cause (commands part ∷ []) = refusal_at 0 (option_map (λ r. by_module r) (part_cause part))
build_cause (image b ∷ []) = first_refused_part (image b ∷ [])
build_cause (p ∷ q ∷ parts) = option_or (mixed_cause (p ∷ q ∷ parts)) (first_refused_part (p ∷ q ∷ parts))

-- an error's place and cause tell a refusal of a part; want of memory tells nothing
abbrev pub TellsPlace : Place → BuildCause → (Refused → Type 0) → Type 0
TellsPlace place OutOfMemory is = Unit {0}
TellsPlace Start (Module e) is = IsSomeAnd (refusal_told e) (λ r. is (by_module (at_start r)))
TellsPlace (Command j) (Module e) is = IsSomeAnd (refusal_told e) (λ r. is (by_module (at_call j r)))
TellsPlace End (Module e) is = IsSomeAnd (refusal_told e) (λ r. is (by_module (at_end r)))
TellsPlace End (TooMany what count) is = is (by_module (over (limits.TooMany what count)))
TellsPlace End (TooLarge what amount) is = is (by_module (over (limits.TooLarge what amount)))
TellsPlace Start (Fat e) is = IsSomeAnd (fat.refusal_told e) (λ r. is (of_image r))
TellsPlace End (Fat e) is = IsSomeAnd (fat.refusal_told e) (λ r. is (of_file r))
TellsPlace Start Mixed is = is mixed
TellsPlace _ _ is = ⊥

-- the error tells this refusal, or memory ran out
abbrev pub TellsBuild : BuildError → Option BuildRefusal → Type 0
TellsBuild e cause = TellsPlace e.place e.cause (λ r. cause ≡ Some (record { part = e.part; refusal = r }))

-- the error tells what refuses the commands of its part, or memory ran out
abbrev pub TellsPart : BuildError → PartData → Type 0
TellsPart e part = TellsPlace e.place e.cause (λ r. option_map (λ c. by_module c) (part_cause part) ≡ Some r)

-- the cause of a build that a module refused with this error: want of memory has a cause of its own
abbrev pub TellsCause : ModuleError → BuildCause → Type 0
TellsCause e OutOfMemory = refusal_told e ≡ None
TellsCause e (Module f) = (f ≡ e) × IsSome (refusal_told e)
TellsCause e (Fat f) = ⊥
TellsCause e (TooMany what count) = ⊥
TellsCause e (TooLarge what amount) = ⊥
TellsCause e Mixed = ⊥

-- the cause of a build whose file was refused with this error
abbrev pub TellsOver : EmitError → BuildCause → Type 0
TellsOver e OutOfMemory = e ≡ limits.OutOfMemory
TellsOver e (TooMany what count) = e ≡ limits.TooMany what count
TellsOver e (TooLarge what amount) = e ≡ limits.TooLarge what amount
TellsOver e (Module f) = ⊥
TellsOver e (Fat f) = ⊥
TellsOver e Mixed = ⊥

-- the cause of a build that the writer of fat files refused with this error: want of memory, also of the room for the file,
-- has a cause of its own
abbrev pub TellsFat : FatError → BuildCause → Type 0
TellsFat e OutOfMemory = fat.refusal_told e ≡ None
TellsFat e (Fat f) = (f ≡ e) × IsSome (fat.refusal_told e)
TellsFat e (Module f) = ⊥
TellsFat e (TooMany what count) = ⊥
TellsFat e (TooLarge what amount) = ⊥
TellsFat e Mixed = ⊥
