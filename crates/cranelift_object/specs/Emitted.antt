-- What an emitted file holds, and how an emitter's answer is judged, for each format.
use Rattle.std.specs.Prelude.{ℕ, List, Result}
use Rattle.ir_core.specs.declared.target.BinaryFormat.{BinaryFormat}
use Rattle.ir_core.specs.declared.target.BinaryFormat.TheVariants.{Macho}
use Rattle.object_core.specs.declared.error.EmitError.{EmitError}
use Rattle.object_core.specs.Object.{ObjectData}
use Rattle.object_core.specs.LinkTable.{LinkTable, elf, mach}
use Rattle.object_core.specs.Tables.{table_of}
use Rattle.object_core.specs.Limits.{IsJudgedBy}
use Rattle.object_elf.specs.ElfHolds.{ElfHolds}
use Rattle.object_elf.specs.Limits.{IsJudged}
use Rattle.object_macho.specs.MachHolds.{MachHolds}
use Rattle.object_macho.specs.Limits.{mach_limit_cause}
use Rattle.cranelift_object.specs.Part.{counts_of, mach_counts_of}

-- the bytes are a file that holds the link table, by the layout of its format
abbrev pub FileHolds : List ℕ → LinkTable → Type 0
FileHolds b (elf t) = ElfHolds b t
FileHolds b (mach t) = MachHolds b t

-- the bytes are the file of an object
abbrev pub IsObjectFile : ObjectData → List ℕ → Type 0
IsObjectFile o b = FileHolds b (table_of o)

-- an answer is judged by the limits of the format
abbrev pub IsJudgedIn : {A : Type 0} → BinaryFormat → Result A EmitError → ObjectData → Type 0
IsJudgedIn Macho result o = IsJudgedBy result (mach_limit_cause (mach_counts_of o))
IsJudgedIn _ result o = IsJudged result (counts_of o)
