-- What a writer knows of an object besides that it is formed: the ranges of its numbers.
use Rattle.std.specs.Prelude.{◌≡◌, ℕ, ◌^◌, ◌<◌, slice_get, Some}
use Rattle.ir_core.specs.declared.target.BinaryFormat.TheVariants.{Macho}
use Rattle.object_core.specs.declared.kinds.MachOBuildVersion.{MachOBuildVersion}
use Rattle.object_core.specs.Object.{SectionData, ObjectData}
use Rattle.object_core.specs.Appending.{AreSections}
use Rattle.object_core.specs.WellFormed.{IsFormedMacho}
use Rattle.object_core.specs.MachRows.{macho_table_of}
use Rattle.object_macho.specs.Counts.{mach_counts}
use Rattle.object_macho.specs.Plan.{IsWithinLimits}
use Rattle.object_macho.specs.Fitting.{FitsVersion}

-- a formed Mach-O object that reaches no limit
pub record IsWritable (o : ObjectData) : Type 0 where
  pub formed : IsFormedMacho o
  pub sound : AreSections Macho o.sections o.content_sum
  pub limits : IsWithinLimits (mach_counts (macho_table_of o) o.content_sum)
  pub flags : (k : ℕ) (s : SectionData) → slice_get o.sections k ≡ Some s → s.macho_flags < 2 ^ 32
  pub version : (v : MachOBuildVersion) → o.build_version ≡ Some v → FitsVersion v
