-- The standard sections of ELF and Mach-O. The choice of names and kinds is this project's own.
use Rattle.std.specs.Prelude.{ℕ, ◌==◌, Bool, true, false, List, [], ◌++◌, codes, Option, Some, None}
use Rattle.ir_core.specs.declared.target.BinaryFormat.{BinaryFormat}
use Rattle.ir_core.specs.declared.target.BinaryFormat.TheVariants.{Macho}
use Rattle.ir_core.specs.MachO.{is_zero_fill_type}
use Rattle.object_core.specs.declared.kinds.StandardSection.{StandardSection}
use Rattle.object_core.specs.declared.kinds.StandardSection.TheVariants.{Text, Data, ReadOnlyData, ReadOnlyDataWithRel, UninitializedData, Tls, UninitializedTls}
use Rattle.object_core.specs.declared.kinds.SectionKind.{SectionKind}
use Rattle.object_core.specs.declared.kinds.SectionKind.TheVariants as kind
use Rattle.object_core.specs.Object.{SectionData}

-- the name of a standard section in ELF
abbrev pub standard_name : StandardSection → List ℕ
standard_name Text = codes ".text"
standard_name Data = codes ".data"
standard_name ReadOnlyData = codes ".rodata"
standard_name ReadOnlyDataWithRel = codes ".data.rel.ro"
standard_name UninitializedData = codes ".bss"
standard_name Tls = codes ".tdata"
standard_name UninitializedTls = codes ".tbss"

abbrev pub standard_kind : StandardSection → SectionKind
standard_kind Text = kind.Text
standard_kind Data = kind.Data
standard_kind ReadOnlyData = kind.ReadOnlyData
standard_kind ReadOnlyDataWithRel = kind.ReadOnlyDataWithRel
standard_kind UninitializedData = kind.UninitializedData
standard_kind Tls = kind.Tls
standard_kind UninitializedTls = kind.UninitializedTls

-- the segment of a standard section in Mach-O, which has none for thread-local data
abbrev pub mach_segment : StandardSection → List ℕ
mach_segment Text = codes "__TEXT"
mach_segment Data = codes "__DATA"
mach_segment ReadOnlyData = codes "__TEXT"
mach_segment ReadOnlyDataWithRel = codes "__DATA"
mach_segment UninitializedData = codes "__DATA"
mach_segment Tls = []
mach_segment UninitializedTls = []

-- its name there
abbrev pub mach_name : StandardSection → List ℕ
mach_name Text = codes "__text"
mach_name Data = codes "__data"
mach_name ReadOnlyData = codes "__const"
mach_name ReadOnlyDataWithRel = codes "__const"
mach_name UninitializedData = codes "__bss"
mach_name Tls = []
mach_name UninitializedTls = []

-- its flags there: S_REGULAR 0, S_ZEROFILL 1; code has S_ATTR_PURE_INSTRUCTIONS 0x80000000 and S_ATTR_SOME_INSTRUCTIONS 0x400
abbrev pub mach_flags : StandardSection → ℕ
mach_flags Text = 0x80000400
mach_flags UninitializedData = 1
mach_flags _ = 0

-- the format has this standard section
abbrev pub is_standard_in : BinaryFormat → StandardSection → Bool
is_standard_in Macho Tls = false
is_standard_in Macho UninitializedTls = false
is_standard_in _ standard = true

-- the place of a standard section in their order
abbrev pub standard_place : StandardSection → ℕ
standard_place Text = 0
standard_place Data = 1
standard_place ReadOnlyData = 2
standard_place ReadOnlyDataWithRel = 3
standard_place UninitializedData = 4
standard_place Tls = 5
standard_place UninitializedTls = 6

-- both are the same shared section
abbrev pub is_same_shared : Option StandardSection → Option StandardSection → Bool
is_same_shared (Some a) (Some b) = standard_place a == standard_place b
is_same_shared _ _ = false

-- a section of zero-fill kind takes no bytes of a file
abbrev pub is_zero_fill : SectionKind → Bool
is_zero_fill kind.UninitializedData = true
is_zero_fill kind.UninitializedTls = true
is_zero_fill _ = false

-- a section of this kind and these flags takes no bytes of a file: by its kind, but in Mach-O by the type in its flags
abbrev pub takes_no_bytes : BinaryFormat → SectionKind → ℕ → Bool
takes_no_bytes Macho kind flags = is_zero_fill_type flags
takes_no_bytes _ kind flags = is_zero_fill kind

-- a section in which nothing is yet
abbrev pub empty_section : List ℕ → List ℕ → SectionKind → ℕ → Option StandardSection → SectionData
empty_section segment name kind macho_flags shared = record { segment = segment; name = name; kind = kind; macho_flags = macho_flags; retain = false; align = 1; size = 0; contents = []; relocations = []; shared = shared }

-- a standard section of ELF in which nothing is yet
abbrev pub empty_standard : StandardSection → SectionData
empty_standard standard = empty_section [] (standard_name standard) (standard_kind standard) 0 (Some standard)

-- a section of ELF beside a standard one, in which nothing is yet
abbrev pub empty_subsection : StandardSection → SectionData
empty_subsection standard = empty_section [] (standard_name standard ++ codes ".subsection") (standard_kind standard) 0 None

-- a standard section of Mach-O in which nothing is yet
abbrev pub empty_mach_standard : StandardSection → SectionData
empty_mach_standard standard = empty_section (mach_segment standard) (mach_name standard) (standard_kind standard) (mach_flags standard) (Some standard)

-- a standard section of a format in which nothing is yet
abbrev pub empty_standard_in : BinaryFormat → StandardSection → SectionData
empty_standard_in Macho standard = empty_mach_standard standard
empty_standard_in _ standard = empty_standard standard
