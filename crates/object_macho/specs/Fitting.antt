-- Which link tables a Mach-O file can hold.
use Rattle.std.specs.Prelude.{◌≡◌, ◌≢◌, ℕ, ◌%◌, ◌^◌, ◌<◌, ◌≤◌, Bool, false, not, IsTrue, List, ◌++◌, length, filter, take, slice_get, Some, if◌then◌else◌}
use Rattle.std.specs.List.{All}
use Rattle.std.specs.Int.{next_multiple_of}
use Rattle.object_core.specs.declared.kinds.MachOBuildVersion.{MachOBuildVersion}
use Rattle.object_core.specs.WellFormed.{has_zero_byte}
use Rattle.object_core.specs.LinkTable.{MachTable, MachTableSection, MachTableSymbol, MachRelocation}
use Rattle.image_read.specs.MachFile.{lies_in_section}
use Rattle.object_macho.specs.Layout.{is_stored, end_of_sections, mach_length}

pub record FitsMachRelocation (t : MachTable) (r : MachRelocation) : Type 0 where
  pub offset : r.offset < 2 ^ 31
  pub symbol : r.symbol < length t.symbols
  pub length : r.length < 4
  pub r_type : r.r_type < 16

-- no byte of a name is zero, and it has room in a section's header
pub record IsMachName (name : List ℕ) : Type 0 where
  pub text : has_zero_byte name ≡ false
  pub room : length name ≤ 16

pub record FitsMachSection (t : MachTable) (s : MachTableSection) : Type 0 where
  pub segment : IsMachName s.segment
  pub name : IsMachName s.name
  pub some : 0 < s.align
  pub align : s.align < 2 ^ 64
  pub flags : s.flags < 2 ^ 32
  pub kind : s.flags % 256 ≢ 0xc
  pub contents : length s.contents ≡ (if is_stored s then s.size else 0)
  pub relocations : (m : ℕ) (r : MachRelocation) → slice_get s.relocations m ≡ Some r → FitsMachRelocation t r

pub record FitsMachSymbol (t : MachTable) (s : MachTableSymbol) : Type 0 where
  pub name : has_zero_byte s.name ≡ false
  pub n_type : s.n_type < 2 ^ 8
  pub desc : s.desc < 2 ^ 16
  pub value : s.value < 2 ^ 64
  pub sect : s.sect ≤ length t.sections
  pub lies : IsTrue (lies_in_section s.n_type) → 1 ≤ s.sect

-- each version fits its field
pub record FitsVersion (v : MachOBuildVersion) : Type 0 where
  pub platform : v.platform < 2 ^ 32
  pub minos : v.minos < 2 ^ 32
  pub sdk : v.sdk < 2 ^ 32

-- each section stands at the least multiple of its alignment not below the end of the one before
abbrev pub StandBehind : List MachTableSection → Type 0
StandBehind sections = (k : ℕ) (s : MachTableSection) → slice_get sections k ≡ Some s → s.address ≡ next_multiple_of (end_of_sections (take k sections)) s.align

abbrev pub is_unstored : MachTableSection → Bool
is_unstored s = not (is_stored s)

-- each number has room in its field, each place is one of the file, and no limit is reached
pub record FitsMach (t : MachTable) : Type 0 where
  pub cputype : t.cputype < 2 ^ 32
  pub cpusubtype : t.cpusubtype < 2 ^ 32
  pub version : (v : MachOBuildVersion) → t.build_version ≡ Some v → FitsVersion v
  pub sections : (k : ℕ) (s : MachTableSection) → slice_get t.sections k ≡ Some s → FitsMachSection t s
  pub symbols : (k : ℕ) (s : MachTableSymbol) → slice_get t.symbols k ≡ Some s → FitsMachSymbol t s
  pub order : t.sections ≡ filter is_stored t.sections ++ filter is_unstored t.sections
  pub places : StandBehind t.sections
  pub memory : end_of_sections t.sections < 2 ^ 64
  pub section_count : length t.sections < 256
  pub symbol_count : length t.symbols < 2 ^ 24
  pub file : mach_length t < 2 ^ 32

-- the contents and the names of a table are bytes
pub record IsOfBytes (t : MachTable) : Type 0 where
  pub contents : All (λ (s : MachTableSection). All (λ x. x < 256) s.contents) t.sections
  pub segments : All (λ (s : MachTableSection). All (λ x. x < 256) s.segment) t.sections
  pub section_names : All (λ (s : MachTableSection). All (λ x. x < 256) s.name) t.sections
  pub symbol_names : All (λ (s : MachTableSymbol). All (λ x. x < 256) s.name) t.symbols
