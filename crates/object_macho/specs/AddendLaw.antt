-- That the addends of a table are read back from its file.
use Rattle.std.specs.Prelude.{◌≡◌, ◌≢◌, ℕ, ◌+◌, ◌-◌, ◌<◌, ◌≤◌, ◌⊎◌, true, List, length, flat_map, take, slice_get, Some}
use Rattle.std.specs.List.{All}
use Rattle.ir_core.specs.MachO.{has_room}
use Rattle.object_core.specs.LinkTable.{MachRelocation, MachTableSection, MachTable}
use Rattle.image_read.specs.MachImage.{MachSectionData, MachImageData, MachReads}
use Rattle.object_macho.specs.Layout.{field_width, record_for, records_for}
use Rattle.object_macho.specs.Fitting.{FitsMach}
use Rattle.object_macho.specs.MachHolds.{MachHolds}
use Rattle.object_macho.specs.Addends.{addend_read}

-- the number of the record of relocation m among those of its section: the last of what is written up to it
abbrev pub record_number : ℕ → List MachRelocation → ℕ → ℕ
record_number cputype relocations m = length (flat_map (records_for cputype) (take (m + 1) relocations)) - 1

-- a relocation of a kind of the processor, whose field lies in the contents, and whose addend has room: ARM64_RELOC_ADDEND 10 is no
-- kind, and no relative address is one of the type 0
pub record KeepsAddend (cputype : ℕ) (s : MachTableSection) (r : MachRelocation) : Type 0 where
  pub width : (r.length ≡ 2) ⊎ (r.length ≡ 3)
  pub kind : r.r_type ≢ 10
  pub relative : r.pcrel ≡ true → r.r_type ≢ 0
  pub field : r.offset + field_width r ≤ length s.contents
  pub room : has_room cputype r.r_type r.pcrel r.length r.addend ≡ true

-- fields that share no byte
abbrev pub FieldsShareNone : MachRelocation → MachRelocation → Type 0
FieldsShareNone r q = (r.offset + field_width r ≤ q.offset) ⊎ (q.offset + field_width q ≤ r.offset)

pub record KeepsAddends (cputype : ℕ) (s : MachTableSection) : Type 0 where
  pub each : (m : ℕ) (r : MachRelocation) → slice_get s.relocations m ≡ Some r → KeepsAddend cputype s r
  pub apart : (m n : ℕ) (r q : MachRelocation) → m < n → slice_get s.relocations m ≡ Some r → slice_get s.relocations n ≡ Some q → FieldsShareNone r q

-- a section of an image shows the relocation: its record stands at its number, and the addend that is read there is its own
pub record ShowsRelocation (cputype : ℕ) (s : MachTableSection) (shown : MachSectionData) (m : ℕ) (r : MachRelocation) : Type 0 where
  pub row : slice_get shown.relocations (record_number cputype s.relocations m) ≡ Some (record_for r)
  pub addend : addend_read cputype shown (record_number cputype s.relocations m) ≡ r.addend

-- where a section is read as it is written
abbrev pub ShowsRelocations : ℕ → MachTableSection → MachSectionData → Type 0
ShowsRelocations cputype s shown = (m : ℕ) (r : MachRelocation) → slice_get s.relocations m ≡ Some r → ShowsRelocation cputype s shown m r

-- in the image as which a file of a table is read, each section that keeps its addends shows its relocations
abbrev pub AddendsAreReadBack : Type 0
AddendsAreReadBack =
    (t : MachTable) (b : List ℕ) (image : MachImageData) → FitsMach t → All (λ x. x < 256) b → MachHolds b t → MachReads b image
    → (k : ℕ) (s : MachTableSection) (shown : MachSectionData) → slice_get t.sections k ≡ Some s → slice_get image.sections k ≡ Some shown → KeepsAddends t.cputype s → ShowsRelocations t.cputype s shown
