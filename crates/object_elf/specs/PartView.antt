-- What a contract sees of the parts of an object's file, one after the other.
use Rattle.std.specs.Prelude.{◌≡◌, ℕ, ◌+◌, ◌*◌, ◌<◌, ◌≤◌, ◌^◌, Bool, List, [], ◌∷◌, ◌++◌, length, take, map, filter, flat_map, fold, sum_by, slice_get, slice_index, Some, Option, MatchOption}
use Rattle.std.specs.List.{enumerate_from}
use Rattle.object_core.specs.Object.{SectionData}
use Rattle.image_read.specs.ElfFile.{ElfSectionRow}
use Rattle.object_elf.specs.declared.layout.PartHeader.{PartHeader}
use Rattle.object_elf.specs.declared.next_row.NextRow.{NextRow}
use Rattle.object_elf.specs.Layout.{Part, content_part, relocation_part_with, start_after, end_after}
use Rattle.object_elf.specs.File.{section_row_bytes, section_row_with}
use Rattle.object_elf.specs.Writing.{plain_section, has_relocations}

abbrev pub part_view : PartHeader → Part
part_view p = record { name = p.prefix.now ++ p.name.now; sh_type = p.sh_type; flags = p.flags; size = p.size; link = p.link; info = p.info; align = p.align; entsize = p.entsize }

-- the part of a section
abbrev pub content_part_of : SectionData → Part
content_part_of s = content_part (plain_section s)

-- the part of the relocations of a section with this header row, over the symbol table in this row
abbrev pub relocation_part_of : ℕ → ℕ × SectionData → Part
relocation_part_of link s = relocation_part_with link s.0 s.1.name (length s.1.relocations)

abbrev pub has_records : ℕ × SectionData → Bool
has_records s = has_relocations s.1

-- the parts of the relocations of sections whose header rows begin here
abbrev pub relocation_parts_from : ℕ → ℕ → List SectionData → List Part
relocation_parts_from link row sections = map (relocation_part_of link) (filter has_records (enumerate_from row sections))

-- how many bytes a part's name takes, with its zero byte
abbrev pub part_name_size : Part → ℕ
part_name_size p = length p.name + 1

abbrev pub part_name : Part → List ℕ
part_name p = p.name

-- -- places of parts one after the other

-- where parts start behind a part that ends here
unfoldable pub starts_from : ℕ → List Part → List ℕ
starts_from end [] = []
starts_from end (p ∷ ps) = start_after end p ∷ starts_from (end_after end p) ps

-- these parts' places were appended, from one end to another
pub record PushesPlaces (old new : List ℕ) (from to : ℕ) (parts : List Part) : Type 0 where
  pub places : new ≡ old ++ starts_from from parts
  pub end : to ≡ fold end_after from parts

-- parts behind a part that ends here start at the places from this number on
unfoldable pub HasStarts : List ℕ → ℕ → ℕ → List Part → Type 0
HasStarts places number end [] = Unit {0}
HasStarts places number end (p ∷ ps) = (slice_get places number ≡ Some (start_after end p)) × HasStarts places (number + 1) (end_after end p) ps

-- they do, and they end here
pub record StandBehind (places : List ℕ) (number from to : ℕ) (parts : List Part) : Type 0 where
  pub starts : HasStarts places number from parts
  pub end : to ≡ fold end_after from parts

-- the part starts at the place of this number, behind one that ends here
abbrev pub StartsAt : List ℕ → ℕ → ℕ → Part → Type 0
StartsAt places number end p = slice_get places number ≡ Some (start_after end p)

-- an answer that tells where one part ends; none where it doesn't start there, or ends past the numbers of 64 bits
abbrev pub PartEndsAt : Option ℕ → List ℕ → ℕ → ℕ → Part → Type 0
PartEndsAt answer places number end p = MatchOption answer (StartsAt places number end p → 2 ^ 64 ≤ end_after end p) (λ next. StartsAt places number end p × (next ≡ end_after end p))

-- an answer that tells where they end; none where they don't start there, or end past the numbers of 64 bits
abbrev pub EndsAt : Option ℕ → List ℕ → ℕ → ℕ → List Part → Type 0
EndsAt answer places number end parts = MatchOption answer (HasStarts places number end parts → 2 ^ 64 ≤ fold end_after end parts) (λ to. StandBehind places number end to parts)

-- -- headers of parts one after the other

-- the headers of parts from this number on, by the places of all parts; their names stand one after the other from a place on
unfoldable pub rows_at : List ℕ → ℕ → ℕ → List Part → List ElfSectionRow
rows_at places number name [] = []
rows_at places number name (p ∷ ps) = section_row_with name (slice_index places number) p ∷ rows_at places (number + 1) (name + (length p.name + 1)) ps

-- the headers of these parts were written
pub record PlacesRows (places : List ℕ) (number : ℕ) (old new : List ℕ) (from to : NextRow) (parts : List Part) : Type 0 where
  pub rows : take to.at new ≡ take from.at old ++ flat_map section_row_bytes (rows_at places number from.name parts)
  pub at : to.at ≡ from.at + 64 * length parts
  pub name : to.name ≡ from.name + sum_by part_name_size parts
  pub len : length new ≡ length old

-- they have room, and each has a place
pub record HasRoom (places : List ℕ) (number : ℕ) (out : List ℕ) (from : NextRow) (parts : List Part) : Type 0 where
  pub at : from.at + 64 * length parts ≤ length out
  pub name : from.name + sum_by part_name_size parts < 2 ^ 32
  pub each : number + length parts ≤ length places
