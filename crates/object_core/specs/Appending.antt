-- What each call of an object appends.
use Rattle.std.specs.Prelude.{◌≡◌, ℕ, ◌+◌, ◌-◌, ◌<◌, ◌≤◌, max, Bool, true, false, List, [], ◌∷◌, ◌++◌, length, replicate, slice_get, slice_set, Option, Some, None, option_map, unwrap_or, sum_by, if◌then◌else◌}
use Rattle.std.specs.List.{position_from, All}
use Rattle.std.specs.Int.{next_multiple_of, is_power_of_two}
use Rattle.ir_core.specs.declared.target.Architecture.{Architecture}
use Rattle.ir_core.specs.declared.target.BinaryFormat.{BinaryFormat}
use Rattle.ir_core.specs.declared.target.BinaryFormat.TheVariants.{Macho}
use Rattle.object_core.specs.declared.kinds.StandardSection.{StandardSection}
use Rattle.object_core.specs.declared.kinds.SectionKind.{SectionKind}
use Rattle.object_core.specs.declared.kinds.MachOBuildVersion.{MachOBuildVersion}
use Rattle.object_core.specs.declared.kinds.SymbolKind.TheVariants as kind
use Rattle.object_core.specs.declared.kinds.SymbolScope.TheVariants as scope
use Rattle.object_core.specs.declared.kinds.SymbolSection.TheVariants.{Undefined, Absolute, Section}
use Rattle.object_core.specs.declared.relocation.Relocation.{Relocation}
use Rattle.object_core.specs.declared.symbol.Symbol.{Symbol}
use Rattle.object_core.specs.Object.{SymbolData, SectionData, ObjectData, named}
use Rattle.object_core.specs.Standard.{standard_place, is_same_shared, takes_no_bytes, empty_section, empty_standard_in, empty_subsection}
pub use Rattle.ir_core.specs.Changes.{changed_at}

-- an object without sections and symbols
abbrev pub empty_object : BinaryFormat → Architecture → ℕ → ObjectData
empty_object format architecture e_flags = record { format = format; architecture = architecture; e_flags = e_flags; build_version = None; sections = []; symbols = []; content_sum = 0 }

-- an object that is built for this system, from this version on
abbrev pub with_build_version : ObjectData → MachOBuildVersion → ObjectData
with_build_version o version = record o { build_version = Some version }

-- -- symbols

abbrev pub with_symbol : ObjectData → SymbolData → ObjectData
with_symbol o s = record o { symbols = o.symbols ++ s ∷ [] }

-- an object whose symbol of this number is another, under its name
abbrev pub with_symbol_at : ObjectData → ℕ → Symbol → ObjectData
with_symbol_at o k s = record o { symbols = changed_at k (λ old. named old.name s) o.symbols }

-- the symbol that names the source file
abbrev pub file_symbol : List ℕ → SymbolData
file_symbol name = record { name = name; value = 0; size = 0; kind = kind.File; scope = scope.Compilation; weak = false; section = Absolute; no_dead_strip = false }

-- -- standard sections

-- the number of the section that a standard section has, once it was used
abbrev pub standard_at : List SectionData → StandardSection → Option ℕ
standard_at sections standard = position_from (λ s. is_same_shared (Some standard) s.shared) 0 sections

-- a standard section is made at its first use
abbrev pub with_standard : ObjectData → StandardSection → Option ℕ → ObjectData
with_standard o standard None = record o { sections = o.sections ++ empty_standard_in o.format standard ∷ [] }
with_standard o standard (Some k) = o

abbrev pub with_standard_section : ObjectData → StandardSection → ObjectData
with_standard_section o standard = with_standard o standard (standard_at o.sections standard)

-- the number that a standard section has once there is one
abbrev pub standard_number : ObjectData → StandardSection → ℕ
standard_number o standard = unwrap_or (standard_at o.sections standard) (length o.sections)

-- a section beside a standard one; in Mach-O that one itself
abbrev pub with_subsection_in : BinaryFormat → ObjectData → StandardSection → ObjectData
with_subsection_in Macho o standard = with_standard_section o standard
with_subsection_in _ o standard = record o { sections = o.sections ++ empty_subsection standard ∷ [] }

abbrev pub with_subsection : ObjectData → StandardSection → ObjectData
with_subsection o standard = with_subsection_in o.format o standard

-- its number
abbrev pub subsection_number_in : BinaryFormat → ObjectData → StandardSection → ℕ
subsection_number_in Macho o standard = standard_number o standard
subsection_number_in _ o standard = length o.sections

abbrev pub subsection_number : ObjectData → StandardSection → ℕ
subsection_number o standard = subsection_number_in o.format o standard

-- -- sections of any name

-- an object with one more section, in which nothing is yet
abbrev pub with_section : ObjectData → List ℕ → List ℕ → SectionKind → ℕ → ObjectData
with_section o segment name kind macho_flags = record o { sections = o.sections ++ empty_section segment name kind macho_flags None ∷ [] }

-- -- marks and relocations

-- a section that the linker keeps
abbrev pub retained : SectionData → SectionData
retained s = record s { retain = true }

-- an object of which the linker keeps the section of this number
abbrev pub with_retain : ObjectData → ℕ → ObjectData
with_retain o section = record o { sections = changed_at section retained o.sections }

-- a section with one more relocation, behind the others
abbrev pub relocated : Relocation → SectionData → SectionData
relocated r s = record s { relocations = s.relocations ++ r ∷ [] }

-- an object with one more relocation in the section of this number
abbrev pub with_relocation : ObjectData → ℕ → Relocation → ObjectData
with_relocation o section r = record o { sections = changed_at section (relocated r) o.sections }

-- -- contents

-- where contents of this alignment stand behind those of a section
abbrev pub offset_in : ℕ → SectionData → ℕ
offset_in align s = next_multiple_of s.size align

-- how many bytes a definition takes: in Mach-O one at least
abbrev pub room_in : BinaryFormat → ℕ → ℕ
room_in Macho size = max 1 size
room_in _ size = size

-- contents as they are stored: in Mach-O one zero byte stands for none
abbrev pub stored_in : BinaryFormat → List ℕ → List ℕ
stored_in Macho [] = 0 ∷ []
stored_in _ bytes = bytes

-- a section with so many more bytes, behind a gap up to their alignment
abbrev pub with_room : ℕ → ℕ → SectionData → SectionData
with_room size align s = record s { align = max s.align align; size = offset_in align s + size }

-- a section with one more piece of contents, behind zeros up to its alignment
abbrev pub with_contents : List ℕ → ℕ → SectionData → SectionData
with_contents bytes align s = record (with_room (length bytes) align s) { contents = s.contents ++ replicate (offset_in align s - s.size) 0 ++ bytes }

-- the offset at which contents of this alignment are put into the section of this number
abbrev pub next_offset : ObjectData → ℕ → ℕ → ℕ
next_offset o section align = unwrap_or (option_map (offset_in align) (slice_get o.sections section)) 0

-- an object with these contents behind those of a section, under no symbol
abbrev pub with_section_data : ObjectData → ℕ → List ℕ → ℕ → ObjectData
with_section_data o section bytes align = record o { sections = changed_at section (with_contents (stored_in o.format bytes) align) o.sections; content_sum = o.content_sum + (room_in o.format (length bytes) + align) }

-- an object with room for so many bytes behind those of a section that takes none of its file, under no symbol
abbrev pub with_section_room : ObjectData → ℕ → ℕ → ℕ → ObjectData
with_section_room o section size align = record o { sections = changed_at section (with_room (room_in o.format size) align) o.sections; content_sum = o.content_sum + (room_in o.format size + align) }

-- a symbol that now stands at this offset of a section
abbrev pub defined_symbol : ℕ → ℕ → ℕ → SymbolData → SymbolData
defined_symbol section offset size s = record s { value = offset; size = size; section = Section section }

-- an object whose symbol of this number stands at this offset of a section
abbrev pub with_definition : ObjectData → ℕ → ℕ → ℕ → ℕ → ObjectData
with_definition o symbol section offset size = record o { symbols = changed_at symbol (defined_symbol section offset size) o.symbols }

-- an object with these contents behind those of a section, and the symbol there with their size
abbrev pub with_symbol_data : ObjectData → ℕ → ℕ → List ℕ → ℕ → ObjectData
with_symbol_data o symbol section bytes align = with_definition (with_section_data o section bytes align) symbol section (next_offset o section align) (length bytes)

-- the same with so many zeros
abbrev pub with_symbol_zeros : ObjectData → ℕ → ℕ → ℕ → ℕ → ObjectData
with_symbol_zeros o symbol section size align = with_symbol_data o symbol section (replicate size 0) align

-- an object with room for a symbol of this size in a section that takes no bytes of its file, and the symbol there
abbrev pub with_symbol_bss : ObjectData → ℕ → ℕ → ℕ → ℕ → ObjectData
with_symbol_bss o symbol section size align = with_definition (with_section_room o section size align) symbol section (next_offset o section align) size

-- the object has such a symbol, and it is not defined yet
abbrev pub IsUndefined : ObjectData → ℕ → Type 0
IsUndefined o symbol = option_map (λ (s : SymbolData). s.section) (slice_get o.symbols symbol) ≡ Some Undefined

-- a section of an object of this format takes no bytes of its file
abbrev pub is_unstored : BinaryFormat → SectionData → Bool
is_unstored format s = takes_no_bytes format s.kind s.macho_flags

-- the object has such a section, and its contents are bytes
abbrev pub HasBytes : ObjectData → ℕ → Type 0
HasBytes o section = option_map (is_unstored o.format) (slice_get o.sections section) ≡ Some false

-- the object has such a section, and it takes no bytes of its file
abbrev pub IsZeroFill : ObjectData → ℕ → Type 0
IsZeroFill o section = option_map (is_unstored o.format) (slice_get o.sections section) ≡ Some true

-- -- what holds of every object

-- the contents of a section are its bytes, or none where it takes none of its file, and its alignment is a power of two
pub record IsSection (format : BinaryFormat) (s : SectionData) : Type 0 where
  pub contents : length s.contents ≡ (if is_unstored format s then 0 else s.size)
  pub align : 0 < s.align
  pub power : is_power_of_two s.align ≡ true

-- The sizes and alignments of the sections are among the bytes that were asked for; an empty section has alignment 1. It speaks of
-- sections alone, so that whatever a caller writes into a symbol leaves it true.
pub record AreSections (format : BinaryFormat) (sections : List SectionData) (sum : ℕ) : Type 0 where
  pub each : All (IsSection format) sections
  pub sizes : sum_by (λ (s : SectionData). s.size) sections ≤ sum
  pub aligns : sum_by (λ (s : SectionData). s.align) sections ≤ sum + length sections

-- what is kept of the standard sections is where each of them stands, by its place in their order
abbrev pub KeepsStandards : List (Option ℕ) → List SectionData → Type 0
KeepsStandards places sections = (standard : StandardSection) → slice_get places (standard_place standard) ≡ Some (standard_at sections standard)

-- what is kept once a section is appended at this number
abbrev pub kept_places : List (Option ℕ) → Option StandardSection → ℕ → List (Option ℕ)
kept_places places None number = places
kept_places places (Some standard) number = slice_set places (standard_place standard) (Some number)

-- the sections of an object are sound, and it keeps where the standard ones stand
pub record IsKept (format : BinaryFormat) (sections : List SectionData) (sum : ℕ) (places : List (Option ℕ)) : Type 0 where
  pub sound : AreSections format sections sum
  pub standards : KeepsStandards places sections
