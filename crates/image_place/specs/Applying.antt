-- The bytes of a definition in memory, by what names are bound to.
use Rattle.std.specs.Prelude.{◌≡◌, ℕ, ◌+◌, ◌-◌, ◌≤◌, Bool, List, ◌∷◌, length, map, flat_map, filter, Option, Some, None, option_map, option_and_then, slice_get, if◌then◌else◌}
use Rattle.std.specs.List.{filter_map, enumerate_from}
use Rattle.byte_core.specs.Number.{bytes_at}
use Rattle.image_place.specs.Fixups.{Goal, own, named, Fixup, Resolved, fixed}
use Rattle.image_view.specs.View.{View, ViewSection}
use Rattle.image_view.specs.declared.view.ViewReloc.{ViewReloc}
use Rattle.image_place.specs.Placed.{AddressRow, Definition, definitions_in, given, fixup_at, holds_field, PlacedEntry}
use Rattle.image_place.specs.Leading.{Binding}

abbrev pub goal_address : Binding → (ℕ → ℕ) → Goal ℕ → Option ℕ
goal_address F at (own key distance) = Some (at key + distance)
goal_address F at (named x) = F x

abbrev pub resolved_by : Binding → (ℕ → ℕ) → Fixup ℕ → Resolved
resolved_by F at f = record { offset = f.offset; kind = f.kind; address = goal_address F at f.goal; addend = f.addend }

-- the relocations of a section that a definition holds
abbrev pub held_by : Binding → (ℕ → ℕ) → View → List Definition → Definition → ℕ → List ViewReloc → List Resolved
held_by F at v ds d start rs = map (resolved_by F at) (filter_map (fixup_at v ds start d.symbol.address) (filter (λ r. holds_field start r r.kind d) rs))

-- the bytes of a definition of a section
abbrev pub bytes_by : Binding → (ℕ → ℕ) → View → List Definition → Definition → ViewSection → Option (List ℕ)
bytes_by F at v ds d s = fixed (bytes_at s.bytes (d.symbol.address - s.start) d.size) d.address (held_by F at v ds d s.start s.relocations)

-- a relocation is applied, or it has no value
abbrev pub Applies : Binding → (ℕ → ℕ) → View → List Definition → Definition → ℕ → ViewReloc → List ℕ → Bool → List ℕ → Type 0
Applies F at v ds d start r old ok new = (rs : List ViewReloc) → fixed old d.address (held_by F at v ds d start (r ∷ rs)) ≡ (if ok then fixed new d.address (held_by F at v ds d start rs) else None)

-- -- entries

-- the entry of a definition of image q
abbrev pub entry_by : Binding → (ℕ → ℕ) → ℕ → View → List Definition → Definition → Option PlacedEntry
entry_by F at q v ds d = option_and_then (λ s. option_map (λ bytes. record { image = q; symbol = d.row; address = d.address; bytes = bytes }) (bytes_by F at v ds d s)) (slice_get v.sections d.section)

-- the entries of the image of a number
abbrev pub numbered_entries : Binding → List AddressRow → ℕ × View → List PlacedEntry
numbered_entries F addresses e = filter_map (entry_by F (given addresses e.0) e.0 e.1 (definitions_in addresses e.0 e.1)) (definitions_in addresses e.0 e.1)

-- those of all images
abbrev pub entries_by : Binding → List AddressRow → List View → List PlacedEntry
entries_by F addresses views = flat_map (numbered_entries F addresses) (enumerate_from 0 views)

-- -- ranges

-- the range of a definition lies in the bytes of its section
pub record HasRange (s : ViewSection) (d : Definition) : Type 0 where
  pub low : s.start ≤ d.symbol.address
  pub end : d.symbol.address + d.size ≤ s.start + length s.bytes

-- a definition has its range in a section
pub record IsHome (v : View) (d : Definition) : Type 0 where
  pub section : ViewSection
  pub here : slice_get v.sections d.section ≡ Some section
  pub range : HasRange section d

-- each of these definitions does
abbrev pub HaveRanges : View → List Definition → Type 0
HaveRanges v ds = (k : ℕ) (d : Definition) → slice_get ds k ≡ Some d → IsHome v d

-- each definition of all images does
abbrev pub AllHaveRanges : List AddressRow → List View → Type 0
AllHaveRanges addresses views = (q : ℕ) (v : View) → slice_get views q ≡ Some v → HaveRanges v (definitions_in addresses q v)

-- each section has as many bytes as its size
abbrev pub IsWhole : View → Type 0
IsWhole v = (k : ℕ) (s : ViewSection) → slice_get v.sections k ≡ Some s → length s.bytes ≡ s.size

abbrev pub AreWhole : List View → Type 0
AreWhole views = (q : ℕ) (v : View) → slice_get views q ≡ Some v → IsWhole v
