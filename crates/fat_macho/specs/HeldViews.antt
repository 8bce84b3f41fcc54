-- The slice that a writer's entry stands for.
use Rattle.std.specs.Prelude.{◌≡◌, ℕ, ◌+◌, ◌^◌, ◌<◌, ◌≤◌, List, length, map, slice_get, Option, Some, None, option_map, IsSomeAnd, false}
use Rattle.std.specs.List.{AllByRecursion}
use Rattle.std.specs.Rc.{rc_slice_items}
use Rattle.byte_core.specs.Number.{bytes_at}
use Rattle.byte_core.specs.Streams.{SourceData, HasLength}
use Rattle.fat_macho.specs.Held.{Held, Origin, borrowed, owned, source}
use Rattle.fat_macho.specs.Layout.{total_of}
use Rattle.fat_macho.specs.Parts.{Pairwise}
use Rattle.fat_macho.specs.Slices.{Shape, share_arch, by_shape, in_order_by}
use Rattle.fat_macho.specs.declared.held.HeldSlice.{HeldSlice}
use Rattle.fat_macho.specs.declared.held.SliceBytes.{SliceBytes}
use Rattle.fat_macho.specs.declared.held.SliceBytes.TheVariants as lies

abbrev pub origin_of : SliceBytes → Origin
origin_of (lies.Borrowed bytes) = borrowed
origin_of (lies.Owned bytes) = owned
origin_of (lies.Shared bytes offset size) = owned
origin_of (lies.InSource number offset size) = source

abbrev pub size_of_slice : SliceBytes → ℕ
size_of_slice (lies.Borrowed bytes) = length bytes.now
size_of_slice (lies.Owned bytes) = length bytes.items
size_of_slice (lies.Shared bytes offset size) = size
size_of_slice (lies.InSource number offset size) = size

-- the bytes of a range of a source, where it tells them
abbrev pub known_range : Option SourceData → ℕ → ℕ → Option (List ℕ)
known_range None offset size = None
known_range (Some s) offset size = option_map (λ bytes. bytes_at bytes offset size) s.bytes

-- the bytes of a slice, where its source tells them
abbrev pub known_bytes : List SourceData → SliceBytes → Option (List ℕ)
known_bytes sources (lies.Borrowed bytes) = Some bytes.now
known_bytes sources (lies.Owned bytes) = Some bytes.items
known_bytes sources (lies.Shared bytes offset size) = Some (bytes_at (rc_slice_items bytes) offset size)
known_bytes sources (lies.InSource number offset size) = known_range (slice_get sources number) offset size

abbrev pub faults_in : Option SourceData → ℕ
faults_in None = 0
faults_in (Some s) = s.faults

abbrev pub faults_of : List SourceData → SliceBytes → ℕ
faults_of sources (lies.Borrowed bytes) = 0
faults_of sources (lies.Owned bytes) = 0
faults_of sources (lies.Shared bytes offset size) = 0
faults_of sources (lies.InSource number offset size) = faults_in (slice_get sources number)

-- its architecture and its size
abbrev pub raw_shape : HeldSlice → Shape
raw_shape h = record { cputype = h.cputype; cpusubtype = h.cpusubtype; size = size_of_slice h.bytes }

abbrev pub held_view : List SourceData → HeldSlice → Held
held_view sources h = record { shape = raw_shape h; bytes = known_bytes sources h.bytes; origin = origin_of h.bytes; faults = faults_of sources h.bytes }

abbrev pub held_list : List SourceData → List HeldSlice → List Held
held_list sources slices = map (held_view sources) slices

-- -- what a writer keeps to

-- a range lies in its source
pub record LiesInSource (s : SourceData) (offset size : ℕ) : Type 0 where
  pub inside : offset + size ≤ s.length

-- the bytes of a slice lie where it says
abbrev pub IsPlaced : List SourceData → SliceBytes → Type 0
IsPlaced sources (lies.Borrowed bytes) = Unit {0}
IsPlaced sources (lies.Owned bytes) = Unit {0}
IsPlaced sources (lies.Shared bytes offset size) = offset + size ≤ length (rc_slice_items bytes)
IsPlaced sources (lies.InSource number offset size) = IsSomeAnd (slice_get sources number) (λ s. LiesInSource s offset size)

-- two slices are of other architectures
abbrev pub AreOthers : HeldSlice → HeldSlice → Type 0
AreOthers g h = share_arch (raw_shape g) (raw_shape h) ≡ false

-- slices in order, each architecture once, that a table can count and a file can hold
pub record IsWriter (sources : List SourceData) (slices : List HeldSlice) : Type 0 where
  pub order : in_order_by (by_shape raw_shape) slices ≡ slices
  pub once : Pairwise AreOthers slices
  pub few : length slices < 2 ^ 32
  pub short : total_of (map raw_shape slices) < 2 ^ 63
  pub places : AllByRecursion (λ h. IsPlaced sources h.bytes) slices
  pub lengths : AllByRecursion HasLength sources
