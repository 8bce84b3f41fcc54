-- The slices of an input, as a writer holds them.
use Rattle.std.specs.Prelude.{◌≡◌, ℕ, ◌+◌, ◌≤◌, List, length, Option, Some, option_map}
use Rattle.std.specs.List.{AllZip}
use Rattle.std.specs.Rc.{rc_slice_items}
use Rattle.byte_core.specs.Number.{bytes_at}
use Rattle.byte_core.specs.Streams.{SourceData}
use Rattle.fat_macho.specs.Held.{Held, Origin, owned}
use Rattle.fat_macho.specs.HeldViews.{raw_shape, held_view, IsPlaced}
use Rattle.fat_macho.specs.ShapeView.{shape_view}
use Rattle.fat_macho.specs.declared.added.InputBytes.{InputBytes}
use Rattle.fat_macho.specs.declared.added.InputBytes.TheVariants as from
use Rattle.fat_macho.specs.declared.held.HeldSlice.{HeldSlice}
use Rattle.fat_macho.specs.declared.held.SliceBytes.{SliceBytes}
use Rattle.fat_macho.specs.declared.held.SliceBytes.TheVariants as lies
use Rattle.fat_macho.specs.declared.input.Part.{Part}

-- the range lies among the bytes of an input in memory
abbrev pub HoldsRange : InputBytes → ℕ → ℕ → Type 0
HoldsRange (from.Borrowed bytes) offset size = offset + size ≤ length bytes.now
HoldsRange (from.Shared bytes) offset size = offset + size ≤ length (rc_slice_items bytes.now)
HoldsRange (from.Source number) offset size = Unit {0}

abbrev pub HoldsPart : InputBytes → Part → Type 0
HoldsPart input part = HoldsRange input part.offset part.shape.size

-- the bytes are this range of the input
abbrev pub IsRangeOf : InputBytes → ℕ → ℕ → SliceBytes → Type 0
IsRangeOf (from.Borrowed bytes) offset size (lies.Borrowed range) = range.now ≡ bytes_at bytes.now offset size
IsRangeOf (from.Shared bytes) offset size (lies.Shared same o s) = (rc_slice_items same ≡ rc_slice_items bytes.now) × (o ≡ offset) × (s ≡ size)
IsRangeOf (from.Source number) offset size (lies.InSource n o s) = (n ≡ number) × (o ≡ offset) × (s ≡ size)
IsRangeOf input offset size bytes = ⊥

-- the slice is this part of the input
pub record IsSliceOf (input : InputBytes) (part : Part) (h : HeldSlice) : Type 0 where
  pub cputype : h.cputype ≡ part.shape.cputype
  pub cpusubtype : h.cpusubtype ≡ part.shape.cpusubtype
  pub range : IsRangeOf input part.offset part.shape.size h.bytes

-- what a writer's contract sees of a part
abbrev pub part_view : Origin → ℕ → Option (List ℕ) → Part → Held
part_view origin faults bytes part = record { shape = shape_view part.shape; bytes = option_map (λ b. bytes_at b part.offset part.shape.size) bytes; origin = origin; faults = faults }

-- the slice is a part of an input that lies there
pub record IsSeenPart (origin : Origin) (faults : ℕ) (bytes : Option (List ℕ)) (sources : List SourceData) (part : Part) (h : HeldSlice) : Type 0 where
  pub shape : raw_shape h ≡ shape_view part.shape
  pub view : held_view sources h ≡ part_view origin faults bytes part
  pub placed : IsPlaced sources h.bytes

-- the slices are the parts of some owned bytes, whatever the sources
pub record AreOwnedParts (b : List ℕ) (parts : List Part) (slices : List HeldSlice) : Type 0 where
  pub each : (sources : List SourceData) → AllZip (IsSeenPart owned 0 (Some b) sources) parts slices
