-- What a contract sees of a writer of fat files.
use Rattle.std.specs.Prelude.{◌≡◌, ℕ, ◌≤◌, ◌<◌, ◌⊎◌, Bool, not, List, [], ◌∷◌, ◌++◌, length, take, map, filter, find, slice_get, Option, Some, None, option_map, option_and_then, IfSome, IsSome, IsSomeAnd, Result, IfErr, OnOk, OnErr}
use Rattle.std.specs.List.{All}
use Rattle.byte_core.specs.Count.{Rose}
use Rattle.byte_core.specs.Outside.{Appends, AppendsFront}
use Rattle.goblin_mach.specs.Architectures.{pair_named}
use Rattle.image_read.specs.FatFile.{fat_count, has_wide_entries, fat_table_end}
use Rattle.fat_macho.specs.Adding.{TellsAdd}
use Rattle.fat_macho.specs.FatHolds.{FatHolds}
use Rattle.fat_macho.specs.Input.{input_slices, refusal_told, joining_cause, add_cause}
use Rattle.fat_macho.specs.Slices.{Shape, Slice, shape_of, by_shape, in_order_by, is_same_arch}
use Rattle.fat_macho.specs.declared.error.Error.{Error}
use Rattle.fat_macho.specs.declared.error.Error.TheVariants.{Io, OutOfMemory}
use Rattle.fat_macho.specs.declared.error.IoCause.TheVariants.{Source as SourceFault}

-- where the bytes of a slice lie: lent to the writer, its own, or in a source that it holds
pub data Origin : Type 0 where
  borrowed : Origin
  owned : Origin
  source : Origin

-- a slice that a writer holds: its architecture, its bytes where they are known, where they lie, and how often a read of
-- its source failed, 0 where it has none
pub record Held : Type 0 where
  pub shape : Shape
  pub bytes : Option (List ℕ)
  pub origin : Origin
  pub faults : ℕ

abbrev pub shape_held : Held → Shape
shape_held h = h.shape

abbrev pub held_before : Held → Held → Bool
held_before = by_shape shape_held

abbrev pub shapes_held : List Held → List Shape
shapes_held held = map shape_held held

-- a slice of bytes that are held so
abbrev pub held_slice : Origin → ℕ → Slice → Held
held_slice origin faults s = record { shape = shape_of s; bytes = Some s.bytes; origin = origin; faults = faults }

-- the slices of an input at their places among those that are held
unfoldable pub with_input : List Held → Origin → ℕ → List ℕ → List Held
with_input held origin faults b = in_order_by held_before (held ++ map (held_slice origin faults) (input_slices b))

-- all slices with their bytes, where all are known
abbrev pub known_slices : List Held → Option (List Slice)
known_slices [] = Some []
known_slices (h ∷ held) = option_and_then (λ bytes. option_map (λ rest. record { cputype = h.shape.cputype; cpusubtype = h.shape.cpusubtype; bytes = bytes } ∷ rest) (known_slices held)) h.bytes

-- the same slice; only the count of its source may have risen
pub record IsSameHeld (old new : Held) : Type 0 where
  pub shape : new.shape ≡ old.shape
  pub bytes : new.bytes ≡ old.bytes
  pub origin : new.origin ≡ old.origin
  pub rises : old.faults ≤ new.faults

pub record KeepsSlices (old new : List Held) : Type 0 where
  pub count : length new ≡ length old
  pub each : (k : ℕ) (h i : Held) → slice_get old k ≡ Some h → slice_get new k ≡ Some i → IsSameHeld h i

-- the slice is of the architecture of this pair
abbrev pub is_slice_of : ℕ × ℕ → Held → Bool
is_slice_of pair h = is_same_arch pair.0 pair.1 h.shape.cputype h.shape.cpusubtype

-- the slice of a name's architecture
abbrev pub slice_named : List Held → List ℕ → Option Held
slice_named held name = option_and_then (λ pair. find (is_slice_of pair) held) (pair_named name)

-- those that are not of the architecture of this pair, if there is one
abbrev pub without : Option (ℕ × ℕ) → List Held → List Held
without None held = held
without (Some pair) held = filter (λ h. not (is_slice_of pair h)) held

abbrev pub other_slices : List Held → List ℕ → List Held
other_slices held name = without (pair_named name) held

-- the slice of this name lies in a source, whose count rose
abbrev pub NamedRose : List Held → List Held → List ℕ → Type 0
NamedRose old new name = IsSomeAnd (slice_named old name) (λ h. IsSomeAnd (slice_named new name) (λ i. (h.origin ≡ source) × Rose h.faults i.faults))

-- where all slices are known, a sink took the bytes of a fat file of them behind what it had taken
pub record TakesFile (held : List Held) (old new : Option (List ℕ)) : Type 0 where
  pub file : IfSome (known_slices held) (λ slices. (b : List ℕ) × All (λ x. x < 256) b × FatHolds b slices × Appends old new b)

-- the bytes up to the end of the table that the header tells
abbrev pub TableIsBytes : List ℕ → Type 0
TableIsBytes b = All (λ x. x < 256) (take (fat_table_end (has_wide_entries b) (fat_count b)) b)

-- or a front of the bytes of such a file
pub record TakesFront (held : List Held) (old new : Option (List ℕ)) : Type 0 where
  pub file : IfSome (known_slices held) (λ slices. (b : List ℕ) × TableIsBytes b × FatHolds b slices × AppendsFront old new b)

-- the count of the source of some held slice rose
pub record SomeRose (old new : List Held) : Type 0 where
  pub number : ℕ
  pub before : Held
  pub after : Held
  pub was : slice_get old number ≡ Some before
  pub is : slice_get new number ≡ Some after
  pub rose : Rose before.faults after.faults

-- an input in memory is added: all its slices, or none with the first cause
pub record IsAdded {A : Type 0} (result : Result A Error) (old new : List Held) (origin : Origin) (b : List ℕ) : Type 0 where
  pub ok : OnOk result (new ≡ with_input old origin 0 b)
  pub none : OnOk result (add_cause (shapes_held old) b ≡ None)
  pub cause : IfErr result (λ e. TellsAdd e (add_cause (shapes_held old) b))
  pub err : OnErr result (new ≡ old)

-- a source is added as its bytes are, its slices with its count; or reading it failed, which tells nothing of the bytes
pub record IsTaken {A : Type 0} (result : Result A Error) (old new : List Held) (b : List ℕ) : Type 0 where
  pub ok : OnOk result ((faults : ℕ) × (new ≡ with_input old source faults b))
  pub none : OnOk result (add_cause (shapes_held old) b ≡ None)
  pub cause : IfErr result (λ e. (e ≡ Io SourceFault) ⊎ TellsAdd e (add_cause (shapes_held old) b))

-- the errors of an add: a failed read, want of memory, a refusal
abbrev pub IsAddError : Error → Type 0
IsAddError (Io SourceFault) = Unit {0}
IsAddError OutOfMemory = Unit {0}
IsAddError e = IsSome (refusal_told e)

-- a slice of a source whose bytes aren't known
abbrev pub unknown_slice : ℕ → Shape → Held
unknown_slice faults a = record { shape = a; bytes = None; origin = source; faults = faults }

-- a source that tells no bytes adds slices of some architectures that none of the others has
pub record AddsShapes (old new : List Held) : Type 0 where
  pub shapes : List Shape
  pub faults : ℕ
  pub allowed : joining_cause (shapes_held old) shapes ≡ None
  pub added : new ≡ in_order_by held_before (old ++ map (unknown_slice faults) shapes)
