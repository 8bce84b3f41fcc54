-- What is found of an input that is read as a source, and why it is refused, as far as its bytes are known.
use Rattle.std.specs.Prelude.{◌≡◌, ℕ, ◌+◌, ◌≤◌, ◌<◌, nat_lt, Bool, true, false, List, [], ◌∷◌, length, map, Option, Some, None}
use Rattle.std.specs.List.{AllByRecursion}
use Rattle.byte_core.specs.Count.{Rose}
use Rattle.byte_core.specs.Number.{bytes_at}
use Rattle.byte_core.specs.Streams.{SourceData}
use Rattle.image_read.specs.FatFile.{fat_count, fat_entry}
use Rattle.fat_macho.specs.ClassView.{class_view}
use Rattle.fat_macho.specs.Input.{FatRefusal, invalid, refusal_told, refuse_if, class_cause, slice_of, entry_bytes, entry_slices, entry_cause, fat_cause, input_slices, input_cause}
use Rattle.fat_macho.specs.Parse.{Class, thin, class_of}
use Rattle.fat_macho.specs.ShapeView.{shape_view}
use Rattle.fat_macho.specs.Slices.{Slice, share_arch}
use Rattle.fat_macho.specs.declared.error.Error.{Error}
use Rattle.fat_macho.specs.declared.error.Error.TheVariants.{Io, OutOfMemory}
use Rattle.fat_macho.specs.declared.error.IoCause.TheVariants.{Source}
use Rattle.fat_macho.specs.declared.input.Entry.{Entry}
use Rattle.fat_macho.specs.declared.input.Part.{Part}
use Rattle.fat_macho.specs.declared.error.InvalidCase.TheVariants.{SlicePastEnd}
use Rattle.fat_macho.specs.declared.parse.InputClass.{InputClass}

-- -- refusals

-- a read failed, which it can, and the count of faults rose
pub record ReadFails (old new : SourceData) : Type 0 where
  pub can : old.can_fail ≡ true
  pub rose : Rose old.faults new.faults

-- the bytes have this cause, where they are known
pub record HasCause (bytes : Option (List ℕ)) (cause : List ℕ → Option FatRefusal) (refusal : FatRefusal) : Type 0 where
  pub known : (b : List ℕ) → bytes ≡ Some b → cause b ≡ Some refusal

abbrev pub TellsCause : Option (List ℕ) → (List ℕ → Option FatRefusal) → Option FatRefusal → Type 0
TellsCause bytes cause None = ⊥
TellsCause bytes cause (Some refusal) = HasCause bytes cause refusal

-- an input is refused: a read failed, or memory ran out, or by the cause that its bytes have
abbrev pub Fails : SourceData → SourceData → (List ℕ → Option FatRefusal) → Error → Type 0
Fails old new cause (Io Source) = ReadFails old new
Fails old new cause OutOfMemory = Unit {0}
Fails old new cause e = TellsCause old.bytes cause (refusal_told e)

-- -- images

-- the class is that of the bytes of this range, where they are known
pub record IsClassAt (bytes : Option (List ℕ)) (offset size : ℕ) (class : InputClass) : Type 0 where
  pub known : (b : List ℕ) → bytes ≡ Some b → class_view class ≡ class_of (bytes_at b offset size)

-- a thin image of this class stands in this range
pub record IsThin (class : Class) (offset size : ℕ) (part : Part) : Type 0 where
  pub class_is : class ≡ thin part.shape.cputype part.shape.cpusubtype
  pub offset_is : part.offset ≡ offset
  pub size_is : part.shape.size ≡ size

-- the slice that a part of these bytes is
abbrev pub part_slice : List ℕ → Part → Slice
part_slice b p = record { cputype = p.shape.cputype; cpusubtype = p.shape.cpusubtype; bytes = bytes_at b p.offset p.shape.size }

-- a thin image stands in this range
pub record IsPartAt (bytes : Option (List ℕ)) (offset size : ℕ) (part : Part) : Type 0 where
  pub offset_is : part.offset ≡ offset
  pub size_is : part.shape.size ≡ size
  pub slice : (b : List ℕ) → bytes ≡ Some b → slice_of (bytes_at b offset size) ≡ Some (part_slice b part)
  pub none : (b : List ℕ) → bytes ≡ Some b → class_cause (class_of (bytes_at b offset size)) ≡ None

-- -- the table

-- the header counts so many entries
pub record IsCount (bytes : Option (List ℕ)) (count : ℕ) : Type 0 where
  pub known : (b : List ℕ) → bytes ≡ Some b → count ≡ fat_count b

-- entry k has this range
pub record IsEntryAt (bytes : Option (List ℕ)) (wide : Bool) (k : ℕ) (entry : Entry) : Type 0 where
  pub offset : (b : List ℕ) → bytes ≡ Some b → entry.offset ≡ (fat_entry b wide k).offset
  pub size : (b : List ℕ) → bytes ≡ Some b → entry.size ≡ (fat_entry b wide k).size

-- -- all images

-- each of a list has the relation to each behind it
abbrev pub Pairwise : {X : Type 0} → (X → X → Type 0) → List X → Type 0
Pairwise R [] = Unit {0}
Pairwise R (x ∷ xs) = AllByRecursion (R x) xs × Pairwise R xs

-- the part lies among so many bytes
pub record IsInside (len : ℕ) (part : Part) : Type 0 where
  pub inside : part.offset + part.shape.size ≤ len

-- two parts are of other architectures
abbrev pub AreApart : Part → Part → Type 0
AreApart p q = share_arch (shape_view p.shape) (shape_view q.shape) ≡ false

-- the image of entry k
pub record IsEntryPart (s : SourceData) (wide : Bool) (k : ℕ) (part : Part) : Type 0 where
  pub inside : IsInside s.length part
  pub slice : (b : List ℕ) → s.bytes ≡ Some b → slice_of (entry_bytes b wide k) ≡ Some (part_slice b part)
  pub range : (b : List ℕ) → s.bytes ≡ Some b → refuse_if (nat_lt (length b) ((fat_entry b wide k).offset + (fat_entry b wide k).size)) (invalid SlicePastEnd) ≡ None
  pub none : (b : List ℕ) → s.bytes ≡ Some b → class_cause (class_of (entry_bytes b wide k)) ≡ None

-- the images of the first k entries, none of which is refused
pub record AreEntryParts (s : SourceData) (wide : Bool) (k : ℕ) (parts : List Part) : Type 0 where
  pub inside : AllByRecursion (IsInside s.length) parts
  pub apart : Pairwise AreApart parts
  pub slices : (b : List ℕ) → s.bytes ≡ Some b → map (part_slice b) parts ≡ entry_slices b wide k
  pub none : (b : List ℕ) → s.bytes ≡ Some b → (j : ℕ) → j < k → entry_cause b wide j ≡ None

-- the images of a fat file, which isn't refused
pub record AreFatParts (s : SourceData) (wide : Bool) (parts : List Part) : Type 0 where
  pub inside : AllByRecursion (IsInside s.length) parts
  pub apart : Pairwise AreApart parts
  pub slices : (b : List ℕ) → s.bytes ≡ Some b → map (part_slice b) parts ≡ entry_slices b wide (fat_count b)
  pub none : (b : List ℕ) → s.bytes ≡ Some b → fat_cause b wide ≡ None

-- the images of an input, which isn't refused by itself
pub record AreParts (s : SourceData) (parts : List Part) : Type 0 where
  pub inside : AllByRecursion (IsInside s.length) parts
  pub apart : Pairwise AreApart parts
  pub slices : (b : List ℕ) → s.bytes ≡ Some b → map (part_slice b) parts ≡ input_slices b
  pub none : (b : List ℕ) → s.bytes ≡ Some b → input_cause b ≡ None
