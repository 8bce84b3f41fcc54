-- What is taken out of a writer.
use Rattle.std.specs.Prelude.{◌≡◌, ℕ, ◌↔◌, List, slice_get, Option, Some}
use Rattle.std.specs.Cow.{cow_slice_items, IsBorrowedSlice}
use Rattle.std.specs.Global.{Global}
use Rattle.std.specs.Rc.{rc_slice_items}
use Rattle.std.specs.declared.borrow.CowSlice.{CowSlice}
use Rattle.byte_core.specs.Count.{Rose}
use Rattle.byte_core.specs.Number.{bytes_at}
use Rattle.byte_core.specs.Streams.{SourceData}
use Rattle.fat_macho.specs.Held.{borrowed, source}
use Rattle.fat_macho.specs.HeldViews.{origin_of, known_range, known_bytes, faults_of}
use Rattle.fat_macho.specs.declared.error.Error.{Error}
use Rattle.fat_macho.specs.declared.error.Error.TheVariants.{Io, OutOfMemory}
use Rattle.fat_macho.specs.declared.error.IoCause.TheVariants.{Source}
use Rattle.fat_macho.specs.declared.held.SliceBytes.{SliceBytes}
use Rattle.fat_macho.specs.declared.held.SliceBytes.TheVariants as lies

-- the bytes are these, where these are known
pub record IsKnownAs (known : Option (List ℕ)) (bytes : List ℕ) : Type 0 where
  pub same : (b : List ℕ) → known ≡ Some b → bytes ≡ b

-- a copy of the bytes of a slice; there is none of bytes that are lent or the writer's own
abbrev pub IsCopyOf : List SourceData → SliceBytes → List ℕ → Type 0
IsCopyOf sources (lies.Borrowed bytes) copy = Unit {0}
IsCopyOf sources (lies.Owned bytes) copy = Unit {0}
IsCopyOf sources (lies.Shared bytes offset size) copy = copy ≡ bytes_at (rc_slice_items bytes) offset size
IsCopyOf sources (lies.InSource number offset size) copy = IsKnownAs (known_range (slice_get sources number) offset size) copy

-- the bytes that are handed out: those of the slice, or their copy
abbrev pub handed_items : SliceBytes → List ℕ → List ℕ
handed_items (lies.Borrowed bytes) copy = bytes.now
handed_items (lies.Owned bytes) copy = bytes.items
handed_items (lies.Shared bytes offset size) copy = copy
handed_items (lies.InSource number offset size) copy = copy

-- the bytes of a slice are handed out, borrowed exactly where they were borrowed
pub record HandsOut (sources : List SourceData) (s : SliceBytes) (bytes : CowSlice ℕ Global) : Type 0 where
  pub known : IsKnownAs (known_bytes sources s) (cow_slice_items bytes)
  pub lent : (origin_of s ≡ borrowed) ↔ IsBorrowedSlice bytes

-- a call fails by a read, with its cause, or by want of memory
abbrev pub FailsToRead : Type 0 → Error → Type 0
FailsToRead rose (Io Source) = rose
FailsToRead rose OutOfMemory = Unit {0}
FailsToRead rose e = ⊥

-- the bytes of a slice are not copied, by a read of its source or by want of memory
abbrev pub FailsToCopy : List SourceData → List SourceData → SliceBytes → Error → Type 0
FailsToCopy old new s e = FailsToRead ((origin_of s ≡ source) × Rose (faults_of old s) (faults_of new s)) e
