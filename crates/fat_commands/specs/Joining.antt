-- What files are joined to.
use Rattle.std.specs.Prelude.{◌≡◌, ◌≢◌, ℕ, List, ◌++◌, codes, decimal, Option, Some, None}
use Rattle.std.specs.List.{AllZip}
use Rattle.image_build.specs.declared.error.BuildError.{BuildError}
use Rattle.image_build.specs.declared.error.BuildCause.TheVariants as causes
use Rattle.image_build.specs.Built.{BuildPart, commands, image, Built, BuildRefusal, TellsBuild, build_cause}
use Rattle.image_build.specs.Texts.{cause_text}
use Rattle.byte_core.specs.Outside.{Outside}
use Rattle.fat_commands.specs.Files.{FilesRose, IsHeld}
use Rattle.fat_commands.specs.declared.files.FileError.{FileError}
use Rattle.fat_commands.specs.declared.files.FileError.TheVariants as files
use Rattle.fat_commands.specs.declared.join.Unjoined.{Unjoined}
use Rattle.fat_commands.specs.declared.join.Unjoined.TheVariants.{Failed, Refused, OutOfMemory}

-- the part is the image of the path's file
abbrev pub IsRead : Option (List (List ℕ × List ℕ)) → List ℕ → BuildPart → Type 0
IsRead files path (commands part) = ⊥
IsRead files path (image bytes) = IsHeld files path bytes

-- the parts are the images of the paths' files in order
abbrev pub AreRead : Option (List (List ℕ × List ℕ)) → List (List ℕ) → List BuildPart → Type 0
AreRead files paths parts = AllZip (IsRead files) paths parts

-- the bytes are the fat file of the slices of the paths' files, and nothing refuses these
pub record IsJoined (files : Option (List (List ℕ × List ℕ))) (paths : List (List ℕ)) (bytes : List ℕ) : Type 0 where
  pub parts : List BuildPart
  pub read : AreRead files paths parts
  pub valid : build_cause parts ≡ None
  pub built : Built parts bytes

-- the path, and the cause
abbrev pub path_text : BuildError → List ℕ
path_text e = codes "path " ++ (decimal e.part ++ (codes ": " ++ cause_text e.cause))

-- the error tells the path and the first cause that refuse the paths' files
pub record IsUnjoined (files : Option (List (List ℕ × List ℕ))) (paths : List (List ℕ)) (error : BuildError) : Type 0 where
  pub parts : List BuildPart
  pub read : AreRead files paths parts
  pub refusal : BuildRefusal
  pub refused : build_cause parts ≡ Some refusal
  pub no_memory : error.cause ≢ causes.OutOfMemory
  pub tells : TellsBuild error (build_cause parts)

-- why files aren't joined: one could not be read, or one is refused; want of memory tells nothing
abbrev pub TellsUnjoined : Outside → Outside → List (List ℕ) → Unjoined → Type 0
TellsUnjoined old new paths Failed = FilesRose old new
TellsUnjoined old new paths (Refused error) = IsUnjoined old.files paths error
TellsUnjoined old new paths OutOfMemory = Unit {0}

-- the cause of files that are not there
abbrev pub unread_cause : FileError → Unjoined
unread_cause files.Failed = Failed
unread_cause files.OutOfMemory = OutOfMemory

-- a build's refusal is kept, but for want of memory, which has a cause of its own
abbrev pub KeepsRefusal : BuildError → Unjoined → Type 0
KeepsRefusal error Failed = ⊥
KeepsRefusal error (Refused kept) = (kept ≡ error) × (error.cause ≢ causes.OutOfMemory)
KeepsRefusal error OutOfMemory = Unit {0}
