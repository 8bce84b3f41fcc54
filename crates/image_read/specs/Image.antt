-- What a file is read as, whatever its format, and why it isn't read.
use Rattle.std.specs.Prelude.{List, ℕ}
use Rattle.image_read.specs.ElfImage.{ElfReads}
use Rattle.image_read.specs.MachImage.{MachReads}
use Rattle.image_read.specs.FatImage.{FatReads}
use Rattle.image_read.specs.declared.image.Image.{Image}
use Rattle.image_read.specs.declared.image.Image.TheVariants.{Elf, Mach, Fat}
use Rattle.image_read.specs.declared.error.ReadError.{ReadError}
use Rattle.image_read.specs.declared.error.ReadError.TheVariants.{NoReading, OutOfMemory}

-- the file is read as this image
abbrev pub Reads : List ℕ → Image → Type 0
Reads b (Elf image) = ElfReads b image
Reads b (Mach image) = MachReads b image
Reads b (Fat image) = FatReads b image

-- a format reads the file
pub record HasImage (b : List ℕ) : Type 0 where
  pub image : Image
  pub reads : Reads b image

-- no format reads the file
pub record HasNoImage (b : List ℕ) : Type 0 where
  pub none : (image : Image) → Reads b image → ⊥

-- why there is no image: no format reads the file, or memory ran out for the image that it has
abbrev pub ExplainsRead : List ℕ → ReadError → Type 0
ExplainsRead b NoReading = HasNoImage b
ExplainsRead b OutOfMemory = HasImage b
