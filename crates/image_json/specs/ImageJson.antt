-- What is told of a file as JSON, whatever its format.
use Rattle.std.specs.Prelude.{◌≡◌, ℕ, List}
use Rattle.image_read.specs.Image.{Reads}
use Rattle.image_read.specs.declared.image.Image.{Image}
use Rattle.image_read.specs.declared.image.Image.TheVariants.{Elf, Mach, Fat}
use Rattle.image_json.specs.ElfJson.{elf_text}
use Rattle.image_json.specs.MachJson.{mach_text}
use Rattle.image_json.specs.FatJson.{fat_text}

-- the text of an image
abbrev pub image_text : Image → List ℕ
image_text (Elf image) = elf_text image
image_text (Mach image) = mach_text image
image_text (Fat image) = fat_text image

-- the bytes are read as an image, and this is its text
pub record IsImageText (b text : List ℕ) : Type 0 where
  pub image : Image
  pub reads : Reads b image
  pub text_is : text ≡ image_text image
