-- What a file's bytes are read as.
use Rattle.std.specs.Prelude.{◌≡◌, ℕ, ◌⊎◌, List, codes, string_bytes}
use Rattle.image_read.specs.Image.{Reads, HasNoImage}
use Rattle.image_read.specs.declared.image.Image.{Image}
use Rattle.image_json.specs.ImageJson.{image_text}
use Rattle.objtool_run.specs.Fault.{line}
use Rattle.objtool_run.specs.declared.fault.Fault.{Fault}
use Rattle.objtool_run.specs.declared.fault.Fault.TheVariants.{Refused, BadWords, ReadFailed, WriteFailed, OutOfMemory, NotUnderstood, TooLong}

-- the bytes are read as an image
pub record IsImage (input : List ℕ) : Type 0 where
  pub image : Image
  pub reads : Reads input image

-- the text is the line of the image that the bytes are read as
pub record IsImageLine (input text : List ℕ) : Type 0 where
  pub image : Image
  pub reads : Reads input image
  pub text_is : text ≡ line (image_text image)

-- what is told of bytes that are read as no image
abbrev pub no_image_text : List ℕ
no_image_text = codes "neither an object file nor a fat file"

-- the bytes are read as no image, and the text says so
pub record IsUnreadImage (input text : List ℕ) : Type 0 where
  pub no_image : HasNoImage input
  pub text_is : text ≡ line no_image_text

-- what a fault says of the bytes; those of the words, the streams and memory say nothing of them
abbrev pub ExplainsRead : List ℕ → Fault → Type 0
ExplainsRead input (Refused text) = IsUnreadImage input (string_bytes text)
ExplainsRead input BadWords = Unit {0}
ExplainsRead input ReadFailed = Unit {0}
ExplainsRead input WriteFailed = Unit {0}
ExplainsRead input OutOfMemory = Unit {0}
ExplainsRead input NotUnderstood = ⊥
ExplainsRead input TooLong = Unit {0}

-- the faults of a request whose input is no JSON
abbrev pub IsFileFault : Fault → Type 0
IsFileFault (Refused text) = Unit {0}
IsFileFault BadWords = Unit {0}
IsFileFault ReadFailed = Unit {0}
IsFileFault WriteFailed = Unit {0}
IsFileFault OutOfMemory = Unit {0}
IsFileFault NotUnderstood = ⊥
IsFileFault TooLong = Unit {0}

-- how reading an input may end, apart from failed reads, want of memory and the limit of its length
pub record JudgesRead (input : List ℕ) (status : ℕ) : Type 0 where
  pub unread : HasNoImage input → status ≡ 1
  pub read : IsImage input → (status ≡ 0) ⊎ (status ≡ 4)
