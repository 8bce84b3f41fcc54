-- Why a reader of one format gives no image.
use Rattle.image_read.specs.declared.error.ReadError.{ReadError}
use Rattle.image_read.specs.declared.error.ReadError.TheVariants.{NoReading, OutOfMemory}

-- the bytes are no file of the format, or memory ran out for the image that they have
abbrev pub ExplainsBy : Type 0 → ReadError → Type 0
ExplainsBy IsFile NoReading = IsFile → ⊥
ExplainsBy IsFile OutOfMemory = IsFile
