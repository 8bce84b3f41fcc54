-- What is told of a fat image as JSON: an object with its keys in the order of their bytes, and a slice as a list of its
-- numbers.
use Rattle.std.specs.Prelude.{ℕ, length, List, [], ◌∷◌, codes}
use Rattle.serde_json.specs.Data.{Data, string, object, no_members, member}
use Rattle.serde_json.specs.Written.{compact_text}
use Rattle.json_form.specs.Written.{number_value, list_value}
use Rattle.image_read.specs.FatImage.{FatSliceData, FatImageData}
use Rattle.image_json.specs.RowJson.{flag_value, row_value}

-- a slice: its architecture, the alignment of its offset as a power of two, its offset and its size
abbrev pub fat_slice_value : FatSliceData → Data
fat_slice_value s = row_value (number_value s.cputype ∷ number_value s.cpusubtype ∷ number_value s.align ∷ number_value s.offset ∷ number_value (length s.bytes) ∷ [])

-- an image, its slices in the order of the table
unfoldable pub fat_value : FatImageData → Data
fat_value i =
    object (
    member (codes "format") (string (codes "fat")) (
    member (codes "is_64") (flag_value i.is_fat64) (
    member (codes "slices") (list_value fat_slice_value i.slices)
    no_members)))

-- the same as text, without white space
abbrev pub fat_text : FatImageData → List ℕ
fat_text i = compact_text (fat_value i)
