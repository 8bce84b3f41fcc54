-- Pieces of a fat image that were written one after the other are the text of a value.
use Rattle.std.proofs.Common.{◌≡◌, ℕ, List, [], ◌∷◌, ◌++◌, append_assoc, codes}
use Rattle.json.specs.Print.{escape_byte}
use Rattle.serde_json.specs.Written.{compact_text}
use Rattle.json_form.specs.Written.{list_value}
use Rattle.image_read.specs.FatImage.{FatImageData}
use Rattle.image_json.specs.RowJson.{flag_value}
use Rattle.image_json.specs.FatJson.{fat_slice_value, fat_value, fat_text}

pub fat_written : (a b c d new : List ℕ) (i : FatImageData) → a ≡ codes "{\"format\":\"fat\",\"is_64\":" → b ≡ a ++ compact_text (flag_value i.is_fat64)
    → c ≡ b ++ codes ",\"slices\":" → d ≡ c ++ compact_text (list_value fat_slice_value i.slices) → new ≡ d ++ 125 ∷ [] → new ≡ fat_text i
unfolding fat_value escape_byte
fat_written a b c d new i e f g h j = rw (j, h, g, f, e) (simp append_assoc)
