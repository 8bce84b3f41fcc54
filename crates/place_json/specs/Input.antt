-- What placement is given, as a JSON value says it. The object has no other keys than those that are named, and a row no more
-- values.
use Rattle.std.specs.Prelude.{ℕ, List, [], ◌∷◌, codes, Option, Some, option_and_then}
use Rattle.std.specs.Result.{result_ok}
use Rattle.hex.specs.Hex.{decode_of}
use Rattle.serde_json.specs.Data.{Data}
use Rattle.serde_json.specs.Find.{at, as_str}
use Rattle.json_form.specs.Form.{◌>>=◌, with_keys, items_at, number_in, u32_in, ended_before, each_of}
use Rattle.image_place.specs.declared.rows.DefAddress.{DefAddress}

-- the files of objects, where their definitions are to stand, and names from outside with their addresses
pub record PlaceInput : Type 0 where
  pub files : List (List ℕ)
  pub addresses : List DefAddress
  pub externs : List (List ℕ × ℕ)

-- the bytes of a text of hexadecimal digits
abbrev pub image_of : Data → Option (List ℕ)
image_of d = as_str d >>= λ text. result_ok (decode_of text)

-- the text at a place of a list
abbrev pub text_in : ℕ → Data → Option (List ℕ)
text_in place d = option_and_then as_str (at place d)

-- a row is a list of the image, the row of the symbol there, the address and the size
unfoldable pub address_of : Data → Option DefAddress
address_of d = ended_before 4 d do
  image ← number_in 0 d
  symbol ← u32_in 1 d
  address ← number_in 2 d
  size ← number_in 3 d
  Some (record { image = image; symbol = symbol; address = address; size = size })

-- a name from outside is a list of its text and its address
unfoldable pub extern_of : Data → Option (List ℕ × ℕ)
extern_of d = ended_before 2 d do
  text ← text_in 0 d
  address ← number_in 1 d
  Some (text, address)

-- what an object says of placement
unfoldable pub place_of : Data → Option PlaceInput
place_of d = with_keys (codes "images" ∷ codes "addresses" ∷ codes "externs" ∷ []) d do
  image_items ← items_at (codes "images") d
  files ← each_of image_of image_items
  address_items ← items_at (codes "addresses") d
  addresses ← each_of address_of address_items
  extern_items ← items_at (codes "externs") d
  externs ← each_of extern_of extern_items
  Some (record { files = files; addresses = addresses; externs = externs })
