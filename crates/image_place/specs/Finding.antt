-- How placement finds address rows.
use Rattle.std.specs.Prelude.{◌≡◌, ℕ, ◌+◌, ◌*◌, ◌<◌, ◌==◌, ◌&&◌, ◌∷◌, [], Bool, true, false, List, slice_get, Some}
use Rattle.std.specs.Option.{option_or}
use Rattle.std.specs.BTreeMap.{BTreeMap, get}
use Rattle.std.specs.Ordering.{nat_cmp}
use Rattle.image_place.specs.Placed.{AddressRow, row_for}

-- a number for a row of an image; rows have 32 bits
abbrev pub row_key : ℕ → ℕ → ℕ
row_key image symbol = image * 4294967296 + symbol

-- a map finds the first address row of each symbol
abbrev pub FindsRows : BTreeMap ℕ AddressRow → List AddressRow → Type 0
FindsRows first rows = (image symbol : ℕ) → symbol < 4294967296 → get nat_cmp first (row_key image symbol) ≡ row_for rows image symbol

-- the row of a symbol
abbrev pub is_row : ℕ → ℕ → AddressRow → Bool
is_row q s a = a.image == q && a.symbol == s

-- rows ascend by image and symbol
abbrev pub AreOrdered : List AddressRow → Type 0
AreOrdered rows = (i j : ℕ) (a b : AddressRow) → i < j → slice_get rows i ≡ Some a → slice_get rows j ≡ Some b → row_key a.image a.symbol < row_key b.image b.symbol

-- rows that ascend are found by themselves, and others by the map
abbrev pub FindsBy : Bool → BTreeMap ℕ AddressRow → List AddressRow → Type 0
FindsBy ordered first rows = (ordered ≡ true → AreOrdered rows) × (ordered ≡ false → FindsRows first rows)

-- a map has one row more, unless it has one of its symbol
abbrev pub NotesRow : BTreeMap ℕ AddressRow → BTreeMap ℕ AddressRow → AddressRow → Type 0
NotesRow old new row = (image symbol : ℕ) → symbol < 4294967296 → get nat_cmp new (row_key image symbol) ≡ option_or (get nat_cmp old (row_key image symbol)) (row_for (row ∷ []) image symbol)
