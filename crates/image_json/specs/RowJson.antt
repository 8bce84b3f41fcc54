-- How rows of tables are told as JSON: a row as a list of its numbers, names and contents in lower-case hexadecimal.
use Rattle.std.specs.Prelude.{ℕ, ℤ, Bool, List, ◌∷◌, flat_map}
use Rattle.hex.specs.Hex.{encode_lower}
use Rattle.serde_json.specs.Data.{Data, boolean, number, string, array}
use Rattle.serde_json.specs.Find.{of_integer}
use Rattle.serde_json.specs.View.{items_of}
use Rattle.serde_json.specs.Written.{compact_text}
use Rattle.json_form.specs.Written.{number_value}

-- bytes in hexadecimal
abbrev pub hex_value : List ℕ → Data
hex_value bytes = string (encode_lower bytes)

abbrev pub integer_value : ℤ → Data
integer_value z = number (of_integer z)

-- a truth value
abbrev pub flag_value : Bool → Data
flag_value flag = boolean flag

-- a list of these values
abbrev pub row_value : List Data → Data
row_value ds = array (items_of ds)

-- -- pieces

-- a number behind a comma
abbrev pub next_number : ℕ → List ℕ
next_number n = 44 ∷ compact_text (number_value n)

abbrev pub next_numbers : List ℕ → List ℕ
next_numbers numbers = flat_map next_number numbers

-- a truth value behind a comma
abbrev pub next_flag : Bool → List ℕ
next_flag flag = 44 ∷ compact_text (flag_value flag)
