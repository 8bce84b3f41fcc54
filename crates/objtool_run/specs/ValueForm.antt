-- Forms of JSON values that several objects have.
use Rattle.std.specs.Prelude.{ℕ, List, Option, Some}
use Rattle.serde_json.specs.Data.{Data, Items, no_items}
use Rattle.serde_json.specs.Find.{get, as_array}
use Rattle.json_form.specs.Form.{◌>>=◌, or_else, u32_in, ended_before}

-- the values of the list under a key, none where there is no such key
abbrev pub list_at : List ℕ → Data → Option Items
list_at key d = or_else as_array no_items (get key d)

-- two numbers of 32 bits
unfoldable pub pair_of : Data → Option (ℕ × ℕ)
pair_of d = ended_before 2 d do
  first ← u32_in 0 d
  second ← u32_in 1 d
  Some (first, second)
