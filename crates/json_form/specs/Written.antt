-- Pieces of which JSON values are made.
use Rattle.std.specs.Prelude.{ℕ, ◌&&◌, Bool, true, false, List, [], ◌∷◌, map, Option, Some, None}
use Rattle.std.specs.Ordering.{nat_cmp, match_ordering}
use Rattle.std.specs.Cmp.Lexicographic.{slice_cmp}
use Rattle.hex.specs.Hex.{encode_lower}
use Rattle.serde_json.specs.Data.{Data, null, number, unsigned, string, array, Members, no_members, member}
use Rattle.serde_json.specs.View.{items_of}
use Rattle.json_form.specs.declared.write.NumberMember.{NumberMember}

abbrev pub number_value : ℕ → Data
number_value n = number (unsigned n)

-- a number, or null where there is none
abbrev pub number_or_null : Option ℕ → Data
number_or_null None = null
number_or_null (Some n) = number_value n

-- bytes in lower-case hexadecimal, or null where there are none
abbrev pub hex_or_null : Option (List ℕ) → Data
hex_or_null None = null
hex_or_null (Some bytes) = string (encode_lower bytes)

-- a list of values, each written in this way
abbrev pub list_value : {A : Type 0} → (A → Data) → List A → Data
list_value write xs = array (items_of (map write xs))

-- members in this order, each a number or null
unfoldable pub number_members : List (List ℕ × Option ℕ) → Members
number_members [] = no_members
number_members (field ∷ fields) = member field.0 (number_or_null field.1) (number_members fields)

-- a key stands before another in the order of bytes
abbrev pub is_below : List ℕ → List ℕ → Bool
is_below k l = match_ordering (slice_cmp nat_cmp k l) true false false

-- each key stands before the next
unfoldable pub are_ascending : List (List ℕ × Option ℕ) → Bool
are_ascending [] = true
are_ascending (field ∷ []) = true
are_ascending (field ∷ next ∷ fields) = is_below field.0 next.0 && are_ascending (next ∷ fields)

-- the key and the number of a member
abbrev pub number_field : NumberMember → List ℕ × Option ℕ
number_field m = (m.key.now, m.number)
