-- Reading a form from a JSON value: what it gives, or none. Memory may run out instead.
use Rattle.std.specs.Prelude.{◌≡◌, ℕ, ◌^◌, ◌&&◌, nat_lt, Bool, true, false, List, [], ◌∷◌, if◌then◌else◌, Option, Some, None, is_some, option_map, option_and_then, Result, Ok, Err}
use Rattle.std.specs.List.{list_any}
use Rattle.std.specs.Option.{option_map_or}
use Rattle.std.specs.Result.{result_ok}
use Rattle.std.specs.Str.{bytes_eq}
use Rattle.hex.specs.Hex.{decode_of}
use Rattle.serde_json.specs.Data.{Data, Items, no_items, item, Members, no_members, member}
use Rattle.serde_json.specs.Find.{get, at, as_null, as_bool, as_str, as_number, as_u64, as_object, as_array}
use Rattle.json_form.specs.declared.form_error.FormError.{FormError}
use Rattle.json_form.specs.declared.form_error.FormError.TheVariants.{NotForm, OutOfMemory}

infixl 10 ◌>>=◌
abbrev pub ◌>>=◌ : {A B : Type 0} → Option A → (A → Option B) → Option B
None >>= f = None
(Some x) >>= f = f x

-- what an error says of the form
abbrev pub Fails : {Y : Type 0} → FormError → Option Y → Type 0
Fails NotForm form = form ≡ None
Fails OutOfMemory form = Unit {0}

-- what was taken out, seen by view, is what the form gives, unless memory ran out
abbrev pub Gives : {X Y : Type 0} → (X → Y) → Result X FormError → Option Y → Type 0
Gives view (Ok x) form = form ≡ Some (view x)
Gives view (Err e) form = Fails e form

-- -- numbers

-- an unsigned integer of at most 64 bits
abbrev pub number_of : Data → Option ℕ
number_of d = option_and_then as_u64 (as_number d)

-- a number of 32 bits
abbrev pub within_u32 : ℕ → Option ℕ
within_u32 n = if nat_lt n (2 ^ 32) then Some n else None

-- -- objects

-- the object has no other keys
abbrev pub keys_within : List (List ℕ) → Members → Bool
keys_within keys no_members = true
keys_within keys (member k d ms) = list_any (bytes_eq k) keys && keys_within keys ms

-- the value is an object without other keys
abbrev pub has_keys_within : List (List ℕ) → Data → Bool
has_keys_within keys d = option_map_or (keys_within keys) (as_object d) false

abbrev pub with_keys : {A : Type 0} → List (List ℕ) → Data → Option A → Option A
with_keys keys d form = if has_keys_within keys d then form else None

-- what is read from the value under a key, or this where there is none
abbrev pub or_else : {A : Type 0} → (Data → Option A) → A → Option Data → Option A
or_else read missing None = Some missing
or_else read missing (Some d) = read d

-- none where the value is null, else what is read from it
abbrev pub unless_null : {A : Type 0} → (Data → Option A) → Data → Option (Option A)
unless_null read d = if is_some (as_null d) then Some None else option_map (λ a. Some a) (read d)

-- the text, the number, the list, the truth value under a key
abbrev pub text_at : List ℕ → Data → Option (List ℕ)
text_at key d = option_and_then as_str (get key d)

abbrev pub number_at : List ℕ → Data → Option ℕ
number_at key d = option_and_then as_u64 (option_and_then as_number (get key d))

abbrev pub items_at : List ℕ → Data → Option Items
items_at key d = option_and_then as_array (get key d)

abbrev pub mark_at : List ℕ → Data → Option Bool
mark_at key d = option_and_then as_bool (get key d)

-- a text, or none where the value is null
abbrev pub text_or_null : Data → Option (Option (List ℕ))
text_or_null d = unless_null as_str d

-- the text under a key, or none where null is there
abbrev pub name_at : List ℕ → Data → Option (Option (List ℕ))
name_at key d = get key d >>= λ value. text_or_null value

-- the number of 32 bits under a key
abbrev pub u32_at : List ℕ → Data → Option ℕ
u32_at key d = number_at key d >>= λ n. within_u32 n

-- the truth value under a key, or this where there is none
abbrev pub mark_or : List ℕ → Bool → Data → Option Bool
mark_or key missing d = or_else as_bool missing (get key d)

-- the bytes of a text of hexadecimal digits
abbrev pub hex_at : List ℕ → Data → Option (List ℕ)
hex_at key d = text_at key d >>= λ text. result_ok (decode_of text)

-- -- lists

-- the number at a place
abbrev pub number_in : ℕ → Data → Option ℕ
number_in place d = option_and_then as_u64 (option_and_then as_number (at place d))

-- the number of 32 bits at a place
abbrev pub u32_in : ℕ → Data → Option ℕ
u32_in place d = number_in place d >>= λ n. within_u32 n

-- the value is a list that reaches a place
abbrev pub has_item : ℕ → Data → Bool
has_item place d = is_some (at place d)

-- what is read from a list that ends before a place
abbrev pub ended_before : {A : Type 0} → ℕ → Data → Option A → Option A
ended_before place d form = if has_item place d then None else form

-- what is read from each value of a list, where each gives something
unfoldable pub each_of : {A : Type 0} → (Data → Option A) → Items → Option (List A)
each_of read no_items = Some []
each_of read (item d ds) = read d >>= λ a. each_of read ds >>= λ rest. Some (a ∷ rest)
