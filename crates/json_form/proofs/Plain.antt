-- Values without floats, whose texts are exact.
use Rattle.std.proofs.Common.{◌≡◌, ℕ, Bool, true, false, ◌||◌, List, [], ◌∷◌, map, Option, Some, None, Ordering, Less, Equal, Greater, nat_cmp, refl, ap, ◌∙◌}
use Rattle.std.specs.Cmp.Lexicographic.{slice_cmp}
use Rattle.std.specs.Ordering.{match_ordering}
use Rattle.serde_json.specs.Data.{Data, Members, no_members, member, put}
use Rattle.serde_json.specs.View.{items_of}
use Rattle.serde_json.specs.Written.{has_float, items_have_float, members_have_float, compact_text}
use Rattle.json_form.specs.Written.{number_value, number_or_null, hex_or_null, list_value, number_members}

pub items_plain : {A : Type 0} (write : A → Data) → ((x : A) → has_float (write x) ≡ false) → (xs : List A) → items_have_float (items_of (map write xs)) ≡ false
items_plain write none [] = refl
items_plain write none (x ∷ xs) = rw (none x, items_plain write none xs) refl

pub list_plain : {A : Type 0} (write : A → Data) → ((x : A) → has_float (write x) ≡ false) → (xs : List A) → has_float (list_value write xs) ≡ false
list_plain write none xs = items_plain write none xs

number_plain : (n : ℕ) → has_float (number_value n) ≡ false
number_plain n = refl

pub numbers_plain : (ns : List ℕ) → has_float (list_value number_value ns) ≡ false
numbers_plain ns = list_plain number_value number_plain ns

pub optional_plain : (o : Option ℕ) → has_float (number_or_null o) ≡ false
optional_plain None = refl
optional_plain (Some n) = refl

pub hex_plain : (o : Option (List ℕ)) → has_float (hex_or_null o) ≡ false
hex_plain None = refl
hex_plain (Some bytes) = refl

pub members_plain : (fields : List (List ℕ × Option ℕ)) → members_have_float (number_members fields) ≡ false
unfolding number_members
members_plain [] = refl
members_plain (field ∷ fields) = rw (optional_plain field.1, members_plain fields) refl

neither : (a b : Bool) → (a || b) ≡ false → (a ≡ false) × (b ≡ false)
neither true b h = absurd (cc)
neither false b h = (refl, h)

one_of : (o : Ordering) (a b c : Members) → members_have_float a ≡ false → members_have_float b ≡ false → members_have_float c ≡ false → members_have_float (match_ordering o a b c) ≡ false
one_of Less a b c f g h = f
one_of Equal a b c f g h = g
one_of Greater a b c f g h = h

-- one more member without a float
pub put_plain : (k : List ℕ) (d : Data) (ms : Members) → has_float d ≡ false → members_have_float ms ≡ false → members_have_float (put k d ms) ≡ false
put_plain k d no_members one none = rw one refl
put_plain k d (member l e ms) one none =
    let p = neither (has_float e) (members_have_float ms) none in
    one_of (slice_cmp nat_cmp k l) (member k d (member l e ms)) (member l d ms) (member l e (put k d ms)) (rw (one, none) refl) (rw (one, p.1) refl) (rw (p.0, put_plain k d ms one p.1) refl)

-- the exact text of a value without floats
pub exact_text : (v d : Data) (text : List ℕ) → v ≡ d → has_float d ≡ false → (has_float v ≡ false → text ≡ compact_text v) → text ≡ compact_text d
exact_text v d text is none exact = exact (ap has_float is ∙ none) ∙ ap compact_text is
