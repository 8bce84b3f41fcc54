-- What a section text without a fault asks for has room in a Mach-O file.
use Rattle.std.proofs.Common.{◌≡◌, ℕ, ◌%◌, ◌==◌, ◌||◌, ◌&&◌, not, ◌≤◌, ◌∷◌, List, [], Bool, true, false, cond, codes, length, Option, Some, None, refl, ap, ◌∙◌, subst}
use Rattle.std.proofs.lemmas.Bool.{ltb-false}
use Rattle.std.proofs.lemmas.Nat.{or_mod}
use Rattle.std.proofs.lemmas.List.Elements.{All-nil, All-cons, All-head, All-tail}
use Rattle.std.specs.Prelude.{slice_get, option_map, unwrap_or, is_none, nat_lt, find, fold, bit_or, bytes_eq, Ok}
use Rattle.std.specs.Int.Bits.{or_zero_r}
use Rattle.std.specs.Option.{option_or}
use Rattle.std.specs.List.{All, list_all, slice_split, onto_first}
use Rattle.ir_core.specs.declared.target.BinaryFormat.TheVariants.{Macho}
use Rattle.object_core.specs.WellFormed.{has_zero_byte}
use Rattle.cranelift_module.specs.declared.error.SectionFault.{SectionFault}
use Rattle.cranelift_module.specs.declared.error.SectionFault.TheVariants.{SegmentLong, NoComma, SectionLong}
use Rattle.cranelift_module.specs.SectionText.{SectionText, section_types, section_attributes, number_named, parts_of_text, pieces_of, both_bits, with_attribute, type_in, attributes_in, fault_if, section_fault, unless, flags_in, section_by, section_text}
use Rattle.cranelift_object.proofs.ClassLaws.{All-slice_get, equal}

-- -- the parts of a text

abbrev IsFree : List ℕ → Type 0
IsFree text = has_zero_byte text ≡ false

free_head : (x : ℕ) (xs : List ℕ) → IsFree (x ∷ xs) → (x == 0) ≡ false
free_head x xs h = first (x == 0) (has_zero_byte xs) h where
  first : (a b : Bool) → (a || b) ≡ false → a ≡ false
  first true b h = absurd (cc)
  first false b h = refl

free_tail : (x : ℕ) (xs : List ℕ) → IsFree (x ∷ xs) → IsFree xs
free_tail x xs h = second (x == 0) (has_zero_byte xs) h where
  second : (a b : Bool) → (a || b) ≡ false → b ≡ false
  second true b h = absurd (cc)
  second false b h = h

onto_free : (x : ℕ) (parts : List (List ℕ)) → (x == 0) ≡ false → All IsFree parts → All IsFree (onto_first x parts)
onto_free x [] e all = All-cons IsFree (x ∷ []) [] (rw e refl) (All-nil IsFree)
onto_free x (part ∷ parts) e all = All-cons IsFree (x ∷ part) parts (rw (e, All-head IsFree part parts all) refl) (All-tail IsFree part parts all)

split_free_from : (x : ℕ) (parts : List (List ℕ)) (b : Bool) → (x == 0) ≡ false → All IsFree parts → All IsFree (cond b ([] ∷ parts) (onto_first x parts))
split_free_from x parts true e all = All-cons IsFree [] parts refl all
split_free_from x parts false e all = onto_free x parts e all

split_free : (cut : ℕ → Bool) (text : List ℕ) → IsFree text → All IsFree (slice_split cut text)
split_free cut [] h = All-cons IsFree [] [] refl (All-nil IsFree)
split_free cut (x ∷ text) h = split_free_from x (slice_split cut text) (cut x) (free_head x text h) (split_free cut text (free_tail x text h))

part_free : (parts : List (List ℕ)) (k : ℕ) (part : Option (List ℕ)) → All IsFree parts → slice_get parts k ≡ part → IsFree (unwrap_or part [])
part_free parts k None all e = refl
part_free parts k (Some part) all e = All-slice_get IsFree parts k part all e

-- -- types and attributes

abbrev Row : Type 0
Row = List ℕ × ℕ

both_left : (a b : Bool) → (a && b) ≡ true → a ≡ true
both_left true b h = refl
both_left false b h = absurd (cc)

both_right : (a b : Bool) → (a && b) ≡ true → b ≡ true
both_right true b h = h
both_right false b h = absurd (cc)

found_from : (test good : Row → Bool) (x y : Row) (rows : List Row) (b : Bool) → (list_all good rows ≡ true → find test rows ≡ Some y → good y ≡ true) → list_all good (x ∷ rows) ≡ true → cond b (Some x) (find test rows) ≡ Some y → good y ≡ true
found_from test good x y rows true more all h =
    let same : x ≡ y = cc in
    subst (λ (r : Row). good r ≡ true) same (both_left (good x) (list_all good rows) all)
found_from test good x y rows false more all h = more (both_right (good x) (list_all good rows) all) h

-- what holds of each row holds of one that is found
found_good : (test good : Row → Bool) (y : Row) (rows : List Row) → list_all good rows ≡ true → find test rows ≡ Some y → good y ≡ true
found_good test good y [] all h = absurd (cc)
found_good test good y (x ∷ rows) all h = found_from test good x y rows (test x) (found_good test good y rows) all h

not_true : (b : Bool) → not b ≡ true → b ≡ false
not_true true h = absurd (cc)
not_true false h = refl

-- a type of the table is not 0xc
is_contents_type : Row → Bool
is_contents_type row = not (row.1 % 256 == 0xc)

type_found : (found : Option Row) → ((y : Row) → found ≡ Some y → is_contents_type y ≡ true) → (unwrap_or (option_map (λ (row : Row). row.1) found) 0 % 256 == 0xc) ≡ false
unfolding is_contents_type
type_found None h = refl
type_found (Some y) h = not_true (y.1 % 256 == 0xc) (h y refl)

types_good : list_all is_contents_type section_types ≡ true
unfolding is_contents_type
types_good = refl

type_good : (type_name : Option (List ℕ)) → (unwrap_or (type_in type_name) 0 % 256 == 0xc) ≡ false
type_good type_name =
    let name : List ℕ = unwrap_or type_name (codes "regular") in
    type_found (find (λ (row : Row). bytes_eq name row.0) section_types) (λ y e. found_good (λ (row : Row). bytes_eq name row.0) is_contents_type y section_types types_good e)

-- an attribute has no bit among the lowest eight
is_high : Row → Bool
is_high row = row.1 % 256 == 0

attributes_good : list_all is_high section_attributes ≡ true
unfolding is_high
attributes_good = refl

abbrev IsHigh : Option ℕ → Type 0
IsHigh None = Unit {0}
IsHigh (Some bits) = bits % 256 ≡ 0

attribute_found : (found : Option Row) → ((y : Row) → found ≡ Some y → is_high y ≡ true) → IsHigh (option_map (λ (row : Row). row.1) found)
unfolding is_high
attribute_found None h = tt
attribute_found (Some y) h = equal (y.1 % 256) 0 (h y refl)

attribute_high : (name : List ℕ) → IsHigh (number_named section_attributes name)
attribute_high name = attribute_found (find (λ (row : Row). bytes_eq name row.0) section_attributes) (λ y e. found_good (λ (row : Row). bytes_eq name row.0) is_high y section_attributes attributes_good e)

or_low : (a b : ℕ) → bit_or a b % 256 ≡ bit_or (a % 256) (b % 256)
or_low a b = or_mod a b 8

both_high : (a b : Option ℕ) → IsHigh a → IsHigh b → IsHigh (both_bits a b)
both_high None b h k = tt
both_high (Some a) None h k = tt
both_high (Some a) (Some b) h k = or_low a b ∙ ap (λ n. bit_or n (b % 256)) h ∙ k

all_high : (names : List (List ℕ)) (bits : Option ℕ) → IsHigh bits → IsHigh (fold with_attribute bits names)
all_high [] bits h = h
all_high (name ∷ names) bits h = all_high names (with_attribute bits name) (both_high bits (number_named section_attributes name) h (attribute_high name))

held_high : (bits : Option ℕ) → IsHigh bits → unwrap_or bits 0 % 256 ≡ 0
held_high None h = refl
held_high (Some bits) h = h

attributes_high : (attributes : Option (List ℕ)) → unwrap_or (attributes_in attributes) 0 % 256 ≡ 0
attributes_high attributes = held_high (attributes_in attributes) (all_high (pieces_of attributes) (Some 0) refl)

flags_good : (type_name attributes : Option (List ℕ)) → (flags_in type_name attributes % 256 == 0xc) ≡ false
flags_good type_name attributes =
    let t : ℕ = unwrap_or (type_in type_name) 0 in
    let a : ℕ = unwrap_or (attributes_in attributes) 0 in
    let low : bit_or t a % 256 ≡ t % 256 = or_low t a ∙ ap (bit_or (t % 256)) (attributes_high attributes) ∙ or_zero_r (t % 256) in
    ap (λ n. n == 0xc) low ∙ type_good type_name

-- -- the whole

fault_free : (test : Bool) (fault : SectionFault) → fault_if test fault ≡ None → test ≡ false
fault_free true fault h = absurd (cc)
fault_free false fault h = refl

both_free : (a b : Option SectionFault) → option_or a b ≡ None → (a ≡ None) × (b ≡ None)
both_free None b h = (refl, h)
both_free (Some fault) b h = absurd (cc)

unless_ok : (fault : Option SectionFault) (answer asked : SectionText) → unless fault answer ≡ Ok asked → (fault ≡ None) × (answer ≡ asked)
unless_ok None answer asked h = (refl, cc)
unless_ok (Some fault) answer asked h = absurd (cc)

-- a section's segment and name have room, and its type is not S_GB_ZEROFILL 0xc
pub record HasRoomFor (asked : SectionText) : Type 0 where
  pub segment_free : has_zero_byte asked.segment ≡ false
  pub name_free : has_zero_byte asked.name ≡ false
  pub segment_room : length asked.segment ≤ 16
  pub name_room : length asked.name ≤ 16
  pub flags : (asked.flags % 256 == 0xc) ≡ false

has_room_by : (segment : List ℕ) (name type_name attributes : Option (List ℕ)) (has_more : Bool) (asked : SectionText) → IsFree segment → IsFree (unwrap_or name []) → section_by segment name type_name attributes has_more ≡ Ok asked → HasRoomFor asked
has_room_by segment name type_name attributes has_more asked free named h =
    let answer : SectionText = record { segment = segment; name = unwrap_or name []; flags = flags_in type_name attributes } in
    let parts = unless_ok (section_fault segment name type_name attributes has_more) answer asked h in
    let first = both_free (fault_if (nat_lt 16 (length segment)) SegmentLong) _ parts.0 in
    let second = both_free (fault_if (is_none name) NoComma) _ first.1 in
    let third = both_free (fault_if (nat_lt 16 (length (unwrap_or name []))) SectionLong) _ second.1 in
    let long = ltb-false 16 (length segment) (fault_free (nat_lt 16 (length segment)) SegmentLong first.0) in
    let name_long = ltb-false 16 (length (unwrap_or name [])) (fault_free (nat_lt 16 (length (unwrap_or name []))) SectionLong third.0) in
    subst HasRoomFor parts.1 (record { segment_free = free; name_free = named; segment_room = long; name_room = name_long; flags = flags_good type_name attributes })

-- what a text without zero bytes asks for
pub text_room : (text : List ℕ) (asked : SectionText) → has_zero_byte text ≡ false → section_text Macho text ≡ Ok asked → HasRoomFor asked
text_room text asked free h =
    let parts : List (List ℕ) = parts_of_text text in
    let all = split_free (λ x. x == 44) text free in
    has_room_by (unwrap_or (slice_get parts 0) []) (slice_get parts 1) (slice_get parts 2) (slice_get parts 3) (nat_lt 4 (length parts)) asked (part_free parts 0 (slice_get parts 0) all refl) (part_free parts 1 (slice_get parts 1) all refl) h
