-- Numbers that are written over contents, field by field.
use Rattle.std.proofs.Common.{◌≡◌, ℕ, zero, suc, ◌+◌, ◌-◌, ◌^◌, ◌<◌, ◌≤◌, ◌⊎◌, inl, inr, List, [], ◌∷◌, ◌++◌, length, take, drop, Bool, true, false, cond, ◌&&◌, nat_le, nat_lt, slice_get, Option, Some, None, refl, ap, sym, ◌∙◌, subst, arith}
use Rattle.std.specs.Prelude.{unwrap_or, slice_index_or, map}
use Rattle.std.specs.List.{enumerate_from, filter_map}
use Rattle.std.proofs.lemmas.Bool.{le-leb, lt-leb, lt-ltb, le-ltb}
use Rattle.std.proofs.lemmas.List.{length-take-le, map-append}
use Rattle.std.proofs.Math.Seq.{take-add}
use Rattle.byte_core.proofs.Lists.{get_left, get_right, get_exists, get_within, get_map, get_map_from}
use Rattle.byte_core.proofs.Numbers.{length-little_bytes}
use Rattle.ir_core.specs.MachO.{is_in_field}
use Rattle.object_core.specs.declared.relocation.Relocation.{Relocation}
use Rattle.object_core.specs.declared.relocation.RelocationFlags.{RelocationFlags}
use Rattle.object_core.specs.declared.relocation.RelocationFlags.TheVariants as flags
use Rattle.object_core.specs.Object.{SymbolData}
use Rattle.object_core.specs.WellFormed.{mach_width, AreApart}
use Rattle.object_core.specs.LinkTable.{MachRelocation, MachTableSection}
use Rattle.object_core.specs.MachRows.{mach_type_of, mach_length_of, mach_relocation}
use Rattle.object_macho.specs.Rows.{relocation_with, FitsField, FitFields, FieldsApart, IsRowOf}
use Rattle.object_macho.specs.Layout.{field_width, stored_bytes, stored_byte, byte_for, stored_contents}
use Rattle.object_macho.proofs.Behind.{length-stored_contents, take_next, take_front}

-- -- places of a list

get_take : {A : Type 0} (xs : List A) (n q : ℕ) (y : A) → q < n → slice_get xs q ≡ Some y → slice_get (take n xs) q ≡ Some y
get_take [] n q y h e = absurd (cc)
get_take (x ∷ xs) zero q y h e = absurd (omega (arith, h))
get_take (x ∷ xs) (suc n) zero y h e = e
get_take (x ∷ xs) (suc n) (suc q) y h e = get_take xs n q y (omega (arith, h)) e

get_drop : {A : Type 0} (xs : List A) (n q : ℕ) (y : A) → slice_get xs (n + q) ≡ Some y → slice_get (drop n xs) q ≡ Some y
get_drop [] n q y e = absurd (cc)
get_drop (x ∷ xs) zero q y e = let same : 0 + q ≡ q = omega arith in ap (slice_get (x ∷ xs)) (sym same) ∙ e
get_drop (x ∷ xs) (suc n) q y e = let same : suc n + q ≡ suc (n + q) = omega arith in get_drop xs n q y (ap (slice_get (x ∷ xs)) (sym same) ∙ e)

-- bytes that are put over others: those before, those there, those behind
pub put_before : (old bytes rest : List ℕ) (at q y : ℕ) → q < at → slice_get old q ≡ Some y → slice_get (take at old ++ (bytes ++ rest)) q ≡ Some y
put_before old bytes rest at q y h e = get_left (take at old) (bytes ++ rest) q y (get_take old at q y h e)

pub put_here : (old bytes rest : List ℕ) (at i q y : ℕ) → at ≤ length old → at + i ≡ q → slice_get bytes i ≡ Some y → slice_get (take at old ++ (bytes ++ rest)) q ≡ Some y
put_here old bytes rest at i q y h n e = get_right (take at old) (bytes ++ rest) i q y (get_left bytes rest i y e) (omega (arith, length-take-le at old h, n))

pub put_behind : (old bytes : List ℕ) (at q y : ℕ) → at + length bytes ≤ length old → at + length bytes ≤ q → slice_get old q ≡ Some y → slice_get (take at old ++ (bytes ++ drop (at + length bytes) old)) q ≡ Some y
put_behind old bytes at q y room h e =
    let n : ℕ = q - (at + length bytes) in
    let whole : at + length bytes + n ≡ q = omega (arith, h) in
    let there = get_drop old (at + length bytes) n y (ap (slice_get old) whole ∙ e) in
    let second = get_right bytes (drop (at + length bytes) old) n (length bytes + n) y there refl in
    get_right (take at old) (bytes ++ drop (at + length bytes) old) (length bytes + n) q y second (omega (arith, length-take-le at old (omega (arith, room)), whole))

-- -- the byte at a place

-- the first that gives a value gives that of the whole list
pub first_value : {A B : Type 0} (f : A → Option B) (xs : List A) (m : ℕ) (x : A) (b : B) → slice_get xs m ≡ Some x → f x ≡ Some b → ((k : ℕ) (y : A) → k < m → slice_get xs k ≡ Some y → f y ≡ None) → slice_get (filter_map f xs) 0 ≡ Some b
first_value f [] m x b e v none = absurd (cc)
first_value f (y ∷ ys) zero x b e v none = let same : y ≡ x = cc in rw (same, v) refl
first_value f (y ∷ ys) (suc m) x b e v none = rw (none 0 y (omega arith) refl) (first_value f ys m x b e v (λ k z h g. none (suc k) z (omega arith) g))

none_case : {A B : Type 0} (f : A → Option B) (x : A) (xs ys : List A) (o : Option B) → f x ≡ o → filter_map f xs ≡ filter_map f ys → filter_map f (x ∷ xs) ≡ filter_map f (x ∷ ys)
none_case f x xs ys None e h = rw e h
none_case f x xs ys (Some b) e h = rw e (ap (λ zs. b ∷ zs) h)

none_more : {A B : Type 0} (f : A → Option B) (xs : List A) (y : A) → f y ≡ None → filter_map f (xs ++ y ∷ []) ≡ filter_map f xs
none_more f [] y h = rw h refl
none_more f (x ∷ xs) y h = none_case f x (xs ++ y ∷ []) xs (f x) refl (none_more f xs y h)

get_index : {A : Type 0} (xs : List A) (i : ℕ) (d x : A) → slice_get xs i ≡ Some x → slice_index_or xs i d ≡ x
get_index [] i d x e = absurd (cc)
get_index (y ∷ ys) zero d x e = cc
get_index (y ∷ ys) (suc i) d x e = get_index ys i d x e

pub stored_here : (cputype p i : ℕ) (r : MachRelocation) (b : ℕ) → is_in_field cputype r.r_type ≡ true → r.offset + i ≡ p → i < field_width r → slice_get (stored_bytes r) i ≡ Some b → stored_byte cputype p r ≡ Some b
stored_here cputype p i r b kept place below e =
    let back : p - r.offset ≡ i = omega (arith, place) in
    rw (kept, le-leb r.offset p (omega (arith, place)), lt-ltb p (r.offset + field_width r) (omega (arith, place, below)), back, get_index (stored_bytes r) i 0 b e) refl

-- fields that share no byte
abbrev pub Apart : MachRelocation → MachRelocation → Type 0
Apart r q = (r.offset + field_width r ≤ q.offset) ⊎ (q.offset + field_width q ≤ r.offset)

no_both : (a b c : Bool) (n : Option ℕ) → (b && c) ≡ false → cond (a && (b && c)) n None ≡ None
no_both true b c n e = rw e refl
no_both false b c n e = refl

and_false : (a b : Bool) → b ≡ false → (a && b) ≡ false
and_false true b e = e
and_false false b e = refl

-- a field stores nothing at a place that is not its own
pub stored_outside : (cputype p : ℕ) (q : MachRelocation) → (p < q.offset) ⊎ (q.offset + field_width q ≤ p) → stored_byte cputype p q ≡ None
stored_outside cputype p q (inl h) = no_both (is_in_field cputype q.r_type) (nat_le q.offset p) (nat_lt p (q.offset + field_width q)) _ (rw (lt-leb q.offset p h) refl)
stored_outside cputype p q (inr h) =
    no_both (is_in_field cputype q.r_type) (nat_le q.offset p) (nat_lt p (q.offset + field_width q)) _ (and_false (nat_le q.offset p) (nat_lt p (q.offset + field_width q)) (le-ltb p (q.offset + field_width q) h))

pub stored_elsewhere : (cputype p : ℕ) (r q : MachRelocation) → Apart q r → r.offset ≤ p → p < r.offset + field_width r → stored_byte cputype p q ≡ None
stored_elsewhere cputype p r q (inl h) low high = stored_outside cputype p q (inr (omega (arith, h, low)))
stored_elsewhere cputype p r q (inr h) low high = stored_outside cputype p q (inl (omega (arith, h, high)))

none_kept : (cputype p : ℕ) (r : MachRelocation) → is_in_field cputype r.r_type ≡ false → stored_byte cputype p r ≡ None
none_kept cputype p r e = rw e refl

front_of : {A : Type 0} (xs ys : List A) (k : ℕ) (y : A) → k < length xs → slice_get (xs ++ ys) k ≡ Some y → slice_get xs k ≡ Some y
front_of [] ys k y h e = absurd (omega (arith, h))
front_of (x ∷ xs) ys zero y h e = e
front_of (x ∷ xs) ys (suc k) y h e = front_of xs ys k y (omega (arith, h)) e

from_take : {A : Type 0} (xs : List A) (n q : ℕ) (y : A) → slice_get (take n xs) q ≡ Some y → slice_get xs q ≡ Some y
from_take xs zero q y e = absurd (cc)
from_take [] (suc n) q y e = e
from_take (x ∷ xs) (suc n) zero y e = e
from_take (x ∷ xs) (suc n) (suc q) y e = from_take xs n q y e

-- one field more: its own bytes, and the others as before
pub byte_here : (cputype : ℕ) (rs : List MachRelocation) (r : MachRelocation) (p i b x : ℕ) → is_in_field cputype r.r_type ≡ true → r.offset + i ≡ p → i < field_width r → slice_get (stored_bytes r) i ≡ Some b
    → ((k : ℕ) (q : MachRelocation) → slice_get rs k ≡ Some q → Apart q r) → byte_for cputype (rs ++ r ∷ []) (p, x) ≡ b
byte_here cputype rs r p i b x kept place below e apart =
    let last = get_right rs (r ∷ []) 0 (length rs) r refl (omega arith) in
    let first = first_value (stored_byte cputype p) (rs ++ r ∷ []) (length rs) r b last (stored_here cputype p i r b kept place below e)
    (λ k q l g. stored_elsewhere cputype p r q (apart k q (front_of rs (r ∷ []) k q l g)) (omega (arith, place)) (omega (arith, place, below))) in
    ap (λ o. unwrap_or o x) first

pub byte_elsewhere : (cputype : ℕ) (rs : List MachRelocation) (r : MachRelocation) (p x : ℕ) → stored_byte cputype p r ≡ None → byte_for cputype (rs ++ r ∷ []) (p, x) ≡ byte_for cputype rs (p, x)
byte_elsewhere cputype rs r p x none = ap (λ (bs : List ℕ). unwrap_or (slice_get bs 0) x) (none_more (stored_byte cputype p) rs r none)

-- -- the bytes so far stand behind a place

-- each byte of the contents stands in the output as these relocations have it
pub record ArePatched (cputype start : ℕ) (rs : List MachRelocation) (contents out : List ℕ) : Type 0 where
  pub bytes : (p x : ℕ) → slice_get contents p ≡ Some x → slice_get out (start + p) ≡ Some (byte_for cputype rs (p, x))

pub patched_none : (cputype start : ℕ) (contents out front : List ℕ) → length front ≡ start → take (start + length contents) out ≡ front ++ contents → ArePatched cputype start [] contents out
patched_none cputype start contents out front n e = record {
  bytes = λ p x h.
      let there = get_right front contents p (start + p) x h (omega (arith, n)) in
      from_take out (start + length contents) (start + p) x (ap (λ xs. slice_get xs (start + p)) e ∙ there);
}

-- a relocation whose field keeps nothing
pub patched_other : (cputype start : ℕ) (rs : List MachRelocation) (r : MachRelocation) (contents out : List ℕ) → ArePatched cputype start rs contents out → is_in_field cputype r.r_type ≡ false → ArePatched cputype start (rs ++ r ∷ []) contents out
patched_other cputype start rs r contents out h other = record { bytes = λ p x e. h.bytes p x e ∙ ap (λ n. Some n) (sym (byte_elsewhere cputype rs r p x (none_kept cputype p r other))) }

place_case : (p o w : ℕ) → (p < o) ⊎ ((o + w ≤ p) ⊎ ((o ≤ p) × (p < o + w)))
place_case p o w = grind arith

-- a number that is put over a field
pub patched_field : (cputype start : ℕ) (rs : List MachRelocation) (r : MachRelocation) (contents old new : List ℕ) → ArePatched cputype start rs contents old → is_in_field cputype r.r_type ≡ true
    → ((k : ℕ) (q : MachRelocation) → slice_get rs k ≡ Some q → Apart q r) → r.offset + field_width r ≤ length contents → start + length contents ≤ length old
    → new ≡ take (start + r.offset) old ++ (stored_bytes r ++ drop (start + r.offset + length (stored_bytes r)) old) → ArePatched cputype start (rs ++ r ∷ []) contents new
patched_field cputype start rs r contents old new h kept apart inside room e =
    let width : length (stored_bytes r) ≡ field_width r = length-little_bytes (field_width r) _ in
    record {
      bytes = λ p x g.
          elim (place_case p r.offset (field_width r)) [
            | inl low ↦ (ap (λ xs. slice_get xs (start + p)) e
                ∙ put_before old (stored_bytes r) (drop (start + r.offset + length (stored_bytes r)) old) (start + r.offset) (start + p) _ (omega (arith, low)) (h.bytes p x g)
                ∙ ap (λ n. Some n) (sym (byte_elsewhere cputype rs r p x (stored_outside cputype p r (inl low)))))
            | inr (inl high) ↦ (ap (λ xs. slice_get xs (start + p)) e
                ∙ put_behind old (stored_bytes r) (start + r.offset) (start + p) _ (omega (arith, width, inside, room)) (omega (arith, width, high)) (h.bytes p x g)
                ∙ ap (λ n. Some n) (sym (byte_elsewhere cputype rs r p x (stored_outside cputype p r (inr high)))))
            | inr (inr here) ↦ (
                let i : ℕ = p - r.offset in
                let place : r.offset + i ≡ p = omega (arith, here.0) in
                let below : i < field_width r = omega (arith, here.1, place) in
                let b = get_exists (stored_bytes r) i (omega (arith, below, width)) in
                ap (λ xs. slice_get xs (start + p)) e
                ∙ put_here old (stored_bytes r) (drop (start + r.offset + length (stored_bytes r)) old) (start + r.offset) i (start + p) b.0 (omega (arith, inside, room)) (omega (arith, place)) b.1
                ∙ ap (λ n. Some n) (sym (byte_here cputype rs r p i b.0 x kept place below b.1 apart)))
          ];
    }

-- a list whose elements stand in another from a place on is that part of it
pub part_is : {A : Type 0} (xs ys : List A) (p : ℕ) → ((i n : ℕ) (y : A) → p + i ≡ n → slice_get ys i ≡ Some y → slice_get xs n ≡ Some y) → take (length ys) (drop p xs) ≡ ys
part_is xs [] p here = refl
part_is [] (y ∷ ys) zero here = absurd (let h = here 0 0 y refl refl in cc)
part_is (x ∷ xs) (y ∷ ys) zero here =
    let first : x ≡ y = (let h = here 0 0 y refl refl in cc) in
    ap (λ z. z ∷ take (length ys) (drop 0 xs)) first ∙ ap (λ zs. y ∷ zs) (part_is xs ys 0 (λ i n z e h. here (suc i) (suc n) z (omega (arith, e)) h))
part_is [] (y ∷ ys) (suc p) here = absurd (let h = here 0 (suc p) y (omega arith) refl in cc)
part_is (x ∷ xs) (y ∷ ys) (suc p) here = part_is xs (y ∷ ys) p (λ i n z e h. here i (suc n) z (omega (arith, e)) h)

pub get_enumerate : {X : Type 0} (a : ℕ) (xs : List X) (p : ℕ) (x : X) → slice_get xs p ≡ Some x → slice_get (enumerate_from a xs) p ≡ Some (a + p, x)
get_enumerate a [] p x h = absurd (cc)
get_enumerate {X} a (y ∷ ys) zero x h =
    let same : y ≡ x = cc in
    let place : a ≡ a + 0 = omega arith in
    ap (λ (z : X). Some (a, z)) same ∙ ap (λ n. Some (n, x)) place
get_enumerate a (y ∷ ys) (suc p) x h =
    let place : a + 1 + p ≡ a + suc p = omega arith in
    get_enumerate (a + 1) ys p x h ∙ ap (λ n. Some (n, x)) place

pub stored_at : (cputype : ℕ) (s : MachTableSection) (p x : ℕ) → slice_get s.contents p ≡ Some x → slice_get (stored_contents cputype s) p ≡ Some (byte_for cputype s.relocations (p, x))
unfolding stored_contents
stored_at cputype s p x h =
    let place : 0 + p ≡ p = omega arith in
    get_map (byte_for cputype s.relocations) (enumerate_from 0 s.contents) p (p, x) (get_enumerate 0 s.contents p x h ∙ ap (λ n. Some (n, x)) place)

-- once all relocations are in, the stored contents stand there
pub patched_whole : (cputype start : ℕ) (s : MachTableSection) (old out : List ℕ) → ArePatched cputype start s.relocations s.contents out → take start out ≡ take start old
    → take (start + length s.contents) out ≡ take start old ++ stored_contents cputype s
patched_whole cputype start s old out h same =
    let size = length-stored_contents cputype s in
    let stands = part_is out (stored_contents cputype s) start (λ i n y e g.
    (let within = get_within (stored_contents cputype s) i y g in
    let x = get_exists s.contents i (omega (arith, within, size)) in
    let told = h.bytes i x.0 x.1 in
    let is = stored_at cputype s i x.0 x.1 in
    ap (slice_get out) (sym e) ∙ told ∙ sym is ∙ g)) in
    take-add start (length s.contents) out ∙ ap (λ xs. xs ++ take (length s.contents) (drop start out)) same ∙ ap (λ n. take start old ++ take n (drop start out)) (sym size) ∙ ap (λ xs. take start old ++ xs) stands

-- -- one relocation more, in a loop

take-all-le : {A : Type 0} (n : ℕ) (xs : List A) → length xs ≤ n → take n xs ≡ xs
take-all-le zero [] h = refl
take-all-le zero (x ∷ xs) h = absurd (omega (arith, h))
take-all-le (suc n) [] h = refl
take-all-le (suc n) (x ∷ xs) h = ap (λ zs. x ∷ zs) (take-all-le n xs (omega (arith, h)))

take_take : {A : Type 0} (xs : List A) (n m : ℕ) → take n (take (n + m) xs) ≡ take n xs
take_take xs zero m = refl
take_take [] (suc n) m = let more : suc n + m ≡ suc (n + m) = omega arith in rw more refl
take_take (x ∷ xs) (suc n) m = let more : suc n + m ≡ suc (n + m) = omega arith in rw more (ap (λ zs. x ∷ zs) (take_take xs n m))

put_front : (old rest : List ℕ) (n m : ℕ) → n + m ≤ length old → take n (take (n + m) old ++ rest) ≡ take n old
put_front old rest n m h = take_front (take (n + m) old) rest n (omega (arith, length-take-le (n + m) old h)) ∙ take_take old n m

-- what a step writes: nothing, or the number over its field
pub record Steps (cputype start : ℕ) (r : Relocation) (old new : List ℕ) : Type 0 where
  pub kept : is_in_field cputype (mach_type_of r.flags) ≡ false → new ≡ old
  pub put : is_in_field cputype (mach_type_of r.flags) ≡ true → new ≡ take (start + r.offset) old ++ (stored_bytes (relocation_with 0 r) ++ drop (start + r.offset + length (stored_bytes (relocation_with 0 r))) old)

pub step_front : (cputype start size : ℕ) (r : Relocation) (old new : List ℕ) (b : Bool) → is_in_field cputype (mach_type_of r.flags) ≡ b → FitsField cputype size r → start + size ≤ length old → Steps cputype start r old new
    → take start new ≡ take start old
step_front cputype start size r old new true e f room s = ap (take start) (s.put e) ∙ put_front old (stored_bytes (relocation_with 0 r) ++ drop (start + r.offset + length (stored_bytes (relocation_with 0 r))) old) start r.offset (omega (arith, f.inside, room))
step_front cputype start size r old new false e f room s = ap (take start) (s.kept e)

pub width_is : (r : RelocationFlags) → (mach_length_of r ≡ 2) ⊎ (mach_length_of r ≡ 3) → mach_width r ≡ 2 ^ mach_length_of r
width_is (flags.Elf n) (inl h) = absurd (omega (arith, h))
width_is (flags.Elf n) (inr h) = absurd (omega (arith, h))
width_is (flags.MachO t p n) h = refl

pub apart_by : (r q : Relocation) (a b : ℕ) → mach_width r.flags ≡ a → mach_width q.flags ≡ b → AreApart r q → (r.offset + a ≤ q.offset) ⊎ (q.offset + b ≤ r.offset)
apart_by r q a b e f (inl h) = inl (omega (arith, h, e))
apart_by r q a b e f (inr h) = inr (omega (arith, h, f))

step_by : (cputype start : ℕ) (symbols : List SymbolData) (rs : List MachRelocation) (r : Relocation) (contents old new : List ℕ) (b : Bool) → is_in_field cputype (mach_type_of r.flags) ≡ b → ArePatched cputype start rs contents old
    → Steps cputype start r old new
    → FitsField cputype (length contents) r → start + length contents ≤ length old → ((k : ℕ) (q : MachRelocation) → slice_get rs k ≡ Some q → Apart q (mach_relocation symbols r)) → ArePatched cputype start (rs ++ mach_relocation symbols r ∷ []) contents new
step_by cputype start symbols rs r contents old new true e h s f room apart = patched_field cputype start rs (mach_relocation symbols r) contents old new h e apart f.inside room (s.put e)
step_by cputype start symbols rs r contents old new false e h s f room apart = patched_other cputype start rs (mach_relocation symbols r) contents new (subst (ArePatched cputype start rs contents) (sym (s.kept e)) h) e

pub patched_next : (cputype start : ℕ) (symbols : List SymbolData) (rs : List Relocation) (i : ℕ) (r : Relocation) (contents old new : List ℕ) → slice_get rs i ≡ Some r
    → ArePatched cputype start (map (mach_relocation symbols) (take i rs)) contents old → Steps cputype start r old new
    → FitFields cputype (length contents) rs → FieldsApart rs → start + length contents ≤ length old → ArePatched cputype start (map (mach_relocation symbols) (take (i + 1) rs)) contents new
patched_next cputype start symbols rs i r contents old new e h s fits apart room =
    let next : i + 1 ≡ suc i = omega arith in
    let more : map (mach_relocation symbols) (take (i + 1) rs) ≡ map (mach_relocation symbols) (take i rs) ++ mach_relocation symbols r ∷ [] = ap (λ n. map (mach_relocation symbols) (take n rs)) next ∙ ap (map (mach_relocation symbols)) (take_next rs i r e) ∙ map-append (mach_relocation symbols) (take i rs) (r ∷ []) in
    let f = fits i r e in
    let others : (k : ℕ) (q : MachRelocation) → slice_get (map (mach_relocation symbols) (take i rs)) k ≡ Some q → Apart q (mach_relocation symbols r) = λ k q g.
    (let x = get_map_from (mach_relocation symbols) (take i rs) k q g in
    let there = from_take rs i k x.0 x.1 in
    let below = get_within (take i rs) k x.0 x.1 in
    let earlier : k < i = omega (arith, below, length-take-le i rs (omega (arith, get_within rs i r e))) in
    let fx = fits k x.0 there in
    subst (λ (y : MachRelocation). Apart y (mach_relocation symbols r)) x.2 (apart_by x.0 r _ _ (width_is x.0.flags fx.length) (width_is r.flags f.length) (apart k i x.0 r earlier there e))) in
    rw more (step_by cputype start symbols (map (mach_relocation symbols) (take i rs)) r contents old new (is_in_field cputype (mach_type_of r.flags)) refl h s f room others)

-- once all are in
pub patched_end : (cputype start : ℕ) (symbols : List SymbolData) (rs : List Relocation) (i : ℕ) (contents old out : List ℕ) (s : MachTableSection) → length rs ≤ i
    → ArePatched cputype start (map (mach_relocation symbols) (take i rs)) contents out → IsRowOf contents rs symbols s
    → take start out ≡ take start old → take (start + length contents) out ≡ take start old ++ stored_contents cputype s
patched_end cputype start symbols rs i contents old out s h patched row same =
    let whole : map (mach_relocation symbols) (take i rs) ≡ s.relocations = ap (map (mach_relocation symbols)) (take-all-le i rs h) ∙ sym row.records in
    let bytes : ArePatched cputype start s.relocations s.contents out = subst (λ (xs : List ℕ). ArePatched cputype start s.relocations xs out) (sym row.bytes) (subst (λ (rs : List MachRelocation). ArePatched cputype start rs contents out) whole patched) in
    ap (λ (xs : List ℕ). take (start + length xs) out) (sym row.bytes) ∙ patched_whole cputype start s old out bytes same
