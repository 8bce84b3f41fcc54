-- The addends of a section are read back.
use Rattle.std.proofs.Common.{◌≡◌, ◌≢◌, ℕ, zero, suc, ◌+◌, ◌-◌, ◌*◌, ◌%◌, ◌^◌, ◌<◌, ◌≤◌, ◌==◌, ◌&&◌, ◌||◌, Bool, true, false, cond, nat_lt, List, [], ◌∷◌, ◌++◌, length, take, drop, map, slice_get, Some, None, refl, ap, sym, ◌∙◌, subst, arith, ◌⊎◌, inl, inr, ℤ, pos, negsuc, ◌+ℤ◌}
use lib.IntN.{+ℤ_assoc, +ℤ_idr}
use Rattle.std.specs.Prelude.{flat_map, unwrap_or}
use Rattle.std.specs.List.{All}
use Rattle.std.specs.Int.{cast_unsigned, w32, w64}
use Rattle.std.proofs.lemmas.Bool.{ltb-true, le-ltb, eqb-true, eqb-false, ne_eqb}
use Rattle.std.proofs.lemmas.List.{length-append}
use Rattle.byte_core.specs.Number.{bytes_at, number_at, little_number, little_bytes}
use Rattle.byte_core.proofs.Lists.{get_left, get_right, get_exists, get_within, get_map, get_map_from}
use Rattle.byte_core.proofs.Numbers.{length-little_bytes, little_number-little_bytes}
use Rattle.ir_core.specs.MachO.{x86_64_cputype, mach_cputype, is_in_field, is_in_record, stored_number, is_within, is_zero_addend, has_room}
use Rattle.ir_core.specs.declared.reloc.Reloc.{Reloc}
use Rattle.ir_core.specs.declared.target.Architecture.{Architecture}
use Rattle.object_core.specs.declared.relocation.Relocation.{Relocation}
use Rattle.object_core.specs.declared.relocation.RelocationFlags.{RelocationFlags}
use Rattle.object_core.specs.declared.relocation.RelocationFlags.TheVariants as flags
use Rattle.object_core.specs.Object.{SectionData, ObjectData}
use Rattle.object_core.specs.WellFormed.{HasMachKind, addend_has_room, IsFormedMachRelocation, IsFormedMachSection, IsFormedMacho}
use Rattle.object_core.specs.MachRows.{header_order, mach_type_of, mach_pcrel_of, mach_length_of, mach_relocation, mach_section, macho_table_of}
use Rattle.object_core.specs.LinkTable.{MachRelocation, MachTableSection, MachTable}
use Rattle.image_read.specs.MachFile.{MachRelocationRow}
use Rattle.image_read.specs.MachImage.{MachSectionData, MachImageData, MachReads}
use Rattle.object_macho.specs.Layout.{field_width, number_width, stored_bytes, stored_contents, record_for, addend_record, stored_byte, wants_record, records_for, records_of}
use Rattle.object_macho.specs.Addends.{signed_of, number_in_field, addend_kept, record_before, addend_by, addend_read}
use Rattle.object_macho.specs.Fitting.{FitsMach}
use Rattle.object_macho.specs.MachHolds.{MachHolds}
use Rattle.object_macho.specs.TableImage.{section_shown, image_for}
use Rattle.object_macho.specs.AddendLaw.{record_number, KeepsAddend, KeepsAddends, FieldsShareNone, ShowsRelocations}
use Rattle.object_macho.proofs.OfBytes.{held_image}
use Rattle.object_macho.proofs.Behind.{take_next}
use Rattle.object_macho.proofs.Fit.{ordered_from}
use Rattle.object_macho.proofs.Moments.{moment_from}
use Rattle.object_macho.proofs.SmallKinds.{small_kind}
use Rattle.object_macho.proofs.Patching.{Apart, first_value, stored_here, stored_elsewhere, stored_at, part_is, width_is, apart_by}

-- -- a number is read back from its bytes

abbrev bits_of : ℕ → ℤ → ℕ
bits_of whole (pos n) = n
bits_of whole (negsuc n) = whole - suc n

sign_back : (half whole : ℕ) (z : ℤ) → whole ≡ half + half → is_within half z ≡ true → cond (nat_lt (bits_of whole z) half) (pos (bits_of whole z)) (negsuc (whole - suc (bits_of whole z))) ≡ z
sign_back half whole (pos n) e h = rw h refl
sign_back half whole (negsuc k) e h =
    let below = ltb-true k half h in
    let back : whole - suc (whole - suc k) ≡ k = omega (arith, e, below) in
    rw (le-ltb (whole - suc k) half (omega (arith, e, below))) (ap negsuc back)

bits_fit : (half whole : ℕ) (z : ℤ) → whole ≡ half + half → is_within half z ≡ true → bits_of whole z < whole
bits_fit half whole (pos n) e h = omega (arith, e, ltb-true n half h)
bits_fit half whole (negsuc k) e h = omega (arith, e, ltb-true k half h)

bits_32 : (z : ℤ) → cast_unsigned w32 z ≡ bits_of 4294967296 z
bits_32 (pos n) = refl
bits_32 (negsuc n) = refl

bits_64 : (z : ℤ) → cast_unsigned w64 z ≡ bits_of 18446744073709551616 z
bits_64 (pos n) = refl
bits_64 (negsuc n) = refl

number_32 : (z : ℤ) → is_within 2147483648 z ≡ true → signed_of 32 (little_number (little_bytes 4 (cast_unsigned w32 z))) ≡ z
number_32 z h = rw (bits_32 z, little_number-little_bytes 4 (bits_of 4294967296 z) (bits_fit 2147483648 4294967296 z refl h)) (sign_back 2147483648 4294967296 z refl h)

number_64 : (z : ℤ) → is_within 9223372036854775808 z ≡ true → signed_of 64 (little_number (little_bytes 8 (cast_unsigned w64 z))) ≡ z
number_64 z h = rw (bits_64 z, little_number-little_bytes 8 (bits_of 18446744073709551616 z) (bits_fit 9223372036854775808 18446744073709551616 z refl h)) (sign_back 9223372036854775808 18446744073709551616 z refl h)

number_back : (n : ℕ) (z : ℤ) → (n ≡ 2) ⊎ (n ≡ 3) → is_within (2 ^ (8 * 2 ^ n - 1)) z ≡ true → signed_of (8 * 2 ^ n) (little_number (little_bytes (2 ^ n) (cast_unsigned (number_width n) z))) ≡ z
number_back n z (inl e) h = rw e (number_32 z (rw e at h))
number_back n z (inr e) h = rw e (number_64 z (rw e at h))

low_24 : (z : ℤ) → is_within 8388608 z ≡ true → cast_unsigned w32 z % 2 ^ 24 ≡ bits_of 16777216 z
low_24 (pos n) h = omega (arith, ltb-true n 8388608 h)
low_24 (negsuc k) h = omega (arith, ltb-true k 8388608 h)

-- an addend of 24 bits is read back from the record before
kept_back : (r : MachRelocation) → is_within (2 ^ 23) r.addend ≡ true → addend_kept (Some (addend_record r)) ≡ r.addend
kept_back r h = rw (low_24 r.addend h) (sign_back 8388608 16777216 r.addend refl h)

-- an addend in a field
plain_back : (pcrel ends : Bool) (addend : ℤ) → (pcrel ≡ true → ends ≡ true) → cond (pcrel && ends) (stored_number pcrel addend +ℤ negsuc 3) (stored_number pcrel addend) ≡ addend
plain_back true true addend h = +ℤ_assoc addend (pos 4) (negsuc 3) ∙ +ℤ_idr addend
plain_back true false addend h = absurd (let e : false ≡ true = h refl in cc)
plain_back false ends addend h = refl

field_back : (cputype : ℕ) (contents : List ℕ) (r : MachRelocation) → (r.length ≡ 2) ⊎ (r.length ≡ 3) → number_at contents r.offset (2 ^ r.length) ≡ little_number (stored_bytes r) → (r.pcrel ≡ true → (cputype == x86_64_cputype) ≡ true)
    → is_within (2 ^ (8 * 2 ^ r.length - 1)) (stored_number r.pcrel r.addend) ≡ true → number_in_field cputype contents (record_for r) ≡ r.addend
field_back cputype contents r wide e ends fits =
    let number = ap (signed_of (8 * 2 ^ r.length)) e ∙ number_back r.length (stored_number r.pcrel r.addend) wide fits in
    rw number (plain_back r.pcrel (cputype == x86_64_cputype) r.addend ends)

-- -- records at their places

flat_at : {A B : Type 0} (f : A → List B) (xs : List A) (m j : ℕ) (x : A) (y : B) → slice_get xs m ≡ Some x → slice_get (f x) j ≡ Some y → slice_get (flat_map f xs) (length (flat_map f (take m xs)) + j) ≡ Some y
flat_at f [] m j x y e h = absurd (cc)
flat_at f (z ∷ xs) zero j x y e h =
    let same : z ≡ x = cc in
    let none : 0 + j ≡ j = omega arith in
    ap (slice_get (f z ++ flat_map f xs)) none ∙ get_left (f z) (flat_map f xs) j y (rw same h)
flat_at f (z ∷ xs) (suc m) j x y e h = get_right (f z) (flat_map f xs) (length (flat_map f (take m xs)) + j) _ y (flat_at f xs m j x y e h) (omega (arith, length-append (f z) (flat_map f (take m xs))))

-- the last of what is written up to a relocation is its record
last_of : (cputype : ℕ) (r : MachRelocation) (b : Bool) → wants_record cputype r ≡ b → slice_get (records_for cputype r) (length (records_for cputype r) - 1) ≡ Some (record_for r)
last_of cputype r true e = rw e refl
last_of cputype r false e = rw e refl

some_records : (cputype : ℕ) (r : MachRelocation) (b : Bool) → wants_record cputype r ≡ b → 0 < length (records_for cputype r)
some_records cputype r true e = rw e (omega arith)
some_records cputype r false e = rw e (omega arith)

take_one : {A : Type 0} (xs : List A) (m : ℕ) (x : A) → slice_get xs m ≡ Some x → take (m + 1) xs ≡ take m xs ++ x ∷ []
take_one xs m x e = let next : m + 1 ≡ suc m = omega arith in ap (λ n. take n xs) next ∙ take_next xs m x e

flat_end : {A B : Type 0} (f : A → List B) (xs : List A) (x : A) → length (flat_map f (xs ++ x ∷ [])) ≡ length (flat_map f xs) + length (f x)
flat_end f [] x = omega (arith, length-append (f x) [])
flat_end f (y ∷ ys) x = omega (arith, length-append (f y) (flat_map f (ys ++ x ∷ [])), length-append (f y) (flat_map f ys), flat_end f ys x)

-- how many records stand up to relocation m
up_to : (cputype : ℕ) (rs : List MachRelocation) (m : ℕ) (r : MachRelocation) → slice_get rs m ≡ Some r
    → length (flat_map (records_for cputype) (take (m + 1) rs)) ≡ length (flat_map (records_for cputype) (take m rs)) + length (records_for cputype r)
up_to cputype rs m r e = ap (λ xs. length (flat_map (records_for cputype) xs)) (take_one rs m r e) ∙ flat_end (records_for cputype) (take m rs) r

record_at : (cputype : ℕ) (rs : List MachRelocation) (m : ℕ) (r : MachRelocation) → slice_get rs m ≡ Some r → slice_get (flat_map (records_for cputype) rs) (record_number cputype rs m) ≡ Some (record_for r)
record_at cputype rs m r e =
    let last = last_of cputype r (wants_record cputype r) refl in
    let there = flat_at (records_for cputype) rs m (length (records_for cputype r) - 1) r (record_for r) e last in
    let some = some_records cputype r (wants_record cputype r) refl in
    let place : length (flat_map (records_for cputype) (take m rs)) + (length (records_for cputype r) - 1) ≡ record_number cputype rs m = omega (arith, up_to cputype rs m r e, some) in
    ap (slice_get (flat_map (records_for cputype) rs)) (sym place) ∙ there

-- -- the bytes of a field

field_bytes_back : (cputype : ℕ) (s : MachTableSection) (m : ℕ) (r : MachRelocation) → slice_get s.relocations m ≡ Some r → is_in_field cputype r.r_type ≡ true → r.offset + field_width r ≤ length s.contents
    → ((k : ℕ) (q : MachRelocation) → k < m → slice_get s.relocations k ≡ Some q → Apart q r) → bytes_at (stored_contents cputype s) r.offset (field_width r) ≡ stored_bytes r
unfolding bytes_at
field_bytes_back cputype s m r e kept inside apart =
    let width : length (stored_bytes r) ≡ field_width r = length-little_bytes (field_width r) _ in
    let byte : (i n b : ℕ) → r.offset + i ≡ n → slice_get (stored_bytes r) i ≡ Some b → slice_get (stored_contents cputype s) n ≡ Some b = λ i n b place h.
    (let below : i < field_width r = omega (arith, get_within (stored_bytes r) i b h, width) in
    let there = get_exists s.contents n (omega (arith, place, below, inside)) in
    let first = first_value (stored_byte cputype n) s.relocations m r b e (stored_here cputype n i r b kept place below h) (λ k q l g. stored_elsewhere cputype n r q (apart k q l g) (omega (arith, place)) (omega (arith, place, below))) in
    stored_at cputype s n there.0 there.1 ∙ ap (λ o. Some (unwrap_or o there.0)) first)
    in
    ap (λ w. take w (drop r.offset (stored_contents cputype s))) (sym width) ∙ part_is (stored_contents cputype s) (stored_bytes r) r.offset byte

-- -- addends

before_is : (records : List MachRelocationRow) (n i : ℕ) → n ≡ suc i → record_before records n ≡ slice_get records i
before_is records n i e = rw e refl

before_none : (records : List MachRelocationRow) (n : ℕ) → n ≡ 0 → record_before records n ≡ None
before_none records n e = rw e refl

no_addend : (r : MachRelocationRow) → r.r_type ≢ 10 → addend_kept (Some r) ≡ pos 0
no_addend r h = rw (ne_eqb r.r_type 10 h) refl

zero_is : (z : ℤ) → is_zero_addend z ≡ true → z ≡ pos 0
zero_is (pos n) h = let e : n ≡ 0 = eqb-true n 0 h in ap (λ n. pos n) e
zero_is (negsuc n) h = absurd (cc)

-- what stands before the record of a relocation that has one alone
before_alone : (cputype : ℕ) (s : MachTableSection) → KeepsAddends cputype s → (m : ℕ) (r : MachRelocation) → slice_get s.relocations m ≡ Some r → wants_record cputype r ≡ false
    → addend_kept (record_before (flat_map (records_for cputype) s.relocations) (record_number cputype s.relocations m)) ≡ pos 0
before_alone cputype s h zero r e w =
    let one : length (records_for cputype r) ≡ 1 = rw w refl in
    let n : record_number cputype s.relocations 0 ≡ 0 = omega (arith, up_to cputype s.relocations 0 r e, one) in
    ap addend_kept (before_none (flat_map (records_for cputype) s.relocations) (record_number cputype s.relocations 0) n)
before_alone cputype s h (suc k) r e w =
    let one : length (records_for cputype r) ≡ 1 = rw w refl in
    let within = get_within s.relocations (suc k) r e in
    let q = get_exists s.relocations k (omega (arith, within)) in
    let next : suc k ≡ k + 1 = omega arith in
    let some = some_records cputype q.0 (wants_record cputype q.0) refl in
    let mine = up_to cputype s.relocations (suc k) r e in
    let same = ap (λ n. length (flat_map (records_for cputype) (take n s.relocations))) next in
    let n : record_number cputype s.relocations (suc k) ≡ suc (record_number cputype s.relocations k) = omega (arith, mine, one, same, up_to cputype s.relocations k q.0 q.1, some) in
    let before = before_is (flat_map (records_for cputype) s.relocations) (record_number cputype s.relocations (suc k)) (record_number cputype s.relocations k) n in
    ap addend_kept (before ∙ record_at cputype s.relocations k q.0 q.1) ∙ no_addend (record_for q.0) (h.each k q.0 q.1).kind

-- what stands before the record of a relocation whose addend has one
before_pair : (cputype : ℕ) (rs : List MachRelocation) (m : ℕ) (r : MachRelocation) → slice_get rs m ≡ Some r → wants_record cputype r ≡ true
    → record_before (flat_map (records_for cputype) rs) (record_number cputype rs m) ≡ Some (addend_record r)
before_pair cputype rs m r e w =
    let two : length (records_for cputype r) ≡ 2 = rw w refl in
    let first : slice_get (records_for cputype r) 0 ≡ Some (addend_record r) = rw w refl in
    let there = flat_at (records_for cputype) rs m 0 r (addend_record r) e first in
    let n : record_number cputype rs m ≡ suc (length (flat_map (records_for cputype) (take m rs)) + 0) = omega (arith, up_to cputype rs m r e, two) in
    before_is (flat_map (records_for cputype) rs) (record_number cputype rs m) (length (flat_map (records_for cputype) (take m rs)) + 0) n ∙ there

record_case : (cputype : ℕ) (s : MachTableSection) → KeepsAddends cputype s → (m : ℕ) (r : MachRelocation) → slice_get s.relocations m ≡ Some r → is_in_record cputype r.r_type ≡ true → is_within (2 ^ 23) r.addend ≡ true → (zero : Bool) → is_zero_addend r.addend ≡ zero
    → addend_kept (record_before (flat_map (records_for cputype) s.relocations) (record_number cputype s.relocations m)) ≡ r.addend
record_case cputype s h m r e kept fits true z = before_alone cputype s h m r e (rw (kept, z) refl) ∙ sym (zero_is r.addend z)
record_case cputype s h m r e kept fits false z = ap addend_kept (before_pair cputype s.relocations m r e (rw (kept, z) refl)) ∙ kept_back r fits

ends_by : (a b : Bool) → b ≡ false → (a || b) ≡ true → a ≡ true
ends_by true b e h = refl
ends_by false true e h = absurd (cc)
ends_by false false e h = h

ends_in : (cputype : ℕ) (r : MachRelocation) → r.r_type ≢ 0 → is_in_field cputype r.r_type ≡ true → (cputype == x86_64_cputype) ≡ true
ends_in cputype r n h = ends_by (cputype == x86_64_cputype) (r.r_type == 0) (ne_eqb r.r_type 0 n) h

by_place : (cputype : ℕ) (s : MachTableSection) (shown : MachSectionData) → KeepsAddends cputype s → shown.contents ≡ stored_contents cputype s → shown.relocations ≡ flat_map (records_for cputype) s.relocations
    → (m : ℕ) (r : MachRelocation) → slice_get s.relocations m ≡ Some r → (field kept : Bool) → is_in_field cputype r.r_type ≡ field → is_in_record cputype r.r_type ≡ kept
    → addend_by cputype shown (record_number cputype s.relocations m) (Some (record_for r)) ≡ r.addend
unfolding number_at
by_place cputype s shown h c d m r e true kept f g =
    let one = h.each m r e in
    let fits : is_within (2 ^ (8 * 2 ^ r.length - 1)) (stored_number r.pcrel r.addend) ≡ true = rw f at one.room in
    let bytes = field_bytes_back cputype s m r e f one.field (λ k q l i. h.apart k m q r l i e) in
    let number = ap (λ xs. little_number (bytes_at xs r.offset (2 ^ r.length))) c ∙ ap little_number bytes in
    rw f (field_back cputype shown.contents r one.width number (λ p. ends_in cputype r (one.relative p) f) fits)
by_place cputype s shown h c d m r e false true f g =
    let one = h.each m r e in
    let fits : is_within (2 ^ 23) r.addend ≡ true = rw (g, f) at one.room in
    rw (g, f, d) (record_case cputype s h m r e g fits (is_zero_addend r.addend) refl)
by_place cputype s shown h c d m r e false false f g =
    let one = h.each m r e in
    let none : is_zero_addend r.addend ≡ true = rw (g, f) at one.room in
    rw (g, f) (sym (zero_is r.addend none))

-- a section that is read as it is written shows its relocations
addends_shown : (cputype : ℕ) (s : MachTableSection) (shown : MachSectionData) → KeepsAddends cputype s → shown.contents ≡ stored_contents cputype s → shown.relocations ≡ records_of cputype s → ShowsRelocations cputype s shown
unfolding records_of addend_read
addends_shown cputype s shown h c d m r e =
    let row = ap (λ xs. slice_get xs (record_number cputype s.relocations m)) d ∙ record_at cputype s.relocations m r e in
    record {
      row = row;
      addend = ap (addend_by cputype shown (record_number cputype s.relocations m)) row ∙ by_place cputype s shown h c d m r e (is_in_field cputype r.r_type) (is_in_record cputype r.r_type) refl refl;
    }

shown_of : {A B : Type 0} (f : A → B) (xs : List A) (k : ℕ) (x : A) (y : B) → slice_get xs k ≡ Some x → slice_get (map f xs) k ≡ Some y → f x ≡ y
shown_of f xs k x y e h = let there = get_map f xs k x e in cc

-- so does each of a file that holds a table, in the image that it is read as
pub addends_back : (t : MachTable) (b : List ℕ) (image : MachImageData) → FitsMach t → All (λ x. x < 256) b → MachHolds b t → MachReads b image
    → (k : ℕ) (s : MachTableSection) (shown : MachSectionData) → slice_get t.sections k ≡ Some s → slice_get image.sections k ≡ Some shown → KeepsAddends t.cputype s → ShowsRelocations t.cputype s shown
unfolding image_for
addends_back t b image f small holds reads k s shown e g h =
    let same : image ≡ image_for t = (held_image t b f small holds).only image reads in
    let there : slice_get (map (section_shown t.cputype) t.sections) k ≡ Some shown = ap (λ (i : MachImageData). slice_get i.sections k) (sym same) ∙ g in
    let is : section_shown t.cputype s ≡ shown = shown_of (section_shown t.cputype) t.sections k s shown e there in
    subst (ShowsRelocations t.cputype s) is (addends_shown t.cputype s (section_shown t.cputype s) h refl refl)

-- -- the sections of an object

kept_flags : (architecture : Architecture) (r : RelocationFlags) (kind : Reloc) → HasMachKind architecture r kind
    → ((mach_length_of r ≡ 2) ⊎ (mach_length_of r ≡ 3)) × (mach_type_of r ≢ 10) × (mach_pcrel_of r ≡ true → mach_type_of r ≢ 0)
kept_flags architecture (flags.Elf n) kind h = absurd h
kept_flags architecture (flags.MachO r_type pcrel len) kind h =
    let small = small_kind architecture kind _ h in
    (small.0, λ e. omega (arith, e, small.1), λ p. eqb-false r_type 0 (small.2 p))

kept_room : (cputype : ℕ) (r : RelocationFlags) (addend : ℤ) (architecture : Architecture) (kind : Reloc) → HasMachKind architecture r kind → addend_has_room cputype r addend ≡ true
    → has_room cputype (mach_type_of r) (mach_pcrel_of r) (mach_length_of r) addend ≡ true
kept_room cputype (flags.Elf n) addend architecture kind k h = absurd k
kept_room cputype (flags.MachO r_type pcrel len) addend architecture kind k h = h

addend_kept_in : (o : ObjectData) (before : List SectionData) (s : SectionData) (r : Relocation) → IsFormedMachRelocation o s r
    → KeepsAddend (mach_cputype o.architecture) (mach_section o.symbols (record { before = before; here = s })) (mach_relocation o.symbols r)
addend_kept_in o before s r g =
    let numbers = kept_flags o.architecture r.flags g.kind.0 g.kind.1 in
    record {
      width = numbers.0;
      kind = numbers.1;
      relative = numbers.2;
      field = omega (arith, g.field, width_is r.flags numbers.0);
      room = kept_room (mach_cputype o.architecture) r.flags r.addend o.architecture g.kind.0 g.kind.1 g.addend;
    }

apart_in : (o : ObjectData) (before : List SectionData) (s : SectionData) → IsFormedMachSection o s → (m n : ℕ) (r q : MachRelocation) → m < n → slice_get (map (mach_relocation o.symbols) s.relocations) m ≡ Some r
    → slice_get (map (mach_relocation o.symbols) s.relocations) n ≡ Some q → FieldsShareNone r q
apart_in o before s g m n r q l e f =
    let x = get_map_from (mach_relocation o.symbols) s.relocations m r e in
    let y = get_map_from (mach_relocation o.symbols) s.relocations n q f in
    let fx = g.relocations m x.0 x.1 in
    let fy = g.relocations n y.0 y.1 in
    let apart = apart_by x.0 y.0 _ _ (width_is x.0.flags (kept_flags o.architecture x.0.flags fx.kind.0 fx.kind.1).0) (width_is y.0.flags (kept_flags o.architecture y.0.flags fy.kind.0 fy.kind.1).0) (g.apart m n x.0 y.0 l x.1 y.1) in
    subst (λ (q : MachRelocation). FieldsShareNone r q) y.2 (subst (λ (r : MachRelocation). FieldsShareNone r (mach_relocation o.symbols y.0)) x.2 apart)

section_keeps : (o : ObjectData) (before : List SectionData) (s : SectionData) → IsFormedMachSection o s → KeepsAddends (mach_cputype o.architecture) (mach_section o.symbols (record { before = before; here = s }))
section_keeps o before s g = record {
  each = λ m r e.
      let x = get_map_from (mach_relocation o.symbols) s.relocations m r e in
      subst (KeepsAddend (mach_cputype o.architecture) (mach_section o.symbols (record { before = before; here = s }))) x.2 (addend_kept_in o before s x.0 (g.relocations m x.0 x.1));
  apart = apart_in o before s g;
}

-- each section of the table of a formed object keeps its addends
pub sections_keep : (o : ObjectData) → IsFormedMacho o → (k : ℕ) (s : MachTableSection) → slice_get (macho_table_of o).sections k ≡ Some s → KeepsAddends (mach_cputype o.architecture) s
unfolding macho_table_of
sections_keep o h k s e =
    let x = moment_from (mach_section o.symbols) (header_order o.sections) k s e in
    let from = ordered_from o.sections k x.0 x.1 in
    subst (KeepsAddends (mach_cputype o.architecture)) x.2 (section_keeps o (take k (header_order o.sections)) x.0 (h.sections from.0 x.0 from.1))
