-- The bytes of a Mach-O section as its file has them: addends in their fields, the contents elsewhere.
use Rattle.std.proofs.Common.{◌≡◌, ℕ, suc, ◌+◌, ◌-◌, ◌*◌, ◌^◌, ◌<◌, ◌≤◌, List, [], ◌∷◌, Bool, true, false, length, take, drop, slice_get, Option, Some, None, refl, ap, sym, ◌∙◌, arith, ◌⊎◌, ℤ, pos, negsuc}
use Rattle.std.specs.Prelude.{unwrap_or, FitsSigned}
use Rattle.std.specs.List.{filter_map}
use Rattle.std.specs.Int.{cast_signed, cast_unsigned, w32, w64}
use Rattle.std.proofs.lemmas.Bool.{ltb-true, le-leb}
use Rattle.std.proofs.lemmas.Int.{to_z-of_z}
use Rattle.byte_core.specs.Number.{bytes_at, number_at, little_number, little_bytes}
use Rattle.byte_core.proofs.Lists.{get_exists, get_within}
use Rattle.byte_core.proofs.Numbers.{length-little_bytes, little_number-little_bytes}
use Rattle.ir_core.specs.declared.reloc.Reloc.{Reloc}
use Rattle.ir_core.specs.declared.reloc.Reloc.TheVariants.{Abs4, Abs8, X86PCRel4}
use Rattle.ir_core.specs.declared.target.Architecture.TheVariants.{X86_64}
use Rattle.ir_core.specs.declared.target.BinaryFormat.TheVariants.{Macho}
use Rattle.ir_core.specs.MachO.{is_in_field, stored_number, is_within}
use Rattle.object_core.specs.declared.relocation.Relocation.{Relocation}
use Rattle.object_core.specs.Object.{SymbolData}
use Rattle.object_core.specs.LinkTable.{MachRelocation, MachTableSection}
use Rattle.object_core.specs.MachRows.{mach_relocation}
use Rattle.object_macho.specs.Layout.{field_width, stored_bytes, stored_byte, stored_contents}
use Rattle.object_macho.specs.AddendLaw.{KeepsAddends}
use Rattle.object_macho.proofs.Behind.{length-stored_contents}
use Rattle.object_macho.proofs.Patching.{first_value, stored_here, stored_outside, stored_elsewhere, stored_at, part_is}
use Rattle.cranelift_object.specs.Linked.{relocation_flags}
use Rattle.image_view.specs.declared.kind.FixKind.{FixKind}
use Rattle.image_view.specs.declared.kind.FixKind.TheVariants.{Absolute8 as absolute8, Absolute4 as absolute4, Relative4 as relative4}
use Rattle.image_place.specs.Memory.{fix_kind}
use Rattle.image_view.specs.View.{field_number, field_addend}
use Rattle.image_place.proofs.PatchLaws.{relative-addend, absolute-addend}

-- -- bytes

-- the field of a relocation has its number
pub field-bytes : (cputype : ℕ) (s : MachTableSection) (m : ℕ) (r : MachRelocation) → KeepsAddends cputype s → slice_get s.relocations m ≡ Some r → is_in_field cputype r.r_type ≡ true → bytes_at (stored_contents cputype s) r.offset (field_width r) ≡ stored_bytes r
unfolding bytes_at
field-bytes cputype s m r keeps e kept =
    let width : length (stored_bytes r) ≡ field_width r = length-little_bytes (field_width r) _ in
    let byte : (i n b : ℕ) → r.offset + i ≡ n → slice_get (stored_bytes r) i ≡ Some b → slice_get (stored_contents cputype s) n ≡ Some b = λ i n b place h.
    (let below : i < field_width r = omega (arith, get_within (stored_bytes r) i b h, width) in
    let there = get_exists s.contents n (omega (arith, place, below, (keeps.each m r e).field)) in
    let first = first_value (stored_byte cputype n) s.relocations m r b e (stored_here cputype n i r b kept place below h)
    (λ k q l g. stored_elsewhere cputype n r q (keeps.apart k m q r l g e) (omega (arith, place)) (omega (arith, place, below))) in
    stored_at cputype s n there.0 there.1 ∙ ap (λ o. Some (unwrap_or o there.0)) first)
    in
    ap (λ w. take w (drop r.offset (stored_contents cputype s))) (sym width) ∙ part_is (stored_contents cputype s) (stored_bytes r) r.offset byte

nothing_made : {A B : Type 0} (f : A → Option B) (xs : List A) → ((k : ℕ) (x : A) → slice_get xs k ≡ Some x → f x ≡ None) → filter_map f xs ≡ []
nothing_made f [] h = refl
nothing_made f (x ∷ xs) h = rw (h 0 x refl) (nothing_made f xs (λ k. h (suc k)))

kept_by : (cputype : ℕ) (s : MachTableSection) (p : ℕ) (here there : Option ℕ) → slice_get s.contents p ≡ here → slice_get (stored_contents cputype s) p ≡ there → filter_map (stored_byte cputype p) s.relocations ≡ [] → there ≡ here
kept_by cputype s p (Some x) there e f none = sym f ∙ stored_at cputype s p x e ∙ ap (λ (bs : List ℕ). Some (unwrap_or (slice_get bs 0) x)) none
kept_by cputype s p None None e f none = refl
kept_by cputype s p None (Some y) e f none =
    let within = get_within (stored_contents cputype s) p y f in
    let there = get_exists s.contents p (omega (arith, within, length-stored_contents cputype s)) in
    absurd (let both : None ≡ Some there.0 = sym e ∙ there.1 in cc)

-- outside of all fields stand the contents
pub byte-kept : (cputype : ℕ) (s : MachTableSection) (p : ℕ) → ((m : ℕ) (r : MachRelocation) → slice_get s.relocations m ≡ Some r → (p < r.offset) ⊎ (r.offset + field_width r ≤ p))
    → slice_get (stored_contents cputype s) p ≡ slice_get s.contents p
byte-kept cputype s p h =
    kept_by cputype s p (slice_get s.contents p) (slice_get (stored_contents cputype s) p) refl refl (nothing_made (stored_byte cputype p) s.relocations (λ m r e. stored_outside cputype p r (h m r e)))

-- -- numbers

field_is : (contents : List ℕ) (offset width n : ℕ) → offset + width ≤ length contents → bytes_at contents offset width ≡ little_bytes width n → n < 256 ^ width → field_number contents offset width ≡ n
unfolding number_at
field_is contents offset width n room e h = rw (le-leb (offset + width) (length contents) room) (ap little_number e ∙ little_number-little_bytes width n h)

below_32 : (z : ℤ) → is_within 2147483648 z ≡ true → cast_unsigned w32 z < 4294967296
below_32 (pos n) h = let below : n < 4294967296 = omega (arith, ltb-true n 2147483648 h) in below
below_32 (negsuc k) h = let below : 4294967296 - suc k < 4294967296 = omega arith in below

below_64 : (z : ℤ) → is_within 9223372036854775808 z ≡ true → cast_unsigned w64 z < 18446744073709551616
below_64 (pos n) h = let below : n < 18446744073709551616 = omega (arith, ltb-true n 9223372036854775808 h) in below
below_64 (negsuc k) h = let below : 18446744073709551616 - suc k < 18446744073709551616 = omega arith in below

fits_32 : (z : ℤ) → is_within 2147483648 z ≡ true → FitsSigned w32 z
fits_32 (pos n) h = record { sfits = ltb-true _ _ h }
fits_32 (negsuc n) h = record { sfits = ltb-true _ _ h }

fits_64 : (z : ℤ) → is_within 9223372036854775808 z ≡ true → FitsSigned w64 z
fits_64 (pos n) h = record { sfits = ltb-true _ _ h }
fits_64 (negsuc n) h = record { sfits = ltb-true _ _ h }

-- -- addends

-- the numbers of a kind that is applied
pub record HasForm (pcrel : Bool) (len : ℕ) (r : MachRelocation) : Type 0 where
  pub pcrel_is : r.pcrel ≡ pcrel
  pub length_is : r.length ≡ len

abbrev pub IsApplied : FixKind → MachRelocation → Type 0
IsApplied absolute8 r = HasForm false 3 r
IsApplied absolute4 r = HasForm false 2 r
IsApplied relative4 r = HasForm true 2 r

pub applied-form : (kind : Reloc) (k : FixKind) (symbols : List SymbolData) (r : Relocation) → r.flags ≡ relocation_flags Macho X86_64 kind → fix_kind Macho kind ≡ Some k → IsApplied k (mach_relocation symbols r)
applied-form Abs8 absolute8 symbols r e h = record { pcrel_is = rw e refl; length_is = rw e refl }
applied-form Abs4 absolute4 symbols r e h = record { pcrel_is = rw e refl; length_is = rw e refl }
applied-form X86PCRel4 relative4 symbols r e h = record { pcrel_is = rw e refl; length_is = rw e refl }
applied-form kind k symbols r e h = absurd (cc)

-- the addend that a field keeps is read back
pub addend-back : (k : FixKind) (contents : List ℕ) (r : MachRelocation) → IsApplied k r → r.offset + field_width r ≤ length contents → bytes_at contents r.offset (field_width r) ≡ stored_bytes r
    → is_within (2 ^ (8 * 2 ^ r.length - 1)) (stored_number r.pcrel r.addend) ≡ true → field_addend contents r.offset (Some k) ≡ r.addend
addend-back absolute8 contents r form room e h =
    let room8 : r.offset + 8 ≤ length contents = rw form.length_is at room in
    let within : is_within 9223372036854775808 r.addend ≡ true = rw (form.length_is, form.pcrel_is) at h in
    let bytes : bytes_at contents r.offset 8 ≡ little_bytes 8 (cast_unsigned w64 r.addend) = rw (form.length_is, form.pcrel_is) at e in
    ap (cast_signed w64) (field_is contents r.offset 8 (cast_unsigned w64 r.addend) room8 bytes (below_64 r.addend within)) ∙ to_z-of_z w64 r.addend (fits_64 r.addend within)
addend-back absolute4 contents r form room e h =
    let room4 : r.offset + 4 ≤ length contents = rw form.length_is at room in
    let within : is_within 2147483648 r.addend ≡ true = rw (form.length_is, form.pcrel_is) at h in
    let bytes : bytes_at contents r.offset 4 ≡ little_bytes 4 (cast_unsigned w32 r.addend) = rw (form.length_is, form.pcrel_is) at e in
    ap (cast_signed w32) (field_is contents r.offset 4 (cast_unsigned w32 r.addend) room4 bytes (below_32 r.addend within)) ∙ absolute-addend r.addend (fits_32 r.addend within)
addend-back relative4 contents r form room e h =
    let room4 : r.offset + 4 ≤ length contents = rw form.length_is at room in
    let z = stored_number true r.addend in
    let within : is_within 2147483648 z ≡ true = rw (form.length_is, form.pcrel_is) at h in
    let bytes : bytes_at contents r.offset 4 ≡ little_bytes 4 (cast_unsigned w32 z) = rw (form.length_is, form.pcrel_is) at e in
    rw (field_is contents r.offset 4 (cast_unsigned w32 z) room4 bytes (below_32 z within)) (relative-addend r.addend (fits_32 z within))
