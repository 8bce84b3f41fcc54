-- The sections of a valid Mach-O part's object: their alignments, and their contents, which are no more than the part may have.
use Rattle.std.proofs.Common.{◌≡◌, ℕ, suc, ◌+◌, ◌<◌, ◌≤◌, ◌==◌, List, [], ◌∷◌, length, map, refl, ap, ◌∙◌, arith, Some, Bool, true, false, not, cond, slice_get, subst}
use Rattle.std.specs.Prelude.{filter, fold, max, sum_by}
use Rattle.std.specs.Int.{next_multiple_of}
use Rattle.std.specs.List.{enumerate_from}
use Rattle.std.proofs.lemmas.List.Sums.{sum_by-cons}
use Rattle.byte_core.proofs.Lists.{get_map_from}
use Rattle.ir_core.specs.MachO.{is_zero_fill_type}
use Rattle.ir_core.specs.declared.target.BinaryFormat.TheVariants.{Macho}
use Rattle.ir_core.specs.Target.{Target}
use Rattle.object_core.specs.Places.{Extent, end_of, joined}
use Rattle.object_core.specs.Standard.{takes_no_bytes}
use Rattle.cranelift_module.specs.LinkState.{LinkState}
use Rattle.cranelift_object.specs.Settings.{Settings}
use Rattle.cranelift_object.specs.SectionClass.{Class, section_class}
use Rattle.cranelift_object.specs.Placing.{Placed, placed, sections_used, room_of, align_of, extent_of}
use Rattle.cranelift_object.specs.Linked.{members, piece_of, section_with, sections_of, object_of}
use Rattle.cranelift_object.specs.Part.{PartData, part_state}
use Rattle.cranelift_object.proofs.DefineLaws.{align_within, good_least}
use Rattle.cranelift_object.proofs.PlaceLaws.{align_positive}
use Rattle.cranelift_object.proofs.SectionLaws.{joined_length}
use Rattle.image_place.specs.Laws.{AreMacho}
use Rattle.image_place.specs.ObjectFile.{part_object}
use Rattle.image_place.specs.Related.{IsPart}
use Rattle.image_place.proofs.ElfLaw.{state_target}
use Rattle.image_place.proofs.FileSymbols.{placed-from, definitions_placed}
use Rattle.image_place.proofs.FileStanding.{member-from}
use Rattle.image_place.proofs.MachAccepted.{mach-limits, content_sum_is, counted_contents, definition-body}
use Rattle.image_place.proofs.MachFits.{IsSoundSection, AreSoundSections}

-- -- alignments and ends

abbrev AreWithin : List Extent → Type 0
AreWithin xs = (k : ℕ) (x : Extent) → slice_get xs k ≡ Some x → (0 < x.align) × (x.align ≤ 65536)

greatest_from : (a : ℕ) (xs : List Extent) → 0 < a → a ≤ 65536 → AreWithin xs → (0 < fold (λ align e. max align e.align) a xs) × (fold (λ align e. max align e.align) a xs ≤ 65536)
greatest_from a [] low high h = (low, high)
greatest_from a (x ∷ xs) low high h = let one = h 0 x refl in greatest_from (max a x.align) xs (omega (arith, low)) (omega (arith, high, one.1)) (λ k. h (suc k))

abbrev asked : Extent → ℕ
asked x = x.size + x.align

end_from : (end : ℕ) (xs : List Extent) → AreWithin xs → fold (λ end e. next_multiple_of end e.align + e.size) end xs ≤ end + sum_by asked xs
end_from end [] h = omega arith
end_from end (x ∷ xs) h =
    let one = h 0 x refl in
    let step : next_multiple_of end x.align ≤ end + x.align = over end x.align one.0 in
    omega (arith, step, end_from (next_multiple_of end x.align + x.size) xs (λ k. h (suc k)), sum_by-cons asked x xs)
  where
    over : (end align : ℕ) → 0 < align → next_multiple_of end align ≤ end + align
    over end align h = omega (arith, h)

end_within : (xs : List Extent) → AreWithin xs → end_of xs ≤ sum_by asked xs
unfolding end_of
end_within xs h = omega (arith, end_from 0 xs h)

-- -- sums

sum_through : {A B : Type 0} (f : B → ℕ) (g : A → B) (xs : List A) → sum_by f (map g xs) ≡ sum_by (λ x. f (g x)) xs
sum_through f g [] = refl
sum_through f g (x ∷ xs) = omega (arith, sum_by-cons f (g x) (map g xs), sum_by-cons (λ y. f (g y)) x xs, sum_through f g xs)

filtered_by : {A : Type 0} (f : A → ℕ) (p : A → Bool) (x : A) (xs : List A) (b : Bool) → sum_by f (filter p xs) ≤ sum_by f xs → sum_by f (cond b (x ∷ filter p xs) (filter p xs)) ≤ sum_by f (x ∷ xs)
filtered_by f p x xs true h = omega (arith, h, sum_by-cons f x (filter p xs), sum_by-cons f x xs)
filtered_by f p x xs false h = omega (arith, h, sum_by-cons f x xs)

filtered_sum : {A : Type 0} (f : A → ℕ) (p : A → Bool) (xs : List A) → sum_by f (filter p xs) ≤ sum_by f xs
filtered_sum f p [] = omega arith
filtered_sum f p (x ∷ xs) = filtered_by f p x xs (p x) (filtered_sum f p xs)

members_sum : (settings : Settings) (s : LinkState) (k : ℕ) → sum_by asked (map (λ (p : Placed). extent_of s p.definition) (members (placed settings s) k)) ≤ sum_by (λ d. room_of s d + align_of s d) s.definitions
members_sum settings s k =
    let f : Placed → ℕ = λ p. room_of s p.definition + align_of s p.definition in
    let one : sum_by asked (map (λ (p : Placed). extent_of s p.definition) (members (placed settings s) k)) ≡ sum_by f (members (placed settings s) k) = sum_through asked (λ (p : Placed). extent_of s p.definition) (members (placed settings s) k) in
    let two = filtered_sum f (λ (p : Placed). p.section == k) (placed settings s) in
    let three : sum_by (λ d. room_of s d + align_of s d) (map (λ (p : Placed). p.definition) (placed settings s)) ≡ sum_by f (placed settings s) = sum_through (λ d. room_of s d + align_of s d) (λ (p : Placed). p.definition) (placed settings s) in
    omega (arith, one, two, three, ap (sum_by (λ d. room_of s d + align_of s d)) (definitions_placed settings s))

-- -- sections

class_contents : (s : LinkState) (settings : Settings) (class : Class) (ms : List Placed) → s.target.triple.binary_format ≡ Macho → length (section_with settings s class ms).contents ≡ cond (not (is_zero_fill_type class.macho_flags)) (section_with settings s class ms).size 0
class_contents s settings class ms macho =
    let xs = joined (map (λ (p : Placed). piece_of s p.definition) ms) in
    let size = end_of (map (λ (p : Placed). extent_of s p.definition) ms) in
    ap (λ f. length (cond (takes_no_bytes f class.kind class.macho_flags) [] xs)) macho ∙ by (is_zero_fill_type class.macho_flags) xs size (joined_length s ms)
  where
    by : (b : Bool) (xs : List ℕ) (size : ℕ) → length xs ≡ size → length (cond b [] xs) ≡ cond (not b) size 0
    by true xs size e = refl
    by false xs size e = e

at_most : (b : Bool) (n size : ℕ) → n ≡ cond b size 0 → n ≤ size
at_most true n size e = omega (arith, e)
at_most false n size e = omega (arith, e)

extents_within : (part : PartData) → IsPart part → AreMacho part → (k : ℕ) → AreWithin (map (λ (p : Placed). extent_of (part_state part) p.definition) (members (placed part.settings (part_state part)) k))
extents_within part h macho k i x e =
    let s = part_state part in
    let from = get_map_from (λ (p : Placed). extent_of s p.definition) (members (placed part.settings s) k) i x e in
    let member = member-from part.settings s k i from.0 from.1 in
    let body = (definition-body part h macho member.number from.0.definition (placed-from part.settings s member.number from.0 member.here)).body in
    let align : align_of s from.0.definition ≡ x.align = ap (λ (y : Extent). y.align) from.2 in
    (omega (arith, align, align_positive s from.0.definition (good_least from.0.definition.align body.aligned)), omega (arith, align, align_within s from.0.definition body.aligned))

section_sound : (part : PartData) → IsPart part → AreMacho part → (k : ℕ) (class : Class) → IsSoundSection (section_with part.settings (part_state part) class (members (placed part.settings (part_state part)) k))
section_sound part h macho k class =
    let s = part_state part in
    let ms = members (placed part.settings s) k in
    let extents = map (λ (p : Placed). extent_of s p.definition) ms in
    let within = extents_within part h macho k in
    let align = greatest_from 1 extents (omega arith) (omega arith) within in
    let contents = class_contents s part.settings class ms (ap (λ (t : Target). t.triple.binary_format) (state_target part.target part.calls) ∙ macho) in
    let most = at_most (not (is_zero_fill_type class.macho_flags)) (length (section_with part.settings s class ms).contents) (end_of extents) contents in
    record {
      some = align.0;
      align = omega (arith, align.1);
      contents = contents;
      small = omega (arith, most, end_within extents within, members_sum part.settings s k, content_sum_is part, counted_contents part, (mach-limits part h macho).contents);
    }

-- the sections of a valid part are sound
pub mach-sections-sound : (part : PartData) → IsPart part → AreMacho part → AreSoundSections (part_object part)
unfolding object_of sections_of
mach-sections-sound part h macho k x e =
    let s = part_state part in
    let from = get_map_from (λ (c : ℕ × Class). section_with part.settings s c.1 (members (placed part.settings s) c.0)) (enumerate_from 0 (sections_used (map (λ (p : Placed). section_class part.settings s p.definition) (placed part.settings s)))) k x e in
    subst IsSoundSection from.2 (section_sound part h macho from.0.0 from.0.1)
