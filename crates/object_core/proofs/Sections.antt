-- Sections that are changed, and what stays true of them.
use Rattle.std.proofs.Common.{◌≡◌, ℕ, zero, suc, ◌+◌, ◌-◌, ◌<◌, ◌≤◌, ◌++◌, ◌∷◌, List, [], Bool, true, false, cond, inl, inr, max, length, replicate, get_or, set, Some, refl, ap, sym, ◌∙◌, subst, arith, length-append, length-set}
use Rattle.std.proofs.lemmas.List.{append_assoc, replicate-append-replicate, length-replicate, set-get_or}
use Rattle.std.proofs.lemmas.Bool.{cases_lt}
use lib.Count.{ones}
use Rattle.std.specs.Prelude.{slice_get, option_map, unwrap_or}
use Rattle.std.specs.Int.{is_power_of_two}
use Rattle.std.proofs.lemmas.List.Elements.{All-set, All-push, All-nil, All-get_or}
use Rattle.std.proofs.lemmas.List.Sums.{sum_by-set, sum_by_push, get_or-le-sum_by}
use Rattle.ir_core.specs.declared.target.BinaryFormat.{BinaryFormat}
use Rattle.ir_core.specs.declared.target.BinaryFormat.TheVariants.{Elf, Coff, Macho, Wasm, Unknown}
use Rattle.object_core.specs.declared.relocation.Relocation.{Relocation}
use Rattle.object_core.specs.Object.{SectionData, ObjectData}
use Rattle.object_core.specs.Appending.{changed_at, retained, relocated, with_contents, with_room, offset_in, next_offset, room_in, stored_in, with_section_data, with_section_room, is_unstored, HasBytes, IsZeroFill, IsSection, AreSections}

-- a place at which a list has a value lies in it
pub mapped_within : {A B : Type 0} (f : A → B) (xs : List A) (k : ℕ) (y : B) → option_map f (slice_get xs k) ≡ Some y → k < length xs
mapped_within f [] k y h = absurd (cc)
mapped_within f (x ∷ xs) zero y h = omega arith
mapped_within f (x ∷ xs) (suc k) y h = let below : k < length xs = mapped_within f xs k y h in omega arith

pub mapped_is : {A B : Type 0} (f : A → B) (xs : List A) (k : ℕ) (x : A) (y : B) → x ≡ get_or xs k x → option_map f (slice_get xs k) ≡ Some y → f x ≡ y
mapped_is f [] k x y e h = absurd (cc)
mapped_is f (z ∷ xs) zero x y e h = ap f e ∙ (cc)
mapped_is f (z ∷ xs) (suc k) x y e h = mapped_is f xs k x y e h

-- an element that is written over by its change
pub changed_set : {A : Type 0} (change : A → A) (xs : List A) (k : ℕ) (x : A) → x ≡ get_or xs k x → set xs k (change x) ≡ changed_at k change xs
changed_set change [] k x e = refl
changed_set change (z ∷ xs) zero x e = ap (λ w. change w ∷ xs) e
changed_set change (z ∷ xs) (suc k) x e = ap (λ ws. z ∷ ws) (changed_set change xs k x e)

-- a value of the element at a place
pub offset_is : {A : Type 0} (f : A → ℕ) (xs : List A) (k : ℕ) (x : A) → k < length xs → x ≡ get_or xs k x → unwrap_or (option_map f (slice_get xs k)) 0 ≡ f x
offset_is f [] k x h e = absurd (omega arith)
offset_is f (z ∷ xs) zero x h e = ap f (sym e)
offset_is f (z ∷ xs) (suc k) x h e = let below : k < length xs = omega arith in offset_is f xs k x below e

-- -- what stays true

contents_are : (format : BinaryFormat) (sections : List SectionData) (sum k : ℕ) (s : SectionData) → AreSections format sections sum → k < length sections → s ≡ get_or sections k s → is_unstored format s ≡ false → length s.contents ≡ s.size
contents_are format sections sum k s h below e bytes =
    let one : IsSection format s = subst (IsSection format) (sym e) (All-get_or (IsSection format) sections k s below h.each) in
    one.contents ∙ rw bytes refl

size_bound : (format : BinaryFormat) (sections : List SectionData) (sum bound k : ℕ) (s : SectionData) → AreSections format sections sum → sum < bound → k < length sections → s ≡ get_or sections k s → s.size < bound
size_bound format sections sum bound k s h small below e =
    let one = get_or-le-sum_by (λ (x : SectionData). x.size) sections k s below in
    omega (arith, h.sizes, ap (λ (x : SectionData). x.size) e)

pub no_sections : (format : BinaryFormat) → AreSections format [] 0
no_sections format = record { each = All-nil (IsSection format); sizes = omega arith; aligns = omega arith }

-- -- powers of two

pub power_positive : (n : ℕ) → is_power_of_two n ≡ true → 0 < n
unfolding ones
power_positive zero h = absurd (cc)
power_positive (suc n) h = omega arith

pub one_power : is_power_of_two 1 ≡ true
unfolding ones
one_power = refl

pub greater_power : (a b : ℕ) → is_power_of_two a ≡ true → is_power_of_two b ≡ true → is_power_of_two (max a b) ≡ true
greater_power a b p q =
    elim (cases_lt a b) [ inl h ↦ (let e : max a b ≡ b = omega arith in rw e q) | inr h ↦ (let e : max a b ≡ a = omega arith in rw e p) ]

-- -- one more section

no_bytes : (unstored : Bool) (n size : ℕ) → n ≡ 0 → size ≡ 0 → n ≡ cond unstored 0 size
no_bytes true n size h e = h
no_bytes false n size h e = h ∙ sym e

-- one more section in which nothing is yet
pub one_more : (format : BinaryFormat) (sections longer : List SectionData) (sum : ℕ) (new : SectionData) → AreSections format sections sum → longer ≡ sections ++ new ∷ [] → new.contents ≡ [] → new.size ≡ 0 → new.align ≡ 1
    → AreSections format longer sum
one_more format sections longer sum new h e contents size align =
    let one : IsSection format new = record { contents = no_bytes (is_unstored format new) (length new.contents) new.size (ap length contents) size; align = omega (arith, align); power = rw align one_power } in
    let all : AreSections format (sections ++ new ∷ []) sum = record {
      each = All-push (IsSection format) sections new h.each one;
      sizes = omega (arith, sum_by_push (λ (s : SectionData). s.size) sections new, h.sizes, size);
      aligns = omega (arith, sum_by_push (λ (s : SectionData). s.align) sections new, h.aligns, align, length-append sections (new ∷ []));
    }
    in
    rw e all

-- -- more contents

-- a section that is larger by no more than what was added
more_of_one : (format : BinaryFormat) (sections : List SectionData) (sum added k : ℕ) (s new : SectionData) → AreSections format sections sum → k < length sections → s ≡ get_or sections k s → IsSection format new → new.size ≤ s.size + added → new.align ≤ s.align + added
    → AreSections format (set sections k new) (sum + added)
more_of_one format sections sum added k s new h below e changed size align = record {
  each = All-set (IsSection format) sections k new changed h.each;
  sizes = omega (arith, sum_by-set (λ (x : SectionData). x.size) sections k new s below, ap (λ (x : SectionData). x.size) e, h.sizes, size);
  aligns = omega (arith, sum_by-set (λ (x : SectionData). x.align) sections k new s below, ap (λ (x : SectionData). x.align) e, h.aligns, length-set sections k new, align);
}

at_place : (format : BinaryFormat) (sections : List SectionData) (sum k : ℕ) (s : SectionData) → AreSections format sections sum → k < length sections → s ≡ get_or sections k s → IsSection format s
at_place format sections sum k s h below e = subst (IsSection format) (sym e) (All-get_or (IsSection format) sections k s below h.each)

more_contents : (format : BinaryFormat) (sections : List SectionData) (sum k : ℕ) (s new : SectionData) (bytes : List ℕ) (align added : ℕ) → AreSections format sections sum → k < length sections → s ≡ get_or sections k s → is_unstored format s ≡ false → is_power_of_two align ≡ true
    → new ≡ with_contents bytes align s → added ≡ length bytes + align → AreSections format (set sections k new) (sum + added)
more_contents format sections sum k s new bytes align added h below e holds power is amount =
    let one : IsSection format s = at_place format sections sum k s h below e in
    let positive : 0 < align = power_positive align power in
    let whole : length s.contents ≡ s.size = contents_are format sections sum k s h below e holds in
    let gap : ℕ = offset_in align s - s.size in
    let nothing : ℕ = 0 in
    let changed : IsSection format (with_contents bytes align s) =
    record {
      contents = length-append (s.contents ++ replicate gap 0) bytes ∙ (rw holds (omega (arith, length-append s.contents (replicate gap 0), length-replicate gap nothing, whole)));
      align = omega arith;
      power = greater_power s.align align one.power power;
    }
    in
    rw is (more_of_one format sections sum added k s (with_contents bytes align s) h below e changed (omega (arith, amount)) (omega (arith, amount, one.align)))

more_room : (format : BinaryFormat) (sections : List SectionData) (sum k : ℕ) (s new : SectionData) (size align added : ℕ) → AreSections format sections sum → k < length sections → s ≡ get_or sections k s → is_unstored format s ≡ true → is_power_of_two align ≡ true
    → new ≡ with_room size align s → added ≡ size + align → AreSections format (set sections k new) (sum + added)
more_room format sections sum k s new size align added h below e holds power is amount =
    let one : IsSection format s = at_place format sections sum k s h below e in
    let positive : 0 < align = power_positive align power in
    let changed : IsSection format (with_room size align s) =
    record {
      contents = one.contents ∙ rw holds refl;
      align = omega arith;
      power = greater_power s.align align one.power power;
    }
    in
    rw is (more_of_one format sections sum added k s (with_room size align s) h below e changed (omega (arith, amount)) (omega (arith, amount, one.align)))

-- a section with other marks, that is as large and as aligned as it was
same_of_one : (format : BinaryFormat) (sections : List SectionData) (sum k : ℕ) (s new : SectionData) → AreSections format sections sum → k < length sections → s ≡ get_or sections k s → length new.contents ≡ length s.contents → new.size ≡ s.size → new.align ≡ s.align → is_unstored format new ≡ is_unstored format s
    → AreSections format (set sections k new) sum
same_of_one format sections sum k s new h below e contents size align stored =
    let one : IsSection format s = at_place format sections sum k s h below e in
    let changed : IsSection format new = record { contents = contents ∙ one.contents ∙ rw (stored, size) refl; align = rw align one.align; power = rw align one.power } in
    let nothing : sum + 0 ≡ sum = omega arith in
    subst (AreSections format (set sections k new)) nothing (more_of_one format sections sum 0 k s new h below e changed (omega (arith, size)) (omega (arith, align)))

-- -- what a format stores

pub zeros_behind : (front : List ℕ) (m n : ℕ) → front ++ replicate m 0 ++ replicate n 0 ≡ front ++ replicate (m + n) 0
zeros_behind front m n = let nothing : ℕ = 0 in append_assoc front (replicate m nothing) (replicate n nothing) ∙ ap (λ zeros. front ++ zeros) (replicate-append-replicate m n nothing)

pub length-stored_in : (format : BinaryFormat) (bytes : List ℕ) → length (stored_in format bytes) ≡ room_in format (length bytes)
length-stored_in Macho [] = refl
length-stored_in Macho (x ∷ xs) = omega arith
length-stored_in Elf bytes = refl
length-stored_in Coff bytes = refl
length-stored_in Wasm bytes = refl
length-stored_in Unknown bytes = refl

pub stored_in-replicate : (format : BinaryFormat) (size : ℕ) → stored_in format (replicate size 0) ≡ replicate (room_in format size) 0
stored_in-replicate Macho zero = refl
stored_in-replicate Macho (suc n) = let same : suc n ≡ max 1 (suc n) = omega arith in ap (λ (count : ℕ). replicate count 0) same
stored_in-replicate Elf size = refl
stored_in-replicate Coff size = refl
stored_in-replicate Wasm size = refl
stored_in-replicate Unknown size = refl

-- a change that was taken back
pub unchanged_set : {A : Type 0} (xs : List A) (k : ℕ) (x : A) → x ≡ get_or xs k x → set xs k x ≡ xs
unchanged_set xs k x e = ap (λ w. set xs k w) e ∙ set-get_or xs k x

-- -- the whole object

-- the section of this number takes no bytes of its file, or it does
held_at : (o now : ObjectData) (i section : ℕ) (unstored : Bool) → o ≡ now → i ≡ section → option_map (is_unstored now.format) (slice_get now.sections section) ≡ Some unstored → option_map (is_unstored o.format) (slice_get o.sections i) ≡ Some unstored
held_at o now i section unstored same is h = rw (same, is) h

pub size_below : (o now : ObjectData) (i section bound : ℕ) (unstored : Bool) (s : SectionData) → AreSections o.format o.sections o.content_sum → o ≡ now → i ≡ section → option_map (is_unstored now.format) (slice_get now.sections section) ≡ Some unstored → now.content_sum < bound → s ≡ get_or o.sections i s
    → s.size < bound
size_below o now i section bound unstored s sound same is h small e =
    size_bound o.format o.sections o.content_sum bound i s sound (rw same small) (mapped_within (is_unstored o.format) o.sections i unstored (held_at o now i section unstored same is h)) e

-- the contents of a section that has bytes are as many as its size
pub bytes_here : (o now : ObjectData) (i section : ℕ) (s : SectionData) → AreSections o.format o.sections o.content_sum → o ≡ now → i ≡ section → HasBytes now section → s ≡ get_or o.sections i s → length s.contents ≡ s.size
bytes_here o now i section s sound same is h e =
    let f = is_unstored o.format in
    let here = held_at o now i section false same is h in
    contents_are o.format o.sections o.content_sum i s sound (mapped_within f o.sections i false here) e (mapped_is f o.sections i s false e here)

pub offset_below : (o now : ObjectData) (i section align offset : ℕ) (unstored : Bool) (s : SectionData) → o ≡ now → i ≡ section → option_map (is_unstored now.format) (slice_get now.sections section) ≡ Some unstored → s ≡ get_or o.sections i s → offset ≡ offset_in align s → offset ≡ next_offset now section align
offset_below o now i section align offset unstored s same is h e at =
    let below = mapped_within (is_unstored o.format) o.sections i unstored (held_at o now i section unstored same is h) in
    rw (← same, ← is) (at ∙ sym (offset_is (offset_in align) o.sections i s below e))

-- the sections are sound with more contents in one of them
pub sound_contents : (o now : ObjectData) (i section : ℕ) (s new : SectionData) (bytes : List ℕ) (align added : ℕ) → AreSections o.format o.sections o.content_sum → o ≡ now → i ≡ section → HasBytes now section → s ≡ get_or o.sections i s → is_power_of_two align ≡ true → new ≡ with_contents bytes align s
    → added ≡ length bytes + align → AreSections o.format (set o.sections i new) (o.content_sum + added)
sound_contents o now i section s new bytes align added sound same is has e power changed amount =
    let f = is_unstored o.format in
    let here = held_at o now i section false same is has in
    more_contents o.format o.sections o.content_sum i s new bytes align added sound (mapped_within f o.sections i false here) e (mapped_is f o.sections i s false e here) power changed amount

-- or with more room
pub sound_room : (o now : ObjectData) (i section : ℕ) (s new : SectionData) (size align added : ℕ) → AreSections o.format o.sections o.content_sum → o ≡ now → i ≡ section → IsZeroFill now section → s ≡ get_or o.sections i s → is_power_of_two align ≡ true → new ≡ with_room size align s → added ≡ size + align
    → AreSections o.format (set o.sections i new) (o.content_sum + added)
sound_room o now i section s new size align added sound same is fills e power changed amount =
    let f = is_unstored o.format in
    let here = held_at o now i section true same is fills in
    more_room o.format o.sections o.content_sum i s new size align added sound (mapped_within f o.sections i true here) e (mapped_is f o.sections i s true e here) power changed amount

-- or with a mark
pub sound_retained : (o now : ObjectData) (i section : ℕ) (s new : SectionData) → AreSections o.format o.sections o.content_sum → o ≡ now → i ≡ section → section < length now.sections → s ≡ get_or o.sections i s → new ≡ retained s → AreSections o.format (set o.sections i new) o.content_sum
sound_retained o now i section s new sound same is below e changed =
    let within : i < length o.sections = rw (same, is) below in
    rw changed (same_of_one o.format o.sections o.content_sum i s (retained s) sound within e refl refl refl refl)

-- or with one more relocation
pub sound_relocated : (o now : ObjectData) (i section : ℕ) (s new : SectionData) (r : Relocation) → AreSections o.format o.sections o.content_sum → o ≡ now → i ≡ section → section < length now.sections → s ≡ get_or o.sections i s → new ≡ relocated r s → AreSections o.format (set o.sections i new) o.content_sum
sound_relocated o now i section s new r sound same is below e changed =
    let within : i < length o.sections = rw (same, is) below in
    rw changed (same_of_one o.format o.sections o.content_sum i s (relocated r s) sound within e refl refl refl refl)

-- what a call leaves that changed one section
pub changed_section : (o now : ObjectData) (change : SectionData → SectionData) (i section : ℕ) (s new : SectionData) → o ≡ now → i ≡ section → new ≡ change s → s ≡ get_or o.sections i s → record o { sections = set o.sections i new } ≡ record now { sections = changed_at section change now.sections }
changed_section o now change i section s new same is changed e = rw (← same, changed, changed_set change o.sections i s e, is) refl

-- what a call leaves that put contents into a section
pub added_data : (o now : ObjectData) (i section : ℕ) (s new : SectionData) (bytes stored : List ℕ) (align added : ℕ) → o ≡ now → i ≡ section → s ≡ get_or o.sections i s → new ≡ with_contents stored align s → stored ≡ stored_in o.format bytes → added ≡ room_in o.format (length bytes) + align
    → record o { sections = set o.sections i new; content_sum = o.content_sum + added } ≡ with_section_data now section bytes align
added_data o now i section s new bytes stored align added same is e changed stores amount = rw (← same, changed, amount, changed_set (with_contents stored align) o.sections i s e, stores, is) refl

-- what a call leaves that made a section larger
pub added_room : (o now : ObjectData) (i section : ℕ) (s new : SectionData) (size room align added : ℕ) → o ≡ now → i ≡ section → s ≡ get_or o.sections i s → new ≡ with_room room align s → room ≡ room_in o.format size → added ≡ room_in o.format size + align
    → record o { sections = set o.sections i new; content_sum = o.content_sum + added } ≡ with_section_room now section size align
added_room o now i section s new size room align added same is e changed takes amount = rw (← same, changed, amount, changed_set (with_room room align) o.sections i s e, takes, is) refl
