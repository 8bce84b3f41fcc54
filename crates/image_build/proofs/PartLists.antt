-- The part of a number among all parts, and the first that gives an ELF file.
use Rattle.std.proofs.Common.{◌≡◌, ℕ, zero, suc, ◌+◌, ◌<◌, ◌≤◌, Bool, true, false, List, [], ◌∷◌, ◌++◌, length, map, take, drop, get_or, slice_get, Option, Some, None, Result, Ok, Err, IfOk, OnOk, refl, ap, sym, ◌∙◌, subst, arith, cond}
use Rattle.std.specs.List.{All, position_from}
use Rattle.std.specs.Option.{option_or}
use Rattle.std.proofs.lemmas.List.{take_more, take_all, length-map, get_or-map}
use Rattle.std.proofs.lemmas.List.Elements.{All-nil, All-cons}
use Rattle.byte_core.proofs.Lists.{item_get, get_map}
use Rattle.image_build.specs.declared.part.Part.{Part}
use Rattle.image_build.specs.Parts.{part_view}
use Rattle.image_build.specs.Built.{BuildPart, is_elf_part, build_cause, mixed_cause, first_refused_part}

-- the view of the part of a number
view_there : (parts : List Part) (k : ℕ) (part : Part) → k < length parts → part ≡ get_or parts k part → get_or (map part_view parts) k (part_view part) ≡ part_view part
view_there parts k part l is = get_or-map part_view parts k part (part_view part) l ∙ ap part_view (sym is)

pub long_views : (parts : List Part) (k : ℕ) → k < length parts → k < length (map part_view parts)
long_views parts k l = omega (arith, l, length-map parts part_view)

pub part_there : (parts : List Part) (k : ℕ) (part : Part) → k < length parts → part ≡ get_or parts k part → slice_get (map part_view parts) k ≡ Some (part_view part)
part_there parts k part l is = get_map part_view parts k part (item_get parts k part l is)

pub all_there : (P : BuildPart → Type 0) (parts : List Part) (k : ℕ) (part : Part) → All P (map part_view parts) → k < length parts → part ≡ get_or parts k part → P (part_view part)
all_there P parts k part all l is = subst P (view_there parts k part l is) (all k (part_view part) (long_views parts k l))

pub parts_more : (parts : List Part) (k : ℕ) (part : Part) → k < length parts → part ≡ get_or parts k part → take (k + 1) (map part_view parts) ≡ take k (map part_view parts) ++ part_view part ∷ []
parts_more parts k part l is = take_more (map part_view parts) k (part_view part) (long_views parts k l) ∙ ap (λ p. take k (map part_view parts) ++ p ∷ []) (view_there parts k part l is)

-- -- the first ELF part

elf_here : (parts : List Part) (k n : ℕ) (part : Part) → k < length parts → part ≡ get_or parts k part
    → position_from is_elf_part n (map part_view (drop k parts)) ≡ cond (is_elf_part (part_view part)) (Some n) (position_from is_elf_part (n + 1) (map part_view (drop (k + 1) parts)))
elf_here [] k n part l is = absurd (omega (arith, l))
elf_here (p ∷ parts) zero n part l is = rw (is) refl
elf_here (p ∷ parts) (suc k) n part l is =
    let next : suc k + 1 ≡ suc (k + 1) = omega arith in
    rw next (elf_here parts k n part (omega (arith, l)) is)

-- a part that is of ELF is the first
pub elf_found : (parts : List Part) (k : ℕ) (part : Part) → k < length parts → part ≡ get_or parts k part → is_elf_part (part_view part) ≡ true
    → position_from is_elf_part 0 (map part_view parts) ≡ position_from is_elf_part k (map part_view (drop k parts)) → position_from is_elf_part 0 (map part_view parts) ≡ Some k
elf_found parts k part l is elf before = before ∙ elf_here parts k k part l is ∙ rw elf refl

pub elf_passed : (parts : List Part) (k : ℕ) (part : Part) → k < length parts → part ≡ get_or parts k part → is_elf_part (part_view part) ≡ false
    → position_from is_elf_part 0 (map part_view parts) ≡ position_from is_elf_part k (map part_view (drop k parts))
    → position_from is_elf_part 0 (map part_view parts) ≡ position_from is_elf_part (k + 1) (map part_view (drop (k + 1) parts))
elf_passed parts k part l is elf before = before ∙ elf_here parts k k part l is ∙ rw elf refl

nothing_left : {A : Type 0} (xs : List A) (k : ℕ) → length xs ≤ k → drop k xs ≡ []
nothing_left [] zero l = refl
nothing_left [] (suc k) l = refl
nothing_left (x ∷ xs) zero l = absurd (omega (arith, l))
nothing_left (x ∷ xs) (suc k) l = nothing_left xs k (omega (arith, l))

pub none_found : (parts : List Part) (k : ℕ) → length parts ≤ k → position_from is_elf_part 0 (map part_view parts) ≡ position_from is_elf_part k (map part_view (drop k parts)) → position_from is_elf_part 0 (map part_view parts) ≡ None
none_found parts k l before = before ∙ ap (λ xs. position_from is_elf_part k (map part_view xs)) (nothing_left parts k l)

else_none : (t : Bool) (n : ℕ) (o : Option ℕ) → cond t (Some n) o ≡ None → (t ≡ false) × (o ≡ None)
else_none true n o e = absurd (cc)
else_none false n o e = (refl, e)

-- where none is found, none is of ELF
pub none_elf : (views : List BuildPart) (n : ℕ) → position_from is_elf_part n views ≡ None → All (λ part. is_elf_part part ≡ false) views
none_elf [] n e = All-nil (λ part. is_elf_part part ≡ false)
none_elf (v ∷ views) n e =
    let both = else_none (is_elf_part v) n (position_from is_elf_part (n + 1) views) e in
    All-cons (λ part. is_elf_part part ≡ false) v views both.0 (none_elf views (n + 1) both.1)

-- -- the end of a list

pub all_taken : (parts : List Part) (k : ℕ) → length parts ≤ k → take k (map part_view parts) ≡ map part_view parts
all_taken parts k l = take_all k (map part_view parts) (omega (arith, l, length-map parts part_view))

pub no_views_left : (parts : List Part) (k : ℕ) → length parts ≤ k → length (map part_view parts) ≤ k
no_views_left parts k l = omega (arith, l, length-map parts part_view)

pub if_ok : {A E : Type 0} (P Q : A → Type 0) (r : Result A E) → ((x : A) → P x → Q x) → IfOk r P → IfOk r Q
if_ok P Q (Ok x) f h = f x h
if_ok P Q (Err e) f h = tt

pub on_ok : {A E : Type 0} (P : Type 0) (r : Result A E) → P → OnOk r P
on_ok P (Ok x) h = h
on_ok P (Err e) h = tt

-- -- several parts

-- what refuses several parts
pub cause_of_several : (views : List BuildPart) → 1 < length views → build_cause views ≡ option_or (mixed_cause views) (first_refused_part views)
cause_of_several [] long = absurd (omega (arith, long))
cause_of_several (p ∷ []) long = absurd (omega (arith, long))
cause_of_several (p ∷ q ∷ views) long = refl

pub long_several : (parts : List Part) → 1 < length parts → 1 < length (map part_view parts)
long_several parts l = omega (arith, l, length-map parts part_view)
