-- Slices that are put in order input by input are those of all inputs in order.
use Rattle.std.proofs.Common.{◌≡◌, ℕ, ◌+◌, ◌^◌, Bool, true, false, ◌||◌, List, [], ◌∷◌, ◌++◌, length, map, Option, Some, None, option_map, nat_le, refl, ap, sym, ◌∙◌, subst, append_assoc, append-nil, if◌then◌else◌}
use Rattle.std.specs.Prelude.{flat_map}
use Rattle.std.specs.List.{AllZip, AllByRecursion, list_any, find}
use Rattle.fat_macho.specs.FatHolds.{FatHolds, HoldsOrdered}
use Rattle.fat_macho.specs.Held.{Origin, Held, held_slice, shapes_held, known_slices}
use Rattle.fat_macho.specs.Input.{FatRefusal, refuse_if, first_cause, duplicate_of, is_among, joining_cause, too_many, too_large}
use Rattle.fat_macho.specs.Layout.{total_of}
use Rattle.fat_macho.specs.Parts.{Pairwise}
use Rattle.fat_macho.specs.Slices.{Shape, Slice, shape_of, share_arch, stands_before, by_shape, inserted, all_inserted, in_order_by, slice_before, in_order, shapes_in_order}
use Rattle.fat_macho.proofs.JoiningLaws.{none_among, allowed}
use Rattle.fat_macho.proofs.OrderLaws.{Differ, AllDiffer, put_through, put_in, in_order_append, seen_in_order}
use Rattle.fat_macho.proofs.RankLaws.{in_order_stays, each_in_order, length-in_order, pairs_append, differ_seen}
use Rattle.image_build.specs.Built.{BuildPart, IsSlicesOf, shapes_of_part, shapes_of_parts, BuiltFat}
use Rattle.image_build.specs.Joined.{AddsPart, IsKnownFile}

-- -- order

into_nothing : {A : Type 0} (shape : A → Shape) (xs : List A) → all_inserted (by_shape shape) xs [] ≡ in_order_by (by_shape shape) xs
into_nothing shape [] = refl
into_nothing shape (x ∷ xs) = ap (inserted (by_shape shape) x) (into_nothing shape xs)

swapped_ins : {A : Type 0} (shape : A → Shape) (xs ys : List A) → AllDiffer shape xs ys → all_inserted (by_shape shape) ys (in_order_by (by_shape shape) xs) ≡ all_inserted (by_shape shape) xs (in_order_by (by_shape shape) ys)
swapped_ins shape xs [] d = sym (into_nothing shape xs)
swapped_ins shape xs (y ∷ ys) d = ap (inserted (by_shape shape) y) (swapped_ins shape xs ys d.1) ∙ sym (put_through shape y xs (in_order_by (by_shape shape) ys) d.0)

-- lists of other architectures have one order, whichever comes first
pub swapped : {A : Type 0} (shape : A → Shape) (xs ys : List A) → AllDiffer shape xs ys → in_order_by (by_shape shape) (xs ++ ys) ≡ in_order_by (by_shape shape) (ys ++ xs)
swapped shape xs ys d = in_order_append (by_shape shape) xs ys ∙ sym (swapped_ins shape xs ys d) ∙ sym (in_order_append (by_shape shape) ys xs)

differ_in_order : {A : Type 0} (shape : A → Shape) (xs ys : List A) → AllDiffer shape xs ys → AllDiffer shape (in_order_by (by_shape shape) xs) ys
differ_in_order shape xs [] d = tt
differ_in_order shape xs (y ∷ ys) d = (each_in_order (λ x. Differ (shape x) (shape y)) (by_shape shape) xs d.0, differ_in_order shape xs ys d.1)

-- those that stand in order already may be put in order with the others again
pub ordered_again : {A : Type 0} (shape : A → Shape) (xs new : List A) → Pairwise (λ x y. Differ (shape x) (shape y)) xs → AllDiffer shape xs new
    → in_order_by (by_shape shape) (in_order_by (by_shape shape) xs ++ new) ≡ in_order_by (by_shape shape) (xs ++ new)
ordered_again shape xs new p d =
    sym (put_in shape (in_order_by (by_shape shape) xs) new (in_order_stays shape xs p) (differ_in_order shape xs new d))
    ∙ sym (in_order_append (by_shape shape) new xs) ∙ sym (swapped shape xs new d)

-- -- what refuses slices behind others

or_turn : (a b c : Bool) → (a || (b || c)) ≡ (b || (a || c))
or_turn true true c = refl
or_turn true false c = refl
or_turn false b c = refl

any_by : (p : Shape → Bool) (x y : Shape) (ys : List Shape) (t : Bool) → list_any p (inserted stands_before x ys) ≡ (p x || list_any p ys)
    → list_any p (if t then x ∷ y ∷ ys else y ∷ inserted stands_before x ys) ≡ (p x || (p y || list_any p ys))
any_by p x y ys true h = refl
any_by p x y ys false h = ap (λ b. p y || b) h ∙ or_turn (p y) (p x) (list_any p ys)

any_inserted : (p : Shape → Bool) (x : Shape) (ys : List Shape) → list_any p (inserted stands_before x ys) ≡ (p x || list_any p ys)
any_inserted p x [] = refl
any_inserted p x (y ∷ ys) = any_by p x y ys (stands_before x y) (any_inserted p x ys)

any_in_order : (p : Shape → Bool) (xs : List Shape) → list_any p (in_order_by stands_before xs) ≡ list_any p xs
any_in_order p [] = refl
any_in_order p (x ∷ xs) = any_inserted p x (in_order_by stands_before xs) ∙ ap (λ b. p x || b) (any_in_order p xs)

find_as : (p q : Shape → Bool) (xs : List Shape) → ((x : Shape) → p x ≡ q x) → find p xs ≡ find q xs
find_as p q [] h = refl
find_as p q (x ∷ xs) h = rw (h x, find_as p q xs h) refl

-- the causes of slices behind others, in their order
abbrev pub cause_of : Option Shape → ℕ → ℕ → Option FatRefusal
cause_of among count total = first_cause (option_map duplicate_of among ∷ refuse_if (nat_le (2 ^ 32) count) (too_many count) ∷ refuse_if (nat_le (2 ^ 63) total) (too_large total) ∷ [])

cause_same : (among : Option Shape) (count total amount : ℕ) → (among ≡ None → total ≡ amount) → cause_of among count total ≡ cause_of among count amount
cause_same None count total amount h = ap (cause_of None count) (h refl)
cause_same (Some a) count total amount h = refl

-- it is one whether the others stand in order or not
pub cause_in_order : (xs new : List Shape) → Pairwise Differ xs → joining_cause (in_order_by stands_before xs) new ≡ joining_cause xs new
unfolding joining_cause shapes_in_order
cause_in_order xs new p =
    let found = find_as (is_among (in_order_by stands_before xs)) (is_among xs) new (λ a. any_in_order (share_arch a) xs) in
    ap (λ among. cause_of among (length (in_order_by stands_before xs) + length new) (total_of (in_order_by stands_before (in_order_by stands_before xs ++ new)))) found
    ∙ ap (λ count. cause_of (find (is_among xs) new) (count + length new) (total_of (in_order_by stands_before (in_order_by stands_before xs ++ new)))) (length-in_order stands_before xs)
    ∙ cause_same (find (is_among xs) new) (length xs + length new) _ (total_of (in_order_by stands_before (xs ++ new))) (λ none. ap total_of (ordered_again (λ a. a) xs new p (none_among xs new none)))

-- -- slices that are held

-- what is known of a slice
abbrev pub told_slice : Slice → Shape × Option (List ℕ)
told_slice s = (shape_of s, Some s.bytes)

-- what a writer tells of one that it holds
abbrev pub seen_held : Held → Shape × Option (List ℕ)
seen_held h = (h.shape, h.bytes)

same_heads : {A : Type 0} (x y : A) (xs ys : List A) → x ∷ xs ≡ y ∷ ys → x ≡ y
same_heads x y xs ys e = cc

same_tails : {A : Type 0} (x y : A) (xs ys : List A) → x ∷ xs ≡ y ∷ ys → xs ≡ ys
same_tails x y xs ys e = cc

pub known_by : (held : List Held) (slices : List Slice) → map seen_held held ≡ map told_slice slices → known_slices held ≡ Some slices
known_by [] [] e = refl
known_by [] (s ∷ ss) e = absurd (cc)
known_by (h ∷ hs) [] e = absurd (cc)
known_by (h ∷ hs) (s ∷ ss) e =
    let head = same_heads (seen_held h) (told_slice s) (map seen_held hs) (map told_slice ss) e in
    let shape : h.shape ≡ shape_of s = ap (λ (p : Shape × Option (List ℕ)). p.0) head in
    let bytes : h.bytes ≡ Some s.bytes = ap (λ (p : Shape × Option (List ℕ)). p.1) head in
    let rest : known_slices hs ≡ Some ss = known_by hs ss (same_tails (seen_held h) (told_slice s) (map seen_held hs) (map told_slice ss) e) in
    rw (shape, bytes, rest) refl

pub shapes_by : (held : List Held) (slices : List Slice) → map seen_held held ≡ map told_slice slices → shapes_held held ≡ map shape_of slices
shapes_by [] [] e = refl
shapes_by [] (s ∷ ss) e = absurd (cc)
shapes_by (h ∷ hs) [] e = absurd (cc)
shapes_by (h ∷ hs) (s ∷ ss) e =
    let head = same_heads (seen_held h) (told_slice s) (map seen_held hs) (map told_slice ss) e in
    let shape : h.shape ≡ shape_of s = ap (λ (p : Shape × Option (List ℕ)). p.0) head in
    let rest : shapes_held hs ≡ map shape_of ss = shapes_by hs ss (same_tails (seen_held h) (told_slice s) (map seen_held hs) (map told_slice ss) e) in
    rw (shape, rest) refl

seen_new : (origin : Origin) (slices : List Slice) → map seen_held (map (held_slice origin 0) slices) ≡ map told_slice slices
seen_new origin [] = refl
seen_new origin (s ∷ ss) = ap (λ xs. told_slice s ∷ xs) (seen_new origin ss)

-- the slices of the parts are held in order, each architecture once
pub record HoldsParts (parts : List BuildPart) (held : List Held) : Type 0 where
  pub slices : List (List Slice)
  pub each : AllZip IsSlicesOf parts slices
  pub shapes : shapes_of_parts parts ≡ map shape_of (flat_map (λ here. here) slices)
  pub apart : Pairwise (λ s t. Differ (shape_of s) (shape_of t)) (flat_map (λ here. here) slices)
  pub seen : map seen_held held ≡ map told_slice (in_order (flat_map (λ here. here) slices))

pub holds_nothing : HoldsParts [] []
unfolding in_order
holds_nothing = record { slices = []; each = tt; shapes = refl; apart = tt; seen = refl }

shapes_seen : (slices : List Slice) → map shape_of (in_order slices) ≡ in_order_by stands_before (map shape_of slices)
unfolding in_order
shapes_seen slices = seen_in_order shape_of (λ a. a) slices

pairs_seen : (slices : List Slice) → Pairwise (λ s t. Differ (shape_of s) (shape_of t)) slices → Pairwise Differ (map shape_of slices)
pairs_seen [] h = tt
pairs_seen (s ∷ ss) h = (each_seen (shape_of s) ss h.0, pairs_seen ss h.1)
  where
    each_seen : (a : Shape) (ss : List Slice) → AllByRecursion (λ t. Differ a (shape_of t)) ss → AllByRecursion (Differ a) (map shape_of ss)
    each_seen a [] h = tt
    each_seen a (s ∷ ss) h = (h.0, each_seen a ss h.1)

-- what refuses a part behind others is told by the shapes that are held
pub held_cause : (parts : List BuildPart) (held : List Held) (new : List Shape) → HoldsParts parts held → joining_cause (shapes_held held) new ≡ joining_cause (shapes_of_parts parts) new
held_cause parts held new h =
    let all = flat_map (λ here. here) h.slices in
    ap (λ xs. joining_cause xs new) (shapes_by held (in_order all) h.seen ∙ shapes_seen all) ∙ cause_in_order (map shape_of all) new (pairs_seen all h.apart) ∙ ap (λ xs. joining_cause xs new) (sym h.shapes)

map_both : {A B : Type 0} (f : A → B) (xs ys : List A) → map f (xs ++ ys) ≡ map f xs ++ map f ys
map_both f [] ys = refl
map_both f (x ∷ xs) ys = ap (λ zs. f x ∷ zs) (map_both f xs ys)

flat_snoc : {A B : Type 0} (f : A → List B) (xs : List A) (y : A) → flat_map f (xs ++ y ∷ []) ≡ flat_map f xs ++ f y
flat_snoc f [] y = append-nil (f y)
flat_snoc f (x ∷ xs) y = ap (λ zs. f x ++ zs) (flat_snoc f xs y) ∙ sym (append_assoc (f x) (flat_map f xs) (f y))

pub zip_snoc : {A B : Type 0} (R : A → B → Type 0) (xs : List A) (ys : List B) (x : A) (y : B) → AllZip R xs ys → R x y → AllZip R (xs ++ x ∷ []) (ys ++ y ∷ [])
zip_snoc R [] [] x y h r = (r, tt)
zip_snoc R [] (b ∷ ys) x y h r = absurd h
zip_snoc R (a ∷ xs) [] x y h r = absurd h
zip_snoc R (a ∷ xs) (b ∷ ys) x y h r = (h.0, zip_snoc R xs ys x y h.1 r)

-- a part more
pub holds_more : (parts : List BuildPart) (part : BuildPart) (old new : List Held) → HoldsParts parts old → AddsPart part old new → HoldsParts (parts ++ part ∷ []) new
unfolding in_order
holds_more parts part old new h a =
    let all = flat_map (λ here. here) h.slices in
    let free : joining_cause (map shape_of all) (map shape_of a.slices) ≡ None = ap (λ xs. joining_cause xs (map shape_of a.slices)) (sym h.shapes) ∙ sym (held_cause parts old (map shape_of a.slices) h) ∙ a.allowed in
    let differ = differ_seen shape_of all a.slices (none_among (map shape_of all) (map shape_of a.slices) (allowed (map shape_of all) (map shape_of a.slices) free).none) in
    let flat = flat_snoc (λ (here : List Slice). here) h.slices a.slices in
    record {
      slices = h.slices ++ a.slices ∷ [];
      each = zip_snoc IsSlicesOf parts h.slices part a.slices h.each a.are;
      shapes = flat_snoc shapes_of_part parts part ∙ ap (λ xs. xs ++ shapes_of_part part) h.shapes ∙ ap (λ xs. map shape_of all ++ xs) a.shapes ∙ sym (map_both shape_of all a.slices) ∙ ap (map shape_of) (sym flat);
      apart = rw flat (pairs_append shape_of all a.slices h.apart a.apart differ);
      seen =
          ap (map seen_held) a.added
          ∙ seen_in_order seen_held (λ (p : Shape × Option (List ℕ)). p.0) (old ++ map (held_slice a.origin 0) a.slices)
          ∙ ap (in_order_by (by_shape (λ (p : Shape × Option (List ℕ)). p.0)))
          (map_both seen_held old (map (held_slice a.origin 0) a.slices) ∙ ap (λ xs. xs ++ map seen_held (map (held_slice a.origin 0) a.slices)) h.seen ∙ ap (λ xs. map told_slice (in_order_by slice_before all) ++ xs) (seen_new a.origin a.slices)
          ∙ sym (map_both told_slice (in_order_by slice_before all) a.slices))
          ∙ sym (seen_in_order told_slice (λ (p : Shape × Option (List ℕ)). p.0) (in_order_by slice_before all ++ a.slices))
          ∙ ap (map told_slice) (ordered_again shape_of all a.slices h.apart differ)
          ∙ ap (λ xs. map told_slice (in_order_by slice_before xs)) (sym flat);
    }

-- the fat file of what is held is that of the parts
pub built_of : (parts : List BuildPart) (held : List Held) (b : List ℕ) → HoldsParts parts held → IsKnownFile held b → BuiltFat parts b
unfolding in_order
built_of parts held b h file =
    let all = flat_map (λ here. here) h.slices in
    let ordered : FatHolds b (in_order all) = rw (known_by held (in_order all) h.seen) at file in
    record { slices = h.slices; each = h.each; file = subst (HoldsOrdered b) (in_order_stays shape_of all h.apart) ordered }
