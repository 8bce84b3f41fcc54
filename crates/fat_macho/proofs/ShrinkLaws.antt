-- A file without one of its slices is not longer.
use Rattle.std.proofs.Common.{◌≡◌, ℕ, zero, suc, ◌+◌, ◌*◌, ◌^◌, ◌<◌, ◌≤◌, ◌⊎◌, inl, inr, max, Bool, true, false, List, [], ◌∷◌, length, map, fold, is_some, refl, ap, sym, ◌∙◌, arith, if◌then◌else◌, ◌==◌, ◌||◌, ◌/◌, ◌%◌}
use Rattle.std.specs.Prelude.{nat_lt}
use Rattle.std.specs.Int.{next_multiple_of}
use Rattle.std.specs.List.{remove}
use Rattle.std.proofs.Math.Nat.{div-add-mod, add-mul-mod_self_left}
use Rattle.std.proofs.lemmas.Bool.{ltb-true, ltb-false}
use Rattle.image_read.specs.FatFile.{fat_table_end}
use Rattle.fat_macho.specs.Layout.{FatLayout, end_from, greatest_align, layout_of, fat_layout, sizes_of, total_of}
use Rattle.fat_macho.specs.Slices.{Shape, arch_name, align_of}
use Rattle.fat_macho.proofs.LayoutLaws.{next-least, next-over, next-multiple}
use Rattle.fat_macho.proofs.StepLaws.{layout_short}

-- -- multiples

-- what is a multiple of a multiple
multiple_again : (a d x : ℕ) → x % a ≡ 0 → a % d ≡ 0 → x % d ≡ 0
multiple_again a d x e f =
    let x_is : x ≡ a * (x / a) = sym (div-add-mod x a) ∙ ap (λ r. a * (x / a) + r) e ∙ plus_none (a * (x / a)) in
    let a_is : a ≡ d * (a / d) = sym (div-add-mod a d) ∙ ap (λ r. d * (a / d) + r) f ∙ plus_none (d * (a / d)) in
    let whole : x ≡ 0 + d * ((a / d) * (x / a)) = x_is ∙ ap (λ n. n * (x / a)) a_is ∙ grouped d (a / d) (x / a) in
    ap (λ n. n % d) whole ∙ add-mul-mod_self_left 0 d ((a / d) * (x / a)) ∙ none_left d
  where
    plus_none : (n : ℕ) → n + 0 ≡ n
    plus_none n = omega arith

    grouped : (n m k : ℕ) → (n * m) * k ≡ 0 + n * (m * k)
    grouped n m k = grind (arith)

    none_left : (n : ℕ) → 0 % n ≡ 0
    none_left n = grind (arith)

-- two alignments, the lesser of which divides the greater
pub record Divides (less more : ℕ) : Type 0 where
  pub some : 0 < less
  pub greater : 0 < more
  pub whole : more % less ≡ 0

next_mono : (d a n m : ℕ) → Divides d a → n ≤ m → next_multiple_of n d ≤ next_multiple_of m a
next_mono d a n m h le = next-least d n (next_multiple_of m a) h.some (omega (arith, le, next-over m a)) (multiple_again a d (next_multiple_of m a) (next-multiple m a h.greater) h.whole)

end_mono : (d a n m : ℕ) (sizes : List ℕ) → Divides d a → n ≤ m → end_from d n sizes ≤ end_from a m sizes
end_mono d a n m [] h le = le
end_mono d a n m (s ∷ sizes) h le = end_mono d a (next_multiple_of n d + s) (next_multiple_of m a + s) sizes h (omega (arith, next_mono d a n m h le))

end_removed : (d a n m i : ℕ) (sizes : List ℕ) → Divides d a → n ≤ m → end_from d n (remove sizes i) ≤ end_from a m sizes
end_removed d a n m zero [] h le = le
end_removed d a n m (suc i) [] h le = le
end_removed d a n m zero (s ∷ sizes) h le = end_mono d a n (next_multiple_of m a + s) sizes h (omega (arith, le, next-over m a))
end_removed d a n m (suc i) (s ∷ sizes) h le = end_removed d a (next_multiple_of n d + s) (next_multiple_of m a + s) i sizes h (omega (arith, next_mono d a n m h le))

-- -- alignments

-- an alignment of slices
abbrev IsPage : ℕ → Type 0
IsPage n = (n ≡ 1) ⊎ ((n ≡ 0x1000) ⊎ ((n ≡ 0x2000) ⊎ (n ≡ 0x4000)))

page_by : (a b c : Bool) → IsPage (if a then (if b then 0x1000 else if c then 0x2000 else 0x4000) else 0x4000)
page_by true true c = inr (inl refl)
page_by true false true = inr (inr (inl refl))
page_by true false false = inr (inr (inr refl))
page_by false b c = inr (inr (inr refl))

align_is_page : (a : Shape) → IsPage (align_of a)
align_is_page a =
    page_by (is_some (arch_name a)) (a.cputype == 7 || a.cputype == 0x01000007 || a.cputype == 18 || a.cputype == 0x01000012) (a.cputype == 6 || a.cputype == 11 || a.cputype == 13 || a.cputype == 14 || a.cputype == 15)

page_divides : (d a : ℕ) → IsPage d → IsPage a → d ≤ a → Divides d a
page_divides d a (inl e) (inl f) le = record { some = omega (arith, e); greater = omega (arith, f); whole = rw (e, f) refl }
page_divides d a (inl e) (inr (inl f)) le = record { some = omega (arith, e); greater = omega (arith, f); whole = rw (e, f) refl }
page_divides d a (inl e) (inr (inr (inl f))) le = record { some = omega (arith, e); greater = omega (arith, f); whole = rw (e, f) refl }
page_divides d a (inl e) (inr (inr (inr f))) le = record { some = omega (arith, e); greater = omega (arith, f); whole = rw (e, f) refl }
page_divides d a (inr (inl e)) (inl f) le = absurd (omega (arith, e, f, le))
page_divides d a (inr (inl e)) (inr (inl f)) le = record { some = omega (arith, e); greater = omega (arith, f); whole = rw (e, f) refl }
page_divides d a (inr (inl e)) (inr (inr (inl f))) le = record { some = omega (arith, e); greater = omega (arith, f); whole = rw (e, f) refl }
page_divides d a (inr (inl e)) (inr (inr (inr f))) le = record { some = omega (arith, e); greater = omega (arith, f); whole = rw (e, f) refl }
page_divides d a (inr (inr (inl e))) (inl f) le = absurd (omega (arith, e, f, le))
page_divides d a (inr (inr (inl e))) (inr (inl f)) le = absurd (omega (arith, e, f, le))
page_divides d a (inr (inr (inl e))) (inr (inr (inl f))) le = record { some = omega (arith, e); greater = omega (arith, f); whole = rw (e, f) refl }
page_divides d a (inr (inr (inl e))) (inr (inr (inr f))) le = record { some = omega (arith, e); greater = omega (arith, f); whole = rw (e, f) refl }
page_divides d a (inr (inr (inr e))) (inl f) le = absurd (omega (arith, e, f, le))
page_divides d a (inr (inr (inr e))) (inr (inl f)) le = absurd (omega (arith, e, f, le))
page_divides d a (inr (inr (inr e))) (inr (inr (inl f))) le = absurd (omega (arith, e, f, le))
page_divides d a (inr (inr (inr e))) (inr (inr (inr f))) le = record { some = omega (arith, e); greater = omega (arith, f); whole = rw (e, f) refl }

max_page : (d a : ℕ) → IsPage d → IsPage a → IsPage (max d a)
max_page d a h k = max_by (nat_lt d a) refl
  where
    max_by : (t : Bool) → nat_lt d a ≡ t → IsPage (max d a)
    max_by true e = let is : max d a ≡ a = omega (arith, ltb-true d a e) in rw is k
    max_by false e = let is : max d a ≡ d = omega (arith, ltb-false d a e) in rw is h

abbrev greatest_from : ℕ → List Shape → ℕ
greatest_from start shapes = fold (λ align a. max align (align_of a)) start shapes

greatest_page : (start : ℕ) (shapes : List Shape) → IsPage start → IsPage (greatest_from start shapes)
greatest_page start [] h = h
greatest_page start (a ∷ shapes) h = greatest_page (max start (align_of a)) shapes (max_page start (align_of a) h (align_is_page a))

greatest_mono : (n m : ℕ) (shapes : List Shape) → n ≤ m → greatest_from n shapes ≤ greatest_from m shapes
greatest_mono n m [] le = le
greatest_mono n m (a ∷ shapes) le = greatest_mono (max n (align_of a)) (max m (align_of a)) shapes (omega (arith, le))

greatest_removed : (n m i : ℕ) (shapes : List Shape) → n ≤ m → greatest_from n (remove shapes i) ≤ greatest_from m shapes
greatest_removed n m zero [] le = le
greatest_removed n m (suc i) [] le = le
greatest_removed n m zero (a ∷ shapes) le = greatest_mono n (max m (align_of a)) shapes (omega (arith, le))
greatest_removed n m (suc i) (a ∷ shapes) le = greatest_removed (max n (align_of a)) (max m (align_of a)) i shapes (omega (arith, le))

greatest_divides : (shapes : List Shape) (i : ℕ) → Divides (greatest_align (remove shapes i)) (greatest_align shapes)
greatest_divides shapes i =
    page_divides (greatest_align (remove shapes i)) (greatest_align shapes) (greatest_page 1 (remove shapes i) (inl refl)) (greatest_page 1 shapes (inl refl)) (greatest_removed 1 1 i shapes (omega arith))

-- -- totals

pub map_removed : {X Y : Type 0} (f : X → Y) (xs : List X) (i : ℕ) → map f (remove xs i) ≡ remove (map f xs) i
map_removed f [] zero = refl
map_removed f [] (suc i) = refl
map_removed f (x ∷ xs) zero = refl
map_removed f (x ∷ xs) (suc i) = ap (λ ys. f x ∷ ys) (map_removed f xs i)

pub length_removed : {X : Type 0} (xs : List X) (i : ℕ) → length (remove xs i) ≤ length xs
length_removed [] zero = omega arith
length_removed [] (suc i) = omega arith
length_removed (x ∷ xs) zero = omega arith
length_removed (x ∷ xs) (suc i) = omega (arith, length_removed xs i)

table_mono : (wide : Bool) (n m : ℕ) → n ≤ m → fat_table_end wide n ≤ fat_table_end wide m
table_mono true n m le = omega (arith, le)
table_mono false n m le = omega (arith, le)

wide_table : (n : ℕ) → fat_table_end false n ≤ fat_table_end true n
wide_table n = omega arith

same_divides : (a : ℕ) → 0 < a → Divides a a
same_divides a some = record { some = some; greater = some; whole = grind (arith) }

abbrev laid : Bool → List Shape → FatLayout
laid wide shapes = layout_of (greatest_align shapes) wide (sizes_of shapes)

laid_removed : (wide : Bool) (shapes : List Shape) (i : ℕ) → (laid wide (remove shapes i)).total ≤ (laid wide shapes).total
unfolding layout_of
laid_removed wide shapes i =
    let sizes : sizes_of (remove shapes i) ≡ remove (sizes_of shapes) i = map_removed (λ (a : Shape). a.size) shapes i in
    let count : length (sizes_of (remove shapes i)) ≤ length (sizes_of shapes) = omega (arith, ap length sizes, length_removed (sizes_of shapes) i) in
    let less = end_removed (greatest_align (remove shapes i)) (greatest_align shapes) (fat_table_end wide (length (sizes_of (remove shapes i)))) (fat_table_end wide (length (sizes_of shapes))) i (sizes_of shapes) (greatest_divides shapes i) (table_mono wide _ _ count) in
    omega (arith, ap (end_from (greatest_align (remove shapes i)) (fat_table_end wide (length (sizes_of (remove shapes i))))) sizes, less)

laid_wide : (shapes : List Shape) → (laid false shapes).total ≤ (laid true shapes).total
unfolding layout_of
laid_wide shapes = end_mono (greatest_align shapes) (greatest_align shapes) _ _ (sizes_of shapes) (same_divides (greatest_align shapes) (greatest_divides shapes 0).greater) (wide_table (length (sizes_of shapes)))

abbrev either_layout : Bool → FatLayout → FatLayout → FatLayout
either_layout wide w n = if wide then w else n

either_less : (limit : ℕ) (t u : Bool) (w n v m : FatLayout) → nat_lt limit n.total ≡ t → nat_lt limit m.total ≡ u → n.total ≤ m.total → w.total ≤ v.total → m.total ≤ v.total → (either_layout t w n).total ≤ (either_layout u v m).total
either_less limit true true w n v m e f less wide over = wide
either_less limit true false w n v m e f less wide over = absurd (omega (arith, ltb-true limit n.total e, ltb-false limit m.total f, less))
either_less limit false true w n v m e f less wide over = omega (arith, less, over)
either_less limit false false w n v m e f less wide over = less

layout_removed : (shapes : List Shape) (i : ℕ) → (fat_layout (remove shapes i)).total ≤ (fat_layout shapes).total
unfolding fat_layout
layout_removed shapes i =
    either_less 4294967295 (nat_lt 4294967295 (laid false (remove shapes i)).total) (nat_lt 4294967295 (laid false shapes).total) (laid true (remove shapes i)) (laid false (remove shapes i)) (laid true shapes) (laid false shapes) refl refl
    (laid_removed false shapes i) (laid_removed true shapes i) (laid_wide shapes)

total_short : (shapes : List Shape) (n : ℕ) → (fat_layout shapes).total < n → total_of shapes < n
total_short [] n h = omega (arith, h)
total_short (a ∷ shapes) n h = h

-- a short file stays short
pub short_removed : (shapes : List Shape) (i : ℕ) → total_of shapes < 2 ^ 63 → total_of (remove shapes i) < 2 ^ 63
short_removed shapes i h = total_short (remove shapes i) (2 ^ 63) (omega (arith, layout_removed shapes i, layout_short shapes h))
