-- The contents of the sections of a table, one behind the other.
use Rattle.std.proofs.Common.{◌≡◌, ℕ, zero, suc, ◌+◌, ◌-◌, ◌≤◌, inl, inr, List, [], ◌∷◌, ◌++◌, Bool, true, false, not, cond, length, take, map, Some, refl, ap, sym, ◌∙◌, arith}
use Rattle.std.specs.Prelude.{filter, slice_get, fold}
use Rattle.std.specs.Int.{next_multiple_of}
use Rattle.std.specs.List.{enumerate_from}
use Rattle.std.proofs.lemmas.List.{length-map, map-append}
use Rattle.byte_core.specs.LaidOut.{laid_out, end_of_aligned}
use Rattle.byte_core.proofs.LaidOut.{length-laid_out, end_of_aligned-append}
use Rattle.byte_core.proofs.Lists.{get_append, get_left, get_within, get_exists, passing}
use Rattle.object_core.specs.LinkTable.{MachTableSection, MachTable}
use Rattle.object_macho.specs.Layout.{byte_for, stored_contents, is_stored, end_of_sections, contents_size}
use Rattle.object_macho.specs.File.{aligned_contents}
use Rattle.object_macho.specs.Fitting.{FitsMach, StandBehind, is_unstored}

-- -- a section has as many bytes in the file as before

length-enumerate : {X : Type 0} (a : ℕ) (xs : List X) → length (enumerate_from a xs) ≡ length xs
length-enumerate a [] = refl
length-enumerate a (x ∷ xs) = ap suc (length-enumerate (a + 1) xs)

pub length-stored_contents : (cputype : ℕ) (s : MachTableSection) → length (stored_contents cputype s) ≡ length s.contents
unfolding stored_contents
length-stored_contents cputype s = length-map (enumerate_from 0 s.contents) (byte_for cputype s.relocations) ∙ length-enumerate 0 s.contents

-- -- where they end

fold_end : {A B : Type 0} (f : B → A → B) (z : B) (xs : List A) (x : A) → fold f z (xs ++ x ∷ []) ≡ f (fold f z xs) x
fold_end f z [] x = refl
fold_end f z (y ∷ ys) x = fold_end f (f z y) ys x

-- sections end where the last one does
pub end_of_sections-end : (ss : List MachTableSection) (s : MachTableSection) → end_of_sections (ss ++ s ∷ []) ≡ s.address + s.size
unfolding end_of_sections
end_of_sections-end ss s = fold_end (λ end x. x.address + x.size) 0 ss s

pub take_next : {A : Type 0} (xs : List A) (k : ℕ) (x : A) → slice_get xs k ≡ Some x → take (suc k) xs ≡ take k xs ++ x ∷ []
take_next [] k x e = absurd (cc)
take_next (y ∷ ys) zero x e = let same : y ≡ x = cc in ap (λ z. z ∷ []) same
take_next (y ∷ ys) (suc k) x e = ap (λ zs. y ∷ zs) (take_next ys k x e)

-- the sections are stored, have as many bytes as their size, and stand behind each other
pub record AreStored (ss : List MachTableSection) : Type 0 where
  pub places : StandBehind ss
  pub sizes : (k : ℕ) (s : MachTableSection) → slice_get ss k ≡ Some s → length s.contents ≡ s.size

-- the first k of them end where their bytes do
pub ends_are : (cputype : ℕ) (ss : List MachTableSection) → AreStored ss → (k : ℕ) → k ≤ length ss → end_of_aligned 0 (map (aligned_contents cputype) (take k ss)) ≡ end_of_sections (take k ss)
unfolding end_of_aligned end_of_sections
ends_are cputype ss h zero l = refl
ends_are cputype ss h (suc k) l =
    let s = get_exists ss k (omega (arith, l)) in
    let before = ends_are cputype ss h k (omega (arith, l)) in
    let longer = take_next ss k s.0 s.1 in
    let place = h.places k s.0 s.1 in
    let size = h.sizes k s.0 s.1 in
    let stored = length-stored_contents cputype s.0 in
    let bytes : end_of_aligned 0 (map (aligned_contents cputype) (take k ss) ++ aligned_contents cputype s.0 ∷ []) ≡ next_multiple_of (end_of_aligned 0 (map (aligned_contents cputype) (take k ss))) s.0.align + length (stored_contents cputype s.0) =
    end_of_aligned-append 0 (map (aligned_contents cputype) (take k ss)) (aligned_contents cputype s.0 ∷ []) in
    ap (λ xs. end_of_aligned 0 (map (aligned_contents cputype) xs)) longer
    ∙ ap (end_of_aligned 0) (map-append (aligned_contents cputype) (take k ss) (s.0 ∷ []))
    ∙ bytes
    ∙ ap (λ n. next_multiple_of n s.0.align + length (stored_contents cputype s.0)) before
    ∙ omega (arith, place, size, stored)
    ∙ sym (ap end_of_sections longer ∙ end_of_sections-end (take k ss) s.0)

-- -- the stored sections come first

pub take_front : {A : Type 0} (xs ys : List A) (k : ℕ) → k ≤ length xs → take k (xs ++ ys) ≡ take k xs
take_front [] ys zero h = refl
take_front [] ys (suc k) h = absurd (omega (arith, h))
take_front (x ∷ xs) ys zero h = refl
take_front (x ∷ xs) ys (suc k) h = ap (λ zs. x ∷ zs) (take_front xs ys k (omega (arith, h)))

-- a section of the front part stands there too
front_get : (t : MachTable) → FitsMach t → (k : ℕ) (s : MachTableSection) → slice_get (filter is_stored t.sections) k ≡ Some s → slice_get t.sections k ≡ Some s
front_get t f k s e = ap (λ ss. slice_get ss k) f.order ∙ get_left (filter is_stored t.sections) (filter is_unstored t.sections) k s e

pub front_take : (t : MachTable) → FitsMach t → (k : ℕ) → k ≤ length (filter is_stored t.sections) → take k t.sections ≡ take k (filter is_stored t.sections)
front_take t f k h = ap (take k) f.order ∙ take_front (filter is_stored t.sections) (filter is_unstored t.sections) k h

sized : (b : Bool) (n size : ℕ) → b ≡ true → n ≡ cond b size 0 → n ≡ size
sized true n size e h = h
sized false n size e h = absurd (cc)

pub stored_are : (t : MachTable) → FitsMach t → AreStored (filter is_stored t.sections)
stored_are t f = record {
  places = λ k s e.
      let within = get_within (filter is_stored t.sections) k s e in
      f.places k s (front_get t f k s e) ∙ ap (λ ss. next_multiple_of (end_of_sections ss) s.align) (front_take t f k (omega (arith, within)));
  sizes = λ k s e.
      let stored = passing is_stored t.sections k s e in
      sized (is_stored s) (length s.contents) s.size stored.passes ((f.sections k s (front_get t f k s e)).contents);
}

pub take_all : {A : Type 0} (xs : List A) → take (length xs) xs ≡ xs
take_all [] = refl
take_all (x ∷ xs) = ap (λ zs. x ∷ zs) (take_all xs)

-- all contents have the size that the table gives
pub length-contents : (t : MachTable) → FitsMach t → length (laid_out 0 (map (aligned_contents t.cputype) (filter is_stored t.sections))) ≡ contents_size t
length-contents t f =
    let ss = filter is_stored t.sections in
    let ends = ends_are t.cputype ss (stored_are t f) (length ss) (omega arith) in
    omega (arith, length-laid_out 0 (map (aligned_contents t.cputype) ss), ap (λ xs. end_of_aligned 0 (map (aligned_contents t.cputype) xs)) (take_all ss), ends, ap end_of_sections (take_all ss))

no_both : (b : Bool) → b ≡ true → not b ≡ true → ⊥
no_both true e h = cc
no_both false e h = cc

-- a stored section is one of the front part
pub front_of : (t : MachTable) → FitsMach t → (k : ℕ) (s : MachTableSection) → slice_get t.sections k ≡ Some s → is_stored s ≡ true → slice_get (filter is_stored t.sections) k ≡ Some s
front_of t f k s e stored =
    elim (get_append (filter is_stored t.sections) (filter is_unstored t.sections) k s (ap (λ ss. slice_get ss k) (sym f.order) ∙ e)) [
      | inl h ↦ h
      | inr r ↦ absurd (no_both (is_stored s) stored (passing is_unstored t.sections r.0 s r.2).passes)
    ]

-- the sections before a stored one end where their bytes do
pub ends_before : (t : MachTable) → FitsMach t → (k : ℕ) (s : MachTableSection) → slice_get (filter is_stored t.sections) k ≡ Some s
    → end_of_aligned 0 (map (aligned_contents t.cputype) (take k (filter is_stored t.sections))) ≡ end_of_sections (take k t.sections)
ends_before t f k s e =
    let within = get_within (filter is_stored t.sections) k s e in
    ends_are t.cputype (filter is_stored t.sections) (stored_are t f) k (omega (arith, within)) ∙ ap end_of_sections (sym (front_take t f k (omega (arith, within))))

-- -- the memory of all sections

ends_grow : (ss : List MachTableSection) → StandBehind ss → (k d : ℕ) → k + d ≤ length ss → end_of_sections (take k ss) ≤ end_of_sections (take (k + d) ss)
ends_grow ss h k zero l = let same : k + zero ≡ k = omega arith in rw same (omega arith)
ends_grow ss h k (suc d) l =
    let s = get_exists ss (k + d) (omega (arith, l)) in
    let next : suc (k + d) ≡ k + suc d = omega arith in
    let longer = ap end_of_sections (ap (λ n. take n ss) (sym next) ∙ take_next ss (k + d) s.0 s.1) ∙ end_of_sections-end (take (k + d) ss) s.0 in
    omega (arith, ends_grow ss h k d (omega (arith, l)), longer, h (k + d) s.0 s.1)

-- each section ends where all end, or before
pub memory_in : (ss : List MachTableSection) → StandBehind ss → (k : ℕ) (s : MachTableSection) → slice_get ss k ≡ Some s → s.address + s.size ≤ end_of_sections ss
memory_in ss h k s e =
    let within = get_within ss k s e in
    let rest : ℕ = length ss - suc k in
    let whole : suc k + rest ≡ length ss = omega (arith, within) in
    let grow = ends_grow ss h (suc k) rest (omega (arith, whole)) in
    let here = ap end_of_sections (take_next ss k s e) ∙ end_of_sections-end (take k ss) s in
    omega (arith, grow, here, ap (λ n. end_of_sections (take n ss)) whole, ap end_of_sections (take_all ss))

pub memory_of : (t : MachTable) → FitsMach t → (k : ℕ) (s : MachTableSection) → slice_get t.sections k ≡ Some s → s.address + s.size ≤ end_of_sections t.sections
memory_of t f k s e = memory_in t.sections f.places k s e
