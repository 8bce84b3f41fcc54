-- Where contents that are laid out by alignments stand.
use Rattle.std.proofs.Common.{◌≡◌, ℕ, zero, suc, ◌+◌, ◌-◌, ◌<◌, ◌≤◌, List, [], ◌∷◌, ◌++◌, length, take, drop, map, get_or, refl, ap, sym, ◌∙◌, append_assoc, append-nil, arith, length-append, Some, slice_get, replicate, take-append-drop}
use Rattle.std.specs.Int.{next_multiple_of}
use Rattle.std.proofs.lemmas.List.{length-replicate, map-append, take_more}
use Rattle.byte_core.specs.LaidOut.{LaysOut, Aligned, end_behind, end_of_aligned, laid_out}
use Rattle.byte_core.proofs.Standing.{StandsAt, stands_left, stands_right}

-- the zeros between two places
abbrev pub zeros : ℕ → List ℕ
zeros n = replicate n 0

pub length-zeros : (n : ℕ) → length (zeros n) ≡ n
length-zeros n = let z : ℕ = 0 in length-replicate n z

pub end_behind-le : (at : ℕ) (c : Aligned) → at ≤ end_behind at c
end_behind-le at c = omega arith

pub end_of_aligned-le : (at : ℕ) (cs : List Aligned) → at ≤ end_of_aligned at cs
unfolding end_of_aligned
end_of_aligned-le at [] = omega arith
end_of_aligned-le at (c ∷ cs) = omega (arith, end_of_aligned-le (end_behind at c) cs)

pub end_of_aligned-take : (at : ℕ) (cs : List Aligned) (k : ℕ) → end_of_aligned at (take k cs) ≤ end_of_aligned at cs
unfolding end_of_aligned
end_of_aligned-take at cs zero = end_of_aligned-le at cs
end_of_aligned-take at [] (suc k) = omega arith
end_of_aligned-take at (c ∷ cs) (suc k) = end_of_aligned-take (end_behind at c) cs k

pub length-laid_out : (at : ℕ) (cs : List Aligned) → at + length (laid_out at cs) ≡ end_of_aligned at cs
unfolding laid_out end_of_aligned
length-laid_out at [] = omega arith
length-laid_out at (c ∷ cs) =
    omega (
      arith,
      length-append (zeros (next_multiple_of at c.align - at)) (c.bytes ++ laid_out (end_behind at c) cs),
      length-append c.bytes (laid_out (end_behind at c) cs),
      length-zeros (next_multiple_of at c.align - at),
      length-laid_out (end_behind at c) cs,
    )

pub laid_out-append : (at : ℕ) (cs ds : List Aligned) → laid_out at (cs ++ ds) ≡ laid_out at cs ++ laid_out (end_of_aligned at cs) ds
unfolding laid_out end_of_aligned
laid_out-append at [] ds = refl
laid_out-append at (c ∷ cs) ds = rw (laid_out-append (end_behind at c) cs ds, append_assoc, append_assoc) refl

pub end_of_aligned-append : (at : ℕ) (cs ds : List Aligned) → end_of_aligned at (cs ++ ds) ≡ end_of_aligned (end_of_aligned at cs) ds
unfolding end_of_aligned
end_of_aligned-append at [] ds = refl
end_of_aligned-append at (c ∷ cs) ds = end_of_aligned-append (end_behind at c) cs ds

-- contents and the zeros before them
pub record StandAligned (b : List ℕ) (at : ℕ) (c : Aligned) : Type 0 where
  pub gap : StandsAt b (zeros (next_multiple_of at c.align - at)) at
  pub here : StandsAt b c.bytes (next_multiple_of at c.align)

-- contents k stand behind those before them
pub contents_stand : (b : List ℕ) (at : ℕ) (cs : List Aligned) (k : ℕ) (c : Aligned) → StandsAt b (laid_out at cs) at → slice_get cs k ≡ Some c → StandAligned b (end_of_aligned at (take k cs)) c
unfolding laid_out end_of_aligned
contents_stand b at [] zero c s e = absurd (cc)
contents_stand b at [] (suc k) c s e = absurd (cc)
contents_stand b at (x ∷ cs) zero c s e =
    let same : x ≡ c = cc in
    let gap = zeros (next_multiple_of at x.align - at) in
    let rest = laid_out (end_behind at x) cs in
    let n : at + length gap ≡ next_multiple_of at x.align = omega (arith, length-zeros (next_multiple_of at x.align - at)) in
    rw (← same) (record {
      gap = stands_left b gap (x.bytes ++ rest) at s;
      here = stands_left b x.bytes rest (next_multiple_of at x.align) (stands_right b gap (x.bytes ++ rest) at (next_multiple_of at x.align) s n);
    })
contents_stand b at (x ∷ cs) (suc k) c s e =
    let gap = zeros (next_multiple_of at x.align - at) in
    let rest = laid_out (end_behind at x) cs in
    let n : at + length gap ≡ next_multiple_of at x.align = omega (arith, length-zeros (next_multiple_of at x.align - at)) in
    let behind = stands_right b gap (x.bytes ++ rest) at (next_multiple_of at x.align) s n in
    contents_stand b (end_behind at x) cs k c (stands_right b x.bytes rest (next_multiple_of at x.align) (end_behind at x) behind refl) e

-- ---- one after the other

pub lays_none : (old : List ℕ) → LaysOut old old []
unfolding laid_out
lays_none old = record { bytes = sym (append-nil old) }

pub lays_more : (old mid new : List ℕ) (cs ds : List Aligned) → LaysOut old mid cs → LaysOut mid new ds → LaysOut old new (cs ++ ds)
lays_more old mid new cs ds f g =
    let place : length mid ≡ end_of_aligned (length old) cs = ap length f.bytes ∙ length-append old (laid_out (length old) cs) ∙ length-laid_out (length old) cs in
    record {
      bytes =
          g.bytes
          ∙ ap (λ at. mid ++ laid_out at ds) place
          ∙ ap (λ m. m ++ laid_out (end_of_aligned (length old) cs) ds) f.bytes
          ∙ append_assoc old (laid_out (length old) cs) (laid_out (end_of_aligned (length old) cs) ds)
          ∙ ap (λ rest. old ++ rest) (sym (laid_out-append (length old) cs ds));
    }

-- zeros up to the alignment, then bytes
pub lays_one : (old padded new bytes : List ℕ) (align : ℕ) → padded ≡ old ++ zeros (next_multiple_of (length old) align - length old) → new ≡ padded ++ bytes
    → LaysOut old new (record { align = align; bytes = bytes } ∷ [])
unfolding laid_out
lays_one old padded new bytes align p n =
    record { bytes = n ∙ ap (λ m. m ++ bytes) p ∙ append_assoc old (zeros (next_multiple_of (length old) align - length old)) bytes ∙ ap (λ rest. old ++ (zeros (next_multiple_of (length old) align - length old) ++ rest)) (sym (append-nil bytes)) }

pub next_multiple_of_one : (n : ℕ) → next_multiple_of n 1 ≡ n
next_multiple_of_one n = omega arith

-- bytes at any place
pub lays_bytes : (old new bytes : List ℕ) → new ≡ old ++ bytes → LaysOut old new (record { align = 1; bytes = bytes } ∷ [])
lays_bytes old new bytes e =
    let none : next_multiple_of (length old) 1 - length old ≡ 0 = omega (arith, next_multiple_of_one (length old)) in
    lays_one old old new bytes 1 (rw none (sym (append-nil old))) e

-- padding and one more piece of contents, in a loop
pub laid_next : (first out padded new bytes : List ℕ) (align : ℕ) (cs ds : List Aligned) → ds ≡ cs ++ record { align = align; bytes = bytes } ∷ [] → LaysOut first out cs
    → padded ≡ out ++ replicate (next_multiple_of (length out) align - length out) 0 → new ≡ padded ++ bytes → LaysOut first new ds
laid_next first out padded new bytes align cs ds e f p w =
    rw e (lays_more first out new cs (record { align = align; bytes = bytes } ∷ []) f (lays_one out padded new bytes align p w))

pub lays_as : (old new : List ℕ) (cs ds : List Aligned) → cs ≡ ds → LaysOut old new cs → LaysOut old new ds
lays_as old new cs ds e f = rw (← e) f

-- ---- contents that are written in a loop, and the room for the next

pub next_of : {X : Type 0} (f : X → Aligned) (xs : List X) (i : ℕ) (d : X) → i < length xs → map f (take (i + 1) xs) ≡ map f (take i xs) ++ f (get_or xs i d) ∷ []
next_of f xs i d h = ap (map f) (take_more xs i d h) ∙ map-append f (take i xs) (get_or xs i d ∷ [])

-- where the next contents end
pub end_next : {X : Type 0} (f : X → Aligned) (xs : List X) (i at end : ℕ) (d : X) → i < length xs → end ≡ end_of_aligned at (map f (take i xs))
    → next_multiple_of end (f (get_or xs i d)).align + length (f (get_or xs i d)).bytes ≡ end_of_aligned at (map f (take (i + 1) xs))
unfolding end_of_aligned
end_next f xs i at end d h n = ap (λ p. end_behind p (f (get_or xs i d))) n ∙ sym (ap (end_of_aligned at) (next_of f xs i d h) ∙ end_of_aligned-append at (map f (take i xs)) (f (get_or xs i d) ∷ []))

front_within : {X : Type 0} (f : X → Aligned) (xs : List X) (k at : ℕ) → end_of_aligned at (map f (take k xs)) ≤ end_of_aligned at (map f xs)
front_within f xs k at =
    let whole : map f xs ≡ map f (take k xs) ++ map f (drop k xs) = ap (map f) (sym (take-append-drop k xs)) ∙ map-append f (take k xs) (drop k xs) in
    omega (arith, ap (end_of_aligned at) whole, end_of_aligned-append at (map f (take k xs)) (map f (drop k xs)), end_of_aligned-le (end_of_aligned at (map f (take k xs))) (map f (drop k xs)))

-- the next contents have room
pub bytes_room : {X : Type 0} (f : X → Aligned) (xs : List X) (i at end n : ℕ) (d : X) → i < length xs → end ≡ end_of_aligned at (map f (take i xs)) → end_of_aligned at (map f xs) ≤ n
    → next_multiple_of end (f (get_or xs i d)).align + length (f (get_or xs i d)).bytes ≤ n
bytes_room f xs i at end n d h e room = omega (arith, end_next f xs i at end d h e, front_within f xs (i + 1) at)

pub padding_room : {X : Type 0} (f : X → Aligned) (xs : List X) (i at end n : ℕ) (d : X) → i < length xs → end ≡ end_of_aligned at (map f (take i xs)) → end_of_aligned at (map f xs) ≤ n
    → next_multiple_of end (f (get_or xs i d)).align ≤ n
padding_room f xs i at end n d h e room = omega (arith, bytes_room f xs i at end n d h e room)

-- what was written has room
pub front_room : {X : Type 0} (f : X → Aligned) (xs : List X) (i at end n : ℕ) → end ≡ end_of_aligned at (map f (take i xs)) → end_of_aligned at (map f xs) ≤ n → end ≤ n
front_room f xs i at end n e room = omega (arith, front_within f xs i at)
