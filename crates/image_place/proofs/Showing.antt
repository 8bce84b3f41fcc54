-- An image shows an object where it shows each definition of it under its row, whatever their order.
use Rattle.std.proofs.Common.{◌≡◌, ℕ, zero, suc, List, [], ◌∷◌, refl, ap, sym, ◌∙◌, Some, slice_get}
use Rattle.image_place.specs.Fixups.{Piece}
use Rattle.image_place.specs.Shares.{Pairs}
use Rattle.image_place.specs.Shown.{HasRow, PieceShows, ObjectShows}
use Rattle.image_place.proofs.EntryLaws.{Among}
use Rattle.image_place.proofs.Orders.{IsDistinct, IsWithin, reordered}

-- a definition of the list, which is shown as this one, under its row
pub record IsShownOf {K L : Type 0} (row : K → L) (at : K → ℕ) (to : L → ℕ) (ps : List (Piece K)) (v : Piece L) : Type 0 where
  pub number : ℕ
  pub piece : Piece K
  pub here : slice_get ps number ≡ Some piece
  pub shows : PieceShows at to piece v
  pub under : HasRow row piece v

-- a definition is shown under this row
pub record IsUnder {L : Type 0} (vs : List (Piece L)) (row : L) : Type 0 where
  pub number : ℕ
  pub piece : Piece L
  pub here : slice_get vs number ≡ Some piece
  pub key : piece.key ≡ row

pub pairs_left : {A B : Type 0} (R : A → B → Type 0) (xs : List A) (ys : List B) (k : ℕ) (x : A) → Pairs R xs ys → slice_get xs k ≡ Some x → (y : B) × (slice_get ys k ≡ Some y) × R x y
pairs_left R [] ys k x h e = absurd (cc)
pairs_left R (a ∷ xs) [] k x h e = absurd h
pairs_left R (a ∷ xs) (b ∷ ys) zero x h e = let same : a ≡ x = cc in (b, refl, rw (← same) h.0)
pairs_left R (a ∷ xs) (b ∷ ys) (suc k) x h e = pairs_left R xs ys k x h.1 e

pub pairs_right : {A B : Type 0} (R : A → B → Type 0) (xs : List A) (ys : List B) (k : ℕ) (y : B) → Pairs R xs ys → slice_get ys k ≡ Some y → (x : A) × (slice_get xs k ≡ Some x) × R x y
pairs_right R [] [] k y h e = absurd (cc)
pairs_right R [] (b ∷ ys) k y h e = absurd h
pairs_right R (a ∷ xs) [] k y h e = absurd (cc)
pairs_right R (a ∷ xs) (b ∷ ys) zero y h e = let same : b ≡ y = cc in (a, refl, rw (← same) h.0)
pairs_right R (a ∷ xs) (b ∷ ys) (suc k) y h e = pairs_right R xs ys k y h.1 e

-- the definitions of the object in the order of the image
record Ordered {K L : Type 0} (row : K → L) (at : K → ℕ) (to : L → ℕ) (ps : List (Piece K)) (vs : List (Piece L)) : Type 0 where
  order : List (Piece K)
  shown : Pairs (PieceShows at to) order vs
  rows : Pairs (HasRow row) order vs
  from : IsWithin order ps

from_more : {A : Type 0} (x : A) (xs ps : List A) → Among ps x → IsWithin xs ps → IsWithin (x ∷ xs) ps
from_more x xs ps a h zero y e = let same : x ≡ y = cc in rw (← same) a
from_more x xs ps a h (suc k) y e = h k y e

ordered : {K L : Type 0} (row : K → L) (at : K → ℕ) (to : L → ℕ) (ps : List (Piece K)) (vs : List (Piece L)) → ((k : ℕ) (v : Piece L) → slice_get vs k ≡ Some v → IsShownOf row at to ps v) → Ordered row at to ps vs
ordered row at to ps [] each = record { order = []; shown = tt; rows = tt; from = λ k x e. absurd (cc) }
ordered row at to ps (v ∷ vs) each =
    let one = each 0 v refl in
    let rest = ordered row at to ps vs (λ k. each (suc k)) in
    record { order = one.piece ∷ rest.order; shown = (one.shows, rest.shown); rows = (one.under, rest.rows); from = from_more one.piece rest.order ps (record { number = one.number; here = one.here }) rest.from }

pub object-shows : {K L : Type 0} (row : K → L) (at : K → ℕ) (to : L → ℕ) (ps : List (Piece K)) (vs : List (Piece L))
    → ((k : ℕ) (v : Piece L) → slice_get vs k ≡ Some v → IsShownOf row at to ps v)
    → ((k : ℕ) (p : Piece K) → slice_get ps k ≡ Some p → IsUnder vs (row p.key))
    → ((i j : ℕ) (p r : Piece K) → slice_get ps i ≡ Some p → slice_get ps j ≡ Some r → row p.key ≡ row r.key → i ≡ j)
    → ((i j : ℕ) (v w : Piece L) → slice_get vs i ≡ Some v → slice_get vs j ≡ Some w → v.key ≡ w.key → i ≡ j)
    → ObjectShows row at to ps vs
object-shows {K} {L} row at to ps vs each all once keys =
    let o = ordered row at to ps vs each in
    let distinct : IsDistinct o.order =
    λ i j p e f.
    let one = pairs_left (HasRow row) o.order vs i p o.rows e in
    let two = pairs_left (HasRow row) o.order vs j p o.rows f in
    keys i j one.0 two.0 one.1 two.1 (one.2 ∙ sym two.2) in
    let within : IsWithin ps o.order =
    λ k p e.
    let under = all k p e in
    let other = pairs_right (HasRow row) o.order vs under.number under.piece o.rows under.here in
    let there = o.from under.number other.0 other.1 in
    let place : there.number ≡ k = once there.number k other.0 p there.here e (sym other.2 ∙ under.key) in
    let both : Some other.0 ≡ Some p = sym there.here ∙ ap (slice_get ps) place ∙ e in
    record { number = under.number; here = other.1 ∙ both } in
    record {
      order = o.order;
      reordered = reordered ps o.order (λ i j p e f. once i j p p e f refl) distinct within o.from;
      shown = o.shown;
      rows = o.rows;
    }
