-- Ranges of a line that are searched from behind.
use Rattle.std.proofs.Common.{◌≡◌, ℕ, zero, suc, ◌+◌, ◌<◌, ◌≤◌, ◌⊎◌, inl, inr, List, [], ◌∷◌, ◌++◌, length, get_or, ap, arith, Some, slice_get, subst, length-append}
use Rattle.std.proofs.lemmas.Option.{slice_get_within, get_or_from_slice_get}
use Rattle.std.specs.List.Sorted.{IsNonDecreasingBy}
use Rattle.byte_core.proofs.Lists.{get_append}
use Rattle.image_place.specs.Spanning.{Span, AreWider, IsWider}

-- ranges from a place on begin behind a place, where that one does
pub later_begins : (ps : List Span) (i at : ℕ) (p : Span) → IsNonDecreasingBy (λ x. x.low) ps → slice_get ps i ≡ Some p → at < p.low → (m : ℕ) (r : Span) → i ≤ m → slice_get ps m ≡ Some r → at < r.low
later_begins ps i at p order at_p h m r low at_r =
    let within = slice_get_within ps m r at_r in
    let up = order i m p low within in
    let one : get_or ps i p ≡ p = get_or_from_slice_get ps i p p at_p in
    let two : get_or ps m p ≡ r = get_or_from_slice_get ps m r p at_r in
    omega (arith, h, up, ap (λ (x : Span). x.low) one, ap (λ (x : Span). x.low) two)

last_is : (x y k : ℕ) → slice_get (x ∷ []) k ≡ Some y → x ≡ y
last_is x y zero e = cc
last_is x y (suc k) e = absurd (cc)

last_at : (x y k : ℕ) → slice_get (x ∷ []) k ≡ Some y → k ≡ 0
last_at x y zero e = omega arith
last_at x y (suc k) e = absurd (cc)

wider_by : (ps : List Span) (ws : List ℕ) (n w j x : ℕ) → AreWider ps ws n → IsWider ps n w → (slice_get ws j ≡ Some x) ⊎ ((k : ℕ) × (length ws + k ≡ j) × (slice_get (w ∷ []) k ≡ Some x)) → IsWider ps j x
wider_by ps ws n w j x h last (inl at_x) = h.each j x at_x
wider_by ps ws n w j x h last (inr q) =
    let there : n ≡ j = omega (arith, q.1, h.long, last_at w x q.0 q.2) in
    subst (λ m. IsWider ps m x) there (subst (IsWider ps n) (last_is w x q.0 q.2) last)

-- one range more
pub wider_more : (ps : List Span) (ws : List ℕ) (n w : ℕ) → AreWider ps ws n → IsWider ps n w → AreWider ps (ws ++ w ∷ []) (n + 1)
wider_more ps ws n w h last = record { long = omega (arith, length-append ws (w ∷ []), h.long); each = λ j x at_x. wider_by ps ws n w j x h last (get_append ws (w ∷ []) j x at_x) }
