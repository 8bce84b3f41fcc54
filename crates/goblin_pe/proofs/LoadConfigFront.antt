-- The ends of the fields of a load configuration rise, so those that fit stand in front.
use Rattle.std.proofs.Common.{◌≡◌, ℕ, ◌+◌, ◌*◌, ◌<◌, ◌≤◌, nat_le, Bool, true, false, List, [], ◌∷◌, length, map, is_some, refl, arith, Some, None, if◌then◌else◌}
use Rattle.goblin_pe.specs.LoadConfig.{load_config_fields, code_integrity_at}
use Rattle.goblin_pe.specs.LoadConfigFront.{are_there, AreFalse, IsFront}

-- no place is below the one before it
abbrev IsRising : ℕ → List ℕ → Type 0
IsRising e [] = Unit {0}
IsRising e (f ∷ fs) = (e ≤ f) × IsRising f fs

fits : ℕ → ℕ → Bool
fits n e = nat_le e n

-- where each field behind the size ends
abbrev ends : ℕ → List ℕ
ends w =
    (4 + 4) ∷ (8 + 2) ∷ (10 + 2) ∷ (12 + 4) ∷ (16 + 4) ∷ (20 + 4) ∷ (24 + w) ∷ (24 + w + w) ∷ (24 + 2 * w + w) ∷ (24 + 3 * w + w)
    ∷ (24 + 4 * w + w) ∷ (24 + 5 * w + w) ∷ (24 + 6 * w + 4) ∷ (28 + 6 * w + 2) ∷ (30 + 6 * w + 2) ∷ (32 + 6 * w + w) ∷ (32 + 7 * w + w)
    ∷ (32 + 8 * w + w) ∷ (32 + 9 * w + w) ∷ (32 + 10 * w + w) ∷ (32 + 11 * w + w) ∷ (32 + 12 * w + w) ∷ (32 + 13 * w + w) ∷ (32 + 14 * w + 4)
    ∷ (36 + 14 * w + 12) ∷ (48 + 14 * w + w) ∷ (48 + 15 * w + w) ∷ (48 + 16 * w + w) ∷ (48 + 17 * w + w) ∷ (48 + 18 * w + w) ∷ (48 + 19 * w + w)
    ∷ (48 + 20 * w + w) ∷ (48 + 21 * w + w) ∷ (48 + 22 * w + 4) ∷ (52 + 22 * w + 2) ∷ (54 + 22 * w + 2) ∷ (56 + 22 * w + w) ∷ (56 + 23 * w + 4)
    ∷ (60 + 23 * w + 4) ∷ (64 + 23 * w + w) ∷ (64 + 24 * w + w) ∷ (64 + 25 * w + w) ∷ (64 + 26 * w + w) ∷ (64 + 27 * w + w) ∷ (64 + 28 * w + w)
    ∷ (64 + 29 * w + w) ∷ (64 + 30 * w + w) ∷ (64 + 31 * w + w) ∷ []

none_fits : (n e : ℕ) (es : List ℕ) → n < e → IsRising e es → AreFalse (map (fits n) es)
unfolding fits
none_fits n e [] h r = tt
none_fits n e (f ∷ es) h r =
    let past : nat_le f n ≡ false = grind (arith, h, r.0) in
    (rw past refl, none_fits n f es (omega (arith, h, r.0)) r.1)

front_step : (n e : ℕ) (es : List ℕ) (b : Bool) → nat_le e n ≡ b → IsRising e es → IsFront (map (fits n) es) → IsFront (b ∷ map (fits n) es)
front_step n e es true t r h = h
front_step n e es false t r h = none_fits n e es (grind (arith, t)) r

front_of_rising : (n d : ℕ) (es : List ℕ) → IsRising d es → IsFront (map (fits n) es)
unfolding fits
front_of_rising n d [] r = tt
front_of_rising n d (e ∷ es) r = front_step n e es (nat_le e n) refl r.1 (front_of_rising n e es r.1)

rising : (w : ℕ) → IsRising 4 (ends w)
rising w = grind arith

there : {X : Type 0} (b : Bool) (x : X) → is_some (if b then Some x else None) ≡ b
there true x = refl
there false x = refl

are_those_that_fit : (b : List ℕ) (w : ℕ) → are_there (load_config_fields b w) ≡ map (fits (length b)) (ends w)
unfolding load_config_fields code_integrity_at fits
are_those_that_fit b w = simp there

pub fields_in_front : (b : List ℕ) (w : ℕ) → IsFront (are_there (load_config_fields b w))
fields_in_front b w = rw (are_those_that_fit b w) (front_of_rising (length b) 4 (ends w) (rising w))
