-- Callbacks one at a time.
use Rattle.std.proofs.Common.{◌≡◌, ℕ, suc, ◌+◌, ◌-◌, ◌/◌, ◌<◌, ◌≤◌, Bool, true, false, List, [], ◌∷◌, ◌++◌, length, refl, ap, arith, ◌∙◌, Result, Ok, Err, nat_le, ◌==◌, if◌then◌else◌}
use Rattle.byte_core.specs.Number.{number_at}
use Rattle.pe_core.specs.declared.pe_error.Error.{Error}
use Rattle.pe_core.specs.declared.pe_error.Error.TheVariants.{BufferTooShort}
use Rattle.pe_core.specs.Steps.{◌>>=◌, number_or_short, address_width}
use Rattle.goblin_pe.specs.Tls.{Mapping, in_front, numbers_from, numbers_behind, callback_of, callbacks_among}

-- values in front of an answer's
abbrev pub all_in_front : List ℕ → Result (List ℕ) Error → Result (List ℕ) Error
all_in_front xs (Ok ys) = Ok (xs ++ ys)
all_in_front xs (Err e) = Err e

more_numbers : (is_64 : Bool) (n p : ℕ) → p + address_width is_64 ≤ n → (n - p) / address_width is_64 ≡ suc ((n - (p + address_width is_64)) / address_width is_64)
more_numbers true n p h = omega (arith, h)
more_numbers false n p h = omega (arith, h)

no_numbers : (is_64 : Bool) (n p : ℕ) → n < p + address_width is_64 → (n - p) / address_width is_64 ≡ 0
no_numbers true n p h = omega (arith, h)
no_numbers false n p h = omega (arith, h)

pub number_here : (b : List ℕ) (is_64 : Bool) (p : ℕ) → p + address_width is_64 ≤ length b
    → numbers_behind b (address_width is_64) p ≡ number_at b p (address_width is_64) ∷ numbers_behind b (address_width is_64) (p + address_width is_64)
unfolding numbers_from
number_here b is_64 p h = rw (more_numbers is_64 (length b) p h) refl

pub number_past : (b : List ℕ) (is_64 : Bool) (p : ℕ) → length b < p + address_width is_64 → numbers_behind b (address_width is_64) p ≡ []
unfolding numbers_from
number_past b is_64 p h = rw (no_numbers is_64 (length b) p h) refl

-- ---- a step, by what is read

read_inside : (b : List ℕ) (p w n : ℕ) → number_or_short b p w ≡ Ok n → (p + w ≤ length b) × (number_at b p w ≡ n)
read_inside b p w n h = read_cases (nat_le (p + w) (length b)) refl h
  where
    read_cases : (t : Bool) → nat_le (p + w) (length b) ≡ t → (if t then Ok (number_at b p w) else Err BufferTooShort) ≡ Ok n → (p + w ≤ length b) × (number_at b p w ≡ n)
    read_cases true e h = (grind (arith, e), cc)
    read_cases false e h = absurd (cc)

read_past : (b : List ℕ) (p w : ℕ) (e : Error) → number_or_short b p w ≡ Err e → (length b < p + w) × (BufferTooShort ≡ e)
read_past b p w e h = past_cases (nat_le (p + w) (length b)) refl h
  where
    past_cases : (t : Bool) → nat_le (p + w) (length b) ≡ t → (if t then Ok (number_at b p w) else Err BufferTooShort) ≡ Err e → (length b < p + w) × (BufferTooShort ≡ e)
    past_cases true f h = absurd (cc)
    past_cases false f h = (grind (arith, f), cc)

pub step_short : (m : Mapping) (b : List ℕ) (is_64 : Bool) (p : ℕ) (e : Error) → number_or_short b p (address_width is_64) ≡ Err e
    → callbacks_among m (numbers_behind b (address_width is_64) p) ≡ Err e
unfolding callbacks_among
step_short m b is_64 p e h =
    let past = read_past b p (address_width is_64) e h in
    rw (number_past b is_64 p past.0) (ap (λ x. Err x) past.1)

-- the first number decides
pub step_on : (m : Mapping) (b : List ℕ) (is_64 : Bool) (p n : ℕ) → number_or_short b p (address_width is_64) ≡ Ok n
    → callbacks_among m (numbers_behind b (address_width is_64) p)
    ≡ (if n == 0 then Ok [] else callback_of m n >>= (λ callback. in_front callback (callbacks_among m (numbers_behind b (address_width is_64) (p + address_width is_64)))))
unfolding callbacks_among
step_on m b is_64 p n h =
    let inside = read_inside b p (address_width is_64) n h in
    rw (number_here b is_64 p inside.0, inside.1) refl

pub step_zero : (m : Mapping) (b : List ℕ) (is_64 : Bool) (p n : ℕ) → number_or_short b p (address_width is_64) ≡ Ok n → n ≡ 0
    → callbacks_among m (numbers_behind b (address_width is_64) p) ≡ Ok []
step_zero m b is_64 p n h zero_here = step_on m b is_64 p n h ∙ rw zero_here refl

pub step_callback : (m : Mapping) (b : List ℕ) (is_64 : Bool) (p n : ℕ) (r : Result ℕ Error) → number_or_short b p (address_width is_64) ≡ Ok n → (n == 0) ≡ false → callback_of m n ≡ r
    → callbacks_among m (numbers_behind b (address_width is_64) p) ≡ (r >>= (λ callback. in_front callback (callbacks_among m (numbers_behind b (address_width is_64) (p + address_width is_64)))))
step_callback m b is_64 p n r h some e = step_on m b is_64 p n h ∙ rw (some, e) refl
