-- What was written so far, before what is still to be written.
use Rattle.std.proofs.Common.{◌≡◌, ℕ, zero, suc, ◌+◌, ◌-◌, ◌*◌, ◌%◌, ◌/◌, ◌^◌, ◌<◌, ◌≤◌, List, [], ◌∷◌, ◌++◌, length, take, drop, get_or, refl, ap, sym, ◌∙◌, append_assoc, append-nil, arith, length-append, lit<, reverse}
use Rattle.std.proofs.lemmas.List.{drop_all, take-append-drop, drop-set-lt, length-take, take_at, drop_at, take_more, drop_more, reverse-append, take_all}
use Rattle.std.proofs.Math.Seq.{take-suc-set}
use Rattle.std.proofs.Math.ListN.{set}
use Rattle.std.proofs.Math.Nat.{pow-le-pow_right}
use Rattle.byte_core.specs.declared.fields.Field.{Field}
use Rattle.byte_core.specs.Number.{little_bytes, little_number, number_at, bytes_at}
use Rattle.byte_core.specs.Fields.{field_bytes, widths}
use Rattle.byte_core.proofs.Numbers.{length-little_bytes, little_number-little_bytes}

-- ---- one byte of a number after the other

little_bytes-step : (w n : ℕ) → 0 < w → little_bytes w n ≡ n % 256 ∷ little_bytes (w - 1) (n / 256)
unfolding little_bytes
little_bytes-step zero n h = absurd (omega arith)
little_bytes-step (suc w) n h = let e : suc w - 1 ≡ w = omega arith in rw e refl

pub number_more : (out : List ℕ) (at w i n : ℕ) (all : List ℕ) → i < w → at + w ≤ length out
    → take (at + i) out ++ little_bytes (w - i) n ≡ all
    → take (at + (i + 1)) (set out (at + i) (n % 256)) ++ little_bytes (w - (i + 1)) (n / 256) ≡ all
number_more out at w i n all h room e =
    let q : at + i < length out = omega arith in
    let s : at + (i + 1) ≡ suc (at + i) = omega arith in
    let d : w - (i + 1) ≡ (w - i) - 1 = omega arith in
    let p : 0 < w - i = omega arith in
    rw (s, take-suc-set, d, append_assoc) (ap (λ rest. take (at + i) out ++ rest) (sym (little_bytes-step (w - i) n p)) ∙ e)

pub number_all : (out : List ℕ) (at w i n : ℕ) → w ≤ i → i ≤ w → take (at + i) out ++ little_bytes (w - i) n ≡ take (at + w) out
unfolding little_bytes
number_all out at w i n h g =
    let z : w - i ≡ 0 = omega arith in
    let s : at + i ≡ at + w = omega arith in
    rw (z, s, append-nil) refl

-- ---- one field after the other

pub fields_more : (fs : List Field) (i : ℕ) (d : Field) (out new all : List ℕ) → i < length fs → new ≡ out ++ little_bytes (get_or fs i d).width (get_or fs i d).value
    → out ++ field_bytes (drop i fs) ≡ all → new ++ field_bytes (drop (i + 1) fs) ≡ all
unfolding field_bytes
fields_more fs i d out new all h n a = rw (n, append_assoc) (ap (λ rest. out ++ field_bytes rest) (sym (drop_more fs i d h)) ∙ a)

pub fields_all : (fs : List Field) (i : ℕ) (out : List ℕ) → length fs ≤ i → out ++ field_bytes (drop i fs) ≡ out
unfolding field_bytes
fields_all fs i out h = rw (drop_all, append-nil) refl

pub widths_more : (fs : List Field) (i : ℕ) (d : Field) → i < length fs → widths (drop i fs) ≡ (get_or fs i d).width + widths (drop (i + 1) fs)
widths_more fs i d h = ap widths (drop_more fs i d h)

-- ---- in place

pub put_step : (out : List ℕ) (at w e i r : ℕ) → i < w → e ≡ at + w → e ≤ length out
    → take (at + (i + 1)) (set out (at + i) (r % 256)) ++ (little_bytes (w - (i + 1)) (r / 256) ++ drop e (set out (at + i) (r % 256)))
    ≡ take (at + i) out ++ (little_bytes (w - i) r ++ drop e out)
put_step out at w e i r h n m =
    let q : at + i < length out = omega arith in
    let f : at + i < e = omega arith in
    let s : at + (i + 1) ≡ suc (at + i) = omega arith in
    let d : w - (i + 1) ≡ (w - i) - 1 = omega arith in
    let p : 0 < w - i = omega arith in
    rw (s, take-suc-set, drop-set-lt, d, little_bytes-step (w - i) r p, append_assoc) refl

pub put_end : (out : List ℕ) (at w r i : ℕ) → w ≤ i → i ≤ w → take (at + i) out ++ (little_bytes (w - i) r ++ drop (at + w) out) ≡ out
unfolding little_bytes
put_end out at w r i h g =
    let z : w - i ≡ 0 = omega arith in
    let s : at + i ≡ at + w = omega arith in
    rw (z, s, take-append-drop) refl

-- the bytes at a place were replaced by those of a number
abbrev pub IsPut : List ℕ → List ℕ → ℕ → ℕ → ℕ → Type 0
IsPut old new at w v = new ≡ take at old ++ (little_bytes w v ++ drop (at + w) old)

front_length : (old : List ℕ) (at w : ℕ) → at + w ≤ length old → length (take at old) ≡ at
front_length old at w h = omega (arith, length-take at old)

pub number_put : (old new : List ℕ) (at w v : ℕ) → at + w ≤ length old → v < 256 ^ w → IsPut old new at w v → number_at new at w ≡ v
unfolding number_at bytes_at
number_put old new at w v h f e =
    rw (e, drop_at (take at old) (little_bytes w v ++ drop (at + w) old) at (front_length old at w h), take_at (little_bytes w v) (drop (at + w) old) w (length-little_bytes w v)) (little_number-little_bytes w v f)

pub before_put : (old new : List ℕ) (at w v : ℕ) → at + w ≤ length old → IsPut old new at w v → take at new ≡ take at old
before_put old new at w v h e = rw (e, take_at (take at old) (little_bytes w v ++ drop (at + w) old) at (front_length old at w h)) refl

pub behind_put : (old new : List ℕ) (at w v : ℕ) → at + w ≤ length old → IsPut old new at w v → drop (at + w) new ≡ drop (at + w) old
behind_put old new at w v h e =
    let n : length (take at old ++ little_bytes w v) ≡ at + w = omega (arith, length-append (take at old) (little_bytes w v), front_length old at w h, length-little_bytes w v) in
    rw (e, ← append_assoc (take at old) (little_bytes w v) (drop (at + w) old), drop_at (take at old ++ little_bytes w v) (drop (at + w) old) (at + w) n) refl

-- ---- a number that is read

pub number_head : (bs : List ℕ) → 1 ≤ length bs → little_number bs ≡ get_or bs 0 0 + 256 * little_number (drop 1 bs)
unfolding little_number
number_head [] h = absurd (omega arith)
number_head (b ∷ bs) h = refl

pub number_nothing : (bs : List ℕ) → length bs < 1 → 0 ≡ little_number bs
unfolding little_number
number_nothing [] h = refl
number_nothing (b ∷ bs) h = absurd (omega arith)

pub number_room : (r n : ℕ) → n ≤ 7 → r < 256 ^ n → 256 * r + 255 < 2 ^ 64
number_room r n h m = let k : 256 ^ n ≤ 256 ^ 7 = pow-le-pow_right (lit< tt) h in omega (arith, k)

-- ---- a number that is read from its highest byte on

pub big_none : 0 ≡ little_number (reverse [])
unfolding little_number
big_none = refl

pub big_more : (bs : List ℕ) (i : ℕ) → i < length bs → little_number (reverse (take (i + 1) bs)) ≡ get_or bs i 0 + 256 * little_number (reverse (take i bs))
unfolding little_number
big_more bs i h = rw (take_more bs i 0 h, reverse-append) refl

-- ---- a slice that is filled

-- bytes that are filled to the end are all the bytes
pub filled_whole : (out all : List ℕ) (end : ℕ) → take end out ≡ all → length out ≡ end → out ≡ all
filled_whole out all end e h = sym (take_all end out (omega arith)) ∙ e
