-- Two files of bytes that agree from the front up to a place, and what they agree on behind it.
use Rattle.std.proofs.Common.{◌≡◌, ℕ, ◌+◌, ◌*◌, ◌<◌, ◌≤◌, List, [], ◌∷◌, ◌++◌, length, take, drop, refl, ap, sym, ◌∙◌, arith}
use Rattle.std.proofs.Math.Seq.{take-add}
use Rattle.std.proofs.lemmas.List.{length-take, length-drop, take_all}
use Rattle.std.proofs.lemmas.List.Elements.{All-head, All-tail, All-take, All-drop}
use Rattle.byte_core.specs.Number.{bytes_at, number_at, little_number}
use Rattle.byte_core.proofs.Bytes.{IsByte, AreBytes}

-- -- a number has one list of bytes

lowest : (x y m n : ℕ) → x < 256 → y < 256 → x + 256 * m ≡ y + 256 * n → x ≡ y
lowest x y m n h k e = omega arith

higher : (x y m n : ℕ) → x < 256 → y < 256 → x + 256 * m ≡ y + 256 * n → m ≡ n
higher x y m n h k e = omega arith

pub one_list : (xs ys : List ℕ) → AreBytes xs → AreBytes ys → length xs ≡ length ys → little_number xs ≡ little_number ys → xs ≡ ys
unfolding little_number
one_list [] [] h k n e = refl
one_list [] (y ∷ ys) h k n e = absurd (omega (arith, n))
one_list (x ∷ xs) [] h k n e = absurd (omega (arith, n))
one_list (x ∷ xs) (y ∷ ys) h k n e =
    let hx : x < 256 = All-head IsByte x xs h in
    let hy : y < 256 = All-head IsByte y ys k in
    let first : x ≡ y = lowest x y (little_number xs) (little_number ys) hx hy e in
    let rest : xs ≡ ys = one_list xs ys (All-tail IsByte x xs h) (All-tail IsByte y ys k) (omega (arith, n)) (higher x y (little_number xs) (little_number ys) hx hy e) in
    rw (first, rest) refl

-- -- two files

-- two files of bytes, as long as each other
pub record AreFiles (b c : List ℕ) : Type 0 where
  pub first : AreBytes b
  pub second : AreBytes c
  pub length : length b ≡ length c

-- they agree on the bytes before a place
pub record Agree (b c : List ℕ) (p : ℕ) : Type 0 where
  pub front : take p b ≡ take p c

pub agree_none : (b c : List ℕ) → Agree b c 0
agree_none b c = record { front = refl }

pub agree_all : (b c : List ℕ) (p : ℕ) → AreFiles b c → length b ≤ p → Agree b c p → b ≡ c
agree_all b c p f h a = sym (take_all p b h) ∙ a.front ∙ take_all p c (omega (arith, f.length))

pub agree_at : (b c : List ℕ) (p q : ℕ) → p ≡ q → Agree b c p → Agree b c q
agree_at b c p q n a = rw (← n) a

pub agree_bytes : (b c : List ℕ) (p n q : ℕ) → Agree b c p → bytes_at b p n ≡ bytes_at c p n → p + n ≡ q → Agree b c q
unfolding bytes_at
agree_bytes b c p n q a e m = rw (← m) (record { front = take-add p n b ∙ ap (λ xs. xs ++ take n (drop p b)) a.front ∙ ap (λ xs. take p c ++ xs) e ∙ sym (take-add p n c) })

-- bytes that both files are told to have
pub agree_told : (b c xs : List ℕ) (p n q : ℕ) → Agree b c p → bytes_at b p n ≡ xs → bytes_at c p n ≡ xs → p + n ≡ q → Agree b c q
agree_told b c xs p n q a e f m = agree_bytes b c p n q a (e ∙ sym f) m

-- the bytes of a number
pub agree_number : (b c : List ℕ) (p w q : ℕ) → AreFiles b c → Agree b c p → q ≤ length b → number_at b p w ≡ number_at c p w → p + w ≡ q → Agree b c q
unfolding number_at bytes_at
agree_number b c p w q f a room e m =
    let count : length (take w (drop p b)) ≡ length (take w (drop p c)) = omega (arith, length-take w (drop p b), length-take w (drop p c), length-drop p b, length-drop p c, f.length) in
    let same : take w (drop p b) ≡ take w (drop p c) =
    one_list (take w (drop p b)) (take w (drop p c)) (All-take IsByte w (drop p b) (All-drop IsByte p b f.first)) (All-take IsByte w (drop p c) (All-drop IsByte p c f.second)) count e in
    agree_bytes b c p w q a same m
