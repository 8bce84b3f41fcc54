-- Lists of rows, by their numbers.
use Rattle.std.proofs.Common.{◌≡◌, ◌≢◌, ℕ, zero, suc, ◌+◌, ◌<◌, List, [], ◌∷◌, ◌++◌, map, refl, ap, sym, ◌∙◌, arith, append-nil, append_assoc}
use Rattle.std.proofs.Math.ListN.{set}
use Rattle.std.specs.List.{range_with_len, flat_map}
use Rattle.std.proofs.lemmas.List.FromFn.{map-range_with_len_more}

-- one row more
pub row_more : {Y : Type 0} (f : ℕ → Y) (old ys : List Y) (y : Y) (a n m j : ℕ) → ys ≡ old ++ map f (range_with_len a n) → y ≡ f j → a + n ≡ j → m ≡ n + 1
    → ys ++ y ∷ [] ≡ old ++ map f (range_with_len a m)
row_more f old ys y a n m j h e place count =
    rw (count, h, e, map-range_with_len_more f a n j place) (append_assoc old (map f (range_with_len a n)) (f j ∷ []))

pub range_more : {Y : Type 0} (f : ℕ → List Y) (a n : ℕ) → flat_map f (range_with_len a (suc n)) ≡ flat_map f (range_with_len a n) ++ f (a + n)
range_more f a zero = let place : a + 0 ≡ a = omega arith in rw (place, append-nil) refl
range_more f a (suc n) =
    let place : a + 1 + n ≡ a + suc n = omega arith in
    rw (range_more f (a + 1) n, place) (sym (append_assoc (f a) (flat_map f (range_with_len (a + 1) n)) (f (a + suc n))))

pub same_rows : {Y : Type 0} (f g : ℕ → Y) (a n : ℕ) → ((k : ℕ) → f k ≡ g k) → map f (range_with_len a n) ≡ map g (range_with_len a n)
same_rows f g a zero h = refl
same_rows f g a (suc n) h = rw (h a, same_rows f g (a + 1) n h) refl

same_later : {Y : Type 0} (f g : ℕ → Y) (a b n : ℕ) → a < b → ((k : ℕ) → k ≢ a → f k ≡ g k) → map f (range_with_len b n) ≡ map g (range_with_len b n)
same_later f g a b zero less h = refl
same_later f g a b (suc n) less h = rw (h b (λ e. absurd (omega (arith, e))), same_later f g a (b + 1) n (omega arith) h) refl

-- a row that changes alone
pub set_row : {Y : Type 0} (f g : ℕ → Y) (a n i j : ℕ) → i < n → a + i ≡ j → ((k : ℕ) → k ≢ j → f k ≡ g k)
    → set (map f (range_with_len a n)) i (g j) ≡ map g (range_with_len a n)
set_row f g a zero i j h place others = absurd (omega arith)
set_row f g a (suc n) zero j h place others =
    let same : a ≡ j = omega arith in
    rw (← same) (ap (λ ys. g a ∷ ys) (same_later f g a (a + 1) n (omega arith) (λ k e. others k (λ d. e (d ∙ sym same)))))
set_row f g a (suc n) (suc i) j h place others =
    rw (others a (λ e. absurd (omega (arith, e))), set_row f g (a + 1) n i j (omega arith) (omega arith) others) refl
