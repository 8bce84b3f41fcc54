-- Properties of each row, one row after the other.
use Rattle.std.proofs.Common.{◌≡◌, ℕ, ◌+◌, ◌≤◌, ◌<◌, arith, subst, ◌⊎◌, inl, inr}
use Rattle.image_read.specs.ElfRows.{EachRow}

pub each_none : (P : ℕ → Type 0) (a n : ℕ) → n ≤ a → EachRow P a n
each_none P a n h = record { at = λ k from below. absurd (omega arith) }

earlier_or_last : (k n : ℕ) → k < n + 1 → (k < n) ⊎ (n ≡ k)
earlier_or_last k n h = grind (arith)

pub each_next : (P : ℕ → Type 0) (a n : ℕ) → EachRow P a n → P n → EachRow P a (n + 1)
each_next P a n each last = record { at = λ k from below. next k from (earlier_or_last k n below) }
  where
    next : (k : ℕ) → a ≤ k → (k < n) ⊎ (n ≡ k) → P k
    next k from (inl below) = each.at k from below
    next k from (inr same) = subst P same last

pub each_end : (P : ℕ → Type 0) (a k n : ℕ) → EachRow P a k → n ≤ k → EachRow P a n
each_end P a k n each h = record { at = λ j from below. each.at j from (omega arith) }
