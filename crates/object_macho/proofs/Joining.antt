-- Pieces that are written one behind the other.
use Rattle.std.proofs.Common.{◌≡◌, ℕ, List, ◌++◌, ap, ◌∙◌, append_assoc}

pub join_two : (old one two a b : List ℕ) → one ≡ old ++ a → two ≡ one ++ b → two ≡ old ++ (a ++ b)
join_two old one two a b e f = f ∙ ap (λ xs. xs ++ b) e ∙ append_assoc old a b

pub join_three : (old one two three a b c : List ℕ) → one ≡ old ++ a → two ≡ one ++ b → three ≡ two ++ c → three ≡ old ++ (a ++ (b ++ c))
join_three old one two three a b c e f g = join_two old one three a (b ++ c) e (join_two one two three b c f g)
