-- The numbers of a table.
use Rattle.std.proofs.Common.{◌≡◌, ℕ, ◌+◌, ◌-◌, ◌≤◌, List, ◌++◌, length, take, drop, reverse, ap, sym, ◌∙◌, arith}
use borrow.Rule.Slice.PartMut.{put_mid}
use Rattle.std.proofs.Math.Seq.{take-append_seam, drop-append_seam}
use Rattle.std.proofs.lemmas.List.{length-reverse, take-take, drop-take}
use Rattle.std.proofs.lemmas.Slice.{take-put_mid}

-- what stands behind a place is turned
pub reversed : (old mid new front back : List ℕ) (at w e k : ℕ) → e ≡ at + w → k ≡ e - at → length front ≡ at → length back ≡ w → e ≤ length mid → take e mid ≡ front ++ back → new ≡ reverse (take k (drop at mid))
    → take e (put_mid at k mid new) ≡ front ++ reverse back
reversed old mid new front back at w e k end size here room inside is turned =
    let sum : at + k ≡ e = omega arith in
    let whole : take (at + k) mid ≡ front ++ back = ap (λ n. take n mid) sum ∙ is in
    let before : take at mid ≡ front = sym (take-take at e mid (omega arith)) ∙ ap (take at) is ∙ ap (λ n. take n (front ++ back)) (sym here) ∙ take-append_seam front back in
    let behind : take k (drop at mid) ≡ back = sym (drop-take at k mid) ∙ ap (drop at) whole ∙ ap (λ n. drop n (front ++ back)) (sym here) ∙ drop-append_seam front back in
    let back_is : new ≡ reverse back = turned ∙ ap reverse behind in
    let len : length new ≡ w = ap length back_is ∙ length-reverse back ∙ room in
    take-put_mid at k mid new e (omega (arith, len, end)) (omega (arith, inside, end)) ∙ ap (λ xs. xs ++ new) before ∙ ap (λ xs. front ++ xs) back_is
