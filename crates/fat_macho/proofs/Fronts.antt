-- What a buffer holds after one more read.
use Rattle.std.proofs.Common.{◌≡◌, ℕ, ◌+◌, ◌-◌, ◌<◌, ◌≤◌, List, ◌++◌, length, take, drop, Option, Some, None, refl, ap, sym, ◌∙◌, arith, IfSome}
use borrow.Rule.Slice.PartMut.{put_mid}
use Rattle.std.proofs.Math.Seq.{take-add, take-append-add}
use Rattle.std.proofs.lemmas.List.{drop-drop, take_all, length-take}
use Rattle.std.proofs.lemmas.Slice.{take-put_mid}
use Rattle.byte_core.specs.Number.{bytes_at}
use Rattle.byte_core.specs.Streams.{SourceData, ChangesFaults}
use Rattle.fat_macho.specs.Reading.{HoldsFront, HoldsRange}

pub no_front : (o : Option (List ℕ)) (buf : List ℕ) (offset : ℕ) → HoldsFront o buf offset 0
unfolding bytes_at
no_front o buf offset = record { front = λ b e. refl }

pub whole_front : (o : Option (List ℕ)) (buf : List ℕ) (offset n m : ℕ) → HoldsFront o buf offset n → length buf ≤ n → n ≤ length buf → m ≡ length buf → HoldsRange o buf offset m
whole_front o buf offset n m h enough all same =
    let len : n ≡ length buf = omega arith in
    record { range = λ b e. sym (take_all n buf enough) ∙ h.front b e ∙ ap (bytes_at b offset) (len ∙ sym same) }

pub no_faults : (s : SourceData) → ChangesFaults s s
no_faults s = record { same_length = refl; bytes = refl; can_fail = refl; rises = omega arith }

pub faults_again : (a b c : SourceData) → ChangesFaults a b → ChangesFaults b c → ChangesFaults a c
faults_again a b c g h =
    record { same_length = h.same_length ∙ g.same_length; bytes = h.bytes ∙ g.bytes; can_fail = h.can_fail ∙ g.can_fail; rises = omega (arith, g.rises, h.rises) }

put_whole : (a k : ℕ) (xs ys : List ℕ) → a ≤ length xs → k ≡ length xs - a → length ys ≡ k → length (put_mid a k xs ys) ≡ length xs → put_mid a k xs ys ≡ take a xs ++ ys
put_whole a k xs ys inside rest same len =
    let all : length xs ≡ a + length ys = omega (arith, rest, same, inside) in
    sym (take_all (length xs) (put_mid a k xs ys) (omega (arith, len))) ∙ take-put_mid a k xs ys (length xs) all inside

pub bytes_more : (b : List ℕ) (p n m : ℕ) → bytes_at b p (n + m) ≡ bytes_at b p n ++ bytes_at b (p + n) m
unfolding bytes_at
bytes_more b p n m = take-add n m (drop p b) ∙ ap (λ xs. take n (drop p b) ++ take m xs) (drop-drop n p b)

take_more : (xs ys : List ℕ) (n m : ℕ) → length xs ≡ n → take (n + m) (xs ++ ys) ≡ xs ++ take m ys
take_more xs ys n m len = ap (λ k. take (k + m) (xs ++ ys)) (sym len) ∙ take-append-add xs ys m

pub more_front : (o : Option (List ℕ)) (old sub : List ℕ) (offset done n k : ℕ) → HoldsFront o old offset done → done < length old → k ≡ length old - done → length sub ≡ k
    → length (put_mid done k old sub) ≡ length old
    → IfSome o (λ b. take n sub ≡ bytes_at b (offset + done) n) → HoldsFront o (put_mid done k old sub) offset (done + n)
more_front None old sub offset done n k h left rest same len more = record { front = λ b e. absurd (cc) }
more_front (Some c) old sub offset done n k h left rest same len more =
    let here : length (take done old) ≡ done = omega (arith, length-take done old) in
    let front : (b : List ℕ) → Some c ≡ Some b → take (done + n) (put_mid done k old sub) ≡ bytes_at b offset (done + n) =
    λ b e.
    let this : c ≡ b = cc in
    ap (take (done + n)) (put_whole done k old sub (omega arith) rest same len)
    ∙ take_more (take done old) sub done n here
    ∙ ap (λ xs. xs ++ take n sub) (h.front b e)
    ∙ ap (λ xs. bytes_at b offset done ++ xs) (more ∙ ap (λ d. bytes_at d (offset + done) n) this)
    ∙ sym (bytes_more b offset done n) in
    record { front = front }
