-- What a sink took over several calls.
use Rattle.std.proofs.Common.{◌≡◌, ℕ, zero, suc, ◌+◌, ◌-◌, ◌<◌, ◌≤◌, min, List, [], ◌∷◌, ◌++◌, length, take, drop, replicate, Option, Some, None, Result, Ok, Err, OnErr, refl, ap, sym, ◌∙◌, arith, subst, append-nil, append_assoc}
use Rattle.std.proofs.Math.Seq.{take-append-add}
use Rattle.std.proofs.lemmas.List.{take_rest, take-append-drop, drop-drop, take_all, take-replicate, replicate-append-replicate}
use Rattle.std.proofs.lemmas.List.Elements.{All-nil, All-append}
use Rattle.byte_core.specs.Outside.{Appends, AppendsFront}
use Rattle.byte_core.specs.Streams.{SinkData}
use Rattle.fat_macho.specs.Writing.{Puts, Part}

appends_nothing : (x : Option (List ℕ)) → Appends x x []
appends_nothing None = refl
appends_nothing (Some x) = ap Some (sym (append-nil x))

appends_again : (a b : List ℕ) (x y z : Option (List ℕ)) → Appends x y a → Appends y z b → Appends x z (a ++ b)
appends_again a b None y z p q = rw (q, p) refl
appends_again a b (Some before) y z p q = rw (q, p) (ap Some (append_assoc before a b))

-- -- one piece behind the other

pub puts_nothing : (s : SinkData) → Puts s s []
puts_nothing s = record { put = appends_nothing s.written; are_bytes = All-nil (λ x. x < 256) }

pub puts_again : (a b : List ℕ) (x y z : SinkData) → Puts x y a → Puts y z b → Puts x z (a ++ b)
puts_again a b x y z p q = record { put = appends_again a b x.written y.written z.written p.put q.put; are_bytes = All-append (λ x. x < 256) a b p.are_bytes q.are_bytes }

pub front_nothing : (b : List ℕ) (s : SinkData) → AppendsFront s.written s.written b
front_nothing b s = record { count = 0; front = appends_nothing s.written }

take_both : (a b : List ℕ) (n : ℕ) → take (length a + n) (a ++ b) ≡ a ++ take n b
take_both a b n = take-append-add a b n

-- a front of what stands behind a piece
pub front_behind : (a b : List ℕ) (x y z : SinkData) → Puts x y a → AppendsFront y.written z.written b → AppendsFront x.written z.written (a ++ b)
front_behind a b x y z p f = record { count = length a + f.count; front = subst (Appends x.written z.written) (sym (take_both a b f.count)) (appends_again a (take f.count b) x.written y.written z.written p.put f.front) }

take_some : (a b : List ℕ) (n : ℕ) → take (min n (length a)) (a ++ b) ≡ take n a
take_some [] b n = let none : min n 0 ≡ 0 = omega arith in rw none (sym (take_all n [] (omega arith)))
take_some (x ∷ a) b zero = let none : min 0 (length (x ∷ a)) ≡ 0 = omega arith in rw none refl
take_some (x ∷ a) b (suc n) = let next : min (suc n) (length (x ∷ a)) ≡ suc (min n (length a)) = omega arith in rw next (ap (λ ys. x ∷ ys) (take_some a b n))

-- a front of a piece is one of all
pub front_before : (a b : List ℕ) (x y : SinkData) → AppendsFront x.written y.written a → AppendsFront x.written y.written (a ++ b)
front_before a b x y f = record { count = min f.count (length a); front = subst (Appends x.written y.written) (sym (take_some a b f.count)) f.front }

-- -- parts

pub part_begins : (s : SinkData) (b : List ℕ) → Part s s b b
part_begins s b = record { front = []; puts = puts_nothing s; whole = refl }

pub part_goes_on : (x y z : SinkData) (b rest piece more : List ℕ) → Part x y b rest → rest ≡ piece ++ more → Puts y z piece → Part x z b more
part_goes_on x y z b rest piece more p split q =
    record {
      front = p.front ++ piece;
      puts = puts_again p.front piece x y z p.puts q;
      whole = append_assoc p.front piece more ∙ ap (λ r. p.front ++ r) (sym split) ∙ p.whole;
    }

pub part_ends : (x y : SinkData) (b rest : List ℕ) → Part x y b rest → rest ≡ [] → Puts x y b
part_ends x y b rest p none = subst (Puts x y) (sym (append-nil p.front) ∙ ap (λ r. p.front ++ r) (sym none) ∙ p.whole) p.puts

pub part_fails : (x y z : SinkData) (b rest : List ℕ) → Part x y b rest → AppendsFront y.written z.written rest → AppendsFront x.written z.written b
part_fails x y z b rest p f = subst (AppendsFront x.written z.written) p.whole (front_behind p.front rest x y z p.puts f)

pub part_fails_in : (x y z : SinkData) (b rest piece more : List ℕ) → Part x y b rest → rest ≡ piece ++ more → AppendsFront y.written z.written piece → AppendsFront x.written z.written b
part_fails_in x y z b rest piece more p split f = part_fails x y z b rest p (subst (AppendsFront y.written z.written) (sym split) (front_before piece more y z f))

-- -- some bytes of a slice

-- what is left of the bytes, behind n more of them
pub rest_split : (bytes : List ℕ) (i n : ℕ) → drop i bytes ≡ take n (drop i bytes) ++ drop (i + n) bytes
rest_split bytes i n = sym (take-append-drop n (drop i bytes)) ∙ ap (λ r. take n (drop i bytes) ++ r) (drop-drop n i bytes)

pub part_further : (x y z : SinkData) (bytes : List ℕ) (i n : ℕ) → Part x y bytes (drop i bytes) → Puts y z (take n (take (length bytes - i) (drop i bytes))) → Part x z bytes (drop (i + n) bytes)
part_further x y z bytes i n p q = part_goes_on x y z bytes (drop i bytes) (take n (drop i bytes)) (drop (i + n) bytes) p (rest_split bytes i n) (rw take_rest at q)

-- -- zeros

pub block_zeros : (block : List ℕ) (n : ℕ) → block ≡ replicate (length block) 0 → n ≤ length block → take n block ≡ replicate n 0
block_zeros block n zeros few = ap (take n) zeros ∙ take-replicate n (length block) 0 few

pub zeros_split : (left n : ℕ) → n ≤ left → replicate {A = ℕ} left 0 ≡ replicate {A = ℕ} n 0 ++ replicate {A = ℕ} (left - n) 0
zeros_split left n few =
    let sum : left ≡ n + (left - n) = omega arith in
    ap (λ (k : ℕ). replicate {A = ℕ} k 0) sum ∙ sym (replicate-append-replicate {A = ℕ} n (left - n) 0)

pub zeros_go_on : (x y z : SinkData) (block : List ℕ) (count left n : ℕ) → Part x y (replicate count 0) (replicate left 0) → block ≡ replicate (length block) 0 → n ≤ length block → n ≤ left → Puts y z (take n block)
    → Part x z (replicate count 0) (replicate (left - n) 0)
zeros_go_on x y z block count left n p zeros few some q =
    part_goes_on x y z (replicate count 0) (replicate left 0) (replicate n 0) (replicate (left - n) 0) p (zeros_split left n some) (subst (Puts y z) (block_zeros block n zeros few) q)

pub zeros_fail : (x y z : SinkData) (block : List ℕ) (count left n : ℕ) → Part x y (replicate count 0) (replicate left 0) → block ≡ replicate (length block) 0 → n ≤ length block → n ≤ left → AppendsFront y.written z.written (take n block)
    → AppendsFront x.written z.written (replicate count 0)
zeros_fail x y z block count left n p zeros few some f =
    part_fails_in x y z (replicate count 0) (replicate left 0) (replicate n 0) (replicate (left - n) 0) p (zeros_split left n some) (subst (AppendsFront y.written z.written) (block_zeros block n zeros few) f)

-- -- results

pub on_err : {A E : Type 0} (r : Result A E) (P : Type 0) → P → OnErr r P
on_err (Ok x) P h = tt
on_err (Err e) P h = h
