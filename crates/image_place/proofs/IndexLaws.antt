-- The ranges of definitions lead to the definitions that hold some bytes.
use Rattle.std.proofs.Common.{◌≡◌, ◌≢◌, ℕ, zero, suc, ◌+◌, ◌<◌, ◌≤◌, ◌==◌, ◌⊎◌, inl, inr, List, [], ◌∷◌, get_or, refl, ap, sym, ◌∙◌, arith, Some, Bool, true, false, slice_get, subst}
use Rattle.std.specs.Prelude.{◌&&◌, nat_le}
use Rattle.std.specs.List.{All, AllByRecursion, Contains, IsDistinct}
use Rattle.std.proofs.lemmas.Bool.{le-leb, leb-true, eqb-true, eq-eqb, ne_eqb, eqb-false, and_from, and_parts, cases_order}
use Rattle.std.proofs.lemmas.Option.{slice_get_within, slice_get-get_or, get_or_from_slice_get}
use Rattle.std.proofs.lemmas.List.Sorted.{All-permutation, Contains-permutation}
use Rattle.std.proofs.lemmas.List.Elements.{All-nil, All-cons, All-get_or}
use Rattle.std.proofs.lemmas.Map.Keys.{IsDistinct-cons, IsDistinct-IsPermutation, apart_from_distinct}
use Rattle.image_place.specs.Placed.{Definition, holds}
use Rattle.image_place.specs.Spanning.{Span, covers}
use Rattle.image_place.specs.Indexed.{line_place, span_of, spans_from, IsSmall, AreIndexed}

-- -- ranges and their definitions

pub record SpanIs (ds : List Definition) (p : Span) : Type 0 where
  pub definition : Definition
  pub here : slice_get ds p.number ≡ Some definition
  pub is : p ≡ span_of (p.number, definition)

sound_from : (all : List Definition) (n : ℕ) (es : List Definition) → ((i : ℕ) (d : Definition) → slice_get es i ≡ Some d → slice_get all (n + i) ≡ Some d) → All (SpanIs all) (spans_from n es)
sound_from all n [] h = All-nil (SpanIs all)
sound_from all n (d ∷ es) h =
    let start : n + 0 ≡ n = omega arith in
    let here : slice_get all n ≡ Some d = subst (λ m. slice_get all m ≡ Some d) start (h 0 d refl) in
    All-cons (SpanIs all) (span_of (n, d)) (spans_from (n + 1) es) (record { definition = d; here = here; is = refl })
    (sound_from all (n + 1) es (λ i e at. let next : n + suc i ≡ n + 1 + i = omega arith in subst (λ m. slice_get all m ≡ Some e) next (h (suc i) e at)))

contains_later : (p x : Span) (ps : List Span) → Contains ps x → Contains (p ∷ ps) x
contains_later p x ps h = (suc h.0, omega (arith, h.1), h.2)

complete_from : (n : ℕ) (es : List Definition) (i : ℕ) (d : Definition) → slice_get es i ≡ Some d → Contains (spans_from n es) (span_of (n + i, d))
complete_from n [] i d at = absurd (cc)
complete_from n (e ∷ es) zero d at =
    let same : e ≡ d = cc in
    let start : n ≡ n + 0 = omega arith in
    (0, omega arith, ap (λ (x : Definition). span_of (n, x)) same ∙ ap (λ m. span_of (m, d)) start)
complete_from n (e ∷ es) (suc i) d at =
    let next : n + 1 + i ≡ n + suc i = omega arith in
    contains_later (span_of (n, e)) (span_of (n + suc i, d)) (spans_from (n + 1) es) (subst (λ m. Contains (spans_from (n + 1) es) (span_of (m, d))) next (complete_from (n + 1) es i d at))

abbrev same_number : Span → Span → Bool
same_number p r = p.number == r.number

later_from : (p : Span) (n : ℕ) (es : List Definition) → p.number < n → AllByRecursion (λ y. same_number p y ≡ false) (spans_from n es)
later_from p n [] h = tt
later_from p n (d ∷ es) h = (ne_eqb p.number n (λ e. absurd (omega (arith, e, h))), later_from p (n + 1) es (omega (arith, h)))

distinct_from : (n : ℕ) (es : List Definition) → IsDistinct same_number (spans_from n es)
unfolding IsDistinct
distinct_from n [] = tt
distinct_from n (d ∷ es) = IsDistinct-cons same_number (span_of (n, d)) (spans_from (n + 1) es) (later_from (span_of (n, d)) (n + 1) es (omega arith)) (distinct_from (n + 1) es)

eq_flips : (a b : ℕ) → (a ≡ b) ⊎ ((a < b) ⊎ (b < a)) → (a == b) ≡ (b == a)
eq_flips a b (inl e) = eq-eqb a b e ∙ sym (eq-eqb b a (sym e))
eq_flips a b (inr (inl h)) = ne_eqb a b (λ e. absurd (omega (arith, e, h))) ∙ sym (ne_eqb b a (λ e. absurd (omega (arith, e, h))))
eq_flips a b (inr (inr h)) = ne_eqb a b (λ e. absurd (omega (arith, e, h))) ∙ sym (ne_eqb b a (λ e. absurd (omega (arith, e, h))))

flips : (p r : Span) → same_number p r ≡ same_number r p
flips p r = eq_flips p.number r.number (cases_order p.number r.number)

pub span_is : (ds : List Definition) (ps : List Span) (m : ℕ) (p : Span) → AreIndexed ds ps → slice_get ps m ≡ Some p → SpanIs ds p
span_is ds ps m p h at =
    let all = All-permutation (SpanIs ds) (spans_from 0 ds) ps h.moved (sound_from ds 0 ds (λ i d e. let start : i ≡ 0 + i = omega arith in subst (λ n. slice_get ds n ≡ Some d) start e)) in
    subst (SpanIs ds) (get_or_from_slice_get ps m p p at) (All-get_or (SpanIs ds) ps m p (slice_get_within ps m p at) all)

-- the place of the range of a definition
pub record HasSpan (ps : List Span) (i : ℕ) (d : Definition) : Type 0 where
  pub place : ℕ
  pub here : slice_get ps place ≡ Some (span_of (i, d))

pub has_span : (ds : List Definition) (ps : List Span) (i : ℕ) (d : Definition) → AreIndexed ds ps → slice_get ds i ≡ Some d → HasSpan ps i d
has_span ds ps i d h at =
    let start : 0 + i ≡ i = omega arith in
    let here = Contains-permutation (spans_from 0 ds) ps (span_of (i, d)) h.moved (subst (λ m. Contains (spans_from 0 ds) (span_of (m, d))) start (complete_from 0 ds i d at)) in
    record { place = here.0; here = slice_get-get_or ps here.0 (span_of (i, d)) here.1 ∙ ap Some here.2 }

once_by : (ps : List Span) (m n : ℕ) (p r : Span) → IsDistinct same_number ps → slice_get ps m ≡ Some p → slice_get ps n ≡ Some r → p.number ≡ r.number → m < n → ⊥
once_by ps m n p r h at_m at_n same less =
    let apart = apart_from_distinct same_number ps m n p h less (slice_get_within ps n r at_n) in
    let both : same_number p r ≡ false = ap (λ (x : Span). same_number x r) (sym (get_or_from_slice_get ps m p p at_m)) ∙ ap (same_number (get_or ps m p)) (sym (get_or_from_slice_get ps n r p at_n)) ∙ apart in
    eqb-false p.number r.number both same

-- no two ranges have one number
pub span_once : (ds : List Definition) (ps : List Span) (m n : ℕ) (p r : Span) → AreIndexed ds ps → slice_get ps m ≡ Some p → slice_get ps n ≡ Some r → m < n → p.number ≢ r.number
span_once ds ps m n p r h at_m at_n less same =
    let distinct = IsDistinct-IsPermutation same_number flips (spans_from 0 ds) ps h.moved (distinct_from 0 ds) in
    once_by ps m n p r distinct at_m at_n same less

-- -- what a range holds

same_truth : (x y : Bool) → (x ≡ true → y ≡ true) → (y ≡ true → x ≡ true) → x ≡ y
same_truth true true f g = refl
same_truth true false f g = let both : false ≡ true = f refl in absurd (cc)
same_truth false true f g = let both : false ≡ true = g refl in absurd (cc)
same_truth false false f g = refl

-- sections lie apart on the line
apart : (s k a at z n : ℕ) → s < 4294967296 → a < 18446744073709551616 → z < 18446744073709551616 → at < 73786976294838206464 → line_place s a ≤ line_place k at → line_place k at + n ≤ line_place s a + z → s ≡ k
apart s k a at z n hs ha hz hat low high = omega (arith, hs, ha, hz, hat, low, high)

low_of : (s k a at : ℕ) → s ≡ k → line_place s a ≤ line_place k at → a ≤ at
low_of s k a at same low = let one : line_place s at ≡ line_place k at = ap (λ x. line_place x at) same in omega (arith, one, low)

high_of : (s k a at z n : ℕ) → s ≡ k → line_place k at + n ≤ line_place s a + z → at + n ≤ a + z
high_of s k a at z n same high = let one : line_place s at ≡ line_place k at = ap (λ x. line_place x at) same in omega (arith, one, high)

covers_to : (k n at i : ℕ) (d : Definition) → IsSmall d → at < 73786976294838206464 → covers (line_place k at) n (span_of (i, d)) ≡ true → holds k at n d ≡ true
covers_to k n at i d small near h =
    let both = and_parts (nat_le (line_place d.section d.symbol.address) (line_place k at)) (nat_le (line_place k at + n) (line_place d.section d.symbol.address + d.size)) h in
    let low = leb-true (line_place d.section d.symbol.address) (line_place k at) both.0 in
    let high = leb-true (line_place k at + n) (line_place d.section d.symbol.address + d.size) both.1 in
    let same = apart d.section k d.symbol.address at d.size n small.section small.address small.size near low high in
    and_from (d.section == k && nat_le d.symbol.address at) (nat_le (at + n) (d.symbol.address + d.size))
    (and_from (d.section == k) (nat_le d.symbol.address at) (eq-eqb d.section k same) (le-leb d.symbol.address at (low_of d.section k d.symbol.address at same low)))
    (le-leb (at + n) (d.symbol.address + d.size) (high_of d.section k d.symbol.address at d.size n same high))

low_to : (s k a at : ℕ) → s ≡ k → a ≤ at → line_place s a ≤ line_place k at
low_to s k a at same low = let one : line_place s at ≡ line_place k at = ap (λ x. line_place x at) same in omega (arith, one, low)

high_to : (s k a at z n : ℕ) → s ≡ k → at + n ≤ a + z → line_place k at + n ≤ line_place s a + z
high_to s k a at z n same high = let one : line_place s at ≡ line_place k at = ap (λ x. line_place x at) same in omega (arith, one, high)

covers_from : (k n at i : ℕ) (d : Definition) → holds k at n d ≡ true → covers (line_place k at) n (span_of (i, d)) ≡ true
covers_from k n at i d h =
    let last = and_parts (d.section == k && nat_le d.symbol.address at) (nat_le (at + n) (d.symbol.address + d.size)) h in
    let both = and_parts (d.section == k) (nat_le d.symbol.address at) last.0 in
    let same = eqb-true d.section k both.0 in
    and_from (nat_le (line_place d.section d.symbol.address) (line_place k at)) (nat_le (line_place k at + n) (line_place d.section d.symbol.address + d.size))
    (le-leb (line_place d.section d.symbol.address) (line_place k at) (low_to d.section k d.symbol.address at same (leb-true d.symbol.address at both.1)))
    (le-leb (line_place k at + n) (line_place d.section d.symbol.address + d.size) (high_to d.section k d.symbol.address at d.size n same (leb-true (at + n) (d.symbol.address + d.size) last.1)))

-- a range holds the bytes just where its definition does
pub covers_holds : (k n at i : ℕ) (d : Definition) → IsSmall d → at < 73786976294838206464 → covers (line_place k at) n (span_of (i, d)) ≡ holds k at n d
covers_holds k n at i d small near = same_truth (covers (line_place k at) n (span_of (i, d))) (holds k at n d) (covers_to k n at i d small near) (covers_from k n at i d)
