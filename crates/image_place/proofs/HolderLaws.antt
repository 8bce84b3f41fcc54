-- Definitions that hold some bytes, found one after the other from behind.
use Rattle.std.proofs.Common.{◌≡◌, ℕ, ◌+◌, ◌-◌, ◌<◌, ◌≤◌, ◌⊎◌, inl, inr, List, [], ◌∷◌, ◌++◌, length, get_or, refl, ap, sym, ◌∙◌, arith, Some, None, Bool, true, false, slice_get, subst, find, take, map}
use Rattle.std.specs.Prelude.{option_map, nat_lt, min}
use Rattle.std.specs.List.{list_any, enumerate_from}
use Rattle.std.proofs.lemmas.Bool.{cases_lt, cases_order, lt-ltb, le-ltb}
use Rattle.std.proofs.lemmas.Option.{slice_get_within, slice_get-get_or, get_or_from_slice_get, slice_get-map}
use Rattle.std.proofs.lemmas.List.Folds.{list_any_none, list_any_at}
use Rattle.image_place.specs.Placed.{Definition, holds}
use Rattle.image_place.specs.RangeRows.{definition_seen}
use Rattle.image_place.specs.declared.ranges.Definition.{Definition as Row}
use Rattle.image_place.specs.Spanning.{Span, covers, IsHolder}
use Rattle.image_place.specs.Indexed.{line_place, span_of, spans_from, IsSmall, AreIndexed}
use Rattle.image_place.specs.Holders.{IsDone, IsFirst}
use Rattle.std.proofs.lemmas.List.{map-append, get_or-map}
use Rattle.image_place.proofs.DefinitionLaws.{enumerate_more, long_map}
use Rattle.byte_core.proofs.Lists.{each_more}
use Rattle.image_place.proofs.FindLaws.{find_at, find_none}
use Rattle.image_place.proofs.IndexLaws.{span_is, has_span, covers_holds}

-- -- one range after the other

pub done_first : (ps : List Span) (at n place : ℕ) (P : ℕ → Type 0) → IsHolder ps at n (length ps) place → IsDone ps at n place P
done_first ps at n place P h =
    record {
      inside = h.bound;
      here = h.here;
      each = λ m p low at_m yes_m. let both : false ≡ true = sym (h.later m p low (slice_get_within ps m p at_m) at_m) ∙ yes_m in absurd (cc);
    }

next_each : (ps : List Span) (at n place next : ℕ) (P : ℕ → Type 0) (q : Span) → IsDone ps at n place P → 0 < place → slice_get ps (place - 1) ≡ Some q → P q.number → IsHolder ps at n (place - 1) next
    → (m : ℕ) (p : Span) → next ≤ m → slice_get ps m ≡ Some p → covers at n p ≡ true → (m ≡ place - 1) ⊎ ((m < place - 1) ⊎ (place - 1 < m)) → P p.number
next_each ps at n place next P q done more at_q holds_q h m p low at_m yes_m (inl same) =
    let one : Some q ≡ Some p = sym at_q ∙ ap (slice_get ps) (sym same) ∙ at_m in
    let two : q ≡ p = cc in subst (λ (x : Span). P x.number) two holds_q
next_each ps at n place next P q done more at_q holds_q h m p low at_m yes_m (inr (inl l)) = let both : false ≡ true = sym (h.later m p low l at_m) ∙ yes_m in absurd (cc)
next_each ps at n place next P q done more at_q holds_q h m p low at_m yes_m (inr (inr l)) = done.each m p (omega (arith, l, more)) at_m yes_m

pub done_next : (ps : List Span) (at n place next : ℕ) (P : ℕ → Type 0) (q : Span) → IsDone ps at n place P → 0 < place → slice_get ps (place - 1) ≡ Some q → P q.number → IsHolder ps at n (place - 1) next → IsDone ps at n next P
done_next ps at n place next P q done more at_q holds_q h =
    record {
      inside = omega (arith, h.bound, done.inside);
      here = h.here;
      each = λ m p low at_m yes_m. next_each ps at n place next P q done more at_q holds_q h m p low at_m yes_m (cases_order m (place - 1));
    }

pub done_weaker : (ps : List Span) (at n place : ℕ) (P Q : ℕ → Type 0) → ((i : ℕ) → P i → Q i) → IsDone ps at n place P → IsDone ps at n place Q
done_weaker ps at n place P Q f done = record { inside = done.inside; here = done.here; each = λ m p low at_m yes_m. f p.number (done.each m p low at_m yes_m) }

-- -- the definitions

-- all definitions that hold the bytes are done
pub done_all : (ds : List Definition) (ps : List Span) (k at n : ℕ) (P : ℕ → Type 0) → AreIndexed ds ps → at < 73786976294838206464 → IsDone ps (line_place k at) n 0 P → (i : ℕ) (d : Definition) → slice_get ds i ≡ Some d → holds k at n d ≡ true → P i
done_all ds ps k at n P indexed near done i d at_d yes_d =
    let span = has_span ds ps i d indexed at_d in
    done.each span.place (span_of (i, d)) (omega arith) span.here (covers_holds k n at i d (indexed.small.each i d at_d) near ∙ yes_d)

-- the definition of the range before a place holds the bytes
pub record HeldHere (ds : List Definition) (k at n number : ℕ) : Type 0 where
  pub definition : Definition
  pub at_number : slice_get ds number ≡ Some definition
  pub held : holds k at n definition ≡ true

pub held_by_span : (ds : List Definition) (ps : List Span) (k at n m : ℕ) (p : Span) → AreIndexed ds ps → at < 73786976294838206464 → slice_get ps m ≡ Some p → covers (line_place k at) n p ≡ true → HeldHere ds k at n p.number
held_by_span ds ps k at n m p indexed near at_m yes_p =
    let is = span_is ds ps m p indexed at_m in
    record {
      definition = is.definition;
      at_number = is.here;
      held = sym (covers_holds k n at p.number is.definition (indexed.small.each p.number is.definition is.here) near) ∙ ap (covers (line_place k at) n) (sym is.is) ∙ yes_p;
    }

pub span_before : (ps : List Span) (place : ℕ) → 0 < place → place ≤ length ps → (p : Span) × (slice_get ps (place - 1) ≡ Some p)
span_before ps place more inside = let zero_span : Span = record { low = 0; high = 0; number = 0 } in (get_or ps (place - 1) zero_span, slice_get-get_or ps (place - 1) zero_span (omega (arith, more, inside)))

pub held_here : (ds : List Definition) (ps : List Span) (k at n place number : ℕ) (P : ℕ → Type 0) → AreIndexed ds ps → at < 73786976294838206464 → 0 < place → IsDone ps (line_place k at) n place P → ((p : Span) → slice_get ps (place - 1) ≡ Some p → number ≡ p.number) → HeldHere ds k at n number
held_here ds ps k at n place number P indexed near more done is =
    let q = span_before ps place more done.inside in
    subst (HeldHere ds k at n) (sym (is q.0 q.1)) (held_by_span ds ps k at n (place - 1) q.0 indexed near q.1 (done.here q.0 more q.1))

-- the less of two numbers
first_by : (ds : List Definition) (test : Definition → Bool) (first number best : ℕ) → ((d : Definition) → slice_get ds first ≡ Some d → test d ≡ true) → ((d : Definition) → slice_get ds number ≡ Some d → test d ≡ true) → (best ≡ first) ⊎ (best ≡ number) → (d : Definition) → slice_get ds best ≡ Some d → test d ≡ true
first_by ds test first number best f g (inl e) d at_d = f d (ap (slice_get ds) (sym e) ∙ at_d)
first_by ds test first number best f g (inr e) d at_d = g d (ap (slice_get ds) (sym e) ∙ at_d)

less_of : (first number : ℕ) → (first < number) ⊎ (number ≤ first) → (min first number ≡ first) ⊎ (min first number ≡ number)
less_of first number (inl h) = inl (omega (arith, h))
less_of first number (inr h) = inr (omega (arith, h))

number_held : (ds : List Definition) (k at n number : ℕ) → HeldHere ds k at n number → (d : Definition) → slice_get ds number ≡ Some d → holds k at n d ≡ true
number_held ds k at n number held d at_d =
    let one : Some held.definition ≡ Some d = sym held.at_number ∙ at_d in
    let two : held.definition ≡ d = cc in ap (holds k at n) (sym two) ∙ held.held

pub first_here : (ds : List Definition) (k at n first number best : ℕ) → best ≡ min first number → ((d : Definition) → slice_get ds first ≡ Some d → holds k at n d ≡ true) → HeldHere ds k at n number → (d : Definition) → slice_get ds best ≡ Some d → holds k at n d ≡ true
first_here ds k at n first number best e f held d at_d = first_by ds (holds k at n) first number (min first number) f (number_held ds k at n number held) (less_of first number (cases_lt first number)) d (ap (slice_get ds) (sym e) ∙ at_d)

-- one more is done
pub done_more : (ps : List Span) (at n place next number : ℕ) (P : ℕ → Type 0) → 0 < place → IsDone ps at n place P → ((p : Span) → slice_get ps (place - 1) ≡ Some p → number ≡ p.number) → P number → IsHolder ps at n (place - 1) next → IsDone ps at n next P
done_more ps at n place next number P more done is holds_p h =
    let q = span_before ps place more done.inside in
    done_next ps at n place next P q.0 done more q.1 (subst P (is q.0 q.1) holds_p) h

-- -- whether one of them is such

any_by : (ds : List Definition) (p : Definition → Bool) → ((i : ℕ) (d : Definition) → slice_get ds i ≡ Some d → p d ≡ false) → list_any p ds ≡ false
any_by ds p none = list_any_none p ds (λ i d below. none i (get_or ds i d) (slice_get-get_or ds i d below))

pub any_none : (ds : List Definition) (p : Definition → Bool) → ((i : ℕ) (d : Definition) → slice_get ds i ≡ Some d → p d ≡ false) → list_any p ds ≡ false
any_none = any_by

pub any_here : (ds : List Definition) (p : Definition → Bool) (i : ℕ) (d : Definition) → slice_get ds i ≡ Some d → p d ≡ true → list_any p ds ≡ true
any_here ds p i d at_d yes_d = list_any_at p ds i d (slice_get_within ds i d at_d) (ap p (get_or_from_slice_get ds i d d at_d) ∙ yes_d)

none_held : (ds : List Definition) (ps : List Span) (k at n : ℕ) → AreIndexed ds ps → at < 73786976294838206464 → IsHolder ps (line_place k at) n (length ps) 0 → (i : ℕ) (d : Definition) → slice_get ds i ≡ Some d → (b : Bool) → holds k at n d ≡ b → holds k at n d ≡ false
none_held ds ps k at n indexed near h i d at_d false e = e
none_held ds ps k at n indexed near h i d at_d true e = absurd (done_all ds ps k at n (λ _. ⊥) indexed near (done_first ps (line_place k at) n 0 (λ _. ⊥) h) i d at_d e)

no_holder : (ds : List Definition) (ps : List Span) (k at n : ℕ) → AreIndexed ds ps → at < 73786976294838206464 → IsHolder ps (line_place k at) n (length ps) 0 → list_any (holds k at n) ds ≡ false
no_holder ds ps k at n indexed near h = any_by ds (holds k at n) (λ i d at_d. none_held ds ps k at n indexed near h i d at_d (holds k at n d) refl)

holder_by : (ds : List Definition) (ps : List Span) (k at n place : ℕ) → AreIndexed ds ps → at < 73786976294838206464 → IsHolder ps (line_place k at) n (length ps) place → (0 < place) ⊎ (place ≤ 0) → list_any (holds k at n) ds ≡ nat_lt 0 place
holder_by ds ps k at n place indexed near h (inl more) =
    let q = span_before ps place more h.bound in
    let held = held_by_span ds ps k at n (place - 1) q.0 indexed near q.1 (h.here q.0 more q.1) in
    any_here ds (holds k at n) q.0.number held.definition held.at_number held.held ∙ sym (lt-ltb 0 place more)
holder_by ds ps k at n place indexed near h (inr none) =
    let zero : place ≡ 0 = omega (arith, none) in
    no_holder ds ps k at n indexed near (subst (IsHolder ps (line_place k at) n (length ps)) zero h) ∙ sym (le-ltb 0 place none)

-- a holder is found just where some definition holds the bytes
pub held_any : (ds : List Definition) (ps : List Span) (k at n place : ℕ) → AreIndexed ds ps → at < 73786976294838206464 → IsHolder ps (line_place k at) n (length ps) place → list_any (holds k at n) ds ≡ nat_lt 0 place
held_any ds ps k at n place indexed near h = holder_by ds ps k at n place indexed near h (cases_lt 0 place)

-- -- the first of them

not_before : (ds : List Definition) (k at n best : ℕ) → ((i : ℕ) (d : Definition) → slice_get ds i ≡ Some d → holds k at n d ≡ true → best ≤ i) → (j : ℕ) (y : Definition) → j < best → slice_get ds j ≡ Some y → (b : Bool) → holds k at n y ≡ b → holds k at n y ≡ false
not_before ds k at n best all j y less at_y false e = e
not_before ds k at n best all j y less at_y true e = absurd (omega (arith, less, all j y at_y e))

-- the number of the first definition leads to it
pub first_found : (ds : List Definition) (k at n number : ℕ) (d : Definition) → IsFirst (holds k at n) ds number → slice_get ds number ≡ Some d → find (holds k at n) ds ≡ Some d
first_found ds k at n number d h at_d = find_at (holds k at n) ds number d at_d (h.here d at_d) (λ j y less at_y. not_before ds k at n number h.before j y less at_y (holds k at n y) refl)

pub none_found : (ds : List Definition) (k at n number : ℕ) → IsFirst (holds k at n) ds number → length ds ≤ number → find (holds k at n) ds ≡ None
none_found ds k at n number h past = find_none (holds k at n) ds (λ j y at_y. not_before ds k at n number h.before j y (omega (arith, slice_get_within ds j y at_y, past)) at_y (holds k at n y) refl)

-- -- ranges of definitions, one after the other

pub spans_next : (ds : List Definition) (i : ℕ) (d : Definition) → i < length ds → spans_from 0 (take (i + 1) ds) ≡ spans_from 0 (take i ds) ++ span_of (i, get_or ds i d) ∷ []
spans_next ds i d below = ap (map span_of) (enumerate_more ds i d below) ∙ map-append span_of (enumerate_from 0 (take i ds)) ((i, get_or ds i d) ∷ [])

-- a definition that is read at its number
pub row_at : (rows : List Row) (ds : List Definition) (i : ℕ) (d : Row) → map definition_seen rows ≡ ds → i < length rows → slice_get ds i ≡ Some (definition_seen (get_or rows i d))
row_at rows ds i d same below = ap (λ (xs : List Definition). slice_get xs i) (sym same) ∙ slice_get-map definition_seen rows i ∙ ap (option_map definition_seen) (slice_get-get_or rows i d below)

seen_at : (rows : List Row) (i : ℕ) (d : Row) → i < length rows → get_or (map definition_seen rows) i (definition_seen d) ≡ definition_seen (get_or rows i d)
seen_at rows i d below = get_or-map definition_seen rows i d (definition_seen d) below

pub spans_row_next : (rows : List Row) (i : ℕ) (d : Row) (old new : List Span) (p : Span) → i < length rows → old ≡ spans_from 0 (take i (map definition_seen rows)) → new ≡ old ++ p ∷ [] → p ≡ span_of (i, definition_seen (get_or rows i d)) → new ≡ spans_from 0 (take (i + 1) (map definition_seen rows))
spans_row_next rows i d old new p below o n e =
    let ds = map definition_seen rows in
    let inside : i < length ds = omega (arith, below, long_map definition_seen rows) in
    n ∙ ap (λ xs. xs ++ p ∷ []) o ∙ ap (λ (x : Span). spans_from 0 (take i ds) ++ x ∷ []) (e ∙ ap (λ (y : Definition). span_of (i, y)) (sym (seen_at rows i d below))) ∙ sym (spans_next ds i (definition_seen d) inside)

pub small_row_next : (rows : List Row) (i : ℕ) (d : Row) → i < length rows → ((k : ℕ) (y : Definition) → k < i → slice_get (map definition_seen rows) k ≡ Some y → IsSmall y) → IsSmall (definition_seen (get_or rows i d))
    → (k : ℕ) (y : Definition) → k < i + 1 → slice_get (map definition_seen rows) k ≡ Some y → IsSmall y
small_row_next rows i d below before here =
    let ds = map definition_seen rows in
    let inside : i < length ds = omega (arith, below, long_map definition_seen rows) in
    each_more IsSmall ds i (definition_seen (get_or rows i d)) inside (sym (get_or_from_slice_get ds i (definition_seen (get_or rows i d)) (definition_seen (get_or rows i d)) (row_at rows ds i d refl below))) before here

pub number_within : (ds : List Definition) (k at n number : ℕ) → HeldHere ds k at n number → number < length ds
number_within ds k at n number held = slice_get_within ds number held.definition held.at_number
