-- Relocations that are grouped by the definitions that hold their fields.
use Rattle.std.proofs.Common.{◌≡◌, ◌≢◌, ℕ, zero, suc, ◌+◌, ◌-◌, ◌<◌, ◌≤◌, ◌==◌, ◌⊎◌, inl, inr, List, [], ◌∷◌, ◌++◌, length, map, take, get_or, refl, ap, sym, ◌∙◌, arith, Some, None, Bool, true, false, slice_get, subst, append-nil, append_assoc, cond, length-append, set, Vec, Global}
use Rattle.std.specs.Prelude.{Option, option_map, ◌&&◌, filter, if◌then◌else◌}
use Rattle.std.proofs.lemmas.Bool.{cases_order, eq-eqb, ne_eqb}
use Rattle.std.proofs.lemmas.Option.{slice_get_within, slice_get-get_or, slice_get-map}
use Rattle.std.proofs.lemmas.List.Elements.{filter_more}
use Rattle.std.proofs.lemmas.List.{take_all, map-append}
use Rattle.byte_core.proofs.Lists.{get_append, item_get}
use Rattle.image_place.specs.Fixups.{FixKind, fix_width}
use Rattle.image_view.specs.View.{View, ViewSection}
use Rattle.image_view.specs.declared.view.ViewReloc.{ViewReloc}
use Rattle.image_place.specs.Placed.{Definition, holds, holds_field}
use Rattle.image_place.specs.Spanning.{Span, covers, IsHolder}
use Rattle.image_place.specs.Indexed.{AreIndexed, line_place, span_of}
use Rattle.image_place.specs.Grouped.{AreEmpty, holds_here, Groups, GroupsOne, fields_of, HasFields, AreGrouped}
use Rattle.image_place.proofs.DefinitionLaws.{long_map}
use Rattle.image_place.proofs.IndexLaws.{has_span, span_once, covers_holds}
use Rattle.image_place.proofs.HolderLaws.{held_by_span, span_before}
use Rattle.image_place.proofs.JudgingLaws.{field_bytes}

-- -- one relocation

-- the lists of the ranges from a place on that hold the bytes have the relocation, and no others
pub record WritesFrom (ps : List Span) (at n place : ℕ) (r : ViewReloc) (olds news : List (List ViewReloc)) : Type 0 where
  pub inside : place ≤ length ps
  pub here : (p : Span) → 0 < place → slice_get ps (place - 1) ≡ Some p → covers at n p ≡ true
  pub long : length news ≡ length olds
  pub written : (m : ℕ) (p : Span) (old : List ViewReloc) → place ≤ m → slice_get ps m ≡ Some p → covers at n p ≡ true → slice_get olds p.number ≡ Some old → slice_get news p.number ≡ Some (old ++ r ∷ [])
  pub kept : (i : ℕ) → ((m : ℕ) (p : Span) → place ≤ m → slice_get ps m ≡ Some p → covers at n p ≡ true → p.number ≢ i) → slice_get news i ≡ slice_get olds i

pub writes_none : (ps : List Span) (at n place : ℕ) (r : ViewReloc) (es : List (List ViewReloc)) → IsHolder ps at n (length ps) place → WritesFrom ps at n place r es es
writes_none ps at n place r es h =
    record {
      inside = h.bound;
      here = h.here;
      long = refl;
      written = λ m p old low at_m yes_m _. let both : false ≡ true = sym (h.later m p low (slice_get_within ps m p at_m) at_m) ∙ yes_m in absurd (cc);
      kept = λ i apart. refl;
    }

next_written : (ds : List Definition) (ps : List Span) (at n place next : ℕ) (r : ViewReloc) (olds mids news : List (List ViewReloc)) (q : Span) → AreIndexed ds ps → 0 < place → slice_get ps (place - 1) ≡ Some q → WritesFrom ps at n place r olds mids → GroupsOne q.number r mids news → IsHolder ps at n (place - 1) next
    → (m : ℕ) (p : Span) (old : List ViewReloc) → (m ≡ place - 1) ⊎ ((m < place - 1) ⊎ (place - 1 < m)) → next ≤ m → slice_get ps m ≡ Some p → covers at n p ≡ true → slice_get olds p.number ≡ Some old → slice_get news p.number ≡ Some (old ++ r ∷ [])
next_written ds ps at n place next r olds mids news q indexed more at_q before one h m p old (inl same) low at_m yes_m at_old =
    let both : Some q ≡ Some p = sym at_q ∙ ap (slice_get ps) (sym same) ∙ at_m in
    let is : q ≡ p = cc in
    let kept : slice_get mids q.number ≡ slice_get olds q.number = before.kept q.number (λ k x far at_k _ eq. span_once ds ps (place - 1) k q x indexed at_q at_k (omega (arith, far, more)) (sym eq)) in
    let there : slice_get olds q.number ≡ Some old = ap (λ (x : Span). slice_get olds x.number) is ∙ at_old in
    ap (λ (x : Span). slice_get news x.number) (sym is) ∙ one.here old (kept ∙ there)
next_written ds ps at n place next r olds mids news q indexed more at_q before one h m p old (inr (inl less)) low at_m yes_m at_old =
    let both : false ≡ true = sym (h.later m p low less at_m) ∙ yes_m in absurd (cc)
next_written ds ps at n place next r olds mids news q indexed more at_q before one h m p old (inr (inr far)) low at_m yes_m at_old =
    let apart : p.number ≢ q.number = λ eq. span_once ds ps (place - 1) m q p indexed at_q at_m far (sym eq) in
    one.kept p.number apart ∙ before.written m p old (omega (arith, far, more)) at_m yes_m at_old

-- the range before the place holds the bytes, and its list has the relocation
pub writes_next : (ds : List Definition) (ps : List Span) (at n place next number : ℕ) (r : ViewReloc) (olds mids news : List (List ViewReloc)) → AreIndexed ds ps → 0 < place → ((p : Span) → slice_get ps (place - 1) ≡ Some p → number ≡ p.number)
    → WritesFrom ps at n place r olds mids → GroupsOne number r mids news → IsHolder ps at n (place - 1) next → WritesFrom ps at n next r olds news
writes_next ds ps at n place next number r olds mids news indexed more is before one h =
    let q = span_before ps place more before.inside in
    let here : GroupsOne q.0.number r mids news = subst (λ i. GroupsOne i r mids news) (is q.0 q.1) one in
    record {
      inside = omega (arith, h.bound, before.inside);
      here = h.here;
      long = one.long ∙ before.long;
      written = λ m p old low at_m yes_m at_old. next_written ds ps at n place next r olds mids news q.0 indexed more q.1 before here h m p old (cases_order m (place - 1)) low at_m yes_m at_old;
      kept =
          λ i apart.
          here.kept i (λ e. apart (place - 1) q.0 h.bound q.1 (before.here q.0 more q.1) (sym e))
          ∙ before.kept i (λ m p far at_m yes_m. apart m p (omega (arith, far, h.bound)) at_m yes_m);
    }

-- -- all definitions that hold the field

pub here_bytes : (k start : ℕ) (d : Definition) (r : ViewReloc) (kind : FixKind) → r.kind ≡ Some kind → holds_here k start d r ≡ holds k (start + r.offset) (fix_width kind) d
here_bytes k start d r kind e = ap (λ (o : Option FixKind). d.section == k && holds_field start r o d) e ∙ field_bytes k start r kind d

-- what is appended for a definition
abbrev pub one_if : Bool → ViewReloc → List ViewReloc
one_if b r = if b then r ∷ [] else []

not_other : (ds : List Definition) (ps : List Span) (k start : ℕ) (r : ViewReloc) (kind : FixKind) (i : ℕ) (d : Definition) (m : ℕ) (p : Span) → AreIndexed ds ps → start + r.offset < 73786976294838206464 → r.kind ≡ Some kind → slice_get ds i ≡ Some d → holds_here k start d r ≡ false
    → slice_get ps m ≡ Some p → covers (line_place k (start + r.offset)) (fix_width kind) p ≡ true → p.number ≡ i → ⊥
not_other ds ps k start r kind i d m p indexed near is at_d no_d at_m yes_m eq =
    let held = held_by_span ds ps k (start + r.offset) (fix_width kind) m p indexed near at_m yes_m in
    let one : Some held.definition ≡ Some d = sym held.at_number ∙ ap (slice_get ds) eq ∙ at_d in
    let two : held.definition ≡ d = cc in
    let both : false ≡ true = sym no_d ∙ here_bytes k start d r kind is ∙ ap (holds k (start + r.offset) (fix_width kind)) (sym two) ∙ held.held in absurd (cc)

each_by : (ds : List Definition) (ps : List Span) (k start : ℕ) (r : ViewReloc) (kind : FixKind) (olds news : List (List ViewReloc)) → AreIndexed ds ps → start + r.offset < 73786976294838206464 → r.kind ≡ Some kind → WritesFrom ps (line_place k (start + r.offset)) (fix_width kind) 0 r olds news
    → (i : ℕ) (d : Definition) (old : List ViewReloc) → slice_get ds i ≡ Some d → slice_get olds i ≡ Some old → (b : Bool) → holds_here k start d r ≡ b → slice_get news i ≡ Some (old ++ one_if b r)
each_by ds ps k start r kind olds news indexed near is all i d old at_d at_old true e =
    let span = has_span ds ps i d indexed at_d in
    let yes_d : covers (line_place k (start + r.offset)) (fix_width kind) (span_of (i, d)) ≡ true = covers_holds k (fix_width kind) (start + r.offset) i d (indexed.small.each i d at_d) near ∙ sym (here_bytes k start d r kind is) ∙ e in
    all.written span.place (span_of (i, d)) old (omega arith) span.here yes_d at_old
each_by ds ps k start r kind olds news indexed near is all i d old at_d at_old false e =
    all.kept i (λ m p low at_m yes_m eq. not_other ds ps k start r kind i d m p indexed near is at_d e at_m yes_m eq) ∙ at_old ∙ ap Some (sym (append-nil old))

-- the lists of the definitions that hold the field have the relocation
pub groups_all : (ds : List Definition) (ps : List Span) (k start : ℕ) (r : ViewReloc) (kind : FixKind) (olds news : List (List ViewReloc)) → AreIndexed ds ps → start + r.offset < 73786976294838206464 → r.kind ≡ Some kind → WritesFrom ps (line_place k (start + r.offset)) (fix_width kind) 0 r olds news
    → Groups ds (λ d. one_if (holds_here k start d r) r) olds news
groups_all ds ps k start r kind olds news indexed near is all = record { long = all.long; each = λ i d old at_d at_old. each_by ds ps k start r kind olds news indexed near is all i d old at_d at_old (holds_here k start d r) refl }

no_field : (b : Bool) → (b && false) ≡ false
no_field true = refl
no_field false = refl

kindless : (k start : ℕ) (d : Definition) (r : ViewReloc) → r.kind ≡ None → holds_here k start d r ≡ false
kindless k start d r is = ap (λ (o : Option FixKind). d.section == k && holds_field start r o d) is ∙ no_field (d.section == k)

-- a relocation of another kind is in no list
pub groups_kindless : (ds : List Definition) (k start : ℕ) (r : ViewReloc) (olds : List (List ViewReloc)) → r.kind ≡ None → Groups ds (λ d. one_if (holds_here k start d r) r) olds olds
groups_kindless ds k start r olds is =
    record { long = refl; each = λ i d old at_d at_old. at_old ∙ ap Some (sym (append-nil old)) ∙ ap (λ b. Some (old ++ one_if b r)) (sym (kindless k start d r is)) }

-- -- the relocations of a section

-- one relocation more
pub groups_more : (ds : List Definition) (k start : ℕ) (rs : List ViewReloc) (i : ℕ) (other : ViewReloc) (olds mids news : List (List ViewReloc)) → i < length rs → Groups ds (λ d. filter (holds_here k start d) (take i rs)) olds mids → Groups ds (λ d. one_if (holds_here k start d (get_or rs i other)) (get_or rs i other)) mids news
    → Groups ds (λ d. filter (holds_here k start d) (take (i + 1) rs)) olds news
groups_more ds k start rs i other olds mids news below first more =
    record {
      long = more.long ∙ first.long;
      each =
          λ j d old at_d at_old.
          more.each j d (old ++ filter (holds_here k start d) (take i rs)) at_d (first.each j d old at_d at_old)
          ∙ ap Some (append_assoc old (filter (holds_here k start d) (take i rs)) (one_if (holds_here k start d (get_or rs i other)) (get_or rs i other)) ∙ ap (λ xs. old ++ xs) (sym (filter_more (holds_here k start d) rs i other below)));
    }

pub groups_start : (ds : List Definition) (olds : List (List ViewReloc)) → Groups ds (λ d. []) olds olds
groups_start ds olds = record { long = refl; each = λ i d old at_d at_old. at_old ∙ ap Some (sym (append-nil old)) }

pub groups_end : (ds : List Definition) (k start : ℕ) (rs : List ViewReloc) (i : ℕ) (olds news : List (List ViewReloc)) → length rs ≤ i → Groups ds (λ d. filter (holds_here k start d) (take i rs)) olds news → Groups ds (λ d. filter (holds_here k start d) rs) olds news
groups_end ds k start rs i olds news past h =
    record { long = h.long; each = λ j d old at_d at_old. h.each j d old at_d at_old ∙ ap (λ xs. Some (old ++ filter (holds_here k start d) xs)) (take_all i rs past) }

-- -- all sections

-- the lists of definitions of the first k sections have all their relocations, and those of others none
pub record GroupedTo (v : View) (ds : List Definition) (k : ℕ) (all : List (List ViewReloc)) : Type 0 where
  pub long : length all ≡ length ds
  pub before : (i : ℕ) (d : Definition) (rs : List ViewReloc) → slice_get ds i ≡ Some d → slice_get all i ≡ Some rs → d.section < k → HasFields v d rs
  pub behind : (i : ℕ) (d : Definition) (rs : List ViewReloc) → slice_get ds i ≡ Some d → slice_get all i ≡ Some rs → k ≤ d.section → rs ≡ []

none_here : (k start : ℕ) (d : Definition) (rs : List ViewReloc) → (d.section == k) ≡ false → filter (holds_here k start d) rs ≡ []
none_here k start d [] e = refl
none_here k start d (r ∷ rs) e = let no_r : holds_here k start d r ≡ false = ap (λ b. b && holds_field start r r.kind d) e in rw no_r (none_here k start d rs e)

all_here : (k start : ℕ) (d : Definition) (rs : List ViewReloc) → (d.section == k) ≡ true → filter (holds_here k start d) rs ≡ filter (λ r. holds_field start r r.kind d) rs
all_here k start d [] e = refl
all_here k start d (r ∷ rs) e =
    let same : holds_here k start d r ≡ holds_field start r r.kind d = ap (λ b. b && holds_field start r r.kind d) e in
    ap (λ b. cond b (r ∷ filter (holds_here k start d) rs) (filter (holds_here k start d) rs)) same ∙ ap (λ xs. cond (holds_field start r r.kind d) (r ∷ xs) xs) (all_here k start d rs e)

old_at : (olds : List (List ViewReloc)) (i : ℕ) → i < length olds → (old : List ViewReloc) × (slice_get olds i ≡ Some old)
old_at olds i below = (get_or olds i [], slice_get-get_or olds i [] below)

same : (x y : List ViewReloc) → Some x ≡ Some y → x ≡ y
same x y e = cc

got : (ds : List Definition) (k start : ℕ) (d : Definition) (rs : List ViewReloc) (olds news : List (List ViewReloc)) (i : ℕ) (new : List ViewReloc) → length olds ≡ length ds → Groups ds (λ d. filter (holds_here k start d) rs) olds news → slice_get ds i ≡ Some d → slice_get news i ≡ Some new
    → (old : List ViewReloc) × (slice_get olds i ≡ Some old) × (new ≡ old ++ filter (holds_here k start d) rs)
got ds k start d rs olds news i new long h at_d at_new =
    let o = old_at olds i (omega (arith, slice_get_within ds i d at_d, long)) in
    let both : Some new ≡ Some (o.0 ++ filter (holds_here k start d) rs) = sym at_new ∙ h.each i d o.0 at_d o.1 in
    (o.0, o.1, same new (o.0 ++ filter (holds_here k start d) rs) both)

next_before : (v : View) (ds : List Definition) (k : ℕ) (s : ViewSection) (olds news : List (List ViewReloc)) (i : ℕ) (d : Definition) (new : List ViewReloc) → slice_get v.sections k ≡ Some s → GroupedTo v ds k olds → Groups ds (λ d. filter (holds_here k s.start d) s.relocations) olds news
    → slice_get ds i ≡ Some d → slice_get news i ≡ Some new → (d.section ≡ k) ⊎ ((d.section < k) ⊎ (k < d.section)) → d.section < k + 1 → HasFields v d new
next_before v ds k s olds news i d new at_s before h at_d at_new (inl equal) less =
    let o = got ds k s.start d s.relocations olds news i new before.long h at_d at_new in
    let none : o.0 ≡ [] = before.behind i d o.0 at_d o.1 (omega (arith, equal)) in
    let is : new ≡ fields_of s d = o.2 ∙ ap (λ xs. xs ++ filter (holds_here k s.start d) s.relocations) none ∙ all_here k s.start d s.relocations (eq-eqb d.section k equal) in
    record { all = λ t at_t. let both : Some s ≡ Some t = sym at_s ∙ ap (slice_get v.sections) (sym equal) ∙ at_t in let one : s ≡ t = cc in is ∙ ap (λ (x : ViewSection). fields_of x d) one }
next_before v ds k s olds news i d new at_s before h at_d at_new (inr (inl l)) less =
    let o = got ds k s.start d s.relocations olds news i new before.long h at_d at_new in
    let none : new ≡ o.0 = o.2 ∙ ap (λ xs. o.0 ++ xs) (none_here k s.start d s.relocations (ne_eqb d.section k (λ e. absurd (omega (arith, e, l))))) ∙ append-nil o.0 in
    subst (HasFields v d) (sym none) (before.before i d o.0 at_d o.1 l)
next_before v ds k s olds news i d new at_s before h at_d at_new (inr (inr l)) less = absurd (omega (arith, l, less))

next_behind : (v : View) (ds : List Definition) (k : ℕ) (s : ViewSection) (olds news : List (List ViewReloc)) (i : ℕ) (d : Definition) (new : List ViewReloc) → GroupedTo v ds k olds → Groups ds (λ d. filter (holds_here k s.start d) s.relocations) olds news → slice_get ds i ≡ Some d → slice_get news i ≡ Some new → k + 1 ≤ d.section → new ≡ []
next_behind v ds k s olds news i d new before h at_d at_new low =
    let o = got ds k s.start d s.relocations olds news i new before.long h at_d at_new in
    o.2 ∙ ap (λ xs. o.0 ++ xs) (none_here k s.start d s.relocations (ne_eqb d.section k (λ e. absurd (omega (arith, e, low))))) ∙ append-nil o.0 ∙ before.behind i d o.0 at_d o.1 (omega (arith, low))

-- one section more
pub grouped_next : (v : View) (ds : List Definition) (k : ℕ) (s : ViewSection) (olds news : List (List ViewReloc)) → slice_get v.sections k ≡ Some s → GroupedTo v ds k olds → Groups ds (λ d. filter (holds_here k s.start d) s.relocations) olds news → GroupedTo v ds (k + 1) news
grouped_next v ds k s olds news at_s before h =
    record {
      long = h.long ∙ before.long;
      before = λ i d new at_d at_new less. next_before v ds k s olds news i d new at_s before h at_d at_new (cases_order d.section k) less;
      behind = λ i d new at_d at_new low. next_behind v ds k s olds news i d new before h at_d at_new low;
    }

last_empty : (rs : List ViewReloc) (k : ℕ) → slice_get ([] ∷ []) k ≡ Some rs → rs ≡ []
last_empty rs zero e = cc
last_empty rs (suc k) e = absurd (cc)

empty_by : (all : List (List ViewReloc)) (i : ℕ) (rs : List ViewReloc) → ((i : ℕ) (rs : List ViewReloc) → slice_get all i ≡ Some rs → rs ≡ []) → (slice_get all i ≡ Some rs) ⊎ ((k : ℕ) × (length all + k ≡ i) × (slice_get ([] ∷ []) k ≡ Some rs)) → rs ≡ []
empty_by all i rs none (inl at_rs) = none i rs at_rs
empty_by all i rs none (inr q) = last_empty rs q.0 q.2

-- one empty list more
pub empty_more : (count : ℕ) (all : List (List ViewReloc)) → AreEmpty count all → AreEmpty (count + 1) (all ++ [] ∷ [])
empty_more count all h = record { long = omega (arith, length-append all ([] ∷ []), h.long); none = λ i rs at_rs. empty_by all i rs h.none (get_append all ([] ∷ []) i rs at_rs) }

pub grouped_start : (v : View) (ds : List Definition) (all : List (List ViewReloc)) → AreEmpty (length ds) all → GroupedTo v ds 0 all
grouped_start v ds all e =
    record {
      long = e.long;
      before = λ i d rs at_d at_rs less. absurd (omega (arith, less));
      behind = λ i d rs at_d at_rs low. e.none i rs at_rs;
    }

end_fields : (v : View) (ds : List Definition) (k : ℕ) (all : List (List ViewReloc)) (i : ℕ) (d : Definition) (rs : List ViewReloc) → length v.sections ≤ k → GroupedTo v ds k all → slice_get ds i ≡ Some d → slice_get all i ≡ Some rs → (s : ViewSection) → slice_get v.sections d.section ≡ Some s → rs ≡ fields_of s d
end_fields v ds k all i d rs past h at_d at_rs s at_s = (h.before i d rs at_d at_rs (omega (arith, past, slice_get_within v.sections d.section s at_s))).all s at_s

pub grouped_end : (v : View) (ds : List Definition) (k : ℕ) (all : List (List ViewReloc)) → length v.sections ≤ k → GroupedTo v ds k all → AreGrouped v ds all
grouped_end v ds k all past h = record { long = h.long; each = λ i d rs at_d at_rs. record { all = end_fields v ds k all i d rs past h at_d at_rs } }

-- -- lists that the code has

get_set : {A : Type 0} (xs : List A) (i : ℕ) (y : A) → i < length xs → slice_get (set xs i y) i ≡ Some y
get_set [] i y h = absurd (omega (arith, h))
get_set (x ∷ xs) zero y h = refl
get_set (x ∷ xs) (suc i) y h = get_set xs i y (omega (arith, h))

get_kept : {A : Type 0} (xs : List A) (i j : ℕ) (y : A) → j ≢ i → slice_get (set xs i y) j ≡ slice_get xs j
get_kept [] i j y h = refl
get_kept (x ∷ xs) zero zero y h = absurd (h refl)
get_kept (x ∷ xs) zero (suc j) y h = refl
get_kept (x ∷ xs) (suc i) zero y h = refl
get_kept (x ∷ xs) (suc i) (suc j) y h = get_kept xs i j y (λ e. h (ap suc e))

set_long : {A : Type 0} (xs : List A) (i : ℕ) (y : A) → length (set xs i y) ≡ length xs
set_long [] i y = refl
set_long (x ∷ xs) zero y = refl
set_long (x ∷ xs) (suc i) y = ap suc (set_long xs i y)

-- the elements of a vector
abbrev pub items_of : Vec ViewReloc Global → List ViewReloc
items_of f = f.items

pushed_here : (fields : List (Vec ViewReloc Global)) (i : ℕ) (r : ViewReloc) (old new : Vec ViewReloc Global) → i < length fields → slice_get fields i ≡ Some old → new.items ≡ old.items ++ r ∷ [] → (xs : List ViewReloc) → slice_get (map items_of fields) i ≡ Some xs
    → slice_get (map items_of (set fields i new)) i ≡ Some (xs ++ r ∷ [])
pushed_here fields i r old new below at_old is xs at_xs =
    let both : Some old.items ≡ Some xs = ap (option_map items_of) (sym at_old) ∙ sym (slice_get-map items_of fields i) ∙ at_xs in
    let one : old.items ≡ xs = same old.items xs both in
    slice_get-map items_of (set fields i new) i ∙ ap (option_map items_of) (get_set fields i new below) ∙ ap Some (is ∙ ap (λ ys. ys ++ r ∷ []) one)

pub one_pushed : (fields : List (Vec ViewReloc Global)) (i : ℕ) (r : ViewReloc) (old new : Vec ViewReloc Global) → i < length fields → slice_get fields i ≡ Some old → new.items ≡ old.items ++ r ∷ [] → GroupsOne i r (map items_of fields) (map items_of (set fields i new))
one_pushed fields i r old new below at_old is =
    record {
      long = long_map items_of (set fields i new) ∙ set_long fields i new ∙ sym (long_map items_of fields);
      here = λ xs at_xs. pushed_here fields i r old new below at_old is xs at_xs;
      kept = λ j apart. slice_get-map items_of (set fields i new) j ∙ ap (option_map items_of) (get_kept fields i j new apart) ∙ sym (slice_get-map items_of fields j);
    }

pub empty_pushed : (i : ℕ) (old new : List (Vec ViewReloc Global)) (v : Vec ViewReloc Global) → AreEmpty i (map items_of old) → new ≡ old ++ v ∷ [] → v.items ≡ [] → AreEmpty (i + 1) (map items_of new)
empty_pushed i old new v h is none =
    let there : map items_of old ++ [] ∷ [] ≡ map items_of new = ap (λ (x : List ViewReloc). map items_of old ++ x ∷ []) (sym none) ∙ sym (map-append items_of old (v ∷ [])) ∙ ap (map items_of) (sym is) in
    subst (AreEmpty (i + 1)) there (empty_more i (map items_of old) h)

-- the definition of the range before the place
pub writes_held : (ds : List Definition) (ps : List Span) (k at n place number : ℕ) (r : ViewReloc) (olds news : List (List ViewReloc)) → AreIndexed ds ps → at < 73786976294838206464 → 0 < place → ((p : Span) → slice_get ps (place - 1) ≡ Some p → number ≡ p.number) → WritesFrom ps (line_place k at) n place r olds news → number < length ds
writes_held ds ps k at n place number r olds news indexed near more is h =
    let q = span_before ps place more h.inside in
    let held = held_by_span ds ps k at n (place - 1) q.0 indexed near q.1 (h.here q.0 more q.1) in
    subst (λ i. i < length ds) (sym (is q.0 q.1)) (slice_get_within ds q.0.number held.definition held.at_number)

-- the relocations of a definition of a number
pub fields_at : (v : View) (ds : List Definition) (fields : List (Vec ViewReloc Global)) (i : ℕ) (d : Definition) (f : Vec ViewReloc Global) (rs : List ViewReloc) → AreGrouped v ds (map items_of fields) → slice_get ds i ≡ Some d → i < length fields → f ≡ get_or fields i f → rs ≡ f.items → HasFields v d rs
fields_at v ds fields i d f rs h at_d below is same = subst (HasFields v d) (sym same) (h.each i d f.items at_d (slice_get-map items_of fields i ∙ ap (option_map items_of) (item_get fields i f below is)))
