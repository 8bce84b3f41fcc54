-- Texts that are stored once each, and the places where they are found.
use Rattle.std.proofs.Common.{◌≡◌, ◌⊎◌, ℕ, zero, suc, ◌+◌, ◌<◌, ◌≤◌, ◌==◌, ◌++◌, ◌∷◌, ◌||◌, List, [], Bool, true, false, cond, inl, inr, length, take, drop, get_or, Option, Some, None, refl, ap, sym, ◌∙◌, subst, arith, length-append}
use Rattle.std.proofs.lemmas.Bool.{cases_Bool}
use Rattle.std.proofs.lemmas.Bool.Decides.{eqb_tells}
use Rattle.std.proofs.lemmas.Slice.Eq.{bytes_eq-Decides}
use Rattle.std.proofs.lemmas.List.{drop-append-le, take-append-le, length-drop, map-append}
use Rattle.std.proofs.Math.Seq.{drop-append_seam}
use Rattle.std.proofs.lemmas.List.Folds.{list_any-append}
use Rattle.std.proofs.lemmas.List.Elements.{All-head, All-tail, All-push}
use Rattle.std.proofs.lemmas.List.Sums.{sum_by_push}
use Rattle.std.proofs.lemmas.Option.{get_or_from_slice_get, slice_get_within}
use Rattle.std.proofs.Math.Seq.{take-append_seam, take-length}
use Rattle.std.proofs.lemmas.List.{length-map}
use Rattle.object_core.proofs.Sections.{mapped_within}
use Rattle.std.specs.Prelude.{nat_eq, IfSome, slice_get, option_map, bytes_eq}
use Rattle.std.specs.List.{All}
use Rattle.object_core.specs.declared.names.Span.{Span}
use Rattle.object_core.specs.Names.{is_among, with_text, text_number, later, last_with, texts_in, AreStored}

-- -- equal texts

pub same_text : (s t : List ℕ) → bytes_eq s t ≡ true → s ≡ t
same_text s t h = (bytes_eq-Decides s t).0 h

pub other_text : (s t : List ℕ) → bytes_eq s t ≡ false → bytes_eq t s ≡ false
other_text s t h = elim (cases_Bool (bytes_eq t s)) [ inl same ↦ absurd (cc (h, (bytes_eq-Decides s t).1 (sym (same_text t s same)))) | inr apart ↦ apart ]

or_false : (b : Bool) → (b || false) ≡ b
or_false true = refl
or_false false = refl

or_true : (b : Bool) → (b || true) ≡ true
or_true true = refl
or_true false = refl

eqb_self : (n : ℕ) → (n == n) ≡ true
eqb_self n = elim (eqb_tells n n) [ inl is ↦ is.0 | inr apart ↦ absurd (apart.1 refl) ]

-- -- the last text of a number

later_none : (here : Bool) → later here None ≡ cond here (Some 0) None
later_none true = refl
later_none false = refl

later_push : (here new : Bool) (n : ℕ) (rest : Option ℕ) → later here (cond new (Some n) rest) ≡ cond new (Some (suc n)) (later here rest)
later_push here true n rest = refl
later_push here false n rest = refl

-- one more text
pub last_with-push : (number : ℕ) (ts : List (List ℕ)) (t : List ℕ) → last_with number (ts ++ t ∷ []) ≡ cond (text_number t == number) (Some (length ts)) (last_with number ts)
last_with-push number [] t = later_none (text_number t == number)
last_with-push number (x ∷ xs) t = ap (later (text_number x == number)) (last_with-push number xs t) ∙ later_push (text_number x == number) (text_number t == number) (length xs) (last_with number xs)

-- how many texts there are up to a place
abbrev pub through : Option ℕ → ℕ
through None = 0
through (Some k) = suc k

among_step : (t x : List ℕ) (xs : List (List ℕ)) (here : Bool) (rest : Option ℕ) → (text_number x == text_number t) ≡ here → is_among t xs ≡ is_among t (take (through rest) xs) → is_among t (x ∷ xs) ≡ is_among t (take (through (later here rest)) (x ∷ xs))
among_step t x xs here (Some k) e h = ap (λ (b : Bool). bytes_eq t x || b) h
among_step t x xs true None e h = ap (λ (b : Bool). bytes_eq t x || b) h
among_step t x xs false None e h =
    elim (cases_Bool (bytes_eq t x)) [
      | inl same ↦ absurd (cc (e, eqb_self (text_number t), ap text_number (same_text t x same)))
      | inr apart ↦ rw apart h
    ]

-- a text is not behind the last of its number
pub among_through : (t : List ℕ) (ts : List (List ℕ)) → is_among t ts ≡ is_among t (take (through (last_with (text_number t) ts)) ts)
among_through t [] = refl
among_through t (x ∷ xs) = among_step t x xs (text_number x == text_number t) (last_with (text_number t) xs) refl (among_through t xs)

through_step : (here : Bool) (rest : Option ℕ) (n : ℕ) → through rest ≤ n → through (later here rest) ≤ suc n
through_step here (Some k) n h = omega (arith, h)
through_step true None n h = omega arith
through_step false None n h = omega arith

through_within : (number : ℕ) (ts : List (List ℕ)) → through (last_with number ts) ≤ length ts
through_within number [] = omega arith
through_within number (x ∷ xs) = through_step (text_number x == number) (last_with number xs) (length xs) (through_within number xs)

told_step : (number : ℕ) (x : List ℕ) (xs : List (List ℕ)) (here : Bool) (rest : Option ℕ) → (text_number x == number) ≡ here → IfSome rest (λ k. option_map text_number (slice_get xs k) ≡ Some number)
    → IfSome (later here rest) (λ k. option_map text_number (slice_get (x ∷ xs) k) ≡ Some number)
told_step number x xs here (Some k) e h = h
told_step number x xs true None e h = elim (eqb_tells (text_number x) number) [ inl is ↦ ap Some is.1 | inr apart ↦ absurd (cc (e, apart.0)) ]
told_step number x xs false None e h = tt

-- the last text of a number has this number
last_told : (number : ℕ) (ts : List (List ℕ)) → IfSome (last_with number ts) (λ k. option_map text_number (slice_get ts k) ≡ Some number)
last_told number [] = tt
last_told number (x ∷ xs) = told_step number x xs (text_number x == number) (last_with number xs) refl (last_told number xs)

-- -- the front of a list

take_more : {A : Type 0} (xs : List A) (k : ℕ) (x : A) → slice_get xs k ≡ Some x → take (suc k) xs ≡ take k xs ++ x ∷ []
take_more [] k x h = absurd (cc)
take_more (y ∷ ys) zero x h = ap (λ z. z ∷ []) (cc)
take_more (y ∷ ys) (suc k) x h = ap (λ zs. y ∷ zs) (take_more ys k x h)

take_short : {A : Type 0} (k : ℕ) (xs : List A) → length (take k xs) ≤ k
take_short zero xs = omega arith
take_short (suc k) [] = omega arith
take_short (suc k) (x ∷ xs) = let rest : length (take k xs) ≤ k = take_short k xs in omega arith

take_again : {A : Type 0} (n k : ℕ) (xs : List A) → n ≤ k → take n (take k xs) ≡ take n xs
take_again zero k xs h = refl
take_again (suc n) zero xs h = absurd (omega arith)
take_again (suc n) (suc k) [] h = refl
take_again (suc n) (suc k) (x ∷ xs) h = let below : n ≤ k = omega arith in ap (λ zs. x ∷ zs) (take_again n k xs below)

mapped_front : {A B : Type 0} (f : A → B) (xs : List A) (k j : ℕ) (y : B) → option_map f (slice_get (take k xs) j) ≡ Some y → option_map f (slice_get xs j) ≡ Some y
mapped_front f [] zero j y h = absurd (cc)
mapped_front f [] (suc k) j y h = absurd (cc)
mapped_front f (x ∷ xs) zero j y h = absurd (cc)
mapped_front f (x ∷ xs) (suc k) zero y h = h
mapped_front f (x ∷ xs) (suc k) (suc j) y h = mapped_front f xs k j y h

-- -- a search from the last text of a number to the ones before it

-- if a text is there, it is not behind this place, whose text has its number
pub record IsLeft (text : List ℕ) (texts : List (List ℕ)) (place : Option ℕ) : Type 0 where
  pub among : is_among text texts ≡ is_among text (take (through place) texts)
  pub number : IfSome place (λ k. option_map text_number (slice_get texts k) ≡ Some (text_number text))

pub search_begins : (text : List ℕ) (texts : List (List ℕ)) (place : Option ℕ) → place ≡ last_with (text_number text) texts → IsLeft text texts place
search_begins text texts place e = rw e (record { among = among_through text texts; number = last_told (text_number text) texts })

number_is : (text other : List ℕ) (texts : List (List ℕ)) (k : ℕ) → option_map text_number (slice_get texts k) ≡ Some (text_number text) → slice_get texts k ≡ Some other → text_number other ≡ text_number text
number_is text other texts k h e = cc

number_front : (number : ℕ) (texts : List (List ℕ)) (k : ℕ) (rest : Option ℕ) → IfSome rest (λ j. option_map text_number (slice_get (take k texts) j) ≡ Some number) → IfSome rest (λ j. option_map text_number (slice_get texts j) ≡ Some number)
number_front number texts k None h = tt
number_front number texts k (Some j) h = mapped_front text_number texts k j number h

pub search_continues : (text other : List ℕ) (texts : List (List ℕ)) (place : Option ℕ) (k : ℕ) (older : Option ℕ) → IsLeft text texts place → place ≡ Some k → slice_get texts k ≡ Some other → bytes_eq other text ≡ false → older ≡ last_with (text_number other) (take k texts)
    → IsLeft text texts older
search_continues text other texts place k older left here at apart is =
    let h : IsLeft text texts (Some k) = subst (IsLeft text texts) here left in
    let front : List (List ℕ) = take k texts in
    let same : older ≡ last_with (text_number text) front = is ∙ ap (λ (n : ℕ). last_with n front) (number_is text other texts k h.number at) in
    let before : is_among text (take (suc k) texts) ≡ (is_among text front || (bytes_eq text other || false)) = ap (is_among text) (take_more texts k other at) ∙ list_any-append (bytes_eq text) front (other ∷ []) in
    let bound : through (last_with (text_number text) front) ≤ k = omega (arith, through_within (text_number text) front, take_short k texts) in
    rw same (record {
      among = h.among ∙ before ∙ rw (other_text other text apart) (or_false (is_among text front) ∙ among_through text front ∙ ap (is_among text) (take_again (through (last_with (text_number text) front)) k texts bound));
      number = number_front (text_number text) texts k (last_with (text_number text) front) (last_told (text_number text) front);
    })

pub search_nearer : (other : List ℕ) (texts : List (List ℕ)) (place : Option ℕ) (k : ℕ) (older : Option ℕ) → place ≡ Some k → older ≡ last_with (text_number other) (take k texts) → through older < through place
search_nearer other texts place k older here is = rw (here, is) (omega (arith, through_within (text_number other) (take k texts), take_short k texts))

pub search_within : (text : List ℕ) (texts : List (List ℕ)) (place : Option ℕ) (k : ℕ) → IsLeft text texts place → place ≡ Some k → k < length texts
search_within text texts place k left here = mapped_within text_number texts k (text_number text) ((subst (IsLeft text texts) here left).number)

-- what is kept of the text before one of its number
pub older_is : (bytes : List ℕ) (spans : List Span) (index : ℕ → Option ℕ) (older : List (Option ℕ)) (texts : List (List ℕ)) (k : ℕ) (text : List ℕ) (value : Option ℕ) → AreStored bytes spans index older → texts_in bytes spans ≡ texts → slice_get texts k ≡ Some text → value ≡ get_or older k value → value ≡ last_with (text_number text) (take k texts)
older_is bytes spans index older texts k text value h same at is =
    let told : slice_get older k ≡ Some (last_with (text_number text) (take k (texts_in bytes spans))) = h.before k text (ap (λ ts. slice_get ts k) same ∙ at) in
    is ∙ get_or_from_slice_get older k (last_with (text_number text) (take k (texts_in bytes spans))) value told ∙ ap (λ ts. last_with (text_number text) (take k ts)) same

pub older_within : (bytes : List ℕ) (spans : List Span) (index : ℕ → Option ℕ) (older : List (Option ℕ)) (texts : List (List ℕ)) (k : ℕ) → AreStored bytes spans index older → texts_in bytes spans ≡ texts → k < length texts → k < length older
older_within bytes spans index older texts k h same below = omega (arith, below, ap length same, length-map spans (λ (s : Span). take s.len (drop s.start bytes)), h.count)

-- -- one more text

get_push : {A : Type 0} (xs : List A) (x : A) (k : ℕ) (y : A) → slice_get (xs ++ x ∷ []) k ≡ Some y → (slice_get xs k ≡ Some y) ⊎ ((k ≡ length xs) × (x ≡ y))
get_push [] x zero y h = inr (refl, (cc))
get_push [] x (suc k) y h = absurd (cc)
get_push (z ∷ zs) x zero y h = inl h
get_push (z ∷ zs) x (suc k) y h = elim (get_push zs x k y h) [ inl here ↦ inl here | inr end ↦ inr (ap suc end.0, end.1) ]

pub get_kept : {A : Type 0} (xs ys : List A) (k : ℕ) (y : A) → slice_get xs k ≡ Some y → slice_get (xs ++ ys) k ≡ Some y
get_kept [] ys k y h = absurd (cc)
get_kept (x ∷ xs) ys zero y h = h
get_kept (x ∷ xs) ys (suc k) y h = get_kept xs ys k y h

pub get_last : {A : Type 0} (xs : List A) (y : A) (k : ℕ) → k ≡ length xs → slice_get (xs ++ y ∷ []) k ≡ Some y
get_last [] y k h = rw h refl
get_last (x ∷ xs) y zero h = absurd (omega (arith, h))
get_last (x ∷ xs) y (suc k) h = let below : k ≡ length xs = omega (arith, h) in get_last xs y k below

text_kept : (bytes more : List ℕ) (s : Span) → s.start + s.len ≤ length bytes → take s.len (drop s.start (bytes ++ more)) ≡ take s.len (drop s.start bytes)
text_kept bytes more s h =
    let start : s.start ≤ length bytes = omega (arith, h) in
    let len : s.len ≤ length (drop s.start bytes) = omega (arith, h, length-drop s.start bytes) in
    ap (take s.len) (drop-append-le s.start bytes more start) ∙ take-append-le s.len (drop s.start bytes) more len

abbrev IsWithin : List ℕ → Span → Type 0
IsWithin bytes s = s.start + s.len ≤ length bytes

texts_kept : (bytes more : List ℕ) (spans : List Span) → All (IsWithin bytes) spans → texts_in (bytes ++ more) spans ≡ texts_in bytes spans
texts_kept bytes more [] h = refl
texts_kept bytes more (s ∷ ss) h = rw (text_kept bytes more s (All-head (IsWithin bytes) s ss h), texts_kept bytes more ss (All-tail (IsWithin bytes) s ss h)) refl

text_new : (bytes text : List ℕ) (s : Span) → s.start ≡ length bytes → s.len ≡ length text → take s.len (drop s.start (bytes ++ text)) ≡ text
text_new bytes text s start len = rw (start, len, drop-append_seam bytes text) (take-length text)

pub texts_push : (bytes text : List ℕ) (spans : List Span) (s : Span) → All (IsWithin bytes) spans → s.start ≡ length bytes → s.len ≡ length text → texts_in (bytes ++ text) (spans ++ s ∷ []) ≡ texts_in bytes spans ++ text ∷ []
texts_push bytes text spans s h start len =
    map-append (λ (x : Span). take x.len (drop x.start (bytes ++ text))) spans (s ∷ []) ∙ rw (texts_kept bytes text spans h, text_new bytes text s start len) refl

pub texts_appended : (bytes longer : List ℕ) (spans more : List Span) (text : List ℕ) (s : Span) → All (IsWithin bytes) spans → longer ≡ bytes ++ text → more ≡ spans ++ s ∷ [] → s.start ≡ length bytes → s.len ≡ length text → texts_in longer more ≡ texts_in bytes spans ++ text ∷ []
texts_appended bytes longer spans more text s h bs ss start len = rw (bs, ss) (texts_push bytes text spans s h start len)

length-texts_in : (bytes : List ℕ) (spans : List Span) → length (texts_in bytes spans) ≡ length spans
length-texts_in bytes spans = length-map spans (λ (s : Span). take s.len (drop s.start bytes))

-- the text that was appended stands at the last place
pub text_appended : (bytes longer : List ℕ) (spans more : List Span) (text : List ℕ) (s : Span) (place : ℕ) → All (IsWithin bytes) spans → longer ≡ bytes ++ text → more ≡ spans ++ s ∷ [] → s.start ≡ length bytes → s.len ≡ length text → place ≡ length spans → slice_get (texts_in longer more) place ≡ Some text
text_appended bytes longer spans more text s place h bs ss start len at =
    let last : place ≡ length (texts_in bytes spans) = at ∙ sym (length-texts_in bytes spans) in
    ap (λ ts. slice_get ts place) (texts_appended bytes longer spans more text s h bs ss start len) ∙ get_last (texts_in bytes spans) text place last

before_push : (ts : List (List ℕ)) (text : List ℕ) (older : List (Option ℕ)) (before : Option ℕ) → length older ≡ length ts → before ≡ last_with (text_number text) ts
    → ((k : ℕ) (t : List ℕ) → slice_get ts k ≡ Some t → slice_get older k ≡ Some (last_with (text_number t) (take k ts)))
    → (k : ℕ) (t : List ℕ) → slice_get (ts ++ text ∷ []) k ≡ Some t → slice_get (older ++ before ∷ []) k ≡ Some (last_with (text_number t) (take k (ts ++ text ∷ [])))
before_push ts text older before count is each k t h =
    elim (get_push ts text k t h) [
      | inl here ↦ (let below : k ≤ length ts = omega (arith, slice_get_within ts k t here) in
          get_kept older (before ∷ []) k (last_with (text_number t) (take k ts)) (each k t here) ∙ ap (λ (xs : List (List ℕ)). Some (last_with (text_number t) xs)) (sym (take-append-le k ts (text ∷ []) below)))
      | inr end ↦ (let at : k ≡ length older = end.0 ∙ sym count in
          let front : take k (ts ++ text ∷ []) ≡ ts = ap (λ (n : ℕ). take n (ts ++ text ∷ [])) end.0 ∙ take-append_seam ts (text ∷ []) in
          get_last older before k at ∙ ap Some is ∙ rw (front, end.1) refl)
    ]

-- one more text behind the bytes of the others
pub stored_more : (bytes longer : List ℕ) (spans more : List Span) (index after : ℕ → Option ℕ) (older newer : List (Option ℕ)) (text : List ℕ) (s : Span) (before : Option ℕ) (number place : ℕ) → AreStored bytes spans index older
    → longer ≡ bytes ++ text → more ≡ spans ++ s ∷ [] → newer ≡ older ++ before ∷ [] → s.start ≡ length bytes → s.len ≡ length text → number ≡ text_number text → place ≡ length spans → before ≡ index number
    → ((q : ℕ) → after q ≡ cond (nat_eq number q) (Some place) (index q)) → AreStored longer more after newer
stored_more bytes longer spans more index after older newer text s before number place h bs ss os start len hash at is updates =
    let ts : List (List ℕ) = texts_in bytes spans in
    let texts : texts_in (bytes ++ text) (spans ++ s ∷ []) ≡ ts ++ text ∷ [] = texts_push bytes text spans s h.within start len in
    let count : length older ≡ length ts = h.count ∙ sym (length-texts_in bytes spans) in
    let known : before ≡ last_with (text_number text) ts = is ∙ ap index hash ∙ h.last (text_number text) in
    let wider : All (IsWithin (bytes ++ text)) spans = λ k d below. omega (arith, h.within k d below, length-append bytes text) in
    let end : IsWithin (bytes ++ text) s = omega (arith, start, len, length-append bytes text) in
    let all : AreStored (bytes ++ text) (spans ++ s ∷ []) after (older ++ before ∷ []) = record {
      within = All-push (IsWithin (bytes ++ text)) spans s wider end;
      size = rw texts (omega (arith, sum_by_push (λ (t : List ℕ). length t) ts text, h.size, length-append bytes text));
      last = λ q. rw texts (updates q ∙ rw (hash, at, h.last q, ← length-texts_in bytes spans) (sym (last_with-push q ts text)));
      before = λ k t e. (let found : slice_get (ts ++ text ∷ []) k ≡ Some t = ap (λ xs. slice_get xs k) (sym texts) ∙ e in before_push ts text older before count known h.before k t found ∙ ap (λ (xs : List (List ℕ)). Some (last_with (text_number t) (take k xs))) (sym texts));
      count = omega (arith, length-append older (before ∷ []), length-append spans (s ∷ []), h.count);
    }
    in
    rw (bs, ss, os) all

-- -- a text that is put among others

pub eq_self : (t : List ℕ) → bytes_eq t t ≡ true
eq_self t = (bytes_eq-Decides t t).1 refl

pub among_here : (ts : List (List ℕ)) (k : ℕ) (t : List ℕ) → slice_get ts k ≡ Some t → is_among t ts ≡ true
among_here [] k t h = absurd (cc)
among_here (x ∷ xs) zero t h = ap (λ (b : Bool). b || is_among t xs) (ap (bytes_eq t) (cc) ∙ eq_self t)
among_here (x ∷ xs) (suc k) t h = ap (λ (b : Bool). bytes_eq t x || b) (among_here xs k t h) ∙ or_true (bytes_eq t x)

-- one that is there already
pub kept_text : (ts : List (List ℕ)) (k : ℕ) (t : List ℕ) → slice_get ts k ≡ Some t → ts ≡ with_text ts t
kept_text ts k t h = rw (among_here ts k t h) refl

pub get_with_text : (ts : List (List ℕ)) (text : List ℕ) (k : ℕ) (t : List ℕ) → slice_get ts k ≡ Some t → slice_get (with_text ts text) k ≡ Some t
get_with_text ts text k t h = elim (cases_Bool (is_among text ts)) [ inl there ↦ rw there h | inr new ↦ rw new (get_kept ts (text ∷ []) k t h) ]
