-- What relocations add, found one after the other.
use Rattle.std.proofs.Common.{◌≡◌, ◌≢◌, ℕ, ◌+◌, ◌*◌, ◌^◌, ◌<◌, ◌≤◌, ◌==◌, ◌&&◌, ◌||◌, ◌++◌, ◌∷◌, List, [], Bool, true, false, cond, length, map, filter, take, get_or, Some, None, refl, ap, sym, ◌∙◌, subst, arith, inl, inr, bytes_eq, append_assoc}
use Rattle.std.proofs.lemmas.Bool.{eq-eqb, eqb-true, ltb-true}
use Rattle.std.proofs.lemmas.Bool.Decides.{eqb_tells}
use Rattle.std.proofs.lemmas.Slice.Eq.{bytes_eq-Decides}
use Rattle.std.proofs.lemmas.List.{append-nil, map-append, take_more, take_all}
use Rattle.std.proofs.lemmas.Grind.{flat_map-append}
use Rattle.std.proofs.lemmas.List.Folds.{list_any-append, position_or_len_push}
use Rattle.std.proofs.lemmas.List.Elements.{All-nil, All-cons, All-head, All-tail, All-append, filter-append}
use Rattle.std.specs.Prelude.{is_some, nat_lt}
use Rattle.std.specs.BTreeMap.{BTreeMap, get, Updates}
use Rattle.std.specs.Ordering.{nat_cmp, is_eq}
use Rattle.std.specs.declared.cmp.Ordering.TheVariants.{Less, Equal, Greater}
use Rattle.std.specs.List.{All, list_any, position_or_len}
use Rattle.ir_core.specs.Moments.{once_each}
use Rattle.ir_core.proofs.MomentLaws.{by_end, once_each-end}
use Rattle.ir_core.specs.declared.reloc.KnownSymbol.{KnownSymbol}
use Rattle.ir_core.specs.declared.reloc.KnownSymbol.TheVariants.{ElfGlobalOffsetTable, CoffTlsIndex}
use Rattle.cranelift_module.specs.declared.reloc.ModuleReloc.{ModuleReloc}
use Rattle.cranelift_module.specs.Definitions.{Definition}
use Rattle.cranelift_module.specs.LinkState.{LinkState}
use Rattle.cranelift_object.specs.Settings.{Settings}
use Rattle.cranelift_object.specs.Targets.{RelocationTarget, identifier, library, known, label, known_place, target_of, targets, extras, is_same_target, is_extra}
use Rattle.cranelift_object.specs.Linked.{row_of}
use Rattle.cranelift_object.specs.Extras.{text_of, extra_target, extra_key, has_key, IsFaithful, extra_place, FindsExtras, with_extra, AreAdded, AreExtras, targets_in}
use Rattle.cranelift_object.specs.declared.extras.Extra.{Extra}
use Rattle.cranelift_object.specs.declared.extras.Extra.TheVariants.{Library, Known, Label}
use Rattle.cranelift_object.proofs.ClassLaws.{place_in, place_past}

-- -- each has a number of its own

pub or_true : (a c : Bool) → c ≡ true → (a || c) ≡ true
or_true true c h = refl
or_true false c h = h

pub same_bool : (a b : Bool) → (a ≡ true → b ≡ true) → (b ≡ true → a ≡ true) → a ≡ b
same_bool true b f g = sym (f refl)
same_bool false true f g = g refl
same_bool false false f g = refl

differ : (a b : ℕ) → a ≢ b → false ≡ (a == b)
differ a b ne = elim (eqb_tells a b) [ inl e ↦ absurd (ne e.1) | inr e ↦ sym e.0 ]

text_same : (settings : Settings) (p q : ℕ) → position_or_len (bytes_eq (text_of settings p)) settings.library_names ≡ p → position_or_len (bytes_eq (text_of settings q)) settings.library_names ≡ q
    → bytes_eq (text_of settings p) (text_of settings q) ≡ (q == p)
text_same settings p q hp hq =
    same_bool (bytes_eq (text_of settings p) (text_of settings q)) (q == p)
    (λ e. eq-eqb q p (sym hq ∙ ap (λ t. position_or_len (bytes_eq t) settings.library_names) (sym ((bytes_eq-Decides (text_of settings p) (text_of settings q)).0 e)) ∙ hp))
    (λ e. (bytes_eq-Decides (text_of settings p) (text_of settings q)).1 (ap (text_of settings) (sym (eqb-true q p e))))

known_same : (a b : KnownSymbol) → (known_place a == known_place b) ≡ (18 + known_place b == 18 + known_place a)
known_same ElfGlobalOffsetTable ElfGlobalOffsetTable = refl
known_same ElfGlobalOffsetTable CoffTlsIndex = refl
known_same CoffTlsIndex ElfGlobalOffsetTable = refl
known_same CoffTlsIndex CoffTlsIndex = refl

known_small : (a : KnownSymbol) → known_place a < 2
known_small ElfGlobalOffsetTable = omega arith
known_small CoffTlsIndex = omega arith

both_true : (a b : Bool) → (a && b) ≡ true → (a ≡ true) × (b ≡ true)
both_true true b h = (refl, h)
both_true false b h = absurd (cc)

label_same : (f a g b : ℕ) → a < 2 ^ 32 → b < 2 ^ 32 → (f == g && a == b) ≡ (2 ^ 32 * (g + 1) + b == 2 ^ 32 * (f + 1) + a)
label_same f a g b ha hb =
    same_bool (f == g && a == b) (2 ^ 32 * (g + 1) + b == 2 ^ 32 * (f + 1) + a)
    (λ e. let both = both_true (f == g) (a == b) e in eq-eqb _ _ (let h = eqb-true f g both.0 in let k = eqb-true a b both.1 in omega (arith, h, k)))
    (λ e. let h = eqb-true _ _ e in let same_f : f ≡ g = omega (arith, h, ha, hb) in let same_a : a ≡ b = omega (arith, h, same_f) in rw (eq-eqb f g same_f, eq-eqb a b same_a) refl)

-- targets are the same where their numbers are
key_same : (settings : Settings) (x e : Extra) → IsFaithful settings x → IsFaithful settings e → is_same_target (extra_target settings x) (extra_target settings e) ≡ has_key (extra_key x) e
key_same settings (Library p) (Library q) hx he = text_same settings p q hx.1 he.1
key_same settings (Library p) (Known k) hx he = differ (18 + known_place k) p (λ h. (let small = hx.0 in absurd (omega (arith, h, small))))
key_same settings (Library p) (Label f o) hx he = differ (2 ^ 32 * (f + 1) + o) p (λ h. (let small = hx.0 in absurd (omega (arith, h, small))))
key_same settings (Known j) (Library q) hx he = differ q (18 + known_place j) (λ h. (let small = he.0 in absurd (omega (arith, h, small))))
key_same settings (Known j) (Known k) hx he = known_same j k
key_same settings (Known j) (Label f o) hx he = differ (2 ^ 32 * (f + 1) + o) (18 + known_place j) (λ h. (let small = known_small j in absurd (omega (arith, h, small))))
key_same settings (Label f a) (Library q) hx he = differ q (2 ^ 32 * (f + 1) + a) (λ h. (let small = he.0 in absurd (omega (arith, h, small))))
key_same settings (Label f a) (Known k) hx he = differ (18 + known_place k) (2 ^ 32 * (f + 1) + a) (λ h. (let small = known_small k in absurd (omega (arith, h, small))))
key_same settings (Label f a) (Label g b) hx he = label_same f a g b hx he

-- one is among others where its target is among theirs
any_same : (settings : Settings) (x : Extra) (es : List Extra) → IsFaithful settings x → All (IsFaithful settings) es → list_any (is_same_target (extra_target settings x)) (map (extra_target settings) es) ≡ list_any (has_key (extra_key x)) es
any_same settings x [] h all = refl
any_same settings x (e ∷ es) h all = rw (key_same settings x e h (All-head (IsFaithful settings) e es all), any_same settings x es h (All-tail (IsFaithful settings) e es all)) refl

-- and at the same place
places_same : (settings : Settings) (x : Extra) (es : List Extra) → IsFaithful settings x → All (IsFaithful settings) es → position_or_len (is_same_target (extra_target settings x)) (map (extra_target settings) es) ≡ position_or_len (has_key (extra_key x)) es
places_same settings x [] h all = refl
places_same settings x (e ∷ es) h all = rw (key_same settings x e h (All-head (IsFaithful settings) e es all), places_same settings x es h (All-tail (IsFaithful settings) e es all)) refl

-- -- targets that add

known_is : (a b : KnownSymbol) → (known_place a == known_place b) ≡ true → a ≡ b
known_is ElfGlobalOffsetTable ElfGlobalOffsetTable h = refl
known_is ElfGlobalOffsetTable CoffTlsIndex h = absurd (cc)
known_is CoffTlsIndex ElfGlobalOffsetTable h = absurd (cc)
known_is CoffTlsIndex CoffTlsIndex h = refl

-- the same target is an equal one
pub same_target : (a b : RelocationTarget) → is_same_target a b ≡ true → a ≡ b
same_target (identifier i) b h = absurd (cc)
same_target (library x) (identifier i) h = absurd (cc)
same_target (library x) (library y) h = ap library ((bytes_eq-Decides x y).0 h)
same_target (library x) (known k) h = absurd (cc)
same_target (library x) (label f o) h = absurd (cc)
same_target (known j) (identifier i) h = absurd (cc)
same_target (known j) (library y) h = absurd (cc)
same_target (known j) (known k) h = ap known (known_is j k h)
same_target (known j) (label f o) h = absurd (cc)
same_target (label f a) (identifier i) h = absurd (cc)
same_target (label f a) (library y) h = absurd (cc)
same_target (label f a) (known k) h = absurd (cc)
same_target (label f a) (label g b) h = let both = both_true (f == g) (a == b) h in rw (eqb-true f g both.0, eqb-true a b both.1) refl

known_self : (a : KnownSymbol) → (known_place a == known_place a) ≡ true
known_self ElfGlobalOffsetTable = refl
known_self CoffTlsIndex = refl

-- a target that adds is the same as itself
pub same_self : (a : RelocationTarget) → is_extra a ≡ true → is_same_target a a ≡ true
same_self (identifier i) h = absurd (cc)
same_self (library x) h = (bytes_eq-Decides x x).1 refl
same_self (known k) h = known_self k
same_self (label f o) h = rw (eq-eqb f f refl, eq-eqb o o refl) refl

once_any_from : (t x : RelocationTarget) (xs : List RelocationTarget) (b c : Bool) → list_any (is_same_target x) xs ≡ b → is_same_target t x ≡ c → (list_any (is_same_target t) xs || list_any (is_same_target t) (cond b [] (x ∷ []))) ≡ (list_any (is_same_target t) xs || (c || false))
once_any_from t x xs false c e same = rw same refl
once_any_from t x xs true false e same = refl
once_any_from t x xs true true e same =
    let here : list_any (is_same_target t) xs ≡ true = ap (λ (y : RelocationTarget). list_any (is_same_target y) xs) (same_target t x same) ∙ e in
    rw here refl

-- a target is among some where it is among them each once
pub once_any : (t : RelocationTarget) (xs : List RelocationTarget) → list_any (is_same_target t) (once_each is_same_target xs) ≡ list_any (is_same_target t) xs
unfolding Rattle.ir_core.specs.Moments.moments
once_any t = by_end (λ (xs : List RelocationTarget). list_any (is_same_target t) (once_each is_same_target xs) ≡ list_any (is_same_target t) xs) refl
    (λ xs x h. (
    ap (list_any (is_same_target t)) (once_each-end is_same_target xs x)
    ∙ list_any-append (is_same_target t) (once_each is_same_target xs) (cond (list_any (is_same_target x) xs) [] (x ∷ []))
    ∙ ap (λ b. b || list_any (is_same_target t) (cond (list_any (is_same_target x) xs) [] (x ∷ []))) h
    ∙ once_any_from t x xs (list_any (is_same_target x) xs) (is_same_target t x) refl refl
    ∙ sym (list_any-append (is_same_target t) xs (x ∷ []))))

-- -- one more target

-- an identifier adds nothing
pub identifier_noted : (settings : Settings) (ts : List RelocationTarget) (t : RelocationTarget) (es : List Extra) → is_extra t ≡ false → AreAdded settings ts es → AreAdded settings (ts ++ t ∷ []) es
identifier_noted settings ts t es plain h =
    let none : filter is_extra (t ∷ []) ≡ [] = rw plain refl in
    let same : filter is_extra (ts ++ t ∷ []) ≡ filter is_extra ts = filter-append is_extra ts (t ∷ []) ∙ ap (λ (xs : List RelocationTarget). filter is_extra ts ++ xs) none ∙ append-nil (filter is_extra ts) in
    record { found = h.found ∙ ap (once_each is_same_target) (sym same); faithful = h.faithful }

more_found : (settings : Settings) (es : List Extra) (e : Extra) (b : Bool) → map (extra_target settings) (cond b es (es ++ e ∷ [])) ≡ map (extra_target settings) es ++ cond b [] (extra_target settings e ∷ [])
more_found settings es e true = sym (append-nil (map (extra_target settings) es))
more_found settings es e false = map-append (extra_target settings) es (e ∷ [])

more_faithful : (settings : Settings) (es : List Extra) (e : Extra) (b : Bool) → IsFaithful settings e → All (IsFaithful settings) es → All (IsFaithful settings) (cond b es (es ++ e ∷ []))
more_faithful settings es e true h all = all
more_faithful settings es e false h all = All-append (IsFaithful settings) es (e ∷ []) all (All-cons (IsFaithful settings) e [] h (All-nil (IsFaithful settings)))

adds : (settings : Settings) (e : Extra) → is_extra (extra_target settings e) ≡ true
adds settings (Library p) = refl
adds settings (Known k) = refl
adds settings (Label f o) = refl

-- any other adds one more, where it is not yet there
pub extra_noted : (settings : Settings) (ts : List RelocationTarget) (t : RelocationTarget) (es : List Extra) (e : Extra) → extra_target settings e ≡ t → IsFaithful settings e → AreAdded settings ts es → AreAdded settings (ts ++ t ∷ []) (with_extra es e)
extra_noted settings ts t es e is faithful h =
    let x : RelocationTarget = extra_target settings e in
    let F : List RelocationTarget = filter is_extra ts in
    let one : filter is_extra (x ∷ []) ≡ x ∷ [] = rw (adds settings e) refl in
    let whole : filter is_extra (ts ++ x ∷ []) ≡ F ++ x ∷ [] = filter-append is_extra ts (x ∷ []) ∙ ap (λ (xs : List RelocationTarget). F ++ xs) one in
    let among : list_any (has_key (extra_key e)) es ≡ list_any (is_same_target x) F = sym (any_same settings e es faithful h.faithful) ∙ ap (list_any (is_same_target x)) h.found ∙ once_any x F in
    let found : map (extra_target settings) (with_extra es e) ≡ once_each is_same_target (filter is_extra (ts ++ x ∷ [])) =
    more_found settings es e (list_any (has_key (extra_key e)) es) ∙ ap (λ (xs : List RelocationTarget). xs ++ cond (list_any (has_key (extra_key e)) es) [] (x ∷ [])) h.found
    ∙ ap (λ (b : Bool). once_each is_same_target F ++ cond b [] (x ∷ [])) among ∙ sym (once_each-end is_same_target F x) ∙ ap (once_each is_same_target) (sym whole)
    in
    subst (λ (y : RelocationTarget). AreAdded settings (ts ++ y ∷ []) (with_extra es e)) is
    (record { found = found; faithful = more_faithful settings es e (list_any (has_key (extra_key e)) es) faithful h.faithful })

-- before the first target nothing is added
pub none_noted : (settings : Settings) → AreAdded settings [] []
unfolding Rattle.ir_core.specs.Moments.moments
none_noted settings = record { found = refl; faithful = All-nil (IsFaithful settings) }

-- -- the map of numbers

number_from : (k q : ℕ) (b c : Bool) → nat_lt k q ≡ b → (k == q) ≡ c → is_eq (cond b Less (cond c Equal Greater)) ≡ c
number_from k q true true e f = absurd (let below = ltb-true k q e in let same = eqb-true k q f in omega (arith, below, same))
number_from k q true false e f = refl
number_from k q false true e f = refl
number_from k q false false e f = refl

at_number : (k q : ℕ) → is_eq (nat_cmp k q) ≡ (k == q)
at_number k q = number_from k q (nat_lt k q) (k == q) refl refl

place_old : {A : Type 0} (p : A → Bool) (xs : List A) (y : A) → list_any p xs ≡ true → position_or_len p (xs ++ y ∷ []) ≡ position_or_len p xs
place_old p xs y h =
    let below = place_in p xs h in
    position_or_len_push p xs y ∙ ap (λ b. cond b (length xs + cond (p y) 0 1) (position_or_len p xs)) (sym (differ (position_or_len p xs) (length xs) (λ e. absurd (omega (arith, e, below)))))

place_new : {A : Type 0} (p : A → Bool) (xs : List A) (y : A) → list_any p xs ≡ false → p y ≡ true → position_or_len p (xs ++ y ∷ []) ≡ length xs
place_new p xs y h here =
    position_or_len_push p xs y ∙ ap (λ b. cond b (length xs + cond (p y) 0 1) (position_or_len p xs)) (eq-eqb (position_or_len p xs) (length xs) (place_past p xs h)) ∙ ap (λ b. length xs + cond b 0 1) here ∙ (omega arith)

place_kept : (q : ℕ) (es : List Extra) (e : Extra) (b : Bool) → list_any (has_key q) es ≡ b → has_key q e ≡ false → extra_place q es ≡ extra_place q (es ++ e ∷ [])
place_kept q es e true h other =
    let more : list_any (has_key q) (es ++ e ∷ []) ≡ true = list_any-append (has_key q) es (e ∷ []) ∙ ap (λ b. b || list_any (has_key q) (e ∷ [])) h in
    rw (h, more, place_old (has_key q) es e h) refl
place_kept q es e false h other =
    let more : list_any (has_key q) (es ++ e ∷ []) ≡ false = list_any-append (has_key q) es (e ∷ []) ∙ ap (λ b. b || list_any (has_key q) (e ∷ [])) h ∙ ap (λ b. b || false) other in
    rw (h, more) refl

place_added : (q : ℕ) (es : List Extra) (e : Extra) → list_any (has_key q) es ≡ false → has_key q e ≡ true → Some (length es) ≡ extra_place q (es ++ e ∷ [])
place_added q es e h here =
    let more : list_any (has_key q) (es ++ e ∷ []) ≡ true = list_any-append (has_key q) es (e ∷ []) ∙ ap (λ b. b || list_any (has_key q) (e ∷ [])) h ∙ ap (λ b. b || false) here in
    rw (more, place_new (has_key q) es e h here) refl

finds_at : (places places' : BTreeMap ℕ ℕ) (es : List Extra) (e : Extra) (q : ℕ) (b : Bool) → FindsExtras places es → list_any (has_key (extra_key e)) es ≡ false → (extra_key e == q) ≡ b → get nat_cmp places' q ≡ cond b (Some (length es)) (get nat_cmp places q)
    → get nat_cmp places' q ≡ extra_place q (es ++ e ∷ [])
finds_at places places' es e q true h new is there =
    let same : extra_key e ≡ q = eqb-true (extra_key e) q is in
    there ∙ place_added q es e (ap (λ k. list_any (has_key k) es) (sym same) ∙ new) is
finds_at places places' es e q false h new is there = there ∙ h q ∙ place_kept q es e (list_any (has_key q) es) refl is

-- a map with one more number finds one more
pub finds_more : (places places' : BTreeMap ℕ ℕ) (es all : List Extra) (e : Extra) (k n : ℕ) → FindsExtras places es → Updates nat_cmp places places' k (Some n) → k ≡ extra_key e → n ≡ length es → list_any (has_key (extra_key e)) es ≡ false → all ≡ es ++ e ∷ [] → FindsExtras places' all
finds_more places places' es all e k n h update key count new is q =
    let there : get nat_cmp places' q ≡ cond (k == q) (Some n) (get nat_cmp places q) = update.0 q ∙ ap (λ b. cond b (Some n) (get nat_cmp places q)) (at_number k q) in
    let here : get nat_cmp places' q ≡ cond (extra_key e == q) (Some (length es)) (get nat_cmp places q) = there ∙ (rw (key, count) refl) in
    finds_at places places' es e q (extra_key e == q) h new refl here ∙ ap (extra_place q) (sym is)

-- one is among others where the map has its number
pub noted_before : (places : BTreeMap ℕ ℕ) (es : List Extra) (k : ℕ) → FindsExtras places es → is_some (get nat_cmp places k) ≡ list_any (has_key k) es
noted_before places es k h = ap is_some (h k) ∙ some_where (list_any (has_key k) es) where
  some_where : (b : Bool) → is_some (cond b (Some (position_or_len (has_key k) es)) None) ≡ b
  some_where true = refl
  some_where false = refl

row_by : (settings : Settings) (s : LinkState) (e : Extra) → row_of settings s (extra_target settings e) ≡ 1 + length s.created + position_or_len (is_same_target (extra_target settings e)) (once_each is_same_target (filter is_extra (targets settings s s.definitions)))
unfolding extras
row_by settings s (Library p) = refl
row_by settings s (Known k) = refl
row_by settings s (Label f o) = refl

-- the row of one that is added
pub added_row : (settings : Settings) (s : LinkState) (es : List Extra) (e : Extra) → AreExtras settings s es → IsFaithful settings e → row_of settings s (extra_target settings e) ≡ 1 + length s.created + position_or_len (has_key (extra_key e)) es
added_row settings s es e h faithful =
    let place = ap (position_or_len (is_same_target (extra_target settings e))) (sym h.found) ∙ places_same settings e es faithful h.faithful in
    row_by settings s e ∙ ap (λ n. 1 + length s.created + n) place

-- one that the map doesn't find has no place
pub place_none : (places : BTreeMap ℕ ℕ) (es : List Extra) (k : ℕ) → FindsExtras places es → get nat_cmp places k ≡ None → length es ≡ position_or_len (has_key k) es
place_none places es k h none =
    let absent : list_any (has_key k) es ≡ false = sym (noted_before places es k h) ∙ ap is_some none in
    sym (place_past (has_key k) es absent)

-- the place that the map has
pub place_some : (places : BTreeMap ℕ ℕ) (es : List Extra) (k p : ℕ) → FindsExtras places es → get nat_cmp places k ≡ Some p → (p ≡ position_or_len (has_key k) es) × (p < length es)
place_some places es k p h there = at_place (list_any (has_key k) es) refl (sym (h k) ∙ there) where
  at_place : (b : Bool) → list_any (has_key k) es ≡ b → cond b (Some (position_or_len (has_key k) es)) None ≡ Some p → (p ≡ position_or_len (has_key k) es) × (p < length es)
  at_place true e is =
      let same : position_or_len (has_key k) es ≡ p = cc in
      let below = place_in (has_key k) es e in
      (sym same, omega (arith, same, below))
  at_place false e is = absurd (cc)

-- the list after one more target
abbrev Noted : Settings → List RelocationTarget → List Extra → List Extra → Type 0
Noted settings more old new = (ts : List RelocationTarget) → AreAdded settings ts old → AreAdded settings (ts ++ more) new

pub noted_none : (settings : Settings) (es : List Extra) → Noted settings [] es es
noted_none settings es ts h = subst (λ (xs : List RelocationTarget). AreAdded settings xs es) (sym (append-nil ts)) h

-- one more relocation
pub noted_next : (settings : Settings) (s : LinkState) (rs : List ModuleReloc) (i : ℕ) (r : ModuleReloc) (old now new : List Extra) → i < length rs → r ≡ get_or rs i r → Noted settings (targets_in settings s (take i rs)) old now → Noted settings (target_of settings s r.name ∷ []) now new
    → Noted settings (targets_in settings s (take (i + 1) rs)) old new
noted_next settings s rs i r old now new below at before one ts h =
    let front : targets_in settings s (take (i + 1) rs) ≡ targets_in settings s (take i rs) ++ target_of settings s r.name ∷ [] =
    ap (targets_in settings s) (take_more rs i r below ∙ ap (λ y. take i rs ++ y ∷ []) (sym at)) ∙ map-append (λ (y : ModuleReloc). target_of settings s y.name) (take i rs) (r ∷ [])
    in
    subst (λ (xs : List RelocationTarget). AreAdded settings xs new) (append_assoc ts (targets_in settings s (take i rs)) (target_of settings s r.name ∷ []) ∙ ap (λ (xs : List RelocationTarget). ts ++ xs) (sym front)) (one (ts ++ targets_in settings s (take i rs)) (before ts h))

-- no relocation is left
pub noted_all : (settings : Settings) (s : LinkState) (rs : List ModuleReloc) (i : ℕ) (old new : List Extra) → length rs ≤ i → Noted settings (targets_in settings s (take i rs)) old new → Noted settings (targets_in settings s rs) old new
noted_all settings s rs i old new past h ts a = subst (λ (xs : List ModuleReloc). AreAdded settings (ts ++ targets_in settings s xs) new) (take_all i rs past) (h ts a)

-- one more definition
pub definitions_next : (settings : Settings) (s : LinkState) (ds : List Definition) (i : ℕ) (d : Definition) (rs : List ModuleReloc) (now new : List Extra) → i < length ds → d ≡ get_or ds i d → rs ≡ d.relocs → AreAdded settings (targets settings s (take i ds)) now → Noted settings (targets_in settings s rs) now new
    → AreAdded settings (targets settings s (take (i + 1) ds)) new
definitions_next settings s ds i d rs now new below at is before one =
    let one_more : targets settings s (take (i + 1) ds) ≡ targets settings s (take i ds) ++ targets_in settings s rs =
    ap (targets settings s) (take_more ds i d below ∙ ap (λ y. take i ds ++ y ∷ []) (sym at)) ∙ flat_map-append (λ (x : Definition). targets_in settings s x.relocs) (take i ds) (d ∷ [])
    ∙ ap (λ (xs : List RelocationTarget). targets settings s (take i ds) ++ xs) (append-nil (targets_in settings s d.relocs) ∙ ap (targets_in settings s) (sym is))
    in
    subst (λ (xs : List RelocationTarget). AreAdded settings xs new) (sym one_more) (one (targets settings s (take i ds)) before)

pub definitions_all : (settings : Settings) (s : LinkState) (i : ℕ) (es : List Extra) → length s.definitions ≤ i → AreAdded settings (targets settings s (take i s.definitions)) es → AreExtras settings s es
definitions_all settings s i es past h = subst (λ (xs : List Definition). AreAdded settings (targets settings s xs) es) (take_all i s.definitions past) h
