-- A slice is taken out of a writer.
use Rattle.std.proofs.Common.{◌≡◌, ℕ, zero, suc, ◌+◌, ◌==◌, ◌&&◌, ◌⊎◌, inl, inr, ◌↔◌, not, cond, Bool, true, false, List, [], ◌∷◌, map, take, drop, find, filter, slice_get, Option, Some, None, option_and_then, IfSome, IsSomeAnd, refl, ap, sym, ◌∙◌, arith, subst}
use Rattle.std.specs.Cow.{cow_slice_items, IsBorrowedSlice}
use Rattle.std.specs.Global.{Global}
use Rattle.std.specs.List.{AllByRecursion, position_from, remove}
use Rattle.std.specs.declared.borrow.CowSlice.{CowSlice}
use Rattle.std.proofs.lemmas.Bool.{eqb-true, eq-eqb}
use Rattle.byte_core.specs.Count.{Rose}
use Rattle.byte_core.specs.Streams.{SourceData}
use Rattle.goblin_mach.specs.Architectures.{pair_named}
use Rattle.fat_macho.specs.Filing.{ChangesSources}
use Rattle.fat_macho.specs.Held.{Held, borrowed, source, is_slice_of, slice_named, other_slices, without, KeepsSlices, NamedRose}
use Rattle.fat_macho.specs.HeldViews.{origin_of, known_bytes, faults_of, raw_shape, held_view, held_list, IsPlaced, AreOthers, IsWriter}
use Rattle.fat_macho.specs.Named.{is_shape_of, place_named}
use Rattle.fat_macho.specs.Parts.{Pairwise}
use Rattle.fat_macho.specs.Removing.{IsKnownAs, HandsOut, FailsToRead, FailsToCopy}
use Rattle.fat_macho.specs.Slices.{is_same_arch, plain_subtype}
use Rattle.fat_macho.specs.declared.error.Error.{Error}
use Rattle.fat_macho.specs.declared.error.Error.TheVariants.{Io, Goblin, NotFatBinary, InvalidMachO, DuplicatedArch, TooMany, TooLarge, OutOfMemory}
use Rattle.fat_macho.specs.declared.error.IoCause.TheVariants.{Source, Sink, Open}
use Rattle.fat_macho.specs.declared.held.HeldSlice.{HeldSlice}
use Rattle.fat_macho.proofs.FilingLaws.{keeps_slices}
use Rattle.fat_macho.proofs.OrderLaws.{Before, false_true}
use Rattle.fat_macho.proofs.Pairs.{all_map}
use Rattle.fat_macho.proofs.RankLaws.{Ranked, rank_in_order, ranked_stays}
use Rattle.fat_macho.proofs.ShrinkLaws.{map_removed, length_removed, short_removed}

-- -- failures

pub reads_as : (P Q : Type 0) (e : Error) → (P → Q) → FailsToRead P e → FailsToRead Q e
reads_as P Q (Io Source) leads h = leads h
reads_as P Q (Io Sink) leads h = absurd h
reads_as P Q (Io Open) leads h = absurd h
reads_as P Q (Goblin x) leads h = absurd h
reads_as P Q NotFatBinary leads h = absurd h
reads_as P Q (InvalidMachO x) leads h = absurd h
reads_as P Q (DuplicatedArch x) leads h = absurd h
reads_as P Q (TooMany x) leads h = absurd h
reads_as P Q (TooLarge x) leads h = absurd h
reads_as P Q OutOfMemory leads h = tt

-- -- a list without one of its items

pub each_removed : {X : Type 0} (P : X → Type 0) (xs : List X) (i : ℕ) → AllByRecursion P xs → AllByRecursion P (remove xs i)
each_removed P [] zero all = tt
each_removed P [] (suc i) all = tt
each_removed P (x ∷ xs) zero all = all.1
each_removed P (x ∷ xs) (suc i) all = (all.0, each_removed P xs i all.1)

pub pairs_removed : {X : Type 0} (R : X → X → Type 0) (xs : List X) (i : ℕ) → Pairwise R xs → Pairwise R (remove xs i)
pairs_removed R [] zero h = tt
pairs_removed R [] (suc i) h = tt
pairs_removed R (x ∷ xs) zero h = h.1
pairs_removed R (x ∷ xs) (suc i) h = (each_removed (R x) xs i h.0, pairs_removed R xs i h.1)

-- an item has the relation to those behind it
pairs_behind : {X : Type 0} (R : X → X → Type 0) (xs : List X) (k : ℕ) (x : X) → slice_get xs k ≡ Some x → Pairwise R xs → AllByRecursion (R x) (drop (suc k) xs)
pairs_behind R [] k x e h = absurd (cc)
pairs_behind R (y ∷ xs) zero x e h = let same : y ≡ x = cc in subst (λ z. AllByRecursion (R z) xs) same h.0
pairs_behind R (y ∷ xs) (suc k) x e h = pairs_behind R xs k x e h.1

-- -- the first that passes

-- the first that passes stands at this place
pub record IsFirst {X : Type 0} (p : X → Bool) (xs : List X) (k : ℕ) : Type 0 where
  pub item : X
  pub at : slice_get xs k ≡ Some item
  pub passes : p item ≡ true
  pub before : AllByRecursion (λ x. p x ≡ false) (take k xs)

-- the same, counted from another place on
record IsFirstFrom {X : Type 0} (p : X → Bool) (xs : List X) (i j : ℕ) : Type 0 where
  place : ℕ
  sum : i + place ≡ j
  first : IsFirst p xs place

first_by : {X Y : Type 0} (f : X → Y) (p : Y → Bool) (x : X) (xs : List X) (i j : ℕ) (t : Bool) → p (f x) ≡ t → cond t (Some i) (position_from p (i + 1) (map f xs)) ≡ Some j
    → (position_from p (i + 1) (map f xs) ≡ Some j → IsFirstFrom (λ x. p (f x)) xs (i + 1) j) → IsFirstFrom (λ x. p (f x)) (x ∷ xs) i j
first_by f p x xs i j true h e rest = let same : i ≡ j = cc in record { place = 0; sum = omega (arith, same); first = record { item = x; at = refl; passes = h; before = tt } }
first_by f p x xs i j false h e rest =
    let r = rest e in
    record { place = suc r.place; sum = omega (arith, r.sum); first = record { item = r.first.item; at = r.first.at; passes = r.first.passes; before = (h, r.first.before) } }

first_from : {X Y : Type 0} (f : X → Y) (p : Y → Bool) (xs : List X) (i j : ℕ) → position_from p i (map f xs) ≡ Some j → IsFirstFrom (λ x. p (f x)) xs i j
first_from f p [] i j e = absurd (cc)
first_from f p (x ∷ xs) i j e = first_by f p x xs i j (p (f x)) refl e (first_from f p xs (i + 1) j)

is_first : {X Y : Type 0} (f : X → Y) (p : Y → Bool) (xs : List X) (k : ℕ) → position_from p 0 (map f xs) ≡ Some k → IsFirst (λ x. p (f x)) xs k
is_first f p xs k e =
    let r = first_from f p xs 0 k e in
    let same : r.place ≡ k = omega (arith, r.sum) in
    subst (IsFirst (λ x. p (f x)) xs) same r.first

none_from : {X Y : Type 0} (f : X → Y) (p : Y → Bool) (xs : List X) (i : ℕ) → position_from p i (map f xs) ≡ None → AllByRecursion (λ x. p (f x) ≡ false) xs
none_from f p [] i e = tt
none_from f p (x ∷ xs) i e = none_by f p x xs i (p (f x)) refl e (none_from f p xs (i + 1))
  where
    none_by : {X Y : Type 0} (f : X → Y) (p : Y → Bool) (x : X) (xs : List X) (i : ℕ) (t : Bool) → p (f x) ≡ t → cond t (Some i) (position_from p (i + 1) (map f xs)) ≡ None
        → (position_from p (i + 1) (map f xs) ≡ None → AllByRecursion (λ x. p (f x) ≡ false) xs) → AllByRecursion (λ x. p (f x) ≡ false) (x ∷ xs)
    none_by f p x xs i true h e rest = absurd (cc)
    none_by f p x xs i false h e rest = (h, rest e)

-- -- what is found, and what is left

find_passes : {X Y : Type 0} (g : X → Y) (p : Y → Bool) (x : X) (xs : List X) → p (g x) ≡ true → find p (map g (x ∷ xs)) ≡ Some (g x)
find_passes g p x xs e = ap (λ t. cond t (Some (g x)) (find p (map g xs))) e

find_fails : {X Y : Type 0} (g : X → Y) (p : Y → Bool) (x : X) (xs : List X) → p (g x) ≡ false → find p (map g (x ∷ xs)) ≡ find p (map g xs)
find_fails g p x xs e = ap (λ t. cond t (Some (g x)) (find p (map g xs))) e

find_none : {X Y : Type 0} (g : X → Y) (p : Y → Bool) (xs : List X) → AllByRecursion (λ x. p (g x) ≡ false) xs → find p (map g xs) ≡ None
find_none g p [] all = refl
find_none g p (x ∷ xs) all = find_fails g p x xs all.0 ∙ find_none g p xs all.1

find_first : {X Y : Type 0} (g : X → Y) (p : Y → Bool) (xs : List X) (k : ℕ) (x : X) → slice_get xs k ≡ Some x → p (g x) ≡ true → AllByRecursion (λ x. p (g x) ≡ false) (take k xs) → find p (map g xs) ≡ Some (g x)
find_first g p [] k x e h all = absurd (cc)
find_first g p (y ∷ xs) zero x e h all = let same : y ≡ x = cc in find_passes g p y xs (ap (λ z. p (g z)) same ∙ h) ∙ ap (λ z. Some (g z)) same
find_first g p (y ∷ xs) (suc k) x e h all = find_fails g p y xs all.0 ∙ find_first g p xs k x e h all.1

keep_passes : {X Y : Type 0} (g : X → Y) (p : Y → Bool) (x : X) (xs : List X) → p (g x) ≡ true → filter (λ y. not (p y)) (map g (x ∷ xs)) ≡ filter (λ y. not (p y)) (map g xs)
keep_passes g p x xs e = ap (λ t. cond (not t) (g x ∷ filter (λ y. not (p y)) (map g xs)) (filter (λ y. not (p y)) (map g xs))) e

keep_fails : {X Y : Type 0} (g : X → Y) (p : Y → Bool) (x : X) (xs : List X) → p (g x) ≡ false → filter (λ y. not (p y)) (map g (x ∷ xs)) ≡ g x ∷ filter (λ y. not (p y)) (map g xs)
keep_fails g p x xs e = ap (λ t. cond (not t) (g x ∷ filter (λ y. not (p y)) (map g xs)) (filter (λ y. not (p y)) (map g xs))) e

keep_all : {X Y : Type 0} (g : X → Y) (p : Y → Bool) (xs : List X) → AllByRecursion (λ x. p (g x) ≡ false) xs → filter (λ y. not (p y)) (map g xs) ≡ map g xs
keep_all g p [] all = refl
keep_all g p (x ∷ xs) all = keep_fails g p x xs all.0 ∙ ap (λ ys. g x ∷ ys) (keep_all g p xs all.1)

keep_others : {X Y : Type 0} (g : X → Y) (p : Y → Bool) (xs : List X) (k : ℕ) (x : X) → slice_get xs k ≡ Some x → p (g x) ≡ true → AllByRecursion (λ x. p (g x) ≡ false) (take k xs) → AllByRecursion (λ x. p (g x) ≡ false) (drop (suc k) xs)
    → filter (λ y. not (p y)) (map g xs) ≡ map g (remove xs k)
keep_others g p [] k x e h all rest = absurd (cc)
keep_others g p (y ∷ xs) zero x e h all rest = let same : y ≡ x = cc in keep_passes g p y xs (ap (λ z. p (g z)) same ∙ h) ∙ keep_all g p xs rest
keep_others g p (y ∷ xs) (suc k) x e h all rest = keep_fails g p y xs all.0 ∙ ap (λ ys. g y ∷ ys) (keep_others g p xs k x e h all.1 rest)

-- -- one slice of an architecture

and_both : (a b : Bool) → (a && b) ≡ true → (a ≡ true) × (b ≡ true)
and_both true b e = (refl, e)
and_both false b e = absurd (cc)

and_true : (a b : Bool) → a ≡ true → b ≡ true → (a && b) ≡ true
and_true true b e f = f
and_true false b e f = absurd (cc)

-- two of the same architecture as a third
pub arch_of_both : (t s a b c d : ℕ) → is_same_arch t s a b ≡ true → is_same_arch t s c d ≡ true → is_same_arch a b c d ≡ true
arch_of_both t s a b c d e f =
    let h = and_both (t == a) (plain_subtype s == plain_subtype b) e in
    let k = and_both (t == c) (plain_subtype s == plain_subtype d) f in
    and_true (a == c) (plain_subtype b == plain_subtype d) (eq-eqb a c (sym (eqb-true t a h.0) ∙ eqb-true t c k.0))
    (eq-eqb (plain_subtype b) (plain_subtype d) (sym (eqb-true (plain_subtype s) (plain_subtype b) h.1) ∙ eqb-true (plain_subtype s) (plain_subtype d) k.1))

abbrev is_of : ℕ × ℕ → HeldSlice → Bool
is_of pair h = is_shape_of pair (raw_shape h)

other_fails : (pair : ℕ × ℕ) (x y : HeldSlice) → is_of pair x ≡ true → AreOthers x y → is_of pair y ≡ false
other_fails pair x y e d = other_by (is_of pair y) refl
  where
    other_by : (t : Bool) → is_of pair y ≡ t → is_of pair y ≡ false
    other_by true f = absurd (false_true (sym d ∙ arch_of_both pair.0 pair.1 (raw_shape x).cputype (raw_shape x).cpusubtype (raw_shape y).cputype (raw_shape y).cpusubtype e f))
    other_by false f = f

-- the slice of a name stands at this place, and all others are of other architectures
pub record IsNamedAt (slices : List HeldSlice) (name : List ℕ) (k : ℕ) : Type 0 where
  pub item : HeldSlice
  pub at : slice_get slices k ≡ Some item
  pub named : (sources : List SourceData) → slice_named (held_list sources slices) name ≡ Some (held_view sources item)
  pub others : (sources : List SourceData) → other_slices (held_list sources slices) name ≡ held_list sources (remove slices k)

named_by : (slices : List HeldSlice) (name : List ℕ) (k : ℕ) (o : Option (ℕ × ℕ)) → pair_named name ≡ o → Pairwise AreOthers slices → option_and_then (λ pair. position_from (is_shape_of pair) 0 (map raw_shape slices)) o ≡ Some k → IsNamedAt slices name k
named_by slices name k None p once e = absurd (cc)
named_by slices name k (Some pair) p once e =
    let f = is_first raw_shape (is_shape_of pair) slices k e in
    let rest : AllByRecursion (λ x. is_of pair x ≡ false) (drop (suc k) slices) = all_map (AreOthers f.item) (λ x. is_of pair x ≡ false) (drop (suc k) slices) (λ y d. other_fails pair f.item y f.passes d) (pairs_behind AreOthers slices k f.item f.at once) in
    record {
      item = f.item;
      at = f.at;
      named = λ sources. ap (option_and_then (λ q. find (is_slice_of q) (held_list sources slices))) p ∙ find_first (held_view sources) (is_slice_of pair) slices k f.item f.at f.passes f.before;
      others = λ sources. ap (λ o. without o (held_list sources slices)) p ∙ keep_others (held_view sources) (is_slice_of pair) slices k f.item f.at f.passes f.before rest;
    }

pub named_at : (slices : List HeldSlice) (name : List ℕ) (k : ℕ) → Pairwise AreOthers slices → place_named (map raw_shape slices) name ≡ Some k → IsNamedAt slices name k
named_at slices name k once e = named_by slices name k (pair_named name) refl once e

-- there is no slice of a name
pub record IsNamedNowhere (slices : List HeldSlice) (name : List ℕ) : Type 0 where
  pub named : (sources : List SourceData) → slice_named (held_list sources slices) name ≡ None
  pub others : (sources : List SourceData) → other_slices (held_list sources slices) name ≡ held_list sources slices

nowhere_by : (slices : List HeldSlice) (name : List ℕ) (o : Option (ℕ × ℕ)) → pair_named name ≡ o → option_and_then (λ pair. position_from (is_shape_of pair) 0 (map raw_shape slices)) o ≡ None → IsNamedNowhere slices name
nowhere_by slices name None p e =
    record {
      named = λ sources. ap (option_and_then (λ q. find (is_slice_of q) (held_list sources slices))) p;
      others = λ sources. ap (λ o. without o (held_list sources slices)) p;
    }
nowhere_by slices name (Some pair) p e =
    let none = none_from raw_shape (is_shape_of pair) slices 0 e in
    record {
      named = λ sources. ap (option_and_then (λ q. find (is_slice_of q) (held_list sources slices))) p ∙ find_none (held_view sources) (is_slice_of pair) slices none;
      others = λ sources. ap (λ o. without o (held_list sources slices)) p ∙ keep_all (held_view sources) (is_slice_of pair) slices none;
    }

pub named_nowhere : (slices : List HeldSlice) (name : List ℕ) → place_named (map raw_shape slices) name ≡ None → IsNamedNowhere slices name
named_nowhere slices name e = nowhere_by slices name (pair_named name) refl e

-- -- a writer keeps to its rules

pub removed_writer : (sources : List SourceData) (slices : List HeldSlice) (k : ℕ) → IsWriter sources slices → IsWriter sources (remove slices k)
removed_writer sources slices k w =
    let ranked : Ranked raw_shape slices = subst (Ranked raw_shape) w.order (rank_in_order raw_shape slices w.once) in
    record {
      order = ranked_stays raw_shape (remove slices k) (pairs_removed (λ x y. Before (raw_shape x) (raw_shape y)) slices k ranked);
      once = pairs_removed AreOthers slices k w.once;
      few = omega (arith, length_removed slices k, w.few);
      short = rw (map_removed raw_shape slices k) (short_removed (map raw_shape slices) k w.short);
      places = each_removed (λ h. IsPlaced sources h.bytes) slices k w.places;
      lengths = w.lengths;
    }

-- -- what a contract sees of it

if_at : {X : Type 0} (o : Option X) (x : X) (P : X → Type 0) → o ≡ Some x → IfSome o P → P x
if_at None x P e h = absurd (cc)
if_at (Some y) x P e h = let same : y ≡ x = cc in subst P same h

if_so : {X : Type 0} (o : Option X) (x : X) (P : X → Type 0) → o ≡ Some x → P x → IfSome o P
if_so o x P e h = subst (λ o. IfSome o P) (sym e) h

some_so : {X : Type 0} (o : Option X) (x : X) (P : X → Type 0) → o ≡ Some x → P x → IsSomeAnd o P
some_so o x P e h = subst (λ o. IsSomeAnd o P) (sym e) h

known_so : (o : Option (List ℕ)) (bytes : List ℕ) → IsKnownAs o bytes → IfSome o (λ known. bytes ≡ known)
known_so None bytes h = tt
known_so (Some b) bytes h = h.same b refl

-- the bytes of the slice of a name are handed out
pub record IsHandedOut (held : List Held) (name : List ℕ) (bytes : CowSlice ℕ Global) : Type 0 where
  pub some : slice_named held name ≡ None → ⊥
  pub known : IfSome (slice_named held name) (λ h. IfSome h.bytes (λ known. cow_slice_items bytes ≡ known))
  pub lent : IfSome (slice_named held name) (λ h. (h.origin ≡ borrowed) ↔ IsBorrowedSlice bytes)

pub handed_out : (sources : List SourceData) (slices : List HeldSlice) (name : List ℕ) (k : ℕ) (held : List Held) (bytes : CowSlice ℕ Global) → IsNamedAt slices name k → held_list sources slices ≡ held
    → IfSome (slice_get slices k) (λ h. HandsOut sources h.bytes bytes) → IsHandedOut held name bytes
handed_out sources slices name k held bytes n view out =
    let h = if_at (slice_get slices k) n.item (λ h. HandsOut sources h.bytes bytes) n.at out in
    let named : slice_named held name ≡ Some (held_view sources n.item) = ap (λ hs. slice_named hs name) (sym view) ∙ n.named sources in
    record {
      some = λ none. let both : None ≡ Some (held_view sources n.item) = sym none ∙ named in absurd (cc);
      known = if_so (slice_named held name) (held_view sources n.item) (λ h. IfSome h.bytes (λ known. cow_slice_items bytes ≡ known)) named (known_so (known_bytes sources n.item.bytes) (cow_slice_items bytes) h.known);
      lent = if_so (slice_named held name) (held_view sources n.item) (λ h. (h.origin ≡ borrowed) ↔ IsBorrowedSlice bytes) named h.lent;
    }

-- a slice that is there
pub named_some : (sources : List SourceData) (slices : List HeldSlice) (name : List ℕ) (k : ℕ) (held : List Held) → IsNamedAt slices name k → held_list sources slices ≡ held → slice_named held name ≡ None → ⊥
named_some sources slices name k held n view none =
    let both : None ≡ Some (held_view sources n.item) = sym none ∙ ap (λ hs. slice_named hs name) (sym view) ∙ n.named sources in
    absurd (cc)

-- and isn't lent
pub named_lent : (sources : List SourceData) (slices : List HeldSlice) (name : List ℕ) (k : ℕ) (held : List Held) (P : Type 0) → IsNamedAt slices name k → held_list sources slices ≡ held
    → IfSome (slice_get slices k) (λ h. origin_of h.bytes ≡ borrowed → false ≡ true) → IfSome (slice_named held name) (λ h. h.origin ≡ borrowed → P)
named_lent sources slices name k held P n view never =
    let named : slice_named held name ≡ Some (held_view sources n.item) = ap (λ hs. slice_named hs name) (sym view) ∙ n.named sources in
    if_so (slice_named held name) (held_view sources n.item) (λ h. h.origin ≡ borrowed → P) named (λ lent. absurd (false_true (if_at (slice_get slices k) n.item (λ h. origin_of h.bytes ≡ borrowed → false ≡ true) n.at never lent)))

pub left_slices : (sources now : List SourceData) (slices left : List HeldSlice) (name : List ℕ) (k : ℕ) (held : List Held) → IsNamedAt slices name k → held_list sources slices ≡ held → ChangesSources sources now → left ≡ remove slices k
    → KeepsSlices (other_slices held name) (held_list now left)
left_slices sources now slices left name k held n view changes is =
    let others : other_slices held name ≡ held_list sources (remove slices k) = ap (λ hs. other_slices hs name) (sym view) ∙ n.others sources in
    subst (λ hs. KeepsSlices hs (held_list now left)) (sym others) (subst (λ xs. KeepsSlices (held_list sources (remove slices k)) (held_list now xs)) (sym is) (keeps_slices sources now (remove slices k) changes))

-- why the slice of a name is not taken out
pub record FailsToRemove (old new : List Held) (name : List ℕ) (e : Error) : Type 0 where
  pub rose : e ≡ Io Source → NamedRose old new name
  pub causes : (e ≡ OutOfMemory) ⊎ (e ≡ Io Source)

read_causes : (P : Type 0) (e : Error) → FailsToRead P e → (e ≡ OutOfMemory) ⊎ (e ≡ Io Source)
read_causes P (Io Source) h = inr refl
read_causes P (Io Sink) h = absurd h
read_causes P (Io Open) h = absurd h
read_causes P (Goblin x) h = absurd h
read_causes P NotFatBinary h = absurd h
read_causes P (InvalidMachO x) h = absurd h
read_causes P (DuplicatedArch x) h = absurd h
read_causes P (TooMany x) h = absurd h
read_causes P (TooLarge x) h = absurd h
read_causes P OutOfMemory h = inl refl

pub fails_to_remove : (sources now : List SourceData) (slices left : List HeldSlice) (name : List ℕ) (k : ℕ) (held : List Held) (e : Error) → IsNamedAt slices name k → held_list sources slices ≡ held → left ≡ slices
    → IfSome (slice_get slices k) (λ h. FailsToCopy sources now h.bytes e) → FailsToRemove held (held_list now left) name e
fails_to_remove sources now slices left name k held e n view same fails =
    let f = if_at (slice_get slices k) n.item (λ h. FailsToCopy sources now h.bytes e) n.at fails in
    let was : slice_named held name ≡ Some (held_view sources n.item) = ap (λ hs. slice_named hs name) (sym view) ∙ n.named sources in
    let is : slice_named (held_list now left) name ≡ Some (held_view now n.item) = ap (λ xs. slice_named (held_list now xs) name) same ∙ n.named now in
    record {
      rose = λ failed.
          some_so (slice_named held name) (held_view sources n.item) _ was
          (some_so (slice_named (held_list now left) name) (held_view now n.item) (λ (i : Held). (origin_of n.item.bytes ≡ source) × Rose (faults_of sources n.item.bytes) i.faults) is (subst (λ x. FailsToCopy sources now n.item.bytes x) failed f));
      causes = read_causes _ e f;
    }
