-- A part and its split give each definition the same memory.
use Rattle.std.proofs.Common.{◌≡◌, ℕ, zero, suc, ◌+◌, ◌<◌, ◌==◌, List, [], ◌∷◌, length, map, refl, ap, sym, ◌∙◌, arith, Some, None, Bool, true, false, slice_get, inl, inr, cond, subst}
use Rattle.std.specs.Prelude.{Option, unwrap_or, filter, not, ◌&&◌, ◌||◌, IsSome, if◌then◌else◌}
use Rattle.std.specs.List.{list_any}
use Rattle.std.proofs.lemmas.List.{length-map}
use Rattle.std.proofs.lemmas.Bool.{eqb-true, eq-eqb}
use Rattle.std.proofs.lemmas.Slice.Eq.{bytes_eq-Decides}
use Rattle.std.proofs.lemmas.Bool.Decides.{eqb_tells}
use Rattle.ir_core.specs.declared.reloc.KnownSymbol.{KnownSymbol}
use Rattle.cranelift_module.specs.declared.identifiers.FuncOrDataId.{FuncOrDataId}
use Rattle.cranelift_module.specs.declared.identifiers.FuncOrDataId.TheVariants.{Func, Data}
use Rattle.cranelift_module.specs.declared.linkage.Linkage.TheVariants.{Export}
use Rattle.cranelift_module.specs.declared.reloc.ModuleReloc.{ModuleReloc}
use Rattle.cranelift_module.specs.declared.reloc.ModuleRelocTarget.{ModuleRelocTarget}
use Rattle.cranelift_module.specs.declared.reloc.ModuleRelocTarget.TheVariants.{User, LibCall, KnownSymbol as Known, FunctionOffset}
use Rattle.cranelift_module.specs.Definitions.{Definition}
use Rattle.cranelift_module.specs.LinkState.{LinkState, state_of}
use Rattle.cranelift_module.specs.Refusal.{is_same_identifier, is_defined}
use Rattle.cranelift_object.specs.Settings.{Settings, library_text}
use Rattle.cranelift_object.specs.Targets.{RelocationTarget as Goal, identifier, library, known, label, target_of, library_target}
use Rattle.cranelift_module.specs.Declarations.{declared_under}
use Rattle.cranelift_object.specs.Part.{PartData, part_state}
use Rattle.image_place.specs.Fixups.{own, named, Addresses, memory_of}
use Rattle.image_place.specs.Memory.{declared_name, declared_linkage, is_seen, known_text, goal_of, fixup_of, piece_of, pieces_of, part_pieces, piece_named, memory}
use Rattle.image_place.specs.Shares.{Share, is_of, whole, Pairs, IsSeenAs, IsFree, GoalSplits, FixupSplits, PieceSplits, SplitsFrom, HaveDistinctNames, SharesOut}
use Rattle.image_place.specs.Related.{Numbers, definitions_for, IsCounterpart, is_reached, names_known, split_linkage, SplitsIdentifier, SplitsTarget, SplitsReloc, SplitsDefinition, IsPartOf, Split}
use Rattle.image_place.specs.Laws.{AreCarried}
use Rattle.image_place.proofs.ShareLaws.{memory-splits}

-- -- facts of a valid part that the laws of link states give

-- the identifier that a state declares under a name
abbrev pub identifier_named : LinkState → List ℕ → Option FuncOrDataId
identifier_named s x = declared_under (record { functions = s.functions; objects = s.objects }) x

-- no two identifiers have one name, and none is defined twice
pub record IsSound (s : LinkState) : Type 0 where
  pub names : (x : List ℕ) (i j : FuncOrDataId) → declared_name s i ≡ Some x → declared_name s j ≡ Some x → i ≡ j
  pub once : (j k : ℕ) (d e : Definition) → slice_get s.definitions j ≡ Some d → slice_get s.definitions k ≡ Some e → d.identifier ≡ e.identifier → j ≡ k
  pub library : (x : List ℕ) (id : FuncOrDataId) → identifier_named s x ≡ None → declared_name s id ≡ Some x → ⊥

-- -- lists

-- the element stands in the list
pub record In {A : Type 0} (xs : List A) (x : A) : Type 0 where
  pub number : ℕ
  pub here : slice_get xs number ≡ Some x

later : {A : Type 0} (y : A) (xs : List A) (x : A) → In xs x → In (y ∷ xs) x
later y xs x i = record { number = suc i.number; here = i.here }

or_true : (a b : Bool) → b ≡ true → (a || b) ≡ true
or_true true b e = refl
or_true false b e = e

and_true : (a b : Bool) → a ≡ true → b ≡ true → (a && b) ≡ true
and_true true b e h = h
and_true false b e h = absurd (cc)

any_in : {A : Type 0} (p : A → Bool) (xs : List A) (k : ℕ) (x : A) → slice_get xs k ≡ Some x → p x ≡ true → list_any p xs ≡ true
any_in p [] k x e h = absurd (cc)
any_in p (y ∷ xs) zero x e h = let same : y ≡ x = cc in rw (same, h) refl
any_in p (y ∷ xs) (suc k) x e h = or_true (p y) (list_any p xs) (any_in p xs k x e h)

-- some element passes the test
pub record Found {A : Type 0} (p : A → Bool) (xs : List A) : Type 0 where
  pub number : ℕ
  pub item : A
  pub here : slice_get xs number ≡ Some item
  pub passes : p item ≡ true

found_later : {A : Type 0} (p : A → Bool) (y : A) (xs : List A) → Found p xs → Found p (y ∷ xs)
found_later p y xs f = record { number = suc f.number; item = f.item; here = f.here; passes = f.passes }

any_by : {A : Type 0} (p : A → Bool) (y : A) (xs : List A) (b : Bool) → p y ≡ b → (list_any p xs ≡ true → Found p xs) → (b || list_any p xs) ≡ true → Found p (y ∷ xs)
any_by p y xs true e rest h = record { number = 0; item = y; here = refl; passes = e }
any_by p y xs false e rest h = found_later p y xs (rest h)

pub any_out : {A : Type 0} (p : A → Bool) (xs : List A) → list_any p xs ≡ true → Found p xs
any_out p [] h = absurd (cc)
any_out p (y ∷ xs) h = any_by p y xs (p y) refl (any_out p xs) h

same_itself : (id : FuncOrDataId) → is_same_identifier id id ≡ true
same_itself (Func n) = eq-eqb n n refl
same_itself (Data n) = eq-eqb n n refl

pub same_is : (a b : FuncOrDataId) → is_same_identifier a b ≡ true → a ≡ b
same_is (Func a) (Func b) e = ap Func (eqb-true a b e)
same_is (Func a) (Data b) e = absurd (cc)
same_is (Data a) (Func b) e = absurd (cc)
same_is (Data a) (Data b) e = ap Data (eqb-true a b e)

some_is : {A : Type 0} (x y : A) → Some x ≡ Some y → x ≡ y
some_is x y e = cc

-- pairs, by the place of each
pairs_map : {A B C D : Type 0} (R : A → B → Type 0) (S : C → D → Type 0) (f : A → C) (g : B → D) (xs : List A) (ys : List B)
    → ((k : ℕ) (x : A) (y : B) → slice_get xs k ≡ Some x → slice_get ys k ≡ Some y → R x y → S (f x) (g y)) → Pairs R xs ys → Pairs S (map f xs) (map g ys)
pairs_map R S f g [] [] h p = tt
pairs_map R S f g [] (y ∷ ys) h p = absurd p
pairs_map R S f g (x ∷ xs) [] h p = absurd p
pairs_map R S f g (x ∷ xs) (y ∷ ys) h p = (h 0 x y refl refl p.0, pairs_map R S f g xs ys (λ k. h (suc k)) p.1)

pairs_at : {A B : Type 0} (R : A → B → Type 0) (xs : List A) (ys : List B) (k : ℕ) (x : A) (y : B) → Pairs R xs ys → slice_get xs k ≡ Some x → slice_get ys k ≡ Some y → R x y
pairs_at R [] ys k x y p e h = absurd (cc)
pairs_at R (a ∷ xs) [] k x y p e h = absurd p
pairs_at R (a ∷ xs) (b ∷ ys) zero x y p e h = let one : a ≡ x = cc in let two : b ≡ y = cc in rw (← one, ← two) p.0
pairs_at R (a ∷ xs) (b ∷ ys) (suc k) x y p e h = pairs_at R xs ys k x y p.1 e h

-- an element of a filtered list stands in the list and passes the test
pub record Kept {A : Type 0} (p : A → Bool) (xs : List A) (x : A) : Type 0 where
  pub number : ℕ
  pub here : slice_get xs number ≡ Some x
  pub passes : p x ≡ true

kept_later : {A : Type 0} (p : A → Bool) (y : A) (xs : List A) (x : A) → Kept p xs x → Kept p (y ∷ xs) x
kept_later p y xs x f = record { number = suc f.number; here = f.here; passes = f.passes }

kept_by : {A : Type 0} (p : A → Bool) (y : A) (xs : List A) (b : Bool) (k : ℕ) (x : A) → p y ≡ b → ((j : ℕ) → slice_get (filter p xs) j ≡ Some x → Kept p xs x) → slice_get (cond b (y ∷ filter p xs) (filter p xs)) k ≡ Some x → Kept p (y ∷ xs) x
kept_by p y xs true zero x b rest e = let same : y ≡ x = cc in record { number = 0; here = ap Some same; passes = rw (← same) b }
kept_by p y xs true (suc k) x b rest e = kept_later p y xs x (rest k e)
kept_by p y xs false k x b rest e = kept_later p y xs x (rest k e)

kept : {A : Type 0} (p : A → Bool) (xs : List A) (k : ℕ) (x : A) → slice_get (filter p xs) k ≡ Some x → Kept p xs x
kept p [] k x e = absurd (cc)
kept p (y ∷ xs) k x e = kept_by p y xs (p y) k x refl (λ j h. kept p xs j x h) e

-- -- shares of a part

abbrev share_of : Settings → LinkState → Numbers → Definition → Share FuncOrDataId
share_of settings s m d = record { object = m d.identifier; exported = is_seen (split_linkage settings s m d.identifier); piece = piece_of settings s d }

abbrev shares_of : Settings → LinkState → Numbers → List (Share FuncOrDataId)
shares_of settings s m = map (share_of settings s m) s.definitions

filter_one : (settings : Settings) (s : LinkState) (m : Numbers) (q : ℕ) (d : Definition) (ds : List Definition) (b : Bool) → filter (is_of q) (map (share_of settings s m) ds) ≡ map (share_of settings s m) (filter (λ d. m d.identifier == q) ds)
    → cond b (share_of settings s m d ∷ filter (is_of q) (map (share_of settings s m) ds)) (filter (is_of q) (map (share_of settings s m) ds)) ≡ map (share_of settings s m) (cond b (d ∷ filter (λ d. m d.identifier == q) ds) (filter (λ d. m d.identifier == q) ds))
filter_one settings s m q d ds true h = ap (λ xs. share_of settings s m d ∷ xs) h
filter_one settings s m q d ds false h = h

filter_shares : (settings : Settings) (s : LinkState) (m : Numbers) (q : ℕ) (ds : List Definition) → filter (is_of q) (map (share_of settings s m) ds) ≡ map (share_of settings s m) (filter (λ d. m d.identifier == q) ds)
filter_shares settings s m q [] = refl
filter_shares settings s m q (d ∷ ds) = filter_one settings s m q d ds (m d.identifier == q) (filter_shares settings s m q ds)

whole_shares : (settings : Settings) (s : LinkState) (m : Numbers) (ds : List Definition) → whole (map (share_of settings s m) ds) ≡ map (piece_of settings s) ds
whole_shares settings s m [] = refl
whole_shares settings s m (d ∷ ds) = rw (whole_shares settings s m ds) refl

-- a share of the list is that of a definition
pub record IsShareOf (settings : Settings) (s : LinkState) (m : Numbers) (k : ℕ) (h : Share FuncOrDataId) : Type 0 where
  pub definition : Definition
  pub here : slice_get s.definitions k ≡ Some definition
  pub is : share_of settings s m definition ≡ h

get_map : {A B : Type 0} (f : A → B) (xs : List A) (k : ℕ) (y : B) → slice_get (map f xs) k ≡ Some y → (x : A) × (slice_get xs k ≡ Some x) × (f x ≡ y)
get_map f [] k y e = absurd (cc)
get_map f (x ∷ xs) zero y e = (x, refl, some_is (f x) y e)
get_map f (x ∷ xs) (suc k) y e = get_map f xs k y e

map_get : {A B : Type 0} (f : A → B) (xs : List A) (k : ℕ) (x : A) → slice_get xs k ≡ Some x → slice_get (map f xs) k ≡ Some (f x)
map_get f [] k x e = absurd (cc)
map_get f (y ∷ xs) zero x e = ap (λ z. Some (f z)) (some_is y x e)
map_get f (y ∷ xs) (suc k) x e = map_get f xs k x e

share_at : (settings : Settings) (s : LinkState) (m : Numbers) (k : ℕ) (h : Share FuncOrDataId) → slice_get (shares_of settings s m) k ≡ Some h → IsShareOf settings s m k h
share_at settings s m k h e =
    let found = get_map (share_of settings s m) s.definitions k h e in
    record { definition = found.0; here = found.1; is = found.2 }

-- -- goals

-- a relocation of a definition of part q in the whole, with its target
pub record Site (settings : Settings) (s : LinkState) (m : Numbers) (q : ℕ) (goal : Goal) : Type 0 where
  pub number : ℕ
  pub definition : Definition
  pub here : slice_get s.definitions number ≡ Some definition
  pub place : ℕ
  pub reloc : ModuleReloc
  pub there : slice_get definition.relocs place ≡ Some reloc
  pub object : m definition.identifier ≡ q
  pub target : target_of settings s reloc.name ≡ goal

other_way : (a b : ℕ) → (a == b) ≡ false → not (b == a) ≡ true
other_way a b e =
    elim (eqb_tells b a) [ inl same ↦ absurd (let yes_so : (a == b) ≡ true = eq-eqb a b (sym same.1) in cc) | inr other ↦ rw other.0 refl ]

reached : (settings : Settings) (s : LinkState) (m : Numbers) (q : ℕ) (id : FuncOrDataId) → Site settings s m q (identifier id) → (m id == q) ≡ false → is_reached settings s m id ≡ true
unfolding is_reached
reached settings s m q id i e =
    any_in _ s.definitions i.number i.definition i.here
    (and_true _ _ (rw i.object (other_way (m id) q e)) (any_in _ i.definition.relocs i.place i.reloc i.there (rw i.target (same_itself id))))

known_so : (settings : Settings) (s : LinkState) (m : Numbers) (q : ℕ) (a : KnownSymbol) → Site settings s m q (known a) → names_known settings s (known_text a) ≡ true
unfolding names_known
known_so settings s m q a i =
    any_in _ s.definitions i.number i.definition i.here (any_in _ i.definition.relocs i.place i.reloc i.there (rw i.target ((bytes_eq-Decides (known_text a) (known_text a)).1 refl)))

same_library : (a b : List ℕ) → library a ≡ library b → a ≡ b
same_library a b e = cc

true_is_false : {b : Bool} → b ≡ true → b ≡ false → ⊥
true_is_false e h = cc

library_by : (text x : List ℕ) (o : Option FuncOrDataId) → library_target text o ≡ library x → (o ≡ None) × (text ≡ x)
library_by text x None e = (refl, same_library text x e)
library_by text x (Some id) e = absurd (cc)

library_undeclared : (settings : Settings) (s : LinkState) (n : ModuleRelocTarget) (x : List ℕ) → target_of settings s n ≡ library x → identifier_named s x ≡ None
library_undeclared settings s (User a b) x e = absurd (cc)
library_undeclared settings s (LibCall c) x e =
    let both = library_by (library_text settings c) x (identifier_named s (library_text settings c)) e in
    rw (← both.1) both.0
library_undeclared settings s (Known k) x e = absurd (cc)
library_undeclared settings s (FunctionOffset f o) x e = absurd (cc)

some_of : {A : Type 0} (o : Option A) → IsSome o → (x : A) × (o ≡ Some x)
some_of None h = absurd (cc)
some_of (Some x) h = (x, refl)

defined_there : (s : LinkState) (k : ℕ) (d : Definition) (id : FuncOrDataId) → slice_get s.definitions k ≡ Some d → d.identifier ≡ id → is_defined s id ≡ true
defined_there s k d id e h = any_in (λ x. is_same_identifier id x.identifier) s.definitions k d e (rw h (same_itself id))

-- what the lemmas on goals share
pub record Setting (u : PartData) (m : Numbers) (w : FuncOrDataId → ℕ) (q : ℕ) (part : PartData) (at : FuncOrDataId → ℕ) : Type 0 where
  pub sound : IsSound (part_state u)
  pub carried : (id there : FuncOrDataId) → IsCounterpart (part_state u) m q (part_state part) id there → at there ≡ w id
  pub unknown : (id : FuncOrDataId) (x : List ℕ) → is_defined (part_state u) id ≡ true → is_reached u.settings (part_state u) m id ≡ true → declared_name (part_state u) id ≡ Some x → names_known u.settings (part_state u) x ≡ false

abbrev all_shares : PartData → Numbers → List (Share FuncOrDataId)
all_shares u m = shares_of u.settings (part_state u) m

seen_as : (u : PartData) (m : Numbers) (w : FuncOrDataId → ℕ) (id : FuncOrDataId) (x : List ℕ) → is_defined (part_state u) id ≡ true → is_reached u.settings (part_state u) m id ≡ true → declared_name (part_state u) id ≡ Some x → IsSeenAs (all_shares u m) w x (w id)
seen_as u m w id x defined reach name =
    let found = any_out (λ (d : Definition). is_same_identifier id d.identifier) (part_state u).definitions defined in
    let same : id ≡ found.item.identifier = same_is id found.item.identifier found.passes in
    record {
      number = found.number;
      share = share_of u.settings (part_state u) m found.item;
      here = map_get (share_of u.settings (part_state u) m) (part_state u).definitions found.number found.item found.here;
      name = ap (declared_name (part_state u)) (sym same) ∙ name;
      seen = rw (← same, reach) refl;
      address = ap w (sym same);
    }

-- no definition of the whole has the name of what it doesn't define
free_undefined : (u : PartData) (m : Numbers) (id : FuncOrDataId) (x : List ℕ) → IsSound (part_state u) → is_defined (part_state u) id ≡ false → declared_name (part_state u) id ≡ Some x → IsFree (all_shares u m) x
free_undefined u m id x sound e name k h at_k its_name =
    let one = share_at u.settings (part_state u) m k h at_k in
    let that : declared_name (part_state u) one.definition.identifier ≡ Some x = ap (λ (z : Share FuncOrDataId). z.piece.name) one.is ∙ its_name in
    let same = sound.names x one.definition.identifier id that name in
    let defined = defined_there (part_state u) k one.definition id one.here same in
    absurd (cc)

free_undeclared : (u : PartData) (m : Numbers) (x : List ℕ) → IsSound (part_state u) → identifier_named (part_state u) x ≡ None → IsFree (all_shares u m) x
free_undeclared u m x sound none k h at_k its_name =
    let one = share_at u.settings (part_state u) m k h at_k in
    absurd (sound.library x one.definition.identifier none (ap (λ (z : Share FuncOrDataId). z.piece.name) one.is ∙ its_name))

flag_kept : (settings : Settings) (s : LinkState) (m : Numbers) (id : FuncOrDataId) (b : Bool) → b ≡ false → is_seen (if b then Some Export else declared_linkage s id) ≡ is_seen (declared_linkage s id)
flag_kept settings s m id true e = absurd (cc)
flag_kept settings s m id false e = refl

not_true : (b : Bool) → (b ≡ true → ⊥) → b ≡ false
not_true true h = absurd (h refl)
not_true false h = refl

free_known : (u : PartData) (m : Numbers) (w : FuncOrDataId → ℕ) (q : ℕ) (part : PartData) (at : FuncOrDataId → ℕ) (x : List ℕ) → Setting u m w q part at → names_known u.settings (part_state u) x ≡ true → IsFree (all_shares u m) x
free_known u m w q part at x g e k h at_k its_name =
    let one = share_at u.settings (part_state u) m k h at_k in
    let that : declared_name (part_state u) one.definition.identifier ≡ Some x = ap (λ (z : Share FuncOrDataId). z.piece.name) one.is ∙ its_name in
    let defined = defined_there (part_state u) k one.definition one.definition.identifier one.here refl in
    let unreached = not_true (is_reached u.settings (part_state u) m one.definition.identifier) (λ r. let none = g.unknown one.definition.identifier x defined r that in absurd (true_is_false e none)) in
    sym (ap (λ (z : Share FuncOrDataId). z.exported) one.is) ∙ flag_kept u.settings (part_state u) m one.definition.identifier (is_reached u.settings (part_state u) m one.definition.identifier) unreached ∙ ap (λ (z : Share FuncOrDataId). z.piece.exported) one.is

identifier_splits : (u : PartData) (m : Numbers) (w : FuncOrDataId → ℕ) (q : ℕ) (part : PartData) (at : FuncOrDataId → ℕ) (id there : FuncOrDataId) (b c : Bool)
    → Setting u m w q part at → Site u.settings (part_state u) m q (identifier id) → is_defined (part_state u) id ≡ b → (m id == q) ≡ c → SplitsIdentifier (b && c) (part_state u) m q (part_state part) id there
    → GoalSplits (all_shares u m) w at (if b then own id 0 else named (unwrap_or (declared_name (part_state u) id) [])) (goal_of (part_state part) (identifier there))
identifier_splits u m w q part at id there true true g i eb ec h =
    rw (defined_there (part_state part) h.number h.part there h.in_part h.same) (g.carried id there h, refl)
identifier_splits u m w q part at id there true false g i eb ec h =
    let name = some_of (declared_name (part_state u) id) h.named in
    rw (h.undefined, h.name, name.1) (refl, seen_as u m w id name.0 eb (reached u.settings (part_state u) m q id i ec) name.1)
identifier_splits u m w q part at id there false c g i eb ec h =
    let name = some_of (declared_name (part_state u) id) h.named in
    rw (h.undefined, h.name, name.1) (refl, free_undefined u m id name.0 g.sound eb name.1)

goal_splits : (u : PartData) (m : Numbers) (w : FuncOrDataId → ℕ) (q : ℕ) (part : PartData) (at : FuncOrDataId → ℕ) (f g : Goal)
    → Setting u m w q part at → Site u.settings (part_state u) m q f → SplitsTarget (part_state u) m q (part_state part) f g
    → GoalSplits (all_shares u m) w at (goal_of (part_state u) f) (goal_of (part_state part) g)
goal_splits u m w q part at (identifier id) (identifier there) c i h = identifier_splits u m w q part at id there (is_defined (part_state u) id) (m id == q) c i refl refl h
goal_splits u m w q part at (library x) (library y) c i h = (h, free_undeclared u m x c.sound (library_undeclared u.settings (part_state u) i.reloc.name x i.target))
goal_splits u m w q part at (known a) (known b) c i h = (ap known_text h, free_known u m w q part at (known_text a) c (known_so u.settings (part_state u) m q a i))
goal_splits u m w q part at (label f o) (label g p) c i h = (c.carried (Func f) (Func g) h.2, h.0)
goal_splits u m w q part at f g c i h = absurd h

-- -- fixups, definitions, objects

same_kind : (u part : PartData) → part.target.triple.binary_format ≡ u.target.triple.binary_format → (part_state part).target.triple.binary_format ≡ (part_state u).target.triple.binary_format
unfolding state_of
same_kind u part h = h

fixup_splits : (u : PartData) (m : Numbers) (w : FuncOrDataId → ℕ) (q : ℕ) (part : PartData) (at : FuncOrDataId → ℕ) (n : ℕ) (d : Definition)
    → Setting u m w q part at → part.target.triple.binary_format ≡ u.target.triple.binary_format → slice_get (part_state u).definitions n ≡ Some d → m d.identifier ≡ q
    → (k : ℕ) (r t : ModuleReloc) (rs : List ModuleReloc) → slice_get d.relocs k ≡ Some r → SplitsReloc u.settings part.settings (part_state u) m q (part_state part) r t
    → FixupSplits (all_shares u m) w at (fixup_of u.settings (part_state u) r) (fixup_of part.settings (part_state part) t)
fixup_splits u m w q part at n d c same here object k r t rs there h =
    record {
      offset = h.offset;
      kind = rw (same_kind u part same, h.kind) refl;
      goal = goal_splits u m w q part at (target_of u.settings (part_state u) r.name) (target_of part.settings (part_state part) t.name) c (record { number = n; definition = d; here = here; place = k; reloc = r; there = there; object = object; target = refl }) h.target;
      addend = h.addend;
    }

piece_splits : (u : PartData) (m : Numbers) (w : FuncOrDataId → ℕ) (q : ℕ) (part : PartData) (at : FuncOrDataId → ℕ) (k : ℕ) (d e : Definition)
    → Setting u m w q part at → part.target.triple.binary_format ≡ u.target.triple.binary_format
    → slice_get (definitions_for (part_state u) m q) k ≡ Some d → slice_get (part_state part).definitions k ≡ Some e → SplitsDefinition u.settings part.settings (part_state u) m q (part_state part) d e
    → PieceSplits (all_shares u m) w at (share_of u.settings (part_state u) m d) (piece_of part.settings (part_state part) e)
piece_splits u m w q part at k d e c same in_whole in_part h =
    let there = kept (λ (x : Definition). m x.identifier == q) (part_state u).definitions k d in_whole in
    record {
      address = c.carried d.identifier e.identifier (record { number = k; whole = d; part = e; in_whole = in_whole; in_part = in_part; identifier = refl; same = refl });
      name = h.name;
      exported = ap is_seen h.linkage;
      contents = h.contents;
      fixups =
          pairs_map (SplitsReloc u.settings part.settings (part_state u) m q (part_state part)) (FixupSplits (all_shares u m) w at) (fixup_of u.settings (part_state u)) (fixup_of part.settings (part_state part)) d.relocs e.relocs
          (λ j r t f g s. fixup_splits u m w q part at there.number d c same there.here (eqb-true (m d.identifier) q there.passes) j r t d.relocs f s)
          h.relocs;
    }

object_splits : (u : PartData) (m : Numbers) (w : FuncOrDataId → ℕ) (q : ℕ) (part : PartData) (at : FuncOrDataId → ℕ) → Setting u m w q part at → IsPartOf u m q part
    → Pairs (PieceSplits (all_shares u m) w at) (filter (is_of q) (all_shares u m)) (part_pieces part)
unfolding pieces_of
object_splits u m w q part at c h =
    rw (filter_shares u.settings (part_state u) m q (part_state u).definitions)
    (pairs_map (SplitsDefinition u.settings part.settings (part_state u) m q (part_state part)) (PieceSplits (all_shares u m) w at) (share_of u.settings (part_state u) m) (piece_of part.settings (part_state part))
    (definitions_for (part_state u) m q) (part_state part).definitions
    (λ k d e f g s. piece_splits u m w q part at k d e c h.target f g s)
    h.definitions)

-- what is known of the parts from number q on
abbrev FromNumber : PartData → List PartData → Numbers → (FuncOrDataId → ℕ) → Addresses FuncOrDataId → ℕ → Type 0
FromNumber u parts m w at q = (k : ℕ) (part : PartData) → slice_get parts k ≡ Some part → Setting u m w (q + k) part (at (q + k)) × IsPartOf u m (q + k) part

next_number : (u : PartData) (part : PartData) (parts : List PartData) (m : Numbers) (w : FuncOrDataId → ℕ) (at : Addresses FuncOrDataId) (q : ℕ) → FromNumber u (part ∷ parts) m w at q → FromNumber u parts m w at (q + 1)
next_number u part parts m w at q h k p e = let same : q + suc k ≡ q + 1 + k = omega arith in subst (λ n. Setting u m w n p (at n) × IsPartOf u m n p) same (h (suc k) p e)

first_number : (u : PartData) (part : PartData) (parts : List PartData) (m : Numbers) (w : FuncOrDataId → ℕ) (at : Addresses FuncOrDataId) (q : ℕ) → FromNumber u (part ∷ parts) m w at q → Setting u m w q part (at q) × IsPartOf u m q part
first_number u part parts m w at q h = let same : q + 0 ≡ q = omega arith in subst (λ n. Setting u m w n part (at n) × IsPartOf u m n part) same (h 0 part refl)

splits_from : (u : PartData) (parts : List PartData) (m : Numbers) (w : FuncOrDataId → ℕ) (at : Addresses FuncOrDataId) (q : ℕ) → FromNumber u parts m w at q → SplitsFrom (all_shares u m) w at q (map part_pieces parts)
splits_from u [] m w at q h = tt
splits_from u (part ∷ parts) m w at q h =
    let here = first_number u part parts m w at q h in
    (object_splits u m w q part (at q) here.0 here.1, splits_from u parts m w at (q + 1) (next_number u part parts m w at q h))

-- -- the whole

-- all that a valid part and its split tell
pub record IsSplit (u : PartData) (parts : List PartData) (m : Numbers) (w : FuncOrDataId → ℕ) (at : Addresses FuncOrDataId) : Type 0 where
  pub sound : IsSound (part_state u)
  pub parts_sound : (q : ℕ) (part : PartData) → slice_get parts q ≡ Some part → IsSound (part_state part)
  pub split : Split u parts m
  pub carried : AreCarried u parts m w at

setting_at : (u : PartData) (parts : List PartData) (m : Numbers) (w : FuncOrDataId → ℕ) (at : Addresses FuncOrDataId) (q : ℕ) (part : PartData) → IsSplit u parts m w at → slice_get parts q ≡ Some part → Setting u m w q part (at q)
setting_at u parts m w at q part h e = record { sound = h.sound; carried = λ id there c. h.carried q part id there e c; unknown = h.split.unknown }

from_zero : (u : PartData) (parts : List PartData) (m : Numbers) (w : FuncOrDataId → ℕ) (at : Addresses FuncOrDataId) → IsSplit u parts m w at → FromNumber u parts m w at 0
from_zero u parts m w at h k part e =
    let same : 0 + k ≡ k = omega arith in
    subst (λ n. Setting u m w n part (at n) × IsPartOf u m n part) (sym same) (setting_at u parts m w at k part h e, h.split.each k part e)

distinct : (u : PartData) (m : Numbers) → IsSound (part_state u) → HaveDistinctNames (all_shares u m)
distinct u m sound x j k a b e f n o =
    let one = share_at u.settings (part_state u) m j a e in
    let two = share_at u.settings (part_state u) m k b f in
    sound.once j k one.definition two.definition one.here two.here
    (sound.names x one.definition.identifier two.definition.identifier (ap (λ (z : Share FuncOrDataId). z.piece.name) one.is ∙ n) (ap (λ (z : Share FuncOrDataId). z.piece.name) two.is ∙ o))

below : (parts : List PartData) (a b : ℕ) → a ≡ b → a < length parts → b < length (map part_pieces parts)
below parts a b e h = omega (arith, e, h, length-map parts part_pieces)

shares_out : (u : PartData) (parts : List PartData) (m : Numbers) (w : FuncOrDataId → ℕ) (at : Addresses FuncOrDataId) → IsSplit u parts m w at → SharesOut (all_shares u m) w (map part_pieces parts) at
shares_out u parts m w at h =
    record {
      inside = λ k s e. let one = share_at u.settings (part_state u) m k s e in below parts (m one.definition.identifier) s.object (ap (λ (z : Share FuncOrDataId). z.object) one.is) (h.split.inside k one.definition one.here);
      names = distinct u m h.sound;
      split = splits_from u parts m w at 0 (from_zero u parts m w at h);
    }

-- the first definition of an identifier is the only one
found_at : (settings : Settings) (s : LinkState) (ds : List Definition) (k : ℕ) (d : Definition) → slice_get ds k ≡ Some d
    → ((j : ℕ) (e : Definition) → slice_get ds j ≡ Some e → is_same_identifier d.identifier e.identifier ≡ true → j ≡ k)
    → piece_named d.identifier (map (piece_of settings s) ds) ≡ Some (piece_of settings s d)
found_at settings s [] k d e h = absurd (cc)
found_at settings s (x ∷ ds) zero d e h =
    let same : x ≡ d = some_is x d e in
    rw (same, same_itself d.identifier) refl
found_at settings s (x ∷ ds) (suc k) d e h =
    let other : is_same_identifier d.identifier x.identifier ≡ false = not_true (is_same_identifier d.identifier x.identifier) (λ yes_so. let bad : 0 ≡ suc k = h 0 x refl yes_so in omega (arith, bad)) in
    rw other (found_at settings s ds k d e (λ j y f g. let same : suc j ≡ suc k = h (suc j) y f g in omega (arith, same)))

piece_found : (part : PartData) (k : ℕ) (d : Definition) → IsSound (part_state part) → slice_get (part_state part).definitions k ≡ Some d → piece_named d.identifier (part_pieces part) ≡ Some (piece_of part.settings (part_state part) d)
unfolding pieces_of
piece_found part k d sound e =
    found_at part.settings (part_state part) (part_state part).definitions k d e (λ j x f g. sound.once j k x d f e (sym (same_is d.identifier x.identifier g)))

memory_found : (parts : List PartData) (at : Addresses FuncOrDataId) (externs : List (List ℕ × ℕ)) (q : ℕ) (part : PartData) (k : ℕ) (d : Definition) → slice_get parts q ≡ Some part → IsSound (part_state part) → slice_get (part_state part).definitions k ≡ Some d
    → memory parts at externs q d.identifier ≡ memory_of (map part_pieces parts) at externs q (piece_of part.settings (part_state part) d)
memory_found parts at externs q part k d e sound f = rw (e, piece_found part k d sound f) refl

whole_pieces : (u : PartData) (m : Numbers) → whole (all_shares u m) ≡ part_pieces u
unfolding pieces_of
whole_pieces u m = whole_shares u.settings (part_state u) m (part_state u).definitions

whole_memory : (u : PartData) (m : Numbers) (w : FuncOrDataId → ℕ) (externs : List (List ℕ × ℕ)) (d : Definition)
    → memory_of (whole (all_shares u m) ∷ []) (λ _. w) externs 0 (piece_of u.settings (part_state u) d) ≡ memory_of (part_pieces u ∷ []) (λ _. w) externs 0 (piece_of u.settings (part_state u) d)
whole_memory u m w externs d = ap (λ object. memory_of (object ∷ []) (λ _. w) externs 0 (piece_of u.settings (part_state u) d)) (whole_pieces u m)

pub splits-keep : (u : PartData) (parts : List PartData) (m : Numbers) (w : FuncOrDataId → ℕ) (at : Addresses FuncOrDataId) (externs : List (List ℕ × ℕ)) (q : ℕ) (part : PartData) (id there : FuncOrDataId)
    → IsSplit u parts m w at → slice_get parts q ≡ Some part → IsCounterpart (part_state u) m q (part_state part) id there
    → memory parts at externs q there ≡ memory (u ∷ []) (λ _. w) externs 0 id
splits-keep u parts m w at externs q part id there h e c =
    let in_whole = kept (λ (x : Definition). m x.identifier == q) (part_state u).definitions c.number c.whole c.in_whole in
    let definition = pairs_at (SplitsDefinition u.settings part.settings (part_state u) m q (part_state part)) (definitions_for (part_state u) m q) (part_state part).definitions c.number c.whole c.part (h.split.each q part e).definitions c.in_whole c.in_part in
    let piece = piece_splits u m w q part (at q) c.number c.whole c.part (setting_at u parts m w at q part h e) (h.split.each q part e).target c.in_whole c.in_part definition in
    let both = memory-splits (all_shares u m) w (map part_pieces parts) at externs q (share_of u.settings (part_state u) m c.whole) (piece_of part.settings (part_state part) c.part) (shares_out u parts m w at h) piece in
    let left = memory_found parts at externs q part c.number c.part e (h.parts_sound q part e) c.in_part in
    let right = memory_found (u ∷ []) (λ _. w) externs 0 u in_whole.number c.whole refl h.sound in_whole.here in
    ap (memory parts at externs q) (sym c.same) ∙ left ∙ both ∙ whole_memory u m w externs c.whole ∙ sym right ∙ ap (memory (u ∷ []) (λ _. w) externs 0) c.identifier
