-- The symbols of a part's object: which lie in sections, and where those of relocations stand.
use Rattle.std.proofs.Common.{◌≡◌, ℕ, zero, suc, ◌+◌, ◌||◌, List, [], ◌∷◌, length, map, refl, ap, sym, ◌∙◌, arith, Option, Some, None, Bool, true, false, not, cond, slice_get, inl, inr}
use Rattle.std.specs.Prelude.{filter, flat_map, option_map}
use Rattle.std.specs.List.{list_any, position_or_len}
use Rattle.std.proofs.lemmas.Bool.{eq-eqb}
use Rattle.std.proofs.lemmas.List.{length-map}
use Rattle.byte_core.proofs.Lists.{get_left, get_right, get_append, get_exists, get_map, get_map_from}
use Rattle.object_core.specs.declared.kinds.SymbolKind.{SymbolKind}
use Rattle.object_core.specs.declared.kinds.SymbolKind.TheVariants as kind
use Rattle.object_core.specs.declared.kinds.SymbolSection.TheVariants.{Absolute, Section}
use Rattle.object_core.specs.Object.{SymbolData}
use Rattle.object_core.specs.Appending.{file_symbol}
use Rattle.ir_core.specs.declared.reloc.KnownSymbol.TheVariants.{ElfGlobalOffsetTable, CoffTlsIndex}
use Rattle.cranelift_module.specs.declared.linkage.Linkage.{Linkage}
use Rattle.cranelift_module.specs.declared.identifiers.FuncOrDataId.{FuncOrDataId}
use Rattle.cranelift_module.specs.declared.identifiers.FuncOrDataId.TheVariants.{Func, Data}
use Rattle.cranelift_module.specs.declared.reloc.ModuleReloc.{ModuleReloc}
use Rattle.cranelift_module.specs.Definitions.{Definition}
use Rattle.cranelift_module.specs.Rows.{FunctionRow, DataRow}
use Rattle.cranelift_module.specs.Marks.{linkage_held}
use Rattle.cranelift_module.specs.LinkState.{LinkState}
use Rattle.cranelift_module.specs.Refusal.{is_same_identifier}
use Rattle.cranelift_object.specs.Settings.{Settings}
use Rattle.cranelift_object.specs.Kept.{IsDeclared}
use Rattle.cranelift_object.specs.Placing.{Placed, placed}
use Rattle.cranelift_object.specs.Targets.{RelocationTarget, identifier, library, known, label, target_of, targets, extras, is_same_target, is_extra}
use Rattle.cranelift_object.specs.Linked.{defined_at, symbol_place, identifier_symbol, extra_symbol, symbols_of, row_of}
use Rattle.cranelift_object.specs.EndCause.{end_cause, HasTarget}
use Rattle.cranelift_object.proofs.ClassLaws.{placed_definitions, All-slice_get}
use Rattle.cranelift_object.proofs.CreationLaws.{same_is, function_within, data_within, function_stands, data_stands}
use Rattle.cranelift_object.proofs.ExtraLaws.{same_target, same_self, once_any}
use Rattle.cranelift_object.proofs.FinishLaws.{end_targets, definition_had}
use Rattle.cranelift_object.proofs.ShownLaws.{Standing, identifier_at, identifier_number, identifier_stands}
use Rattle.cranelift_object.proofs.StateSound.{IsSound}
use Rattle.cranelift_object.proofs.TargetLaws.{IsHad, target_had}
use Rattle.image_place.proofs.EntryLaws.{Among, filtered}
use Rattle.image_place.proofs.Collected.{found-at, found-some}

-- the state of a part: no definition stands twice, and the part can be finished
pub record IsSettled (s : LinkState) : Type 0 where
  pub sound : IsSound s
  pub ended : end_cause s ≡ None
  pub once : (j k : ℕ) (d e : Definition) → slice_get s.definitions j ≡ Some d → slice_get s.definitions k ≡ Some e → d.identifier ≡ e.identifier → j ≡ k

some_same : {A : Type 0} (x y : A) → Some x ≡ Some y → x ≡ y
some_same x y e = cc

same_itself : (id : FuncOrDataId) → is_same_identifier id id ≡ true
same_itself (Func k) = eq-eqb k k refl
same_itself (Data k) = eq-eqb k k refl

-- -- placed definitions

pub definitions_placed : (settings : Settings) (s : LinkState) → map (λ (p : Placed). p.definition) (placed settings s) ≡ s.definitions
unfolding placed
definitions_placed settings s = placed_definitions settings s s.definitions

pub placed-from : (settings : Settings) (s : LinkState) (k : ℕ) (p : Placed) → slice_get (placed settings s) k ≡ Some p → slice_get s.definitions k ≡ Some p.definition
placed-from settings s k p e = ap (λ ds. slice_get ds k) (sym (definitions_placed settings s)) ∙ get_map (λ (x : Placed). x.definition) (placed settings s) k p e

pub placed-into : (settings : Settings) (s : LinkState) (k : ℕ) (d : Definition) → slice_get s.definitions k ≡ Some d → (p : Placed) × (slice_get (placed settings s) k ≡ Some p) × (p.definition ≡ d)
placed-into settings s k d e = get_map_from (λ (x : Placed). x.definition) (placed settings s) k d (ap (λ ds. slice_get ds k) (definitions_placed settings s) ∙ e)

pub placed-once : (settings : Settings) (s : LinkState) (j k : ℕ) (p r : Placed) → IsSettled s → slice_get (placed settings s) j ≡ Some p → slice_get (placed settings s) k ≡ Some r → p.definition.identifier ≡ r.definition.identifier → j ≡ k
placed-once settings s j k p r h e f same = h.once j k p.definition r.definition (placed-from settings s j p e) (placed-from settings s k r f) same

-- where an identifier is defined
pub record IsPlacedAt (settings : Settings) (s : LinkState) (id : FuncOrDataId) (p : Placed) : Type 0 where
  pub number : ℕ
  pub here : slice_get (placed settings s) number ≡ Some p
  pub same : p.definition.identifier ≡ id

pub defined-from : (settings : Settings) (s : LinkState) (id : FuncOrDataId) (p : Placed) → defined_at (placed settings s) id ≡ Some p → IsPlacedAt settings s id p
defined-from settings s id p e =
    let found = found-at (λ (x : Placed). is_same_identifier id x.definition.identifier) (placed settings s) p e in
    record { number = found.number; here = found.here; same = sym (same_is id p.definition.identifier found.passes) }

pub defined-into : (settings : Settings) (s : LinkState) (k : ℕ) (p : Placed) → IsSettled s → slice_get (placed settings s) k ≡ Some p → defined_at (placed settings s) p.definition.identifier ≡ Some p
defined-into settings s k p h e =
    let found = found-some (λ (x : Placed). is_same_identifier p.definition.identifier x.definition.identifier) (placed settings s) k p e (same_itself p.definition.identifier) in
    let there = defined-from settings s p.definition.identifier found.element found.is in
    let place : there.number ≡ k = placed-once settings s there.number k found.element p h there.here e there.same in
    found.is ∙ sym there.here ∙ ap (slice_get (placed settings s)) place ∙ e

-- -- identifiers

pub created-linkage : (s : LinkState) (r : ℕ) (id : FuncOrDataId) → IsSound s → slice_get s.created r ≡ Some id → (linkage : Linkage) × (linkage_held s id ≡ Some linkage)
created-linkage s r (Func k) h e =
    let row = get_exists s.functions k (function_within 0 0 (length s.functions) (length s.objects) s.created r k h.order e).1 in
    (row.0.linkage, ap (option_map (λ (x : FunctionRow). x.linkage)) row.1)
created-linkage s r (Data k) h e =
    let row = get_exists s.objects k (data_within 0 0 (length s.functions) (length s.objects) s.created r k h.order e).1 in
    (row.0.linkage, ap (option_map (λ (x : DataRow). x.linkage)) row.1)

pub declared-created : (s : LinkState) (id : FuncOrDataId) → IsSound s → IsDeclared (length s.functions) (length s.objects) id → (r : ℕ) × (slice_get s.created r ≡ Some id)
declared-created s (Func k) h below = function_stands 0 0 (length s.functions) (length s.objects) s.created k h.order (omega arith) below
declared-created s (Data k) h below = data_stands 0 0 (length s.functions) (length s.objects) s.created k h.order (omega arith) below

pub created-stands : (settings : Settings) (s : LinkState) (r : ℕ) (id : FuncOrDataId) → IsSettled s → slice_get s.created r ≡ Some id → Standing s (placed settings s) id
created-stands settings s r id h e = let linkage = created-linkage s r id h.sound e in identifier_stands settings s id linkage.0 h.sound h.ended linkage.1

-- -- the symbols by their numbers

pub data SymbolCase (settings : Settings) (s : LinkState) (n : ℕ) (x : SymbolData) : Type 0 where
  of_file : x ≡ file_symbol settings.file_name → SymbolCase settings s n x
  of_identifier : (r : ℕ) (id : FuncOrDataId) → slice_get s.created r ≡ Some id → n ≡ suc r → x ≡ identifier_symbol s (placed settings s) id → SymbolCase settings s n x
  of_extra : (t : RelocationTarget) → x ≡ extra_symbol (placed settings s) t → SymbolCase settings s n x

front_case : (settings : Settings) (s : LinkState) (n : ℕ) (x : SymbolData) → slice_get (file_symbol settings.file_name ∷ map (identifier_symbol s (placed settings s)) s.created) n ≡ Some x → SymbolCase settings s n x
front_case settings s zero x e = of_file (sym (some_same (file_symbol settings.file_name) x e))
front_case settings s (suc r) x e = let from = get_map_from (identifier_symbol s (placed settings s)) s.created r x e in of_identifier r from.0 from.1 refl (sym from.2)

pub symbol-case : (settings : Settings) (s : LinkState) (n : ℕ) (x : SymbolData) → slice_get (symbols_of settings s (placed settings s)) n ≡ Some x → SymbolCase settings s n x
unfolding symbols_of
symbol-case settings s n x e =
    elim (get_append (file_symbol settings.file_name ∷ map (identifier_symbol s (placed settings s)) s.created) (map (extra_symbol (placed settings s)) (extras settings s)) n x e) [
      | inl h ↦ front_case settings s n x h
      | inr h ↦ (let from = get_map_from (extra_symbol (placed settings s)) (extras settings s) h.0 x h.2 in of_extra from.0 (sym from.2))
    ]

abbrev pub is_label_kind : SymbolKind → Bool
is_label_kind kind.Label = true
is_label_kind _ = false

-- a symbol that lies in a section and is no label is that of a placed definition
pub record IsOfPlaced (settings : Settings) (s : LinkState) (n section : ℕ) (x : SymbolData) : Type 0 where
  pub number : ℕ
  pub place : Placed
  pub here : slice_get (placed settings s) number ≡ Some place
  pub section_is : place.section ≡ section
  pub row : row_of settings s (identifier place.definition.identifier) ≡ n
  pub symbol : x ≡ identifier_symbol s (placed settings s) place.definition.identifier
  pub defined : defined_at (placed settings s) place.definition.identifier ≡ Some place
  pub stands : Standing s (placed settings s) place.definition.identifier

section_same : (j k : ℕ) → Section j ≡ Section k → j ≡ k
section_same j k e = cc

of_placed : (settings : Settings) (s : LinkState) (n r section : ℕ) (x : SymbolData) (id : FuncOrDataId) (o : Option Placed) → IsSettled s → defined_at (placed settings s) id ≡ o → slice_get s.created r ≡ Some id → n ≡ suc r → x ≡ identifier_symbol s (placed settings s) id
    → symbol_place o ≡ Section section → IsOfPlaced settings s n section x
of_placed settings s n r section x id None h o e place is lies = absurd (cc)
of_placed settings s n r section x id (Some p) h o e place is lies =
    let there = defined-from settings s id p o in
    let created : slice_get s.created r ≡ Some p.definition.identifier = e ∙ ap Some (sym there.same) in
    record {
      number = there.number;
      place = p;
      here = there.here;
      section_is = section_same p.section section lies;
      row = identifier_number settings s r p.definition.identifier h.sound created ∙ sym place;
      symbol = is ∙ ap (identifier_symbol s (placed settings s)) (sym there.same);
      defined = ap (defined_at (placed settings s)) there.same ∙ o;
      stands = created-stands settings s r p.definition.identifier h created;
    }

extra_loose : (ps : List Placed) (t : RelocationTarget) (section : ℕ) → (extra_symbol ps t).section ≡ Section section → is_label_kind (extra_symbol ps t).kind ≡ false → ⊥
extra_loose ps (identifier id) section e l = cc
extra_loose ps (library text) section e l = cc
extra_loose ps (known ElfGlobalOffsetTable) section e l = cc
extra_loose ps (known CoffTlsIndex) section e l = cc
extra_loose ps (label function offset) section e l = cc

of_case : (settings : Settings) (s : LinkState) (n section : ℕ) (x : SymbolData) → IsSettled s → SymbolCase settings s n x → x.section ≡ Section section → is_label_kind x.kind ≡ false → IsOfPlaced settings s n section x
of_case settings s n section x h (of_file is) e l = absurd (let lies : Absolute ≡ Section section = ap (λ (y : SymbolData). y.section) (sym is) ∙ e in cc)
of_case settings s n section x h (of_extra t is) e l =
    absurd (extra_loose (placed settings s) t section (ap (λ (y : SymbolData). y.section) (sym is) ∙ e) (ap (λ (y : SymbolData). is_label_kind y.kind) (sym is) ∙ l))
of_case settings s n section x h (of_identifier r id at place is) e l =
    let stands = created-stands settings s r id h at in
    let lies : symbol_place (defined_at (placed settings s) id) ≡ Section section = ap (λ (y : SymbolData). y.section) (sym stands.symbol) ∙ ap (λ (y : SymbolData). y.section) (sym is) ∙ e in
    of_placed settings s n r section x id (defined_at (placed settings s) id) h refl at place is lies

pub symbol-placed : (settings : Settings) (s : LinkState) (n section : ℕ) (x : SymbolData) → IsSettled s → slice_get (symbols_of settings s (placed settings s)) n ≡ Some x → x.section ≡ Section section → is_label_kind x.kind ≡ false → IsOfPlaced settings s n section x
symbol-placed settings s n section x h e lies l = of_case settings s n section x h (symbol-case settings s n x e) lies l

-- -- the symbols of relocations

pub among-flat : {A B : Type 0} (f : A → List B) (xs : List A) (k n : ℕ) (x : A) (y : B) → slice_get xs k ≡ Some x → slice_get (f x) n ≡ Some y → Among (flat_map f xs) y
among-flat f [] k n x y e h = absurd (cc)
among-flat f (z ∷ xs) zero n x y e h = let same : z ≡ x = cc in record { number = n; here = get_left (f z) (flat_map f xs) n y (ap (λ w. slice_get (f w) n) same ∙ h) }
among-flat f (z ∷ xs) (suc k) n x y e h =
    let far = among-flat f xs k n x y e h in
    record { number = length (f z) + far.number; here = get_right (f z) (flat_map f xs) far.number (length (f z) + far.number) y far.here refl }

or_right : (a b : Bool) → b ≡ true → (a || b) ≡ true
or_right true b e = refl
or_right false b e = e

pub any-from : {A : Type 0} (p : A → Bool) (xs : List A) (k : ℕ) (x : A) → slice_get xs k ≡ Some x → p x ≡ true → list_any p xs ≡ true
any-from p [] k x e t = absurd (cc)
any-from p (y ∷ xs) zero x e t = let same : y ≡ x = cc in rw (ap p same ∙ t) refl
any-from p (y ∷ xs) (suc k) x e t = or_right (p y) (list_any p xs) (any-from p xs k x e t)

position_by : {A : Type 0} (p : A → Bool) (y : A) (xs : List A) (b : Bool) → p y ≡ b → (list_any p xs ≡ true → (x : A) × (slice_get xs (position_or_len p xs) ≡ Some x) × (p x ≡ true)) → (b || list_any p xs) ≡ true
    → (x : A) × (slice_get (y ∷ xs) (cond (not b) (1 + position_or_len p xs) 0) ≡ Some x) × (p x ≡ true)
position_by p y xs true e rest h = (y, refl, e)
position_by p y xs false e rest h =
    let far = rest h in
    let next : 1 + position_or_len p xs ≡ suc (position_or_len p xs) = omega arith in
    (far.0, ap (slice_get (y ∷ xs)) next ∙ far.1, far.2)

pub position-there : {A : Type 0} (p : A → Bool) (xs : List A) → list_any p xs ≡ true → (x : A) × (slice_get xs (position_or_len p xs) ≡ Some x) × (p x ≡ true)
position-there p [] h = absurd (cc)
position-there p (y ∷ xs) h = position_by p y xs (p y) refl (position-there p xs) h

extra_any : (settings : Settings) (s : LinkState) (k n : ℕ) (d : Definition) (r : ModuleReloc) → slice_get s.definitions k ≡ Some d → slice_get d.relocs n ≡ Some r → is_extra (target_of settings s r.name) ≡ true
    → list_any (is_same_target (target_of settings s r.name)) (extras settings s) ≡ true
unfolding extras
extra_any settings s k n d r e f x =
    let t = target_of settings s r.name in
    let among = among-flat (λ (y : Definition). map (λ (z : ModuleReloc). target_of settings s z.name) y.relocs) s.definitions k n d t e (get_map (λ (z : ModuleReloc). target_of settings s z.name) d.relocs n r f) in
    let passes = filtered is_extra (targets settings s s.definitions) among.number t among.here x in
    once_any t (filter is_extra (targets settings s s.definitions)) ∙ any-from (is_same_target t) (filter is_extra (targets settings s s.definitions)) passes.number t passes.here (same_self t x)

-- the symbol of a target
abbrev pub target_symbol : Settings → LinkState → RelocationTarget → SymbolData
target_symbol settings s (identifier id) = identifier_symbol s (placed settings s) id
target_symbol settings s t = extra_symbol (placed settings s) t

pub record HasSymbol (settings : Settings) (s : LinkState) (t : RelocationTarget) : Type 0 where
  pub had : IsHad s t
  pub here : slice_get (symbols_of settings s (placed settings s)) (row_of settings s t) ≡ Some (target_symbol settings s t)

extra_there : (settings : Settings) (s : LinkState) (t : RelocationTarget) → list_any (is_same_target t) (extras settings s) ≡ true
    → slice_get (symbols_of settings s (placed settings s)) (1 + length s.created + position_or_len (is_same_target t) (extras settings s)) ≡ Some (extra_symbol (placed settings s) t)
unfolding symbols_of
extra_there settings s t any =
    let found = position-there (is_same_target t) (extras settings s) any in
    let same : t ≡ found.0 = same_target t found.0 found.2 in
    let here : slice_get (extras settings s) (position_or_len (is_same_target t) (extras settings s)) ≡ Some t = found.1 ∙ ap Some (sym same) in
    get_right (file_symbol settings.file_name ∷ map (identifier_symbol s (placed settings s)) s.created) (map (extra_symbol (placed settings s)) (extras settings s)) (position_or_len (is_same_target t) (extras settings s)) _
    (extra_symbol (placed settings s) t) (get_map (extra_symbol (placed settings s)) (extras settings s) (position_or_len (is_same_target t) (extras settings s)) t here)
    (omega (arith, length-map s.created (identifier_symbol s (placed settings s))))

symbol_of_target : (settings : Settings) (s : LinkState) (t : RelocationTarget) → IsSettled s → IsHad s t → (is_extra t ≡ true → list_any (is_same_target t) (extras settings s) ≡ true) → HasSymbol settings s t
symbol_of_target settings s (identifier id) h had any =
    let at = declared-created s id h.sound had in
    let number = identifier_number settings s at.0 id h.sound at.1 in
    record { had = had; here = ap (slice_get (symbols_of settings s (placed settings s))) number ∙ identifier_at settings s at.0 id at.1 }
symbol_of_target settings s (library text) h had any = record { had = had; here = extra_there settings s (library text) (any refl) }
symbol_of_target settings s (known symbol) h had any = record { had = had; here = extra_there settings s (known symbol) (any refl) }
symbol_of_target settings s (label function offset) h had any = record { had = had; here = extra_there settings s (label function offset) (any refl) }

pub target-symbol : (settings : Settings) (s : LinkState) (k n : ℕ) (d : Definition) (r : ModuleReloc) → IsSettled s → slice_get s.definitions k ≡ Some d → slice_get d.relocs n ≡ Some r → HasSymbol settings s (target_of settings s r.name)
target-symbol settings s k n d r h e f =
    let had = target_had settings s r.name (All-slice_get (HasTarget s) d.relocs n r (definition_had s k d e (end_targets s h.ended)) f) in
    symbol_of_target settings s (target_of settings s r.name) h had (extra_any settings s k n d r e f)
