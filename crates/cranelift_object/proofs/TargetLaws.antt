-- The targets of a module in which no relocation goes to what can't be had.
use Rattle.std.proofs.Common.{◌≡◌, ℕ, ◌<◌, ◌==◌, ◌&&◌, ◌++◌, ◌∷◌, List, [], Bool, true, false, not, cond, length, map, filter, Option, Some, None, refl, ap, sym, ◌∙◌, subst}
use Rattle.std.specs.Prelude.{slice_get, option_map, is_some, flat_map}
use Rattle.std.specs.Option.{option_or}
use Rattle.std.specs.List.{All, list_any, position_from}
use Rattle.std.proofs.lemmas.Option.{slice_get_within}
use Rattle.std.proofs.lemmas.List.{append-nil}
use Rattle.std.proofs.lemmas.List.Elements.{All-nil, All-cons, All-head, All-tail, All-append, All-weaker}
use Rattle.ir_core.specs.Moments.{once_each}
use Rattle.ir_core.proofs.MomentLaws.{by_end, once_each-end}
use Rattle.cranelift_module.proofs.Places.{position-below}
use Rattle.cranelift_module.specs.declared.identifiers.FuncOrDataId.{FuncOrDataId}
use Rattle.cranelift_module.specs.declared.identifiers.FuncOrDataId.TheVariants.{Func, Data}
use Rattle.cranelift_module.specs.declared.reloc.ModuleReloc.{ModuleReloc}
use Rattle.cranelift_module.specs.declared.reloc.ModuleRelocTarget.{ModuleRelocTarget}
use Rattle.cranelift_module.specs.declared.reloc.ModuleRelocTarget.TheVariants.{User, LibCall, KnownSymbol, FunctionOffset}
use Rattle.cranelift_module.specs.Rows.{FunctionRow}
use Rattle.cranelift_module.specs.Definitions.{Definition}
use Rattle.cranelift_module.specs.LinkState.{LinkState, is_function_named, is_data_named}
use Rattle.cranelift_module.specs.Refusal.{undeclared, missing_definition, function_name, is_defined}
use Rattle.cranelift_module.specs.Texts.{user_text}
use Rattle.cranelift_object.specs.Settings.{Settings, library_text}
use Rattle.cranelift_object.specs.Kept.{IsDeclared}
use Rattle.cranelift_object.specs.Targets.{RelocationTarget, identifier, library, known, label, library_target, target_of, targets, is_same_target, is_extra}
use Rattle.cranelift_object.specs.EndCause.{target_cause, label_cause, is_declared, first_bad_target, first_bad_reference}
use Rattle.cranelift_object.specs.Extras.{extra_target, resolved_target, AreExtras, targets_in}
use Rattle.cranelift_object.specs.declared.extras.Extra.{Extra}
use Rattle.cranelift_object.specs.declared.extras.ResolvedTarget.{ResolvedTarget}
use Rattle.cranelift_object.specs.declared.extras.ResolvedTarget.TheVariants.{Identifier}
use Rattle.cranelift_object.proofs.ClassLaws.{All-front, All-last}
use Rattle.cranelift_object.proofs.FinishLaws.{causes_none, bad_both}
use Rattle.cranelift_object.proofs.CallLaws.{not_refused}
use Rattle.cranelift_object.proofs.ExtraLaws.{or_true, same_self, once_any}

pub was_true : (b : Bool) → not b ≡ false → b ≡ true
was_true true h = refl
was_true false h = absurd (cc)

-- -- where a relocation goes can be had

-- an identifier is declared, and the function of a label has a definition
abbrev pub IsHad : LinkState → RelocationTarget → Type 0
IsHad s (identifier id) = IsDeclared (length s.functions) (length s.objects) id
IsHad s (library text) = Unit {0}
IsHad s (known symbol) = Unit {0}
IsHad s (label function offset) = (function < length s.functions) × (is_defined s (Func function) ≡ true)

some_within : {A : Type 0} (xs : List A) (k : ℕ) (o : Option A) → slice_get xs k ≡ o → is_some o ≡ true → k < length xs
some_within xs k None e h = absurd (cc)
some_within xs k (Some x) e h = slice_get_within xs k x e

user_had : (settings : Settings) (s : LinkState) (namespace index : ℕ) (b c : Bool) → (namespace == 0) ≡ b → cond b (is_some (slice_get s.functions index)) (c && is_some (slice_get s.objects index)) ≡ true → IsHad s (target_of settings s (User namespace index))
user_had settings s namespace index true c e h = rw e (some_within s.functions index (slice_get s.functions index) refl h)
user_had settings s namespace index false true e h = rw e (some_within s.objects index (slice_get s.objects index) refl h)
user_had settings s namespace index false false e h = absurd (cc)

-- what is declared under a name
found_declared : (s : LinkState) (name : List ℕ) (f d : Option ℕ) → position_from (is_function_named name) 0 s.functions ≡ f → position_from (is_data_named name) 0 s.objects ≡ d
    → IsHad s (library_target name (option_or (option_map (λ n. Func n) f) (option_map (λ n. Data n) d)))
found_declared s name (Some k) d e g = position-below (is_function_named name) s.functions k e
found_declared s name None (Some k) e g = position-below (is_data_named name) s.objects k g
found_declared s name None None e g = tt

label_had : (s : LinkState) (function offset : ℕ) (row : Option FunctionRow) → slice_get s.functions function ≡ row → label_cause s function offset row ≡ None → (function < length s.functions) × (is_defined s (Func function) ≡ true)
label_had s function offset None e h = absurd (cc)
label_had s function offset (Some row) e h = (slice_get_within s.functions function row e, was_true (is_defined s (Func function)) (not_refused (not (is_defined s (Func function))) (missing_definition (function_name row function)) h))

-- a target without a cause can be had
pub target_had : (settings : Settings) (s : LinkState) (t : ModuleRelocTarget) → target_cause s t ≡ None → IsHad s (target_of settings s t)
target_had settings s (User namespace index) h =
    user_had settings s namespace index (namespace == 0) (namespace == 1) refl (was_true (is_declared s namespace index) (not_refused (not (is_declared s namespace index)) (undeclared (user_text namespace index)) h))
target_had settings s (LibCall call) h = found_declared s (library_text settings call) _ _ refl refl
target_had settings s (KnownSymbol symbol) h = tt
target_had settings s (FunctionOffset function offset) h = label_had s function offset (slice_get s.functions function) refl h

relocs_had : (settings : Settings) (s : LinkState) (rs : List ModuleReloc) → first_bad_target s rs ≡ None → All (IsHad s) (targets_in settings s rs)
relocs_had settings s [] h = All-nil (IsHad s)
relocs_had settings s (r ∷ rs) h =
    let parts = causes_none (target_cause s r.name) (first_bad_target s rs) h in
    All-cons (IsHad s) (target_of settings s r.name) (targets_in settings s rs) (target_had settings s r.name parts.0) (relocs_had settings s rs parts.1)

-- where no reference is bad, each target can be had
pub targets_had : (settings : Settings) (s : LinkState) (ds : List Definition) → first_bad_target s (flat_map (λ (d : Definition). d.relocs) ds) ≡ None → All (IsHad s) (targets settings s ds)
targets_had settings s [] h = All-nil (IsHad s)
targets_had settings s (d ∷ ds) h =
    let parts = causes_none (first_bad_target s d.relocs) (first_bad_target s (flat_map (λ (x : Definition). x.relocs) ds)) (sym (bad_both s d.relocs (flat_map (λ (x : Definition). x.relocs) ds)) ∙ h) in
    All-append (IsHad s) (targets_in settings s d.relocs) (targets settings s ds) (relocs_had settings s d.relocs parts.0) (targets_had settings s ds parts.1)

-- an identifier that a relocation goes to is declared
pub identifier_had : (settings : Settings) (s : LinkState) (t : ModuleRelocTarget) (r : ResolvedTarget) (id : FuncOrDataId) → r ≡ Identifier id → resolved_target settings r ≡ target_of settings s t → target_cause s t ≡ None → IsDeclared (length s.functions) (length s.objects) id
identifier_had settings s t r id is e h = subst (IsHad s) (sym e ∙ ap (resolved_target settings) is) (target_had settings s t h)

-- -- and is among what is added

filter_all_from : (P : RelocationTarget → Type 0) (t : RelocationTarget) (ts : List RelocationTarget) (b : Bool) → P t → All P ts → All P (cond b (t ∷ ts) ts)
filter_all_from P t ts true here all = All-cons P t ts here all
filter_all_from P t ts false here all = all

filter_all : (P : RelocationTarget → Type 0) (ts : List RelocationTarget) → All P ts → All P (filter is_extra ts)
filter_all P [] all = all
filter_all P (t ∷ ts) all = filter_all_from P t (filter is_extra ts) (is_extra t) (All-head P t ts all) (filter_all P ts (All-tail P t ts all))

once_all_end : (P : RelocationTarget → Type 0) (ts : List RelocationTarget) (t : RelocationTarget) (b : Bool) → P t → All P ts → All P (ts ++ cond b [] (t ∷ []))
once_all_end P ts t true here all = rw append-nil all
once_all_end P ts t false here all = All-append P ts (t ∷ []) all (All-cons P t [] here (All-nil P))

once_all_none : (P : RelocationTarget → Type 0) → All P [] → All P (once_each is_same_target [])
unfolding Rattle.ir_core.specs.Moments.moments
once_all_none P all = all

-- what holds of each target holds of each once
once_all : (P : RelocationTarget → Type 0) (ts : List RelocationTarget) → All P ts → All P (once_each is_same_target ts)
once_all P =
    by_end (λ (ts : List RelocationTarget). All P ts → All P (once_each is_same_target ts)) (once_all_none P)
    (λ ts t before all. (rw (once_each-end is_same_target ts t) (once_all_end P (once_each is_same_target ts) t (list_any (is_same_target t) ts) (All-last P ts t all) (before (All-front P ts t all)))))

among_from : (t x : RelocationTarget) (ts : List RelocationTarget) (b : Bool) → list_any (is_same_target t) ts ≡ true → list_any (is_same_target t) (cond b (x ∷ ts) ts) ≡ true
among_from t x ts true h = or_true (is_same_target t x) (list_any (is_same_target t) ts) h
among_from t x ts false h = h

-- a target that adds is among those that add
abbrev IsAmong : List RelocationTarget → RelocationTarget → Type 0
IsAmong ts t = is_extra t ≡ true → list_any (is_same_target t) (filter is_extra ts) ≡ true

among_self : (t : RelocationTarget) (ts : List RelocationTarget) → IsAmong (t ∷ ts) t
among_self t ts h = rw (h, same_self t h) refl

among_all : (ts : List RelocationTarget) → All (IsAmong ts) ts
among_all [] = All-nil (IsAmong [])
among_all (t ∷ ts) =
    All-cons (IsAmong (t ∷ ts)) t ts (among_self t ts) (All-weaker (IsAmong ts) (IsAmong (t ∷ ts)) (λ x h e. among_from x t (filter is_extra ts) (is_extra t) (h e)) ts (among_all ts))

-- a target that can be had, and that is among what is added where it adds
abbrev pub IsReached : Settings → LinkState → List Extra → RelocationTarget → Type 0
IsReached settings s es t = IsHad s t × (is_extra t ≡ true → list_any (is_same_target t) (map (extra_target settings) es) ≡ true)

both_reached : (settings : Settings) (s : LinkState) (es : List Extra) (all ts : List RelocationTarget) → map (extra_target settings) es ≡ once_each is_same_target (filter is_extra all) → All (IsHad s) ts → All (IsAmong all) ts → All (IsReached settings s es) ts
both_reached settings s es all [] e a b = All-nil (IsReached settings s es)
both_reached settings s es all (t ∷ ts) e a b =
    All-cons (IsReached settings s es) t ts
    (All-head (IsHad s) t ts a, λ h. (ap (list_any (is_same_target t)) e ∙ once_any t (filter is_extra all) ∙ All-head (IsAmong all) t ts b h))
    (both_reached settings s es all ts e (All-tail (IsHad s) t ts a) (All-tail (IsAmong all) t ts b))

-- each target of the module is reached
pub all_reached : (settings : Settings) (s : LinkState) (es : List Extra) → AreExtras settings s es → first_bad_reference s ≡ None → All (IsReached settings s es) (targets settings s s.definitions)
all_reached settings s es h none =
    both_reached settings s es (targets settings s s.definitions) (targets settings s s.definitions) h.found (targets_had settings s s.definitions none) (among_all (targets settings s s.definitions))

pub unmapped : {A B : Type 0} (P : B → Type 0) (f : A → B) (xs : List A) → All P (map f xs) → All (λ x. P (f x)) xs
unmapped P f [] all = All-nil (λ x. P (f x))
unmapped P f (x ∷ xs) all = All-cons (λ y. P (f y)) x xs (All-head P (f x) (map f xs) all) (unmapped P f xs (All-tail P (f x) (map f xs) all))

-- what is added can be had
pub extras_had : (settings : Settings) (s : LinkState) (es : List Extra) → AreExtras settings s es → first_bad_reference s ≡ None → All (λ (e : Extra). IsHad s (extra_target settings e)) es
extras_had settings s es h none =
    let ts : List RelocationTarget = targets settings s s.definitions in
    unmapped (IsHad s) (extra_target settings) es (subst (All (IsHad s)) (sym h.found) (once_all (IsHad s) (filter is_extra ts) (filter_all (IsHad s) ts (targets_had settings s s.definitions none))))

split_all : {A : Type 0} (P : A → Type 0) (xs ys : List A) → All P (xs ++ ys) → All P xs × All P ys
split_all P [] ys all = (All-nil P, all)
split_all P (x ∷ xs) ys all =
    let rest = split_all P xs ys (All-tail P x (xs ++ ys) all) in
    (All-cons P x xs (All-head P x (xs ++ ys) all) rest.0, rest.1)

-- the targets of each definition are reached
pub each_reached : (settings : Settings) (s : LinkState) (P : RelocationTarget → Type 0) (ds : List Definition) → All P (targets settings s ds) → All (λ (d : Definition). All (λ (r : ModuleReloc). P (target_of settings s r.name)) d.relocs) ds
each_reached settings s P [] all = All-nil (λ (d : Definition). All (λ (r : ModuleReloc). P (target_of settings s r.name)) d.relocs)
each_reached settings s P (d ∷ ds) all =
    let parts = split_all P (targets_in settings s d.relocs) (targets settings s ds) all in
    All-cons (λ (x : Definition). All (λ (r : ModuleReloc). P (target_of settings s r.name)) x.relocs) d ds (unmapped P (λ (r : ModuleReloc). target_of settings s r.name) d.relocs parts.0) (each_reached settings s P ds parts.1)
