-- Why a module can't be finished, one after the other.
use Rattle.std.proofs.Common.{◌≡◌, ℕ, zero, suc, ◌+◌, ◌<◌, ◌≤◌, ◌++◌, ◌∷◌, List, [], length, map, drop, get_or, Option, Some, None, refl, ap, sym, ◌∙◌}
use Rattle.std.specs.Prelude.{slice_get, option_and_then, flat_map}
use Rattle.std.specs.Option.{option_or}
use Rattle.std.specs.List.{All, enumerate_from}
use Rattle.std.proofs.lemmas.List.{drop_all, map-append}
use Rattle.std.proofs.lemmas.List.Elements.{All-nil, All-cons}
use Rattle.std.proofs.lemmas.Option.{get_or_from_slice_get}
use Rattle.cranelift_object.proofs.FirstCause.{drop_step, row_at}
use Rattle.cranelift_module.specs.declared.reloc.ModuleReloc.{ModuleReloc}
use Rattle.cranelift_module.specs.Definitions.{Definition}
use Rattle.cranelift_module.specs.LinkState.{LinkState}
use Rattle.cranelift_module.specs.Refusal.{Refusal, first_cause}
use Rattle.cranelift_object.specs.EndCause.{end_cause, missing_function, missing_data, target_cause, first_missing_function, first_missing_data, first_bad_reference, first_bad_target, HasTarget}

first_of_both : (xs ys : List (Option Refusal)) → first_cause (xs ++ ys) ≡ option_or (first_cause xs) (first_cause ys)
first_of_both [] ys = refl
first_of_both (None ∷ xs) ys = first_of_both xs ys
first_of_both (Some r ∷ xs) ys = refl

causes_of_three : (a b c : Option Refusal) → option_or (option_or a b) c ≡ option_or a (option_or b c)
causes_of_three None b c = refl
causes_of_three (Some x) b c = refl

-- a function, then a data object, can want a definition, and then a relocation a target
pub end_parts : (s : LinkState) → end_cause s ≡ option_or (first_missing_function s) (option_or (first_missing_data s) (first_bad_reference s))
unfolding end_cause
end_parts s =
    let functions : List (Option Refusal) = map (missing_function s) (enumerate_from 0 s.functions) in
    let references : List (Option Refusal) = map (λ (r : ModuleReloc). target_cause s r.name) (flat_map (λ (d : Definition). d.relocs) s.definitions) in
    let objects : List (Option Refusal) = map (missing_data s) (enumerate_from 0 s.objects) in
    first_of_both (functions ++ objects) references ∙ ap (λ (cause : Option Refusal). option_or cause (first_cause references)) (first_of_both functions objects)
    ∙ causes_of_three (first_missing_function s) (first_missing_data s) (first_bad_reference s)

second_none : (a b : Option Refusal) → option_or a b ≡ None → b ≡ None
second_none None b h = h
second_none (Some x) b h = absurd (cc)

first_none : (a b : Option Refusal) → option_or a b ≡ None → a ≡ None
first_none None b h = refl
first_none (Some x) b h = absurd (cc)

-- of two causes neither holds
pub causes_none : (a b : Option Refusal) → option_or a b ≡ None → (a ≡ None) × (b ≡ None)
causes_none a b h = (first_none a b h, second_none a b h)

-- at the end no relocation wants a target
pub end_targets : (s : LinkState) → end_cause s ≡ None → first_bad_reference s ≡ None
end_targets s h = second_none (first_missing_data s) (first_bad_reference s) (second_none (first_missing_function s) (option_or (first_missing_data s) (first_bad_reference s)) (sym (end_parts s) ∙ h))

-- the relocations of one definition, and those of the others
pub bad_both : (s : LinkState) (xs ys : List ModuleReloc) → first_bad_target s (xs ++ ys) ≡ option_or (first_bad_target s xs) (first_bad_target s ys)
bad_both s xs ys = ap first_cause (map-append (λ (r : ModuleReloc). target_cause s r.name) xs ys) ∙ first_of_both (map (λ (r : ModuleReloc). target_cause s r.name) xs) (map (λ (r : ModuleReloc). target_cause s r.name) ys)

pub references_step : (s : LinkState) (ds : List Definition) (i : ℕ) (d : Definition) → i < length ds → d ≡ get_or ds i d
    → first_bad_target s (flat_map (λ (x : Definition). x.relocs) (drop i ds)) ≡ option_or (first_bad_target s d.relocs) (first_bad_target s (flat_map (λ (x : Definition). x.relocs) (drop (i + 1) ds)))
references_step s ds i d below at =
    ap (λ (rest : List Definition). first_bad_target s (flat_map (λ (x : Definition). x.relocs) rest)) (drop_step ds i d below at) ∙ bad_both s d.relocs (flat_map (λ (x : Definition). x.relocs) (drop (i + 1) ds))

pub references_end : (s : LinkState) (ds : List Definition) (i : ℕ) → length ds ≤ i → first_bad_target s (flat_map (λ (x : Definition). x.relocs) (drop i ds)) ≡ None
references_end s ds i h = rw drop_all refl

all_had : (s : LinkState) (rs : List ModuleReloc) → first_bad_target s rs ≡ None → All (HasTarget s) rs
all_had s [] h = All-nil (HasTarget s)
all_had s (r ∷ rs) h = All-cons (HasTarget s) r rs (first_none (target_cause s r.name) (first_bad_target s rs) h) (all_had s rs (second_none (target_cause s r.name) (first_bad_target s rs) h))

good_targets : (s : LinkState) (ds : List Definition) (j : ℕ) (d : Definition) → slice_get ds j ≡ Some d → first_bad_target s (flat_map (λ (x : Definition). x.relocs) ds) ≡ None → first_bad_target s d.relocs ≡ None
good_targets s [] j d at h = absurd (cc)
good_targets s (e ∷ ds) zero d at h =
    let same : e ≡ d = cc in
    ap (λ (x : Definition). first_bad_target s x.relocs) (sym same) ∙ first_none (first_bad_target s e.relocs) (first_bad_target s (flat_map (λ (x : Definition). x.relocs) ds)) (sym (bad_both s e.relocs (flat_map (λ (x : Definition). x.relocs) ds)) ∙ h)
good_targets s (e ∷ ds) (suc j) d at h =
    good_targets s ds j d at (second_none (first_bad_target s e.relocs) (first_bad_target s (flat_map (λ (x : Definition). x.relocs) ds)) (sym (bad_both s e.relocs (flat_map (λ (x : Definition). x.relocs) ds)) ∙ h))

-- where no reference is bad, the targets of a definition can be had
pub definition_had : (s : LinkState) (j : ℕ) (d : Definition) → slice_get s.definitions j ≡ Some d → first_bad_reference s ≡ None → All (HasTarget s) d.relocs
definition_had s j d at h = all_had s d.relocs (good_targets s s.definitions j d at h)

-- the cause of the row at a place, and of those behind it
pub missing_step : {A : Type 0} (missing : ℕ × A → Option Refusal) (rows : List A) (i : ℕ) → i < length rows
    → first_cause (map missing (enumerate_from i (drop i rows))) ≡ option_or (option_and_then (λ row. missing (i, row)) (slice_get rows i)) (first_cause (map missing (enumerate_from (i + 1) (drop (i + 1) rows))))
missing_step missing rows i below =
    let row = row_at rows i below in
    rw (drop_step rows i row.0 below (sym (get_or_from_slice_get rows i row.0 row.0 row.1)), row.1) refl

pub missing_end : {A : Type 0} (missing : ℕ × A → Option Refusal) (rows : List A) (i : ℕ) → length rows ≤ i → first_cause (map missing (enumerate_from i (drop i rows))) ≡ None
missing_end missing rows i h = rw drop_all refl
