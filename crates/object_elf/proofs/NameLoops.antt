-- Loops over the names of an object.
use Rattle.std.proofs.Common.{◌≡◌, ℕ, ◌+◌, List, ◌∷◌, ◌++◌, length, drop, map, ap, sym, ◌∙◌, Some, slice_get, true, false, refl}
use Rattle.std.specs.Prelude.{filter, flat_map, sum_by}
use Rattle.std.proofs.lemmas.List.Sums.{sum_by-cons}
use Rattle.std.proofs.lemmas.Option.{get_or_from_slice_get}
use Rattle.byte_core.proofs.Lists.{get_within, item_drop, flat_more}
use Rattle.byte_core.specs.Strings.{with_zero}
use Rattle.object_core.specs.Object.{SectionData}
use Rattle.object_elf.specs.Writing.{own_name, own_name_size, record_name_size, has_relocations}

-- the element of a place is the first that is left there
pub get_drop : {X : Type 0} (xs : List X) (k : ℕ) (x : X) → slice_get xs k ≡ Some x → drop k xs ≡ x ∷ drop (k + 1) xs
get_drop xs k x e = item_drop xs k x (get_within xs k x e) (sym (get_or_from_slice_get xs k x x e))

-- one more name is written
pub name_more : (out new all text name : List ℕ) (left rest : List (List ℕ)) → left ≡ name ∷ rest → text ≡ name → new ≡ out ++ with_zero text → out ++ flat_map with_zero left ≡ all → new ++ flat_map with_zero rest ≡ all
name_more out new all text name left rest e same n a = flat_more with_zero name left rest out new all e (n ∙ ap (λ l. out ++ with_zero l) same) a

-- no name is written
pub names_passed : (out all : List ℕ) (left rest : List (List ℕ)) → left ≡ rest → out ++ flat_map with_zero left ≡ all → out ++ flat_map with_zero rest ≡ all
names_passed out all left rest e a = rw e at a

-- ---- the sections of the object

pub own_next : (xs : List SectionData) (k : ℕ) (s : SectionData) → slice_get xs k ≡ Some s → map own_name (drop k xs) ≡ own_name s ∷ map own_name (drop (k + 1) xs)
own_next xs k s e = ap (map own_name) (get_drop xs k s e)

pub own_size_next : (xs : List SectionData) (k : ℕ) (s : SectionData) → slice_get xs k ≡ Some s → sum_by own_name_size (drop k xs) ≡ length s.name + 1 + sum_by own_name_size (drop (k + 1) xs)
own_size_next xs k s e = ap (sum_by own_name_size) (get_drop xs k s e) ∙ sum_by-cons own_name_size s (drop (k + 1) xs)

-- ---- sections that have relocations

filter_first : (s : SectionData) (xs : List SectionData) → has_relocations s ≡ true → filter has_relocations (s ∷ xs) ≡ s ∷ filter has_relocations xs
filter_first s xs t = rw t refl

pub relocated_left : (xs : List SectionData) (k : ℕ) (s : SectionData) → slice_get xs k ≡ Some s → has_relocations s ≡ true → filter has_relocations (drop k xs) ≡ s ∷ filter has_relocations (drop (k + 1) xs)
relocated_left xs k s e t = ap (filter has_relocations) (get_drop xs k s e) ∙ filter_first s (drop (k + 1) xs) t

filter_past : (s : SectionData) (xs : List SectionData) → has_relocations s ≡ false → filter has_relocations (s ∷ xs) ≡ filter has_relocations xs
filter_past s xs t = rw t refl

pub relocated_past : (xs : List SectionData) (k : ℕ) (s : SectionData) → slice_get xs k ≡ Some s → has_relocations s ≡ false → filter has_relocations (drop k xs) ≡ filter has_relocations (drop (k + 1) xs)
relocated_past xs k s e t = ap (filter has_relocations) (get_drop xs k s e) ∙ filter_past s (drop (k + 1) xs) t

pub record_size_next : (xs : List SectionData) (k : ℕ) (s : SectionData) → slice_get xs k ≡ Some s → has_relocations s ≡ true
    → sum_by record_name_size (filter has_relocations (drop k xs)) ≡ length s.name + 6 + sum_by record_name_size (filter has_relocations (drop (k + 1) xs))
record_size_next xs k s e t = ap (sum_by record_name_size) (relocated_left xs k s e t) ∙ sum_by-cons record_name_size s (filter has_relocations (drop (k + 1) xs))
