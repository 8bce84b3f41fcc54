-- Loops over the sections of an object.
use Rattle.std.proofs.Common.{◌≡◌, ℕ, ◌+◌, ◌*◌, ◌<◌, ◌≤◌, ◌==◌, List, [], ◌∷◌, ◌++◌, length, take, drop, get_or, map, refl, ap, sym, ◌∙◌, arith, Bool, true, false, not, Some, slice_get, ◌^◌, lit<, append-nil, take-append-drop}
use Rattle.std.specs.Prelude.{filter}
use Rattle.std.specs.Int.{next_multiple_of}
use Rattle.std.proofs.lemmas.List.{map-append}
use Rattle.std.proofs.Math.Dec.{eqb-suc-zero}
use Rattle.byte_core.specs.LaidOut.{Aligned, end_behind, end_of_aligned}
use Rattle.byte_core.proofs.LaidOut.{end_of_aligned-le, end_of_aligned-append}
use Rattle.byte_core.proofs.Standing.{length-rows}
use Rattle.byte_core.proofs.Lists.{item_take, filter_append}
use Rattle.object_core.specs.declared.relocation.Relocation.{Relocation}
use Rattle.object_core.specs.Object.{SectionData}
use Rattle.object_elf.specs.File.{relocation_row_bytes}
use Rattle.object_elf.specs.Writing.{contents_at, FitsRecord, FitRecords, record_by, record_bytes_by, records_at, has_relocations}
use Rattle.object_elf.proofs.Rows.{length-relocation_row_bytes}

filter_yes : (s : SectionData) → has_relocations s ≡ true → filter has_relocations (s ∷ []) ≡ s ∷ []
filter_yes s t = rw t refl

filter_no : (s : SectionData) → has_relocations s ≡ false → filter has_relocations (s ∷ []) ≡ []
filter_no s t = rw t refl

abbrev pub relocated : List ℕ → List SectionData → List Aligned
relocated rows sections = map (records_at rows) (filter has_relocations sections)

relocated_append : (rows : List ℕ) (xs : List SectionData) (s : SectionData) → relocated rows (xs ++ s ∷ []) ≡ relocated rows xs ++ relocated rows (s ∷ [])
relocated_append rows xs s = ap (map (records_at rows)) (filter_append has_relocations xs (s ∷ [])) ∙ map-append (records_at rows) (filter has_relocations xs) (filter has_relocations (s ∷ []))

-- a section without relocations adds nothing
pub relocated_passed : (rows : List ℕ) (xs : List SectionData) (i : ℕ) (s : SectionData) → i < length xs → s ≡ get_or xs i s → has_relocations s ≡ false → relocated rows (take (i + 1) xs) ≡ relocated rows (take i xs)
relocated_passed rows xs i s h e t =
    ap (relocated rows) (item_take xs i s h e) ∙ relocated_append rows (take i xs) s ∙ ap (λ l. relocated rows (take i xs) ++ map (records_at rows) l) (filter_no s t) ∙ append-nil (relocated rows (take i xs))

pub relocated_next : (rows : List ℕ) (xs : List SectionData) (i : ℕ) (s : SectionData) → i < length xs → s ≡ get_or xs i s → has_relocations s ≡ true → relocated rows (take (i + 1) xs) ≡ relocated rows (take i xs) ++ records_at rows s ∷ []
relocated_next rows xs i s h e t =
    ap (relocated rows) (item_take xs i s h e) ∙ relocated_append rows (take i xs) s ∙ ap (λ l. relocated rows (take i xs) ++ map (records_at rows) l) (filter_yes s t)

pub has_none : (s : SectionData) (b : Bool) (n : ℕ) → n ≡ length s.relocations → b ≡ (n == 0) → b ≡ true → has_relocations s ≡ false
has_none s b n e t h = ap not (ap (λ m. m == 0) (sym e) ∙ sym t ∙ h)

pub has_some : (s : SectionData) (b : Bool) (n : ℕ) → n ≡ length s.relocations → b ≡ (n == 0) → b ≡ false → has_relocations s ≡ true
has_some s b n e t h = ap not (ap (λ m. m == 0) (sym e) ∙ sym t ∙ h)

none_each : (rs : List Relocation) → not (length rs == 0) ≡ false → (k : ℕ) (r : Relocation) → slice_get rs k ≡ Some r → FitsRecord r
none_each [] e k r g = absurd (cc)
none_each (x ∷ rs) e k r g = let never : true ≡ false = sym (ap not (eqb-suc-zero (length rs))) ∙ e in absurd (cc)

none_long : (rs : List Relocation) → not (length rs == 0) ≡ false → 24 * length rs < 2 ^ 64
none_long [] e = lit< tt
none_long (x ∷ rs) e = let never : true ≡ false = sym (ap not (eqb-suc-zero (length rs))) ∙ e in absurd (cc)

pub fit_none : (s : SectionData) → has_relocations s ≡ false → FitRecords s.relocations
fit_none s e = record { size = none_long s.relocations e; each = none_each s.relocations e }

pub contents_next : (xs : List SectionData) (i : ℕ) (s : SectionData) → i < length xs → s ≡ get_or xs i s → map contents_at (take (i + 1) xs) ≡ map contents_at (take i xs) ++ contents_at s ∷ []
contents_next xs i s h e = ap (map contents_at) (item_take xs i s h e) ∙ map-append contents_at (take i xs) (s ∷ [])

-- ---- where the next contents end

pub end_more : (front next : List Aligned) (c : Aligned) (at end : ℕ) → next ≡ front ++ c ∷ [] → end ≡ end_of_aligned at front → end_behind end c ≡ end_of_aligned at next
unfolding end_of_aligned
end_more front next c at end e n = ap (λ p. end_behind p c) n ∙ sym (ap (end_of_aligned at) e ∙ end_of_aligned-append at front (c ∷ []))

front_within : (rows : List ℕ) (xs : List SectionData) (k at : ℕ) → end_of_aligned at (relocated rows (take k xs)) ≤ end_of_aligned at (relocated rows xs)
front_within rows xs k at =
    let whole : relocated rows xs ≡ relocated rows (take k xs) ++ relocated rows (drop k xs) =
    ap (relocated rows) (sym (take-append-drop k xs)) ∙ ap (map (records_at rows)) (filter_append has_relocations (take k xs) (drop k xs)) ∙ map-append (records_at rows) (filter has_relocations (take k xs)) (filter has_relocations (drop k xs)) in
    omega (arith, ap (end_of_aligned at) whole, end_of_aligned-append at (relocated rows (take k xs)) (relocated rows (drop k xs)), end_of_aligned-le (end_of_aligned at (relocated rows (take k xs))) (relocated rows (drop k xs)))

length-record_bytes_by : (rows : List ℕ) (rs : List Relocation) → length (record_bytes_by rows rs) ≡ 24 * length rs
length-record_bytes_by rows rs = length-rows (λ r. relocation_row_bytes (record_by rows r)) 24 (λ r. length-relocation_row_bytes (record_by rows r)) rs

pub records_end : (rows : List ℕ) (xs : List SectionData) (i : ℕ) (s : SectionData) (at end : ℕ) → i < length xs → s ≡ get_or xs i s → has_relocations s ≡ true → end ≡ end_of_aligned at (relocated rows (take i xs))
    → next_multiple_of end 8 + 24 * length s.relocations ≡ end_of_aligned at (relocated rows (take (i + 1) xs))
records_end rows xs i s at end h e t n =
    ap (λ m. next_multiple_of end 8 + m) (sym (length-record_bytes_by rows s.relocations)) ∙ end_more (relocated rows (take i xs)) (relocated rows (take (i + 1) xs)) (records_at rows s) at end (relocated_next rows xs i s h e t) n

pub records_room : (rows : List ℕ) (xs : List SectionData) (i : ℕ) (s : SectionData) (at end n : ℕ) → i < length xs → s ≡ get_or xs i s → has_relocations s ≡ true → end ≡ end_of_aligned at (relocated rows (take i xs))
    → end_of_aligned at (relocated rows xs) ≤ n → next_multiple_of end 8 + 24 * length s.relocations ≤ n
records_room rows xs i s at end n h e t same room = omega (arith, records_end rows xs i s at end h e t same, front_within rows xs (i + 1) at)

pub records_front : (rows : List ℕ) (xs : List SectionData) (i at end n : ℕ) → end ≡ end_of_aligned at (relocated rows (take i xs)) → end_of_aligned at (relocated rows xs) ≤ n → end ≤ n
records_front rows xs i at end n same room = omega (arith, front_within rows xs i at)
