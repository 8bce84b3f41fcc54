-- Slices are extracted from a file that holds them.
use Rattle.std.proofs.Common.{◌≡◌, ℕ, zero, suc, ◌+◌, ◌-◌, ◌*◌, ◌/◌, ◌<◌, ◌≤◌, inl, inr, min, Bool, true, false, cond, List, [], ◌∷◌, length, map, zip, find, Option, Some, None, option_map, option_and_then, refl, ap, sym, ◌∙◌, arith, subst, if◌then◌else◌}
use Rattle.std.specs.Prelude.{nat_le}
use Rattle.std.specs.List.{AllByRecursion, range_with_len}
use Rattle.std.proofs.lemmas.Bool.{le-leb}
use Rattle.std.proofs.lemmas.List.{length-map}
use Rattle.byte_core.specs.Number.{bytes_at}
use Rattle.goblin_mach.specs.Architectures.{pair_named}
use Rattle.goblin_mach.specs.FatTable.{fat_table, fat_arches, arches_from, arch_at}
use Rattle.goblin_mach.specs.declared.fat.FatArch.{FatArch}
use Rattle.image_read.specs.FatFile.{fat_count, fat_entry, has_wide_entries, fat_table_end}
use Rattle.image_read.specs.FatImage.{FatSliceData, FatImageData, IsFat, slice_data, fat_image_of}
use Rattle.fat_macho.specs.FatHolds.{slice_at, image_with, HoldsAt, HoldsOrdered}
use Rattle.fat_macho.specs.Laws.{ExtractGivesSlices}
use Rattle.fat_macho.specs.Layout.{fat_layout, sizes_of}
use Rattle.fat_macho.specs.Reader.{range_of, is_entry_of, extract_of}
use Rattle.fat_macho.specs.Slices.{Shape, Slice, shape_of, is_same_arch, slice_before, in_order_by, in_order}
use Rattle.fat_macho.proofs.InputLaws.{share_turn}
use Rattle.fat_macho.proofs.LayoutLaws.{length-places}
use Rattle.fat_macho.proofs.OrderLaws.{Differ, false_true}
use Rattle.fat_macho.proofs.RankLaws.{pairs_in_order}
use Rattle.fat_macho.proofs.RemoveLaws.{arch_of_both}
use Rattle.fat_macho.proofs.SortLaws.{IsOf, AreApart, apart, all_of, got_of, permuted_of, in_order_permutes}
use Rattle.fat_macho.proofs.StepLaws.{layout_fits}

-- -- the slice of an architecture

abbrev is_data_of : ℕ × ℕ → FatSliceData → Bool
is_data_of pair d = is_same_arch pair.0 pair.1 d.cputype d.cpusubtype

abbrev bytes_found : ℕ × ℕ → List FatSliceData → Option (List ℕ)
bytes_found pair ds = option_map (λ (d : FatSliceData). d.bytes) (find (is_data_of pair) ds)

found_here : (pair : ℕ × ℕ) (d : FatSliceData) (ds : List FatSliceData) → is_data_of pair d ≡ true → bytes_found pair (d ∷ ds) ≡ Some d.bytes
found_here pair d ds e = ap (λ t. option_map (λ (x : FatSliceData). x.bytes) (cond t (Some d) (find (is_data_of pair) ds))) e

found_behind : (pair : ℕ × ℕ) (d : FatSliceData) (ds : List FatSliceData) → is_data_of pair d ≡ false → bytes_found pair (d ∷ ds) ≡ bytes_found pair ds
found_behind pair d ds e = ap (λ t. option_map (λ (x : FatSliceData). x.bytes) (cond t (Some d) (find (is_data_of pair) ds))) e

other_by : (pair : ℕ × ℕ) (x s : Slice) (t : Bool) → is_same_arch pair.0 pair.1 x.cputype x.cpusubtype ≡ t → is_same_arch pair.0 pair.1 s.cputype s.cpusubtype ≡ true → Differ (shape_of x) (shape_of s) → is_same_arch pair.0 pair.1 x.cputype x.cpusubtype ≡ false
other_by pair x s false e h d = e
other_by pair x s true e h d = absurd (false_true (sym d ∙ arch_of_both pair.0 pair.1 x.cputype x.cpusubtype s.cputype s.cpusubtype e h))

slice_found : (pair : ℕ × ℕ) (align : ℕ) (s : Slice) (slices : List Slice) (offsets : List ℕ) → length offsets ≡ length slices → AreApart slices → IsOf slices s → is_same_arch pair.0 pair.1 s.cputype s.cpusubtype ≡ true
    → bytes_found pair (map (slice_at align) (zip slices offsets)) ≡ Some s.bytes
slice_found pair align s [] offsets len h is e = absurd is
slice_found pair align s (x ∷ slices) [] len h is e = absurd (omega (arith, len))
slice_found pair align s (x ∷ slices) (o ∷ offsets) len h (inl same) e =
    found_here pair (slice_at align (x, o)) (map (slice_at align) (zip slices offsets)) (ap (λ (z : Slice). is_same_arch pair.0 pair.1 z.cputype z.cpusubtype) same ∙ e) ∙ ap (λ (z : Slice). Some z.bytes) same
slice_found pair align s (x ∷ slices) (o ∷ offsets) len h (inr is) e =
    let d : Differ (shape_of x) (shape_of s) = all_of (λ t. Differ (shape_of x) (shape_of t)) slices s h.0 is in
    found_behind pair (slice_at align (x, o)) (map (slice_at align) (zip slices offsets)) (other_by pair x s (is_same_arch pair.0 pair.1 x.cputype x.cpusubtype) refl e d)
    ∙ slice_found pair align s slices offsets (omega (arith, len)) h.1 is e

-- -- the entry of an architecture

-- an entry is read as the slice is
record SeesEntry (b : List ℕ) (k : ℕ) : Type 0 where
  cputype : (arch_at b k).cputype ≡ (slice_data b k).cputype
  cpusubtype : (arch_at b k).cpusubtype ≡ (slice_data b k).cpusubtype
  range : range_of b (arch_at b k) ≡ Some (slice_data b k).bytes

inside_range : (b : List ℕ) (offset size : ℕ) → offset + size ≤ length b → (if nat_le (offset + size) (length b) then Some (bytes_at b offset size) else None) ≡ Some (bytes_at b offset size)
inside_range b offset size h = ap (λ t. if t then Some (bytes_at b offset size) else None) (le-leb (offset + size) (length b) h)

narrow_range : (b : List ℕ) (k : ℕ) → (fat_entry b false k).offset + (fat_entry b false k).size ≤ length b → range_of b (arch_at b k) ≡ Some (bytes_at b (fat_entry b false k).offset (fat_entry b false k).size)
unfolding fat_entry arch_at
narrow_range b k h = inside_range b _ _ h

narrow_cputype : (b : List ℕ) (k : ℕ) → (arch_at b k).cputype ≡ (fat_entry b false k).cputype
unfolding fat_entry arch_at
narrow_cputype b k = refl

narrow_cpusubtype : (b : List ℕ) (k : ℕ) → (arch_at b k).cpusubtype ≡ (fat_entry b false k).cpusubtype
unfolding fat_entry arch_at
narrow_cpusubtype b k = refl

sees_entry : (b : List ℕ) (k : ℕ) → has_wide_entries b ≡ false → (fat_entry b (has_wide_entries b) k).offset + (fat_entry b (has_wide_entries b) k).size ≤ length b → SeesEntry b k
sees_entry b k w h =
    record {
      cputype = narrow_cputype b k ∙ ap (λ x. (fat_entry b x k).cputype) (sym w);
      cpusubtype = narrow_cpusubtype b k ∙ ap (λ x. (fat_entry b x k).cpusubtype) (sym w);
      range = narrow_range b k (subst (λ x. (fat_entry b x k).offset + (fat_entry b x k).size ≤ length b) w h) ∙ ap (λ x. Some (bytes_at b (fat_entry b x k).offset (fat_entry b x k).size)) (sym w);
    }

abbrev entry_found : List ℕ → ℕ × ℕ → List FatArch → Option (List ℕ)
entry_found b pair entries = option_and_then (range_of b) (find (is_entry_of pair) entries)

same_test : (b : List ℕ) (pair : ℕ × ℕ) (k : ℕ) → SeesEntry b k → is_entry_of pair (arch_at b k) ≡ is_data_of pair (slice_data b k)
same_test b pair k h = ap (λ x. is_same_arch pair.0 pair.1 x (arch_at b k).cpusubtype) h.cputype ∙ ap (is_same_arch pair.0 pair.1 (slice_data b k).cputype) h.cpusubtype

entry_by : (b : List ℕ) (pair : ℕ × ℕ) (k : ℕ) (ks : List ℕ) (t : Bool) → range_of b (arch_at b k) ≡ Some (slice_data b k).bytes → entry_found b pair (map (arch_at b) ks) ≡ bytes_found pair (map (slice_data b) ks)
    → option_and_then (range_of b) (cond t (Some (arch_at b k)) (find (is_entry_of pair) (map (arch_at b) ks))) ≡ option_map (λ (d : FatSliceData). d.bytes) (cond t (Some (slice_data b k)) (find (is_data_of pair) (map (slice_data b) ks)))
entry_by b pair k ks true range rest = range
entry_by b pair k ks false range rest = rest

entries_found : (b : List ℕ) (pair : ℕ × ℕ) (ks : List ℕ) → AllByRecursion (SeesEntry b) ks → entry_found b pair (map (arch_at b) ks) ≡ bytes_found pair (map (slice_data b) ks)
entries_found b pair [] all = refl
entries_found b pair (k ∷ ks) all =
    ap (λ t. option_and_then (range_of b) (cond t (Some (arch_at b k)) (find (is_entry_of pair) (map (arch_at b) ks)))) (same_test b pair k all.0)
    ∙ entry_by b pair k ks (is_data_of pair (slice_data b k)) all.0.range (entries_found b pair ks all.1)

-- -- all entries of a file

in_range : (P : ℕ → Type 0) (m n : ℕ) → ((k : ℕ) → k < m + n → P k) → AllByRecursion P (range_with_len m n)
in_range P m zero each = tt
in_range P m (suc n) each = (each m (omega arith), in_range P (m + 1) n (λ k h. each k (omega (arith, h))))

-- the file has all entries of its table whole
all_whole : (n len : ℕ) → 8 + 20 * n ≤ len → min n ((len - 8) / 20) - 0 ≡ n
all_whole n len h = grind (arith)

arches_are : (b : List ℕ) → fat_table_end false (fat_count b) ≤ length b → fat_arches (fat_table b) ≡ map (arch_at b) (range_with_len 0 (fat_count b))
unfolding arches_from
arches_are b h = ap (λ n. map (arch_at b) (range_with_len 0 n)) (all_whole (fat_count b) (length b) h)

-- what is extracted by a name is among the slices that are read
extracted : (b name : List ℕ) (pair : ℕ × ℕ) → IsFat b → has_wide_entries b ≡ false → pair_named name ≡ Some pair → extract_of (fat_table b) name ≡ bytes_found pair (map (slice_data b) (range_with_len 0 (fat_count b)))
unfolding extract_of
extracted b name pair fat w e =
    let table : fat_table_end false (fat_count b) ≤ length b = subst (λ x. fat_table_end x (fat_count b) ≤ length b) w fat.table in
    let sees : AllByRecursion (SeesEntry b) (range_with_len 0 (fat_count b)) = in_range (SeesEntry b) 0 (fat_count b) (λ k h. sees_entry b k w (fat.slices k (omega (arith, h)))) in
    ap (option_and_then (λ p. option_and_then (range_of b) (find (is_entry_of p) (fat_arches (fat_table b))))) e
    ∙ ap (λ entries. option_and_then (range_of b) (find (is_entry_of pair) entries)) (arches_are b table)
    ∙ entries_found b pair (range_with_len 0 (fat_count b)) sees

pub image_slices : (b : List ℕ) (i : FatImageData) → i ≡ fat_image_of b → i.slices ≡ map (slice_data b) (range_with_len 0 (fat_count b))
unfolding fat_image_of
image_slices b i e = ap (λ (x : FatImageData). x.slices) e

pub image_wide : (b : List ℕ) (i : FatImageData) → i ≡ fat_image_of b → i.is_fat64 ≡ has_wide_entries b
unfolding fat_image_of
image_wide b i e = ap (λ (x : FatImageData). x.is_fat64) e

pub length-offsets : (shapes : List Shape) → length (fat_layout shapes).offsets ≡ length shapes
length-offsets shapes =
    let l = fat_layout shapes in
    ap length (layout_fits shapes).offsets ∙ length-places l.align (fat_table_end l.wide (length shapes)) (sizes_of shapes) ∙ length-map shapes (λ (a : Shape). a.size)

held_extracts : (b name : List ℕ) (slices : List Slice) (pair : ℕ × ℕ) (s : Slice) → AreApart slices → HoldsAt b slices (fat_layout (map shape_of slices)) → (fat_layout (map shape_of slices)).wide ≡ false
    → IsOf slices s → pair_named name ≡ Some pair → is_same_arch pair.0 pair.1 s.cputype s.cpusubtype ≡ true → extract_of (fat_table b) name ≡ Some s.bytes
held_extracts b name slices pair s h holds narrow is e same =
    let layout = fat_layout (map shape_of slices) in
    let w : has_wide_entries b ≡ false = sym (image_wide b (image_with slices layout) holds.image.rows) ∙ narrow in
    extracted b name pair holds.image.file w e
    ∙ ap (bytes_found pair) (sym (image_slices b (image_with slices layout) holds.image.rows))
    ∙ slice_found pair layout.align s slices layout.offsets (length-offsets (map shape_of slices) ∙ length-map slices shape_of) h is same

ordered_extracts : (b name : List ℕ) (slices : List Slice) (pair : ℕ × ℕ) (s : Slice) → AreApart slices → HoldsOrdered b slices → (fat_layout (map shape_of slices)).wide ≡ false
    → IsOf slices s → pair_named name ≡ Some pair → is_same_arch pair.0 pair.1 s.cputype s.cpusubtype ≡ true → extract_of (fat_table b) name ≡ Some s.bytes
ordered_extracts b name [] pair s h holds narrow is e same = absurd is
ordered_extracts b name (t ∷ slices) pair s h holds narrow is e same = held_extracts b name (t ∷ slices) pair s h holds narrow is e same

pub extract-gives-slices : ExtractGivesSlices
unfolding in_order
extract-gives-slices b name slices k cputype cpusubtype s d holds narrow at e same =
    let turn : (x y : Slice) → Differ (shape_of x) (shape_of y) → Differ (shape_of y) (shape_of x) = λ x y h. share_turn (shape_of y) (shape_of x) ∙ h in
    let sorted = in_order_by slice_before slices in
    let once : AreApart sorted = pairs_in_order (λ x y. Differ (shape_of x) (shape_of y)) slice_before slices turn (apart slices d) in
    let is : IsOf sorted s = all_of (IsOf sorted) slices s (permuted_of slices sorted (in_order_permutes slice_before slices)) (got_of slices k s at) in
    ordered_extracts b name sorted (cputype, cpusubtype) s once holds narrow is e same
