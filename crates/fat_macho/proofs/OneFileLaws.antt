-- Slices have one file.
use Rattle.std.proofs.Common.{◌≡◌, ℕ, zero, suc, ◌+◌, ◌-◌, ◌<◌, ◌≤◌, ◌==◌, ◌⊎◌, inl, inr, Bool, true, false, List, [], ◌∷◌, length, map, zip, take, drop, reverse, replicate, slice_get, Some, refl, ap, sym, ◌∙◌, arith, subst, if◌then◌else◌}
use Rattle.std.specs.Int.{next_multiple_of}
use Rattle.std.specs.List.{All, range_with_len}
use Rattle.std.proofs.lemmas.List.{length-map, length-take, length-drop, length-reverse, reverse-reverse}
use Rattle.std.proofs.lemmas.List.Elements.{All-take, All-drop}
use Rattle.byte_core.specs.Number.{bytes_at, big_number_at}
use Rattle.byte_core.proofs.Agreeing.{AreFiles, Agree, agree_none, agree_all, agree_at, agree_bytes, agree_told, one_list}
use Rattle.image_read.specs.FatFile.{FatEntry, fat_magic, fat_count, has_wide_entries, fat_table_end, narrow_entry_at, wide_entry_at, fat_entry}
use Rattle.image_read.specs.FatImage.{FatSliceData, slice_data}
use Rattle.fat_macho.specs.FatHolds.{power_of, slice_at, image_with, IsZero, HoldsAt, HoldsOrdered}
use Rattle.fat_macho.specs.Laws.{AnyOrder}
use Rattle.fat_macho.specs.Layout.{FatLayout, places_from, end_from, fat_layout, sizes_of}
use Rattle.fat_macho.specs.Slices.{Shape, Slice, shape_of, in_order}
use Rattle.fat_macho.proofs.ExtractLaws.{image_slices, image_wide, length-offsets}
use Rattle.fat_macho.proofs.HoldsLaws.{six, SliceStands, AllStand, FileStands, free_by, free_later, table_next, table_start, from_start, bytes_turned}
use Rattle.fat_macho.proofs.InputLaws.{range_len}
use Rattle.fat_macho.proofs.LayoutLaws.{next-over}
use Rattle.fat_macho.proofs.OrderLaws.{false_true}
use Rattle.fat_macho.proofs.SortLaws.{apart, one_order}
use Rattle.fat_macho.proofs.StepLaws.{layout_fits}

-- -- two files that stand for the same slices

-- the bytes of a number, the highest first
agree_big : (b c : List ℕ) (p w q : ℕ) → AreFiles b c → Agree b c p → q ≤ length b → big_number_at b p w ≡ big_number_at c p w → p + w ≡ q → Agree b c q
unfolding big_number_at bytes_at
agree_big b c p w q f a room e m =
    let xs = take w (drop p b) in
    let ys = take w (drop p c) in
    let count : length (reverse xs) ≡ length (reverse ys) =
    omega (arith, length-reverse xs, length-reverse ys, length-take w (drop p b), length-take w (drop p c), length-drop p b, length-drop p c, f.length) in
    let bytes : (d : List ℕ) → All (λ x. x < 256) d → All (λ x. x < 256) (reverse (take w (drop p d))) = λ d h. bytes_turned (take w (drop p d)) (All-take (λ x. x < 256) w (drop p d) (All-drop (λ x. x < 256) p d h)) in
    let turned : reverse xs ≡ reverse ys = one_list (reverse xs) (reverse ys) (bytes b f.first) (bytes c f.second) count e in
    agree_bytes b c p w q a (sym (reverse-reverse xs) ∙ ap reverse turned ∙ reverse-reverse ys) m

agree_narrow : (b c : List ℕ) (p q : ℕ) → AreFiles b c → Agree b c p → q ≤ length b → narrow_entry_at b p ≡ narrow_entry_at c p → p + 20 ≡ q → Agree b c q
agree_narrow b c p q f a room e m =
    let one = agree_big b c p 4 (p + 4) f a (omega (arith, room, m)) (ap (λ (x : FatEntry). x.cputype) e) refl in
    let two = agree_big b c (p + 4) 4 (p + 8) f one (omega (arith, room, m)) (ap (λ (x : FatEntry). x.cpusubtype) e) (omega arith) in
    let three = agree_big b c (p + 8) 4 (p + 12) f two (omega (arith, room, m)) (ap (λ (x : FatEntry). x.offset) e) (omega arith) in
    let four = agree_big b c (p + 12) 4 (p + 16) f three (omega (arith, room, m)) (ap (λ (x : FatEntry). x.size) e) (omega arith) in
    agree_big b c (p + 16) 4 q f four room (ap (λ (x : FatEntry). x.align) e) (omega (arith, m))

agree_wide : (b c : List ℕ) (p q : ℕ) → AreFiles b c → Agree b c p → q ≤ length b → wide_entry_at b p ≡ wide_entry_at c p → p + 32 ≡ q → Agree b c q
agree_wide b c p q f a room e m =
    let one = agree_big b c p 4 (p + 4) f a (omega (arith, room, m)) (ap (λ (x : FatEntry). x.cputype) e) refl in
    let two = agree_big b c (p + 4) 4 (p + 8) f one (omega (arith, room, m)) (ap (λ (x : FatEntry). x.cpusubtype) e) (omega arith) in
    let three = agree_big b c (p + 8) 8 (p + 16) f two (omega (arith, room, m)) (ap (λ (x : FatEntry). x.offset) e) (omega arith) in
    let four = agree_big b c (p + 16) 8 (p + 24) f three (omega (arith, room, m)) (ap (λ (x : FatEntry). x.size) e) (omega arith) in
    let five = agree_big b c (p + 24) 4 (p + 28) f four (omega (arith, room, m)) (ap (λ (x : FatEntry). x.align) e) (omega arith) in
    agree_big b c (p + 28) 4 q f five room (ap (λ (x : FatEntry). x.reserved) e) (omega (arith, m))

agree_row : (b c : List ℕ) (wide : Bool) (k : ℕ) → AreFiles b c → Agree b c (fat_table_end wide k) → fat_table_end wide (k + 1) ≤ length b → fat_entry b wide k ≡ fat_entry c wide k → Agree b c (fat_table_end wide (k + 1))
unfolding fat_entry
agree_row b c true k f a room e = agree_wide b c (fat_table_end true k) (fat_table_end true (k + 1)) f a room e (table_next true k)
agree_row b c false k f a room e = agree_narrow b c (fat_table_end false k) (fat_table_end false (k + 1)) f a room e (table_next false k)

table_more : (wide : Bool) (n m : ℕ) → fat_table_end wide (n + 1) ≤ fat_table_end wide (n + suc m)
table_more true n m = omega arith
table_more false n m = omega arith

agree_rows : (b c : List ℕ) (wide : Bool) (align end k : ℕ) (slices : List Slice) → AreFiles b c → AllStand b wide align end k slices → AllStand c wide align end k slices → fat_table_end wide (k + length slices) ≤ length b
    → Agree b c (fat_table_end wide k) → Agree b c (fat_table_end wide (k + length slices))
agree_rows b c wide align end k [] f h i room a = let same : k ≡ k + 0 = omega arith in agree_at b c _ _ (ap (fat_table_end wide) same) a
agree_rows b c wide align end k (s ∷ slices) f h i room a =
    let next : (k + 1) + length slices ≡ k + suc (length slices) = omega arith in
    let row = agree_row b c wide k f a (omega (arith, room, table_more wide k (length slices))) (h.0.entry ∙ sym i.0.entry) in
    let rest = agree_rows b c wide align (next_multiple_of end align + length s.bytes) (k + 1) slices f h.1 i.1 (omega (arith, ap (fat_table_end wide) next, room)) row in
    agree_at b c _ _ (ap (fat_table_end wide) next) rest

agree_slices : (b c : List ℕ) (wide : Bool) (align end k : ℕ) (slices : List Slice) → AllStand b wide align end k slices → AllStand c wide align end k slices → Agree b c end → Agree b c (end_from align end (sizes_of (map shape_of slices)))
agree_slices b c wide align end k [] h i a = a
agree_slices b c wide align end k (s ∷ slices) h i a =
    let offset = next_multiple_of end align in
    let gap = agree_told b c (replicate (offset - end) 0) end (offset - end) offset a h.0.gap i.0.gap (omega (arith, next-over end align)) in
    let here = agree_told b c s.bytes offset (length s.bytes) (offset + length s.bytes) gap h.0.bytes i.0.bytes refl in
    agree_slices b c wide align (offset + length s.bytes) (k + 1) slices h.1 i.1 here

one_standing : (b c : List ℕ) (wide : Bool) (align start total : ℕ) (slices : List Slice) → All (λ x. x < 256) b → All (λ x. x < 256) c → FileStands b wide align start total slices → FileStands c wide align start total slices
    → start ≡ fat_table_end wide (length slices) → end_from align start (sizes_of (map shape_of slices)) ≡ total → b ≡ c
one_standing b c wide align start total slices h i f g place last =
    let files : AreFiles b c = record { first = h; second = i; length = f.end ∙ sym g.end } in
    let eight : 8 ≤ length b = omega (arith, f.table) in
    let magic = agree_big b c 0 4 4 files (agree_none b c) (omega (arith, eight)) (f.magic ∙ sym g.magic) refl in
    let count = agree_big b c 4 4 8 files magic eight (f.count ∙ sym g.count) refl in
    let rows = agree_rows b c wide align start 0 slices files f.stand g.stand (omega (arith, ap (λ n. n) (from_start wide (length slices)), f.table)) (agree_at b c _ _ (sym (table_start wide)) count) in
    let table = agree_at b c _ _ (from_start wide (length slices) ∙ sym place) rows in
    agree_all b c total files (omega (arith, f.end)) (agree_at b c _ _ last (agree_slices b c wide align start 0 slices f.stand g.stand table))

-- -- what is held stands there

told_size : (b : List ℕ) (offset size : ℕ) (xs : List ℕ) → xs ≡ bytes_at b offset size → offset + size ≤ length b → size ≡ length xs
told_size b offset size xs e inside = sym (ap length e ∙ range_len b offset size inside)

one_told : (b : List ℕ) (wide : Bool) (align end k : ℕ) (s : Slice) → has_wide_entries b ≡ wide → slice_at align (s, next_multiple_of end align) ≡ slice_data b k → (fat_entry b wide k).offset + (fat_entry b wide k).size ≤ length b
    → (fat_entry b wide k).reserved ≡ 0 → IsZero b end (next_multiple_of end align) → SliceStands b wide align end k s
one_told b wide align end k s w e inside none gap =
    let offset = next_multiple_of end align in
    let x = fat_entry b wide k in
    let at : (fat_entry b (has_wide_entries b) k) ≡ x = ap (λ t. fat_entry b t k) w in
    let cputype : x.cputype ≡ s.cputype = sym (ap (λ (d : FatSliceData). d.cputype) e ∙ ap (λ (y : FatEntry). y.cputype) at) in
    let cpusubtype : x.cpusubtype ≡ s.cpusubtype = sym (ap (λ (d : FatSliceData). d.cpusubtype) e ∙ ap (λ (y : FatEntry). y.cpusubtype) at) in
    let place : x.offset ≡ offset = sym (ap (λ (d : FatSliceData). d.offset) e ∙ ap (λ (y : FatEntry). y.offset) at) in
    let power : x.align ≡ power_of align = sym (ap (λ (d : FatSliceData). d.align) e ∙ ap (λ (y : FatEntry). y.align) at) in
    let bytes : s.bytes ≡ bytes_at b x.offset x.size = ap (λ (d : FatSliceData). d.bytes) e ∙ ap (λ (y : FatEntry). bytes_at b y.offset y.size) at in
    let size : x.size ≡ length s.bytes = told_size b x.offset x.size s.bytes bytes inside in
    record {
      entry = six _ _ _ _ _ _ _ _ _ _ _ _ cputype cpusubtype place size power none;
      bytes = sym (bytes ∙ ap (λ n. bytes_at b n x.size) place ∙ ap (bytes_at b offset) size);
      inside = omega (arith, inside, place, size);
      gap = gap;
    }

all_told : (b : List ℕ) (wide : Bool) (align end j : ℕ) (slices : List Slice) → has_wide_entries b ≡ wide → map (slice_at align) (zip slices (places_from align end (sizes_of (map shape_of slices)))) ≡ map (slice_data b) (range_with_len j (length slices))
    → ((k : ℕ) → k < j + length slices → (fat_entry b wide k).offset + (fat_entry b wide k).size ≤ length b) → ((k : ℕ) → k < j + length slices → (fat_entry b wide k).reserved ≡ 0)
    → ((k offset : ℕ) → slice_get (places_from align end (sizes_of (map shape_of slices))) k ≡ Some offset → IsZero b (free_by slices (places_from align end (sizes_of (map shape_of slices))) end k) offset) → AllStand b wide align end j slices
all_told b wide align end j [] w e inside none gaps = tt
all_told b wide align end j (s ∷ slices) w e inside none gaps =
    let offset = next_multiple_of end align in
    let next = offset + length s.bytes in
    let places = places_from align next (sizes_of (map shape_of slices)) in
    let first : slice_at align (s, offset) ≡ slice_data b j = cc in
    let rest : map (slice_at align) (zip slices places) ≡ map (slice_data b) (range_with_len (j + 1) (length slices)) = cc in (
      one_told b wide align end j s w first (inside j (omega arith)) (none j (omega arith)) (gaps 0 offset refl),
      all_told b wide align next (j + 1) slices w rest (λ k h. inside k (omega (arith, h))) (λ k h. none k (omega (arith, h))) (gaps_behind b s slices offset places end next refl gaps),
    )
  where
    gaps_behind : (b : List ℕ) (s : Slice) (slices : List Slice) (offset : ℕ) (places : List ℕ) (end next : ℕ) → next ≡ offset + length s.bytes
        → ((k o : ℕ) → slice_get (offset ∷ places) k ≡ Some o → IsZero b (free_by (s ∷ slices) (offset ∷ places) end k) o) → (k o : ℕ) → slice_get places k ≡ Some o → IsZero b (free_by slices places next k) o
    gaps_behind b s slices offset places end next n gaps zero o e = subst (λ p. IsZero b p o) (sym n) (gaps 1 o e)
    gaps_behind b s slices offset places end next n gaps (suc k) o e = subst (λ p. IsZero b p o) (free_later s slices offset places end next k) (gaps (suc (suc k)) o e)

magic_of : (b : List ℕ) (wide : Bool) → has_wide_entries b ≡ wide → (fat_magic b ≡ 0xcafebabe) ⊎ (fat_magic b ≡ 0xcafebabf) → fat_magic b ≡ (if wide then 0xcafebabf else 0xcafebabe)
magic_of b true w (inl e) = absurd (false_true (sym (ap (λ n. n == 0xcafebabf) e) ∙ w))
magic_of b true w (inr e) = e
magic_of b false w (inl e) = e
magic_of b false w (inr e) = absurd (false_true (sym w ∙ ap (λ n. n == 0xcafebabf) e))

length-range : (m n : ℕ) → length (range_with_len m n) ≡ n
length-range m zero = refl
length-range m (suc n) = ap suc (length-range (m + 1) n)

length-zipped : {X Y : Type 0} (xs : List X) (ys : List Y) → length ys ≡ length xs → length (zip xs ys) ≡ length xs
length-zipped [] ys e = refl
length-zipped (x ∷ xs) [] e = absurd (omega (arith, e))
length-zipped (x ∷ xs) (y ∷ ys) e = ap suc (length-zipped xs ys (omega (arith, e)))

stands_of : (b : List ℕ) (slices : List Slice) → let l : FatLayout = fat_layout (map shape_of slices) in HoldsAt b slices l → FileStands b l.wide l.align (fat_table_end l.wide (length slices)) l.total slices
stands_of b slices h =
    let shapes : List Shape = map shape_of slices in
    let l : FatLayout = fat_layout shapes in
    let start : ℕ = fat_table_end l.wide (length slices) in
    let count : length shapes ≡ length slices = length-map slices shape_of in
    let at : l.offsets ≡ places_from l.align start (sizes_of shapes) = (layout_fits shapes).offsets ∙ ap (λ n. places_from l.align (fat_table_end l.wide n) (sizes_of shapes)) count in
    let w : has_wide_entries b ≡ l.wide = sym (image_wide b (image_with slices l) h.image.rows) in
    let rows : map (slice_at l.align) (zip slices l.offsets) ≡ map (slice_data b) (range_with_len 0 (fat_count b)) = image_slices b (image_with slices l) h.image.rows in
    let many : fat_count b ≡ length slices =
    sym (length-map (range_with_len 0 (fat_count b)) (slice_data b) ∙ length-range 0 (fat_count b)) ∙ ap length (sym rows) ∙ length-map (zip slices l.offsets) (slice_at l.align) ∙ length-zipped slices l.offsets (length-offsets shapes ∙ count) in
    let told : map (slice_at l.align) (zip slices (places_from l.align start (sizes_of shapes))) ≡ map (slice_data b) (range_with_len 0 (length slices)) =
    sym (ap (λ os. map (slice_at l.align) (zip slices os)) at) ∙ rows ∙ ap (λ n. map (slice_data b) (range_with_len 0 n)) many in
    record {
      magic = magic_of b l.wide w h.image.file.magic;
      count = many;
      stand =
          all_told b l.wide l.align start 0 slices w told
          (λ k below. subst (λ t. (fat_entry b t k).offset + (fat_entry b t k).size ≤ length b) w (h.image.file.slices k (omega (arith, below, many)))) (λ k below. h.reserved k (omega (arith, below)))
          (λ k o e. subst (λ os. IsZero b (free_by slices os start k) o) at (h.gaps k o (ap (λ os. slice_get os k) at ∙ e)));
      end = h.end;
      table = subst (λ n. fat_table_end l.wide n ≤ length b) many (subst (λ t. fat_table_end t (fat_count b) ≤ length b) w h.image.file.table);
    }

-- -- one file

held_once : (b c : List ℕ) (slices : List Slice) → All (λ x. x < 256) b → All (λ x. x < 256) c → HoldsAt b slices (fat_layout (map shape_of slices)) → HoldsAt c slices (fat_layout (map shape_of slices)) → b ≡ c
held_once b c slices h i f g =
    let l : FatLayout = fat_layout (map shape_of slices) in
    let fits = layout_fits (map shape_of slices) in
    one_standing b c l.wide l.align (fat_table_end l.wide (length slices)) l.total slices h i (stands_of b slices f) (stands_of c slices g) refl
    (sym (fits.total ∙ ap (λ n. end_from l.align (fat_table_end l.wide n) (sizes_of (map shape_of slices))) (length-map slices shape_of)))

ordered_once : (b c : List ℕ) (slices : List Slice) → All (λ x. x < 256) b → All (λ x. x < 256) c → HoldsOrdered b slices → HoldsOrdered c slices → b ≡ c
ordered_once b c [] h i f g = f ∙ sym g
ordered_once b c (s ∷ slices) h i f g = held_once b c (s ∷ slices) h i f g

pub any-order : AnyOrder
any-order b c slices others d p h i f g = ordered_once b c (in_order others) h i (subst (HoldsOrdered b) (one_order slices others (apart slices d) p) f) g
