-- What a written file holds, by its places.
use Rattle.std.proofs.Common.{◌≡◌, ℕ, zero, suc, ◌+◌, ◌-◌, ◌^◌, ◌<◌, ◌≤◌, ◌==◌, ◌⊎◌, inl, inr, Bool, true, false, List, [], ◌∷◌, ◌++◌, length, map, zip, take, replicate, reverse, get_or, slice_get, Some, refl, ap, sym, ◌∙◌, arith, subst, if◌then◌else◌, length-append, append_assoc}
use Rattle.std.specs.Int.{next_multiple_of}
use Rattle.std.specs.List.{All, AllByRecursion, range_with_len}
use Rattle.std.proofs.lemmas.List.{length-map, length-reverse, reverse-reverse, length-replicate}
use Rattle.std.proofs.Math.Seq.{take-append_seam}
use Rattle.std.proofs.lemmas.Grind.{reverse_onto}
use Rattle.std.proofs.lemmas.List.Elements.{All-nil, All-cons, All-append, All-head, All-tail}
use Rattle.byte_core.proofs.Bytes.{bytes-little_bytes}
use Rattle.byte_core.specs.LaidOut.{laid_out}
use Rattle.byte_core.specs.Number.{bytes_at, big_number_at, little_number, little_bytes}
use Rattle.byte_core.proofs.Numbers.{length-little_bytes, little_number-little_bytes}
use Rattle.byte_core.proofs.Standing.{StandsAt, stands_whole, stands_left, stands_right, stands_as, stands_inside, bytes_stand}
use Rattle.image_read.specs.FatFile.{FatEntry, fat_magic, fat_count, has_wide_entries, fat_entry_size, fat_table_end, narrow_entry_at, wide_entry_at, fat_entry}
use Rattle.image_read.specs.FatImage.{FatSliceData, FatImageData, slice_data, fat_image_of}
use Rattle.fat_macho.specs.FatBytes.{big_bytes, header_bytes, narrow_row, wide_row, row_bytes, rows_from, contents_from, FitsShape}
use Rattle.fat_macho.specs.FatHolds.{power_of, slice_at, free_from, IsZero, HoldsAt}
use Rattle.fat_macho.specs.Held.{TableIsBytes}
use Rattle.fat_macho.specs.Layout.{FatLayout, places_from, end_from, sizes_of}
use Rattle.fat_macho.specs.Slices.{Shape, Slice, shape_of}
use Rattle.fat_macho.proofs.LayoutLaws.{next-over}
use Rattle.fat_macho.proofs.StepLaws.{end_within}

-- -- numbers

pub length-big : (w n : ℕ) → length (big_bytes w n) ≡ w
unfolding big_bytes
length-big w n = length-reverse (little_bytes w n) ∙ length-little_bytes w n

pub big_stands : (b : List ℕ) (w v p : ℕ) → StandsAt b (big_bytes w v) p → v < 256 ^ w → big_number_at b p w ≡ v
unfolding big_number_at big_bytes
big_stands b w v p s h =
    ap (λ xs. little_number (reverse xs)) (bytes_stand b (reverse (little_bytes w v)) p w s (length-reverse (little_bytes w v) ∙ length-little_bytes w v))
    ∙ ap little_number (reverse-reverse (little_bytes w v)) ∙ little_number-little_bytes w v h

-- a number, and what stands behind it
pub record NumberStands (b rest : List ℕ) (w v p q : ℕ) : Type 0 where
  pub number : big_number_at b p w ≡ v
  pub behind : StandsAt b rest q

number_first : (b rest : List ℕ) (w v p q : ℕ) → StandsAt b (big_bytes w v ++ rest) p → v < 256 ^ w → p + w ≡ q → NumberStands b rest w v p q
number_first b rest w v p q s fits next =
    let len : p + length (big_bytes w v) ≡ q = ap (λ n. p + n) (length-big w v) ∙ next in
    record { number = big_stands b w v p (stands_left b (big_bytes w v) rest p s) fits; behind = stands_right b (big_bytes w v) rest p q s len }

small_if : (b : Bool) (m n : ℕ) → m < 256 → n < 256 → (if b then m else n) < 256
small_if true m n h k = h
small_if false m n h k = k

power_small : (align : ℕ) → power_of align < 256
power_small align = small_if (align == 0x4000) 14 _ (omega arith) (small_if (align == 0x2000) 13 _ (omega arith) (small_if (align == 0x1000) 12 0 (omega arith) (omega arith)))

power_fits : (align : ℕ) → power_of align < 256 ^ 4
power_fits align = omega (arith, power_small align)

-- -- entries

-- the entry of a slice at an offset
abbrev pub entry_with : ℕ → Shape → ℕ → FatEntry
entry_with align a offset = record { cputype = a.cputype; cpusubtype = a.cpusubtype; offset = offset; size = a.size; align = power_of align; reserved = 0 }

pub six : (a b c d e f g h i j k l : ℕ) → a ≡ b → c ≡ d → e ≡ f → g ≡ h → i ≡ j → k ≡ l
    → record { cputype = a; cpusubtype = c; offset = e; size = g; align = i; reserved = k } ≡ (let x : FatEntry = record { cputype = b; cpusubtype = d; offset = f; size = h; align = j; reserved = l } in x)
six a b c d e f g h i j k l p q r s t u = rw (p, q, r, s, t, u) refl

length-narrow : (align : ℕ) (a : Shape) (offset : ℕ) → length (narrow_row align a offset) ≡ 20
unfolding narrow_row
length-narrow align a offset =
    omega (
      arith,
      length-append (big_bytes 4 a.cputype) (big_bytes 4 a.cpusubtype ++ (big_bytes 4 offset ++ (big_bytes 4 a.size ++ big_bytes 4 (power_of align)))),
      length-append (big_bytes 4 a.cpusubtype) (big_bytes 4 offset ++ (big_bytes 4 a.size ++ big_bytes 4 (power_of align))),
      length-append (big_bytes 4 offset) (big_bytes 4 a.size ++ big_bytes 4 (power_of align)),
      length-append (big_bytes 4 a.size) (big_bytes 4 (power_of align)),
      length-big 4 a.cputype,
      length-big 4 a.cpusubtype,
      length-big 4 offset,
      length-big 4 a.size,
      length-big 4 (power_of align),
    )

length-wide : (align : ℕ) (a : Shape) (offset : ℕ) → length (wide_row align a offset) ≡ 32
unfolding wide_row
length-wide align a offset =
    omega (
      arith,
      length-append (big_bytes 4 a.cputype) (big_bytes 4 a.cpusubtype ++ (big_bytes 8 offset ++ (big_bytes 8 a.size ++ (big_bytes 4 (power_of align) ++ big_bytes 4 0)))),
      length-append (big_bytes 4 a.cpusubtype) (big_bytes 8 offset ++ (big_bytes 8 a.size ++ (big_bytes 4 (power_of align) ++ big_bytes 4 0))),
      length-append (big_bytes 8 offset) (big_bytes 8 a.size ++ (big_bytes 4 (power_of align) ++ big_bytes 4 0)),
      length-append (big_bytes 8 a.size) (big_bytes 4 (power_of align) ++ big_bytes 4 0),
      length-append (big_bytes 4 (power_of align)) (big_bytes 4 0),
      length-big 4 a.cputype,
      length-big 4 a.cpusubtype,
      length-big 8 offset,
      length-big 8 a.size,
      length-big 4 (power_of align),
      length-big 4 0,
    )

length-row : (wide : Bool) (align : ℕ) (a : Shape) (offset : ℕ) → length (row_bytes wide align a offset) ≡ fat_entry_size wide
length-row true align a offset = length-wide align a offset
length-row false align a offset = length-narrow align a offset

narrow_stands : (b : List ℕ) (align : ℕ) (a : Shape) (offset p : ℕ) → StandsAt b (narrow_row align a offset) p → FitsShape a → offset + a.size < 2 ^ 32 → narrow_entry_at b p ≡ entry_with align a offset
unfolding narrow_row
narrow_stands b align a offset p s fits room =
    let one = number_first b (big_bytes 4 a.cpusubtype ++ (big_bytes 4 offset ++ (big_bytes 4 a.size ++ big_bytes 4 (power_of align)))) 4 a.cputype p (p + 4) s fits.cputype refl in
    let two = number_first b (big_bytes 4 offset ++ (big_bytes 4 a.size ++ big_bytes 4 (power_of align))) 4 a.cpusubtype (p + 4) (p + 8) one.behind fits.cpusubtype (omega arith) in
    let three = number_first b (big_bytes 4 a.size ++ big_bytes 4 (power_of align)) 4 offset (p + 8) (p + 12) two.behind (omega (arith, room)) (omega arith) in
    let four = number_first b (big_bytes 4 (power_of align)) 4 a.size (p + 12) (p + 16) three.behind (omega (arith, room)) (omega arith) in
    six _ _ _ _ _ _ _ _ _ _ _ _ one.number two.number three.number four.number (big_stands b 4 (power_of align) (p + 16) four.behind (power_fits align)) refl

wide_stands : (b : List ℕ) (align : ℕ) (a : Shape) (offset p : ℕ) → StandsAt b (wide_row align a offset) p → FitsShape a → offset + a.size < 2 ^ 64 → wide_entry_at b p ≡ entry_with align a offset
unfolding wide_row
wide_stands b align a offset p s fits room =
    let one = number_first b (big_bytes 4 a.cpusubtype ++ (big_bytes 8 offset ++ (big_bytes 8 a.size ++ (big_bytes 4 (power_of align) ++ big_bytes 4 0)))) 4 a.cputype p (p + 4) s fits.cputype refl in
    let two = number_first b (big_bytes 8 offset ++ (big_bytes 8 a.size ++ (big_bytes 4 (power_of align) ++ big_bytes 4 0))) 4 a.cpusubtype (p + 4) (p + 8) one.behind fits.cpusubtype (omega arith) in
    let three = number_first b (big_bytes 8 a.size ++ (big_bytes 4 (power_of align) ++ big_bytes 4 0)) 8 offset (p + 8) (p + 16) two.behind (omega (arith, room)) (omega arith) in
    let four = number_first b (big_bytes 4 (power_of align) ++ big_bytes 4 0) 8 a.size (p + 16) (p + 24) three.behind (omega (arith, room)) (omega arith) in
    let five = number_first b (big_bytes 4 0) 4 (power_of align) (p + 24) (p + 28) four.behind (power_fits align) (omega arith) in
    six _ _ _ _ _ _ _ _ _ _ _ _ one.number two.number three.number four.number five.number (big_stands b 4 0 (p + 28) five.behind (omega arith))

-- a place that an entry of this width can tell
abbrev pub FitsWide : Bool → ℕ → Type 0
FitsWide true n = n < 2 ^ 64
FitsWide false n = n < 2 ^ 32

pub fits_less : (wide : Bool) (m n : ℕ) → m ≤ n → FitsWide wide n → FitsWide wide m
fits_less true m n h k = omega (arith, h, k)
fits_less false m n h k = omega (arith, h, k)

entry_stands : (b : List ℕ) (wide : Bool) (align k : ℕ) (a : Shape) (offset : ℕ) → StandsAt b (row_bytes wide align a offset) (fat_table_end wide k) → FitsShape a → FitsWide wide (offset + a.size) → fat_entry b wide k ≡ entry_with align a offset
unfolding fat_entry
entry_stands b true align k a offset s fits room = wide_stands b align a offset (fat_table_end true k) s fits room
entry_stands b false align k a offset s fits room = narrow_stands b align a offset (fat_table_end false k) s fits room

-- -- slices

-- a slice stands behind this place, with its entry
pub record SliceStands (b : List ℕ) (wide : Bool) (align end k : ℕ) (s : Slice) : Type 0 where
  pub entry : fat_entry b wide k ≡ entry_with align (shape_of s) (next_multiple_of end align)
  pub bytes : bytes_at b (next_multiple_of end align) (length s.bytes) ≡ s.bytes
  pub inside : next_multiple_of end align + length s.bytes ≤ length b
  pub gap : IsZero b end (next_multiple_of end align)

abbrev pub AllStand : List ℕ → Bool → ℕ → ℕ → ℕ → List Slice → Type 0
AllStand b wide align end k [] = Unit {0}
AllStand b wide align end k (s ∷ slices) = SliceStands b wide align end k s × AllStand b wide align (next_multiple_of end align + length s.bytes) (k + 1) slices

rows_cut : (wide : Bool) (align end : ℕ) (a : Shape) (shapes : List Shape) → rows_from wide align end (a ∷ shapes) ≡ row_bytes wide align a (next_multiple_of end align) ++ rows_from wide align (next_multiple_of end align + a.size) shapes
unfolding rows_from
rows_cut wide align end a shapes = refl

contents_cut : (align end : ℕ) (s : Slice) (slices : List Slice) → contents_from align end (s ∷ slices) ≡ replicate (next_multiple_of end align - end) 0 ++ (s.bytes ++ contents_from align (next_multiple_of end align + length s.bytes) slices)
unfolding laid_out
contents_cut align end s slices = refl

pub table_next : (wide : Bool) (k : ℕ) → fat_table_end wide k + fat_entry_size wide ≡ fat_table_end wide (k + 1)
table_next true k = omega arith
table_next false k = omega arith

all_stand : (b : List ℕ) (wide : Bool) (align total end k : ℕ) (slices : List Slice) → StandsAt b (rows_from wide align end (map shape_of slices)) (fat_table_end wide k) → StandsAt b (contents_from align end slices) end
    → AllByRecursion FitsShape (map shape_of slices) → end_from align end (sizes_of (map shape_of slices)) ≤ total → FitsWide wide total → AllStand b wide align end k slices
all_stand b wide align total end k [] rows contents fits short limit = tt
all_stand b wide align total end k (s ∷ slices) rows contents fits short limit =
    let offset : ℕ = next_multiple_of end align in
    let next : ℕ = offset + length s.bytes in
    let below = end_within align next (sizes_of (map shape_of slices)) in
    let row = stands_as b _ _ _ _ rows (rows_cut wide align end (shape_of s) (map shape_of slices)) refl in
    let this = stands_left b (row_bytes wide align (shape_of s) offset) (rows_from wide align next (map shape_of slices)) (fat_table_end wide k) row in
    let rest = stands_right b (row_bytes wide align (shape_of s) offset) (rows_from wide align next (map shape_of slices)) (fat_table_end wide k) (fat_table_end wide (k + 1)) row (ap (λ n. fat_table_end wide k + n) (length-row wide align (shape_of s) offset) ∙ table_next wide k) in
    let cut = stands_as b _ _ _ _ contents (contents_cut align end s slices) refl in
    let zeros = stands_left b (replicate (offset - end) 0) (s.bytes ++ contents_from align next slices) end cut in
    let gap_len = length-replicate {A = ℕ} (offset - end) 0 in
    let behind = stands_right b (replicate (offset - end) 0) (s.bytes ++ contents_from align next slices) end offset cut (omega (arith, gap_len, next-over end align)) in
    let here = stands_left b s.bytes (contents_from align next slices) offset behind in
    let more = stands_right b s.bytes (contents_from align next slices) offset next behind refl in (
      record {
        entry = entry_stands b wide align k (shape_of s) offset this fits.0 (fits_less wide next total (omega (arith, below, short)) limit);
        bytes = bytes_stand b s.bytes offset (length s.bytes) here refl;
        inside = stands_inside b s.bytes offset here;
        gap = bytes_stand b (replicate (offset - end) 0) end (offset - end) zeros gap_len;
      },
      all_stand b wide align total next (k + 1) slices rest more fits.1 short limit,
    )

-- -- the image

five : (a b c d e f g h : ℕ) (xs ys : List ℕ) → a ≡ b → c ≡ d → e ≡ f → g ≡ h → xs ≡ ys
    → record { cputype = a; cpusubtype = c; align = e; offset = g; bytes = xs } ≡ (let x : FatSliceData = record { cputype = b; cpusubtype = d; align = f; offset = h; bytes = ys } in x)
five a b c d e f g h xs ys p q r s t = rw (p, q, r, s, t) refl

slice_is : (b : List ℕ) (wide : Bool) (align end k : ℕ) (s : Slice) → has_wide_entries b ≡ wide → SliceStands b wide align end k s → slice_data b k ≡ slice_at align (s, next_multiple_of end align)
slice_is b wide align end k s w stands =
    let e : fat_entry b (has_wide_entries b) k ≡ entry_with align (shape_of s) (next_multiple_of end align) = ap (λ x. fat_entry b x k) w ∙ stands.entry in
    ap (λ (x : FatEntry). let d : FatSliceData = record { cputype = x.cputype; cpusubtype = x.cpusubtype; align = x.align; offset = x.offset; bytes = bytes_at b x.offset x.size } in d) e
    ∙ ap (λ xs. let d : FatSliceData = record { cputype = s.cputype; cpusubtype = s.cpusubtype; align = power_of align; offset = next_multiple_of end align; bytes = xs } in d) stands.bytes

slices_are : (b : List ℕ) (wide : Bool) (align end k : ℕ) (slices : List Slice) → has_wide_entries b ≡ wide → AllStand b wide align end k slices
    → map (slice_at align) (zip slices (places_from align end (sizes_of (map shape_of slices)))) ≡ map (slice_data b) (range_with_len k (length slices))
slices_are b wide align end k [] w all = refl
slices_are b wide align end k (s ∷ slices) w all =
    ap (λ x. x ∷ map (slice_at align) (zip slices (places_from align (next_multiple_of end align + length s.bytes) (sizes_of (map shape_of slices))))) (sym (slice_is b wide align end k s w all.0))
    ∙ ap (λ xs. slice_data b k ∷ xs) (slices_are b wide align (next_multiple_of end align + length s.bytes) (k + 1) slices w all.1)

-- a slice of all
pub record OneStands (b : List ℕ) (wide : Bool) (align k : ℕ) : Type 0 where
  pub slice : Slice
  pub end : ℕ
  pub stands : SliceStands b wide align end k slice

one_stands : (b : List ℕ) (wide : Bool) (align end k j : ℕ) (slices : List Slice) → AllStand b wide align end k slices → j < length slices → OneStands b wide align (k + j)
one_stands b wide align end k j [] all below = absurd (omega (arith, below))
one_stands b wide align end k zero (s ∷ slices) all below = let same : k + 0 ≡ k = omega arith in rw same (record { slice = s; end = end; stands = all.0 })
one_stands b wide align end k (suc j) (s ∷ slices) all below =
    let same : k + suc j ≡ (k + 1) + j = omega arith in
    rw same (one_stands b wide align (next_multiple_of end align + length s.bytes) (k + 1) j slices all.1 (omega (arith, below)))

-- where slice k could begin, behind this place
abbrev pub free_by : List Slice → List ℕ → ℕ → ℕ → ℕ
free_by slices offsets end k = if k == 0 then end else get_or offsets (k - 1) 0 + length (get_or (map (λ (s : Slice). s.bytes) slices) (k - 1) [])

free_past : (slices : List Slice) (offsets : List ℕ) (end k : ℕ) → (k == 0) ≡ false → free_by slices offsets end k ≡ get_or offsets (k - 1) 0 + length (get_or (map (λ (s : Slice). s.bytes) slices) (k - 1) [])
free_past slices offsets end k e = ap (λ t. if t then end else get_or offsets (k - 1) 0 + length (get_or (map (λ (s : Slice). s.bytes) slices) (k - 1) [])) e

pub free_later : (s : Slice) (slices : List Slice) (o : ℕ) (offsets : List ℕ) (end next k : ℕ) → free_by (s ∷ slices) (o ∷ offsets) end (suc (suc k)) ≡ free_by slices offsets next (suc k)
free_later s slices o offsets end next k =
    let two : suc (suc k) - 1 ≡ suc k = omega arith in
    let one : suc k - 1 ≡ k = omega arith in
    let first : (suc (suc k) == 0) ≡ false = grind arith in
    let second : (suc k == 0) ≡ false = grind arith in
    free_past (s ∷ slices) (o ∷ offsets) end (suc (suc k)) first
    ∙ ap (λ n. get_or (o ∷ offsets) n 0 + length (get_or (map (λ (s : Slice). s.bytes) (s ∷ slices)) n [])) two
    ∙ sym (free_past slices offsets next (suc k) second ∙ ap (λ n. get_or offsets n 0 + length (get_or (map (λ (s : Slice). s.bytes) slices) n [])) one)

gaps_are : (b : List ℕ) (wide : Bool) (align end j : ℕ) (slices : List Slice) → AllStand b wide align end j slices
    → (k offset : ℕ) → slice_get (places_from align end (sizes_of (map shape_of slices))) k ≡ Some offset → IsZero b (free_by slices (places_from align end (sizes_of (map shape_of slices))) end k) offset
gaps_are b wide align end j [] all k offset e = absurd (cc)
gaps_are b wide align end j (s ∷ slices) all zero offset e = let same : next_multiple_of end align ≡ offset = cc in subst (IsZero b end) same all.0.gap
gaps_are b wide align end j (s ∷ slices) all (suc zero) offset e = gaps_are b wide align (next_multiple_of end align + length s.bytes) (j + 1) slices all.1 0 offset e
gaps_are b wide align end j (s ∷ slices) all (suc (suc k)) offset e =
    let next : ℕ = next_multiple_of end align + length s.bytes in
    let later = free_later s slices (next_multiple_of end align) (places_from align next (sizes_of (map shape_of slices))) end next k in
    subst (λ p. IsZero b p offset) (sym later) (gaps_are b wide align (next_multiple_of end align + length s.bytes) (j + 1) slices all.1 (suc k) offset e)

-- -- the file

length-header : (wide : Bool) (count : ℕ) → length (header_bytes wide count) ≡ 8
unfolding header_bytes
length-header wide count = omega (arith, length-append (big_bytes 4 (if wide then 0xcafebabf else 0xcafebabe)) (big_bytes 4 count), length-big 4 (if wide then 0xcafebabf else 0xcafebabe), length-big 4 count)

length-rows_from : (wide : Bool) (align end : ℕ) (shapes : List Shape) (k : ℕ) → fat_table_end wide k + length (rows_from wide align end shapes) ≡ fat_table_end wide (k + length shapes)
unfolding rows_from
length-rows_from wide align end [] k = let same : k ≡ k + 0 = omega arith in let none : fat_table_end wide k + 0 ≡ fat_table_end wide k = omega arith in none ∙ ap (fat_table_end wide) same
length-rows_from wide align end (a ∷ shapes) k =
    let next : ℕ = next_multiple_of end align + a.size in
    let len = length-append (row_bytes wide align a (next_multiple_of end align)) (rows_from wide align next shapes) in
    let row = length-row wide align a (next_multiple_of end align) in
    let rest = length-rows_from wide align next shapes (k + 1) in
    let same : k + suc (length shapes) ≡ (k + 1) + length shapes = omega arith in
    let sum : fat_table_end wide k + length (row_bytes wide align a (next_multiple_of end align) ++ rows_from wide align next shapes) ≡ fat_table_end wide (k + 1) + length (rows_from wide align next shapes) = omega (arith, len, row, table_next wide k) in
    sum ∙ rest ∙ ap (fat_table_end wide) (sym same)

length-contents : (align end : ℕ) (slices : List Slice) → end + length (contents_from align end slices) ≡ end_from align end (sizes_of (map shape_of slices))
unfolding laid_out
length-contents align end [] = omega arith
length-contents align end (s ∷ slices) =
    let offset : ℕ = next_multiple_of end align in
    let rest : List ℕ = contents_from align (offset + length s.bytes) slices in
    omega (arith, length-append (replicate {A = ℕ} (offset - end) 0) (s.bytes ++ rest), length-append s.bytes rest, length-replicate {A = ℕ} (offset - end) 0, next-over end align, length-contents align (offset + length s.bytes) slices)

magic_by : (b : List ℕ) (wide : Bool) → fat_magic b ≡ (if wide then 0xcafebabf else 0xcafebabe) → (has_wide_entries b ≡ wide) × ((fat_magic b ≡ 0xcafebabe) ⊎ (fat_magic b ≡ 0xcafebabf))
magic_by b true e = (ap (λ n. n == 0xcafebabf) e, inr e)
magic_by b false e = (ap (λ n. n == 0xcafebabf) e, inl e)

magic_fits : (wide : Bool) → (if wide then 0xcafebabf else 0xcafebabe) < 256 ^ 4
magic_fits true = omega arith
magic_fits false = omega arith

-- what the places of a file tell
pub record FileStands (b : List ℕ) (wide : Bool) (align start total : ℕ) (slices : List Slice) : Type 0 where
  pub magic : fat_magic b ≡ (if wide then 0xcafebabf else 0xcafebabe)
  pub count : fat_count b ≡ length slices
  pub stand : AllStand b wide align start 0 slices
  pub end : length b ≡ total
  pub table : fat_table_end wide (length slices) ≤ length b

header_stands : (b rest : List ℕ) (wide : Bool) (count : ℕ) → StandsAt b (header_bytes wide count ++ rest) 0 → count < 2 ^ 32 → fat_magic b ≡ (if wide then 0xcafebabf else 0xcafebabe)
unfolding header_bytes
header_stands b rest wide count s few = (number_first b (big_bytes 4 count) 4 (if wide then 0xcafebabf else 0xcafebabe) 0 4 (stands_left b (header_bytes wide count) rest 0 s) (magic_fits wide) refl).number

count_stands : (b rest : List ℕ) (wide : Bool) (count : ℕ) → StandsAt b (header_bytes wide count ++ rest) 0 → count < 2 ^ 32 → fat_count b ≡ count
unfolding header_bytes
count_stands b rest wide count s few = big_stands b 4 count 4 (number_first b (big_bytes 4 count) 4 (if wide then 0xcafebabf else 0xcafebabe) 0 4 (stands_left b (header_bytes wide count) rest 0 s) (magic_fits wide) refl).behind few

pub table_start : (wide : Bool) → fat_table_end wide 0 ≡ 8
table_start true = refl
table_start false = refl

pub from_start : (wide : Bool) (n : ℕ) → fat_table_end wide (0 + n) ≡ fat_table_end wide n
from_start wide n = let same : 0 + n ≡ n = omega arith in ap (fat_table_end wide) same

pub file_stands : (slices : List Slice) (wide : Bool) (align start total : ℕ) (b : List ℕ) → b ≡ header_bytes wide (length slices) ++ (rows_from wide align start (map shape_of slices) ++ contents_from align start slices) → start ≡ fat_table_end wide (length slices)
    → end_from align start (sizes_of (map shape_of slices)) ≡ total → length slices < 2 ^ 32 → AllByRecursion FitsShape (map shape_of slices) → FitsWide wide total → FileStands b wide align start total slices
file_stands slices wide align start total b is place last few fits limit =
    let header : List ℕ = header_bytes wide (length slices) in
    let rows : List ℕ = rows_from wide align start (map shape_of slices) in
    let contents : List ℕ = contents_from align start slices in
    let whole : StandsAt b (header ++ (rows ++ contents)) 0 = stands_as b b _ 0 0 (stands_whole b) is refl in
    let behind = stands_right b header (rows ++ contents) 0 8 whole (ap (λ n. 0 + n) (length-header wide (length slices))) in
    let table = stands_left b rows contents 8 behind in
    let count : length (map shape_of slices) ≡ length slices = length-map slices shape_of in
    let rows_len : 8 + length rows ≡ start = ap (λ n. n + length rows) (sym (table_start wide)) ∙ length-rows_from wide align start (map shape_of slices) 0 ∙ from_start wide (length (map shape_of slices)) ∙ ap (fat_table_end wide) count ∙ sym place in
    let slices_stand = stands_right b rows contents 8 start behind rows_len in
    let all_len : length b ≡ total =
    omega (arith, ap length is, length-append header (rows ++ contents), length-append rows contents, length-header wide (length slices), rows_len, length-contents align start slices, last) in
    record {
      magic = header_stands b (rows ++ contents) wide (length slices) whole few;
      count = count_stands b (rows ++ contents) wide (length slices) whole few;
      stand = all_stand b wide align total start 0 slices (stands_as b rows rows 8 (fat_table_end wide 0) table refl (sym (table_start wide))) slices_stand fits (omega (arith, last)) limit;
      end = all_len;
      table = omega (arith, place, last, all_len, end_within align start (sizes_of (map shape_of slices)));
    }

-- the image of what stands there
one_inside : (b : List ℕ) (wide : Bool) (align start total k : ℕ) (slices : List Slice) → FileStands b wide align start total slices → has_wide_entries b ≡ wide → k < length slices
    → (fat_entry b (has_wide_entries b) k).offset + (fat_entry b (has_wide_entries b) k).size ≤ length b
one_inside b wide align start total k slices f w below =
    let o = one_stands b wide align start 0 k slices f.stand below in
    let same : 0 + k ≡ k = omega arith in
    let e : fat_entry b (has_wide_entries b) k ≡ entry_with align (shape_of o.slice) (next_multiple_of o.end align) = ap (λ x. fat_entry b x k) w ∙ ap (fat_entry b wide) (sym same) ∙ o.stands.entry in
    rw e o.stands.inside

reserved_none : (b : List ℕ) (wide : Bool) (align start total k : ℕ) (slices : List Slice) → FileStands b wide align start total slices → k < length slices → (fat_entry b wide k).reserved ≡ 0
reserved_none b wide align start total k slices f below =
    let o = one_stands b wide align start 0 k slices f.stand below in
    let same : k ≡ 0 + k = omega arith in
    ap (λ n. (fat_entry b wide n).reserved) same ∙ ap (λ (x : FatEntry). x.reserved) o.stands.entry

image_is : (b : List ℕ) (wide : Bool) (align start total : ℕ) (slices : List Slice) (offsets : List ℕ) → FileStands b wide align start total slices → has_wide_entries b ≡ wide → offsets ≡ places_from align start (sizes_of (map shape_of slices))
    → record { is_fat64 = wide; slices = map (slice_at align) (zip slices offsets) } ≡ fat_image_of b
unfolding fat_image_of
image_is b wide align start total slices offsets f w at =
    ap (λ os. let i : FatImageData = record { is_fat64 = wide; slices = map (slice_at align) (zip slices os) } in i) at
    ∙ ap (λ xs. let i : FatImageData = record { is_fat64 = wide; slices = xs } in i) (slices_are b wide align start 0 slices w f.stand)
    ∙ ap (λ n. let i : FatImageData = record { is_fat64 = wide; slices = map (slice_data b) (range_with_len 0 n) } in i) (sym f.count)
    ∙ ap (λ x. let i : FatImageData = record { is_fat64 = x; slices = map (slice_data b) (range_with_len 0 (fat_count b)) } in i) (sym w)

pub holds_at : (b : List ℕ) (start : ℕ) (slices : List Slice) (l : FatLayout) → FileStands b l.wide l.align start l.total slices → start ≡ fat_table_end l.wide (length slices) → l.offsets ≡ places_from l.align start (sizes_of (map shape_of slices)) → HoldsAt b slices l
holds_at b start slices l f place at =
    let m = magic_by b l.wide f.magic in
    let free : (k : ℕ) → free_by slices (places_from l.align start (sizes_of (map shape_of slices))) start k ≡ free_from slices l k = λ k. ap (λ os. free_by slices os start k) (sym at) ∙ ap (λ p. free_by slices l.offsets p k) place in
    record {
      image = record {
        file = record {
          header = omega (arith, f.table);
          magic = m.1;
          table = rw (m.0, f.count) f.table;
          slices = λ k below. one_inside b l.wide l.align start l.total k slices f m.0 (omega (arith, below, f.count));
        };
        rows = image_is b l.wide l.align start l.total slices l.offsets f m.0 at;
      };
      reserved = λ k below. reserved_none b l.wide l.align start l.total k slices f below;
      gaps = λ k offset e. subst (λ p. IsZero b p offset) (free k) (gaps_are b l.wide l.align start 0 slices f.stand k offset (ap (λ os. slice_get os k) (sym at) ∙ e));
      end = f.end;
    }

-- -- the bytes of the table

abbrev AreBytes : List ℕ → Type 0
AreBytes xs = All (λ x. x < 256) xs

pub bytes_turned : (xs : List ℕ) → AreBytes xs → AreBytes (reverse xs)
bytes_turned [] h = h
bytes_turned (x ∷ xs) h = subst AreBytes (sym (reverse_onto xs x [])) (All-append (λ x. x < 256) (reverse xs) (x ∷ []) (bytes_turned xs (All-tail (λ x. x < 256) x xs h)) (All-cons (λ x. x < 256) x [] (All-head (λ x. x < 256) x xs h) (All-nil (λ x. x < 256))))

bytes-big : (w n : ℕ) → AreBytes (big_bytes w n)
unfolding big_bytes
bytes-big w n = bytes_turned (little_bytes w n) (bytes-little_bytes w n)

both : (xs ys : List ℕ) → AreBytes xs → AreBytes ys → AreBytes (xs ++ ys)
both xs ys h k = All-append (λ x. x < 256) xs ys h k

bytes-header : (wide : Bool) (count : ℕ) → AreBytes (header_bytes wide count)
unfolding header_bytes
bytes-header wide count = both (big_bytes 4 (if wide then 0xcafebabf else 0xcafebabe)) (big_bytes 4 count) (bytes-big 4 (if wide then 0xcafebabf else 0xcafebabe)) (bytes-big 4 count)

bytes-narrow : (align : ℕ) (a : Shape) (offset : ℕ) → AreBytes (narrow_row align a offset)
unfolding narrow_row
bytes-narrow align a offset =
    both (big_bytes 4 a.cputype) _ (bytes-big 4 a.cputype) (both (big_bytes 4 a.cpusubtype) _ (bytes-big 4 a.cpusubtype) (both (big_bytes 4 offset) _ (bytes-big 4 offset) (both (big_bytes 4 a.size) (big_bytes 4 (power_of align)) (bytes-big 4 a.size) (bytes-big 4 (power_of align)))))

bytes-wide : (align : ℕ) (a : Shape) (offset : ℕ) → AreBytes (wide_row align a offset)
unfolding wide_row
bytes-wide align a offset =
    both (big_bytes 4 a.cputype) _ (bytes-big 4 a.cputype) (both (big_bytes 4 a.cpusubtype) _ (bytes-big 4 a.cpusubtype) (both (big_bytes 8 offset) _ (bytes-big 8 offset)
    (both (big_bytes 8 a.size) _ (bytes-big 8 a.size) (both (big_bytes 4 (power_of align)) (big_bytes 4 0) (bytes-big 4 (power_of align)) (bytes-big 4 0)))))

bytes-row : (wide : Bool) (align : ℕ) (a : Shape) (offset : ℕ) → AreBytes (row_bytes wide align a offset)
bytes-row true align a offset = bytes-wide align a offset
bytes-row false align a offset = bytes-narrow align a offset

bytes-rows : (wide : Bool) (align end : ℕ) (shapes : List Shape) → AreBytes (rows_from wide align end shapes)
unfolding rows_from
bytes-rows wide align end [] = All-nil (λ x. x < 256)
bytes-rows wide align end (a ∷ shapes) =
    both (row_bytes wide align a (next_multiple_of end align)) (rows_from wide align (next_multiple_of end align + a.size) shapes) (bytes-row wide align a (next_multiple_of end align)) (bytes-rows wide align (next_multiple_of end align + a.size) shapes)

-- the table of a file
table_front : (b header rows contents : List ℕ) (n : ℕ) → b ≡ header ++ (rows ++ contents) → n ≡ length (header ++ rows) → take n b ≡ header ++ rows
table_front b header rows contents n is len =
    ap (take n) (is ∙ sym (append_assoc header rows contents)) ∙ ap (λ k. take k ((header ++ rows) ++ contents)) len ∙ take-append_seam (header ++ rows) contents

pub table_is_bytes : (slices : List Slice) (wide : Bool) (align start total : ℕ) (b : List ℕ) → b ≡ header_bytes wide (length slices) ++ (rows_from wide align start (map shape_of slices) ++ contents_from align start slices)
    → FileStands b wide align start total slices → TableIsBytes b
table_is_bytes slices wide align start total b is f =
    let m = magic_by b wide f.magic in
    let header : List ℕ = header_bytes wide (length slices) in
    let rows : List ℕ = rows_from wide align start (map shape_of slices) in
    let count : length (map shape_of slices) ≡ length slices = length-map slices shape_of in
    let rows_len : 8 + length rows ≡ fat_table_end wide (length slices) = ap (λ n. n + length rows) (sym (table_start wide)) ∙ length-rows_from wide align start (map shape_of slices) 0 ∙ from_start wide (length (map shape_of slices)) ∙ ap (fat_table_end wide) count in
    let len : fat_table_end (has_wide_entries b) (fat_count b) ≡ length (header ++ rows) =
    ap (λ x. fat_table_end x (fat_count b)) m.0 ∙ ap (fat_table_end wide) f.count ∙ (omega (arith, rows_len, length-append header rows, length-header wide (length slices))) in
    subst AreBytes (sym (table_front b header rows (contents_from align start slices) _ is len)) (both header rows (bytes-header wide (length slices)) (bytes-rows wide align start (map shape_of slices)))
