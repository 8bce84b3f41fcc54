-- Slices are written one behind the other.
use Rattle.std.proofs.Common.{◌≡◌, ℕ, ◌+◌, ◌-◌, ◌<◌, ◌≤◌, Bool, List, [], ◌∷◌, ◌++◌, length, map, drop, replicate, Option, Some, None, option_map, option_and_then, refl, ap, sym, ◌∙◌, arith, subst, append_assoc}
use Rattle.std.specs.Int.{next_multiple_of}
use Rattle.std.specs.List.{AllByRecursion}
use Rattle.byte_core.specs.LaidOut.{laid_out}
use Rattle.byte_core.specs.Outside.{AppendsFront}
use Rattle.byte_core.specs.Streams.{SourceData, SinkData, HasLength}
use Rattle.fat_macho.specs.FatBytes.{row_bytes, rows_from, contents_from}
use Rattle.fat_macho.specs.Filing.{ChangesSources, known_contents, Lays}
use Rattle.fat_macho.specs.Held.{known_slices}
use Rattle.fat_macho.specs.HeldViews.{size_of_slice, known_bytes, raw_shape, held_list, IsPlaced}
use Rattle.fat_macho.specs.Layout.{end_from, sizes_of}
use Rattle.fat_macho.specs.Slices.{Slice, Shape}
use Rattle.fat_macho.specs.Writing.{Puts, PutsKnown, FrontKnown, Part}
use Rattle.fat_macho.specs.declared.held.HeldSlice.{HeldSlice}
use Rattle.std.proofs.lemmas.List.{drop_all}
use Rattle.fat_macho.proofs.FilingLaws.{known_same, known_length}
use Rattle.fat_macho.proofs.StepLaws.{end_within}
use Rattle.fat_macho.proofs.CopyLaws.{puts_mapped, front_mapped}
use Rattle.fat_macho.proofs.PutLaws.{part_begins, part_goes_on, part_ends, part_fails_in, puts_again, front_before, front_behind}

-- -- the first of those that are known

-- a slice of these bytes
abbrev pub known_slice : HeldSlice → List ℕ → Slice
known_slice h b = record { cputype = h.cputype; cpusubtype = h.cpusubtype; bytes = b }

pub record FirstKnown (sources : List SourceData) (h : HeldSlice) (slices : List HeldSlice) (all : List Slice) : Type 0 where
  pub bytes : List ℕ
  pub are : known_bytes sources h.bytes ≡ Some bytes
  pub rest : List Slice
  pub rest_is : known_slices (held_list sources slices) ≡ Some rest
  pub all_is : all ≡ known_slice h bytes ∷ rest

first_by : (sources : List SourceData) (h : HeldSlice) (slices : List HeldSlice) (all : List Slice) (o : Option (List ℕ)) (r : Option (List Slice)) → known_bytes sources h.bytes ≡ o → known_slices (held_list sources slices) ≡ r
    → option_and_then (λ bytes. option_map (λ rest. known_slice h bytes ∷ rest) r) o ≡ Some all → FirstKnown sources h slices all
first_by sources h slices all None r e f is = absurd (cc)
first_by sources h slices all (Some b) None e f is = absurd (cc)
first_by sources h slices all (Some b) (Some rest) e f is = let same : known_slice h b ∷ rest ≡ all = cc in record { bytes = b; are = e; rest = rest; rest_is = f; all_is = sym same }

pub first_known : (sources : List SourceData) (h : HeldSlice) (slices : List HeldSlice) (all : List Slice) → known_slices (held_list sources (h ∷ slices)) ≡ Some all → FirstKnown sources h slices all
first_known sources h slices all e = first_by sources h slices all (known_bytes sources h.bytes) (known_slices (held_list sources slices)) refl refl e

pub known_more : (sources : List SourceData) (h : HeldSlice) (slices : List HeldSlice) (b : List ℕ) (rest : List Slice) → known_bytes sources h.bytes ≡ Some b → known_slices (held_list sources slices) ≡ Some rest
    → known_slices (held_list sources (h ∷ slices)) ≡ Some (known_slice h b ∷ rest)
known_more sources h slices b rest e f =
    ap (λ o. option_and_then (λ bytes. option_map (λ rest. known_slice h bytes ∷ rest) (known_slices (held_list sources slices))) o) e ∙ ap (option_map (λ rest. known_slice h b ∷ rest)) f

-- -- contents

-- a gap, and the bytes of a slice
abbrev pub gapped : ℕ → ℕ → List ℕ → List ℕ
gapped align end b = replicate (next_multiple_of end align - end) 0 ++ b

contents_split : (align end : ℕ) (s : Slice) (rest : List Slice) → contents_from align end (s ∷ rest) ≡ gapped align end s.bytes ++ contents_from align (next_multiple_of end align + length s.bytes) rest
unfolding laid_out
contents_split align end s rest = sym (append_assoc (replicate (next_multiple_of end align - end) 0) s.bytes (contents_from align (next_multiple_of end align + length s.bytes) rest))

pub lays_begin : (sources : List SourceData) (align start : ℕ) (slices : List HeldSlice) (x : SinkData) → Lays sources align start start slices slices x x
lays_begin sources align start slices x = record { known = λ all e. record { left = all; are_left = e; part = part_begins x (contents_from align start all) } }

-- the next slice was written, from sources as they are now
pub lays_on : (sources now : List SourceData) (align start end next : ℕ) (slices rest more : List HeldSlice) (h : HeldSlice) (x y z : SinkData) → Lays sources align start end slices rest x y → rest ≡ h ∷ more → ChangesSources sources now
    → AllByRecursion HasLength sources → IsPlaced sources h.bytes → next ≡ next_multiple_of end align + size_of_slice h.bytes → PutsKnown (option_map (gapped align end) (known_bytes now h.bytes)) y z → Lays sources align start next slices more x z
lays_on sources now align start end next slices rest more h x y z lays split changes lengths placed is puts =
    record {
      known = λ all e.
          let l = lays.known all e in
          let f = first_known sources h more l.left (ap (λ r. known_slices (held_list sources r)) (sym split) ∙ l.are_left) in
          let len : length f.bytes ≡ size_of_slice h.bytes = known_length sources h.bytes f.bytes lengths placed f.are in
          let place : next_multiple_of end align + length f.bytes ≡ next = ap (λ n. next_multiple_of end align + n) len ∙ sym is in
          let cut : contents_from align end l.left ≡ gapped align end f.bytes ++ contents_from align next f.rest =
          ap (contents_from align end) f.all_is ∙ contents_split align end (known_slice h f.bytes) f.rest ∙ ap (λ n. gapped align end f.bytes ++ contents_from align n f.rest) place in
          let put : Puts y z (gapped align end f.bytes) = puts.known (gapped align end f.bytes) (ap (option_map (gapped align end)) (known_same sources now h.bytes changes ∙ f.are)) in
          record { left = f.rest; are_left = f.rest_is; part = part_goes_on x y z (contents_from align start all) (contents_from align end l.left) (gapped align end f.bytes) (contents_from align next f.rest) l.part cut put };
    }

pub mapped_front : (f : List Slice → List ℕ) (o : Option (List Slice)) (x y : SinkData) → ((all : List Slice) → o ≡ Some all → AppendsFront x.written y.written (f all)) → FrontKnown (option_map f o) x y
mapped_front f o x y each = record { known = λ b e. mapped_by o b each e }
  where
    mapped_by : (o : Option (List Slice)) (b : List ℕ) → ((all : List Slice) → o ≡ Some all → AppendsFront x.written y.written (f all)) → option_map f o ≡ Some b → AppendsFront x.written y.written b
    mapped_by None b each e = absurd (cc)
    mapped_by (Some all) b each e = let same : f all ≡ b = cc in subst (AppendsFront x.written y.written) same (each all refl)

pub mapped_puts : (f : List Slice → List ℕ) (o : Option (List Slice)) (x y : SinkData) → ((all : List Slice) → o ≡ Some all → Puts x y (f all)) → PutsKnown (option_map f o) x y
mapped_puts f o x y each = record { known = λ b e. mapped_by o b each e }
  where
    mapped_by : (o : Option (List Slice)) (b : List ℕ) → ((all : List Slice) → o ≡ Some all → Puts x y (f all)) → option_map f o ≡ Some b → Puts x y b
    mapped_by None b each e = absurd (cc)
    mapped_by (Some all) b each e = let same : f all ≡ b = cc in subst (Puts x y) same (each all refl)

-- the next slice failed
pub lays_fail : (sources now : List SourceData) (align start end : ℕ) (slices rest more : List HeldSlice) (h : HeldSlice) (x y z : SinkData) → Lays sources align start end slices rest x y → rest ≡ h ∷ more → ChangesSources sources now
    → FrontKnown (option_map (gapped align end) (known_bytes now h.bytes)) y z → FrontKnown (known_contents sources align start slices) x z
lays_fail sources now align start end slices rest more h x y z lays split changes front =
    mapped_front (contents_from align start) (known_slices (held_list sources slices)) x z
    (λ all e.
    let l = lays.known all e in
    let f = first_known sources h more l.left (ap (λ r. known_slices (held_list sources r)) (sym split) ∙ l.are_left) in
    let cut : contents_from align end l.left ≡ gapped align end f.bytes ++ contents_from align (next_multiple_of end align + length f.bytes) f.rest = ap (contents_from align end) f.all_is ∙ contents_split align end (known_slice h f.bytes) f.rest in
    part_fails_in x y z (contents_from align start all) (contents_from align end l.left) (gapped align end f.bytes) _ l.part cut (front.known (gapped align end f.bytes) (ap (option_map (gapped align end)) (known_same sources now h.bytes changes ∙ f.are))))

pub lays_end : (sources : List SourceData) (align start end : ℕ) (slices rest : List HeldSlice) (x y : SinkData) → Lays sources align start end slices rest x y → rest ≡ [] → PutsKnown (known_contents sources align start slices) x y
unfolding laid_out
lays_end sources align start end slices rest x y lays none =
    mapped_puts (contents_from align start) (known_slices (held_list sources slices)) x y
    (λ all e.
    let l = lays.known all e in
    let nothing : Some l.left ≡ Some [] = sym l.are_left ∙ ap (λ r. known_slices (held_list sources r)) none in
    let empty : l.left ≡ [] = cc in
    part_ends x y (contents_from align start all) (contents_from align end l.left) l.part (ap (contents_from align end) empty))

-- -- the table

pub rows_split : (wide : Bool) (align end : ℕ) (a : Shape) (rest : List Shape) → rows_from wide align end (a ∷ rest) ≡ row_bytes wide align a (next_multiple_of end align) ++ rows_from wide align (next_multiple_of end align + a.size) rest
unfolding rows_from
rows_split wide align end a rest = refl

pub rows_none : (wide : Bool) (align end : ℕ) → rows_from wide align end [] ≡ []
unfolding rows_from
rows_none wide align end = refl

-- -- a gap and a slice

gap_is : (align end offset : ℕ) → offset ≡ next_multiple_of end align → replicate {A = ℕ} (offset - end) 0 ≡ replicate {A = ℕ} (next_multiple_of end align - end) 0
gap_is align end offset is = ap (λ (n : ℕ). replicate {A = ℕ} (n - end) 0) is

pub gap_puts : (o : Option (List ℕ)) (align end offset : ℕ) (x y z : SinkData) → offset ≡ next_multiple_of end align → Puts x y (replicate (offset - end) 0) → PutsKnown o y z → PutsKnown (option_map (gapped align end) o) x z
gap_puts o align end offset x y z is zeros puts =
    puts_mapped (gapped align end) o x z (λ b e. puts_again (replicate (next_multiple_of end align - end) 0) b x y z (subst (Puts x y) (gap_is align end offset is) zeros) (puts.known b e))

pub gap_fails : (o : Option (List ℕ)) (align end offset : ℕ) (x y : SinkData) → offset ≡ next_multiple_of end align → AppendsFront x.written y.written (replicate (offset - end) 0) → FrontKnown (option_map (gapped align end) o) x y
gap_fails o align end offset x y is front =
    front_mapped (gapped align end) o x y (λ b e. front_before (replicate (next_multiple_of end align - end) 0) b x y (subst (AppendsFront x.written y.written) (gap_is align end offset is) front))

pub gap_front : (o : Option (List ℕ)) (align end offset : ℕ) (x y z : SinkData) → offset ≡ next_multiple_of end align → Puts x y (replicate (offset - end) 0) → FrontKnown o y z → FrontKnown (option_map (gapped align end) o) x z
gap_front o align end offset x y z is zeros front =
    front_mapped (gapped align end) o x z (λ b e. front_behind (replicate (next_multiple_of end align - end) 0) b x y z (subst (Puts x y) (gap_is align end offset is) zeros) (front.known b e))

-- the next entry was written
rows_cut : (wide : Bool) (align end next : ℕ) (h : HeldSlice) (rest more : List HeldSlice) → rest ≡ h ∷ more → next ≡ next_multiple_of end align + (raw_shape h).size
    → rows_from wide align end (map raw_shape rest) ≡ row_bytes wide align (raw_shape h) (next_multiple_of end align) ++ rows_from wide align next (map raw_shape more)
rows_cut wide align end next h rest more split is =
    ap (λ r. rows_from wide align end (map raw_shape r)) split ∙ rows_split wide align end (raw_shape h) (map raw_shape more)
    ∙ ap (λ n. row_bytes wide align (raw_shape h) (next_multiple_of end align) ++ rows_from wide align n (map raw_shape more)) (sym is)

pub rows_on : (wide : Bool) (align end next : ℕ) (h : HeldSlice) (rest more : List HeldSlice) (all : List ℕ) (x y z : SinkData) → Part x y all (rows_from wide align end (map raw_shape rest)) → rest ≡ h ∷ more
    → next ≡ next_multiple_of end align + (raw_shape h).size → Puts y z (row_bytes wide align (raw_shape h) (next_multiple_of end align)) → Part x z all (rows_from wide align next (map raw_shape more))
rows_on wide align end next h rest more all x y z p split is puts = part_goes_on x y z all (rows_from wide align end (map raw_shape rest)) (row_bytes wide align (raw_shape h) (next_multiple_of end align)) (rows_from wide align next (map raw_shape more)) p (rows_cut wide align end next h rest more split is) puts

pub rows_fail : (wide : Bool) (align end : ℕ) (h : HeldSlice) (rest more : List HeldSlice) (all : List ℕ) (x y z : SinkData) → Part x y all (rows_from wide align end (map raw_shape rest)) → rest ≡ h ∷ more
    → AppendsFront y.written z.written (row_bytes wide align (raw_shape h) (next_multiple_of end align)) → AppendsFront x.written z.written all
rows_fail wide align end h rest more all x y z p split front =
    part_fails_in x y z all (rows_from wide align end (map raw_shape rest)) (row_bytes wide align (raw_shape h) (next_multiple_of end align)) _ p (rows_cut wide align end _ h rest more split refl) front

pub rows_end : (wide : Bool) (align end : ℕ) (rest : List HeldSlice) (all : List ℕ) (x y : SinkData) → Part x y all (rows_from wide align end (map raw_shape rest)) → rest ≡ [] → Puts x y all
rows_end wide align end rest all x y p none = part_ends x y all (rows_from wide align end (map raw_shape rest)) p (ap (λ r. rows_from wide align end (map raw_shape r)) none ∙ rows_none wide align end)

-- where the slices end
pub end_on : (align end next total : ℕ) (h : HeldSlice) (rest more : List HeldSlice) → end_from align end (sizes_of (map raw_shape rest)) ≡ total → rest ≡ h ∷ more → next ≡ next_multiple_of end align + (raw_shape h).size → end_from align next (sizes_of (map raw_shape more)) ≡ total
end_on align end next total h rest more all split is = ap (λ n. end_from align n (sizes_of (map raw_shape more))) is ∙ ap (λ r. end_from align end (sizes_of (map raw_shape r))) (sym split) ∙ all

pub end_room : (align end total limit : ℕ) (h : HeldSlice) (rest more : List HeldSlice) → end_from align end (sizes_of (map raw_shape rest)) ≡ total → rest ≡ h ∷ more → total < limit → next_multiple_of end align + (raw_shape h).size < limit
end_room align end total limit h rest more all split short =
    let last = end_on align end (next_multiple_of end align + (raw_shape h).size) total h rest more all split refl in
    omega (arith, last, short, end_within align (next_multiple_of end align + (raw_shape h).size) (sizes_of (map raw_shape more)))

pub none_left : {X : Type 0} (xs : List X) (i : ℕ) → length xs ≤ i → drop i xs ≡ []
none_left xs i all = drop_all i xs all
