-- The contents of sections, one behind the other, in a loop.
use Rattle.std.proofs.Common.{◌≡◌, ℕ, suc, ◌+◌, ◌-◌, ◌<◌, ◌≤◌, ◌∷◌, [], ◌++◌, List, length, get_or, take, map, true, Some, inl, inr, ap, sym, ◌∙◌, arith, append-nil, append_assoc}
use Rattle.std.specs.Prelude.{slice_get, slice_index, filter, count_by}
use Rattle.std.specs.Int.{next_multiple_of}
use Rattle.std.proofs.lemmas.List.{length-map, map-append, take-map}
use Rattle.std.proofs.lemmas.List.Sums.{length-filter}
use Rattle.byte_core.specs.LaidOut.{Aligned, laid_out, end_of_aligned}
use Rattle.byte_core.proofs.LaidOut.{zeros, laid_out-append, end_of_aligned-append, end_of_aligned-take}
use Rattle.byte_core.proofs.Lists.{get_append, passing}
use Rattle.ir_core.specs.Moments.{moments_after}
use Rattle.object_core.specs.Object.{SectionData, ObjectData}
use Rattle.object_core.specs.LinkTable.{MachTableSection, MachTable}
use Rattle.object_core.specs.MachRows.{addresses_in, is_mach_stored, is_mach_zero_fill, header_order, mach_section, macho_table_of}
use Rattle.object_macho.specs.Layout.{is_stored, stored_contents, end_of_sections, contents_size}
use Rattle.object_macho.specs.File.{aligned_contents}
use Rattle.object_macho.specs.Fitting.{FitsMach}
use Rattle.object_macho.proofs.Behind.{length-stored_contents, take_next, take_all, front_of, stored_are, ends_are, ends_before}
use Rattle.object_macho.proofs.Fit.{stored_rows}
use Rattle.object_macho.proofs.OrderLoops.{section_at}
use Rattle.object_macho.proofs.SectionLoops.{section_row, table_section_at, address_at, count_order, few_stored}
use Rattle.object_macho.specs.Plan.{section_order}
use Rattle.object_macho.proofs.Moments.{length-moments}

-- a section of the front part is stored
pub stored_front : (ss : List SectionData) (n : ℕ) (s : SectionData) → n < count_by is_mach_stored ss → slice_get (header_order ss) n ≡ Some s → is_mach_stored s ≡ true
unfolding header_order
stored_front ss n s h e =
    elim (get_append (filter is_mach_stored ss) (filter is_mach_zero_fill ss) n s e) [
      | inl f ↦ (passing is_mach_stored ss n s f).passes
      | inr r ↦ absurd (omega (arith, r.1, length-filter is_mach_stored ss, h))
    ]

pub stored_count : (o : ObjectData) → length (filter is_stored (macho_table_of o).sections) ≡ count_by is_mach_stored o.sections
unfolding macho_table_of
stored_count o =
    ap length (stored_rows o.symbols o.sections) ∙ length-map (moments_after [] (filter is_mach_stored o.sections)) (mach_section o.symbols) ∙ length-moments [] (filter is_mach_stored o.sections) ∙ length-filter is_mach_stored o.sections

abbrev pub contents_before : MachTable → ℕ → List Aligned
contents_before t n = map (aligned_contents t.cputype) (take n (filter is_stored t.sections))

pub contents_next : (t : MachTable) (n : ℕ) (s : MachTableSection) → slice_get (filter is_stored t.sections) n ≡ Some s → contents_before t (n + 1) ≡ contents_before t n ++ aligned_contents t.cputype s ∷ []
contents_next t n s e =
    let next : n + 1 ≡ suc n = omega arith in
    ap (contents_before t) next ∙ ap (map (aligned_contents t.cputype)) (take_next (filter is_stored t.sections) n s e) ∙ map-append (aligned_contents t.cputype) (take n (filter is_stored t.sections)) (s ∷ [])

one_more : (end : ℕ) (c : Aligned) → laid_out end (c ∷ []) ≡ zeros (next_multiple_of end c.align - end) ++ c.bytes
unfolding laid_out
one_more end c = ap (λ xs. zeros (next_multiple_of end c.align - end) ++ xs) (append-nil c.bytes)

-- contents behind those before them
pub laid_next : (t : MachTable) (n gap : ℕ) (s : MachTableSection) (old padded new front : List ℕ) → slice_get (filter is_stored t.sections) n ≡ Some s → old ≡ front ++ laid_out 0 (contents_before t n) → padded ≡ old ++ zeros gap
    → gap ≡ next_multiple_of (end_of_aligned 0 (contents_before t n)) s.align - end_of_aligned 0 (contents_before t n) → new ≡ padded ++ stored_contents t.cputype s → new ≡ front ++ laid_out 0 (contents_before t (n + 1))
laid_next t n gap s old padded new front e o p g w =
    let cs = contents_before t n in
    let c = aligned_contents t.cputype s in
    let more = laid_out-append 0 cs (c ∷ []) in
    let one = one_more (end_of_aligned 0 cs) c in
    w
    ∙ ap (λ xs. xs ++ stored_contents t.cputype s) (p ∙ ap (λ xs. xs ++ zeros gap) o)
    ∙ append_assoc (front ++ laid_out 0 cs) (zeros gap) (stored_contents t.cputype s)
    ∙ append_assoc front (laid_out 0 cs) (zeros gap ++ stored_contents t.cputype s)
    ∙ ap (λ k. front ++ (laid_out 0 cs ++ (zeros k ++ stored_contents t.cputype s))) g
    ∙ ap (λ xs. front ++ (laid_out 0 cs ++ xs)) (sym one)
    ∙ ap (λ xs. front ++ xs) (sym more)
    ∙ ap (λ xs. front ++ laid_out 0 xs) (sym (contents_next t n s e))

pub end_next : (t : MachTable) (n : ℕ) (s : MachTableSection) → slice_get (filter is_stored t.sections) n ≡ Some s
    → end_of_aligned 0 (contents_before t (n + 1)) ≡ next_multiple_of (end_of_aligned 0 (contents_before t n)) s.align + length (stored_contents t.cputype s)
unfolding end_of_aligned
end_next t n s e = ap (end_of_aligned 0) (contents_next t n s e) ∙ end_of_aligned-append 0 (contents_before t n) (aligned_contents t.cputype s ∷ [])

-- where a stored section stands
pub place_of : (t : MachTable) → FitsMach t → (n : ℕ) (s : MachTableSection) → slice_get t.sections n ≡ Some s → is_stored s ≡ true → s.address ≡ next_multiple_of (end_of_aligned 0 (contents_before t n)) s.align
place_of t f n s e stored = f.places n s e ∙ ap (λ k. next_multiple_of k s.align) (sym (ends_before t f n s (front_of t f n s e stored)))

pub contents_end : (t : MachTable) → FitsMach t → end_of_aligned 0 (contents_before t (length (filter is_stored t.sections))) ≡ contents_size t
contents_end t f = ends_are t.cputype (filter is_stored t.sections) (stored_are t f) (length (filter is_stored t.sections)) (omega arith) ∙ ap end_of_sections (take_all (filter is_stored t.sections))

-- -- all of one section in the loop

pub record StoredAt (o : ObjectData) (addresses : List ℕ) (n id : ℕ) : Type 0 where
  pub item : SectionData
  pub at : slice_get o.sections id ≡ Some item
  pub front : slice_get (filter is_stored (macho_table_of o).sections) n ≡ Some (section_row o n item)
  pub address : slice_index addresses n ≡ next_multiple_of (end_of_aligned 0 (contents_before (macho_table_of o) n)) item.align
  pub end : end_of_aligned 0 (contents_before (macho_table_of o) (n + 1)) ≡ slice_index addresses n + length item.contents
  pub room : slice_index addresses n + length item.contents ≤ contents_size (macho_table_of o)

before_within : (t : MachTable) → FitsMach t → (k : ℕ) → end_of_aligned 0 (contents_before t k) ≤ contents_size t
before_within t f k =
    let ss = filter is_stored t.sections in
    let all = map (aligned_contents t.cputype) ss in
    omega (
      arith,
      end_of_aligned-take 0 all k,
      ap (end_of_aligned 0) (take-map (aligned_contents t.cputype) k ss),
      ap (λ xs. end_of_aligned 0 (map (aligned_contents t.cputype) xs)) (take_all ss),
      contents_end t f,
    )

pub stored_at : (o : ObjectData) (order addresses : List ℕ) (n count : ℕ) → FitsMach (macho_table_of o) → order ≡ section_order o.sections → addresses ≡ addresses_in o.sections → count ≡ count_by is_mach_stored o.sections → n < count
    → StoredAt o addresses n (get_or order n 0)
stored_at o order addresses n count f e g h l =
    let below : n < length order = omega (arith, l, h, few_stored o, count_order o, ap length e) in
    let s = section_at o order n e below in
    let t = macho_table_of o in
    let row = section_row o n s.item in
    let at = table_section_at o n s.item s.place in
    let within : n < count_by is_mach_stored o.sections = omega (arith, l, h) in
    let stored = stored_front o.sections n s.item within s.place in
    let front = front_of t f n row at stored in
    let address = address_at o addresses n s.item g s.place in
    let place = place_of t f n row at stored in
    let end = end_next t n row front in
    let size = length-stored_contents t.cputype row in
    record {
      item = s.item;
      at = s.at;
      front = front;
      address = address ∙ place;
      end = omega (arith, end, address, place, size);
      room = omega (arith, end, address, place, size, before_within t f (n + 1));
    }
