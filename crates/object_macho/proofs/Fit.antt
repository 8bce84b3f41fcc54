-- The table of a formed Mach-O object fits.
use Rattle.std.proofs.Common.{◌≡◌, ℕ, zero, suc, ◌+◌, ◌^◌, ◌<◌, ◌≤◌, inl, inr, List, [], ◌∷◌, ◌++◌, Bool, true, false, not, length, take, map, Some, refl, ap, sym, ◌∙◌, subst, arith, append-nil, lit<}
use Rattle.std.specs.Prelude.{slice_get, filter, sum_by, fold}
use Rattle.std.specs.Int.{next_multiple_of}
use Rattle.std.specs.List.{All}
use Rattle.std.proofs.lemmas.List.{map-append}
use Rattle.std.proofs.lemmas.List.Elements.{All-get_or}
use Rattle.std.proofs.lemmas.Option.{get_or_from_slice_get}
use Rattle.std.proofs.lemmas.List.Sums.{sum_by-cons}
use Rattle.ir_core.specs.Moments.{moments_after, moments}
use Rattle.ir_core.specs.MachO.{mach_cputype}
use Rattle.ir_core.specs.declared.target.Architecture.{Architecture}
use Rattle.ir_core.specs.declared.target.Architecture.TheVariants.{X86_32, X86_64, Arm, Aarch64, Riscv64, S390x}
use Rattle.ir_core.specs.declared.target.BinaryFormat.TheVariants.{Macho}
use Rattle.byte_core.proofs.Lists.{get_append, get_exists, get_within, passing, filter_append}
use Rattle.object_core.specs.Object.{SymbolData, SectionData}
use Rattle.object_core.specs.Places.{Extent, end_of}
use Rattle.object_core.specs.Appending.{IsSection, AreSections}
use Rattle.object_core.specs.LinkTable.{MachTableSection}
use Rattle.object_core.specs.MachRows.{mach_cpusubtype, is_mach_stored, is_mach_zero_fill, header_order, section_extent, mach_section}
use Rattle.object_macho.specs.Layout.{is_stored, end_of_sections}
use Rattle.object_macho.specs.Fitting.{StandBehind, is_unstored}
use Rattle.object_macho.proofs.Moments.{moment_at, moment_from, sum_by_parts, sum_by_append, seen_from, seen_append, filter_all, filter_none}
use Rattle.object_macho.proofs.Behind.{end_of_sections-end, take_next}

pub all_at : {A : Type 0} (P : A → Type 0) (xs : List A) (k : ℕ) (x : A) → All P xs → slice_get xs k ≡ Some x → P x
all_at P xs k x h e = subst P (get_or_from_slice_get xs k x x e) (All-get_or P xs k x (get_within xs k x e) h)

-- -- the processor

pub cputype_fits : (architecture : Architecture) → mach_cputype architecture < 2 ^ 32
cputype_fits X86_64 = lit< tt
cputype_fits Aarch64 = lit< tt
cputype_fits X86_32 = lit< tt
cputype_fits Arm = lit< tt
cputype_fits Riscv64 = lit< tt
cputype_fits S390x = lit< tt

pub cpusubtype_fits : (architecture : Architecture) → mach_cpusubtype architecture < 2 ^ 32
cpusubtype_fits X86_64 = lit< tt
cpusubtype_fits Aarch64 = lit< tt
cpusubtype_fits X86_32 = lit< tt
cpusubtype_fits Arm = lit< tt
cpusubtype_fits Riscv64 = lit< tt
cpusubtype_fits S390x = lit< tt

-- -- the sections of a table, in the order of their headers

abbrev pub rows_of : List SymbolData → List SectionData → List MachTableSection
rows_of symbols ordered = map (mach_section symbols) (moments ordered)

fold_end : {A B : Type 0} (f : B → A → B) (z : B) (xs : List A) (x : A) → fold f z (xs ++ x ∷ []) ≡ f (fold f z xs) x
fold_end f z [] x = refl
fold_end f z (y ∷ ys) x = fold_end f (f z y) ys x

pub extent_end : (xs : List SectionData) (x : SectionData) → end_of (map section_extent (xs ++ x ∷ [])) ≡ next_multiple_of (end_of (map section_extent xs)) x.align + x.size
unfolding end_of
extent_end xs x = ap (fold (λ end (e : Extent). next_multiple_of end e.align + e.size) 0) (map-append section_extent xs (x ∷ [])) ∙ fold_end (λ end (e : Extent). next_multiple_of end e.align + e.size) 0 (map section_extent xs) (section_extent x)

-- sections end where their extents do
pub ends_agree : (symbols : List SymbolData) (ordered : List SectionData) (n : ℕ) → n ≤ length ordered → end_of_sections (take n (rows_of symbols ordered)) ≡ end_of (map section_extent (take n ordered))
unfolding end_of_sections end_of
ends_agree symbols ordered zero h = refl
ends_agree symbols ordered (suc n) h =
    let s = get_exists ordered n (omega (arith, h)) in
    let before = ends_agree symbols ordered n (omega (arith, h)) in
    let row = mach_section symbols (record { before = take n ordered; here = s.0 }) in
    ap end_of_sections (take_next (rows_of symbols ordered) n row (moment_at (mach_section symbols) ordered n s.0 s.1))
    ∙ end_of_sections-end (take n (rows_of symbols ordered)) row
    ∙ sym (ap (λ xs. end_of (map section_extent xs)) (take_next ordered n s.0 s.1) ∙ extent_end (take n ordered) s.0)

pub rows_stand : (symbols : List SymbolData) (ordered : List SectionData) → StandBehind (rows_of symbols ordered)
rows_stand symbols ordered k s e =
    let x = moment_from (mach_section symbols) ordered k s e in
    let within = get_within ordered k x.0 x.1 in
    let place : next_multiple_of (end_of (map section_extent (take k ordered))) x.0.align ≡ s.address = ap (λ (r : MachTableSection). r.address) x.2 in
    let align : x.0.align ≡ s.align = ap (λ (r : MachTableSection). r.align) x.2 in
    sym place ∙ ap (λ n. next_multiple_of n x.0.align) (sym (ends_agree symbols ordered k (omega (arith, within)))) ∙ ap (next_multiple_of (end_of_sections (take k (rows_of symbols ordered)))) align

-- -- those with bytes come first

rows_pass : (symbols : List SymbolData) (before xs : List SectionData) → ((k : ℕ) (x : SectionData) → slice_get xs k ≡ Some x → is_mach_stored x ≡ true) → (k : ℕ) (r : MachTableSection)
    → slice_get (map (mach_section symbols) (moments_after before xs)) k ≡ Some r → is_stored r ≡ true
rows_pass symbols before xs h k r e =
    let x = seen_from (mach_section symbols) before xs k r e in
    ap is_stored (sym x.2) ∙ h k x.0 x.1

rows_fail : (symbols : List SymbolData) (before xs : List SectionData) → ((k : ℕ) (x : SectionData) → slice_get xs k ≡ Some x → is_mach_stored x ≡ false) → (k : ℕ) (r : MachTableSection)
    → slice_get (map (mach_section symbols) (moments_after before xs)) k ≡ Some r → is_stored r ≡ false
rows_fail symbols before xs h k r e =
    let x = seen_from (mach_section symbols) before xs k r e in
    ap is_stored (sym x.2) ∙ h k x.0 x.1

parts_by : (p q : MachTableSection → Bool) (front back all : List MachTableSection) → all ≡ front ++ back → filter p front ≡ front → filter p back ≡ [] → filter q front ≡ [] → filter q back ≡ back → all ≡ filter p all ++ filter q all
parts_by p q front back all e a b c d = rw (e, filter_append p front back, filter_append q front back, a, b, c, d, append-nil) refl

-- the stored rows are those of the stored sections
pub stored_rows : (symbols : List SymbolData) (sections : List SectionData) → filter is_stored (rows_of symbols (header_order sections)) ≡ map (mach_section symbols) (moments_after [] (filter is_mach_stored sections))
unfolding header_order moments
stored_rows symbols sections =
    let stored = filter is_mach_stored sections in
    let rest = filter is_mach_zero_fill sections in
    let front = map (mach_section symbols) (moments_after [] stored) in
    let back = map (mach_section symbols) (moments_after stored rest) in
    let yes = rows_pass symbols [] stored (λ k x e. (passing is_mach_stored sections k x e).passes) in
    let no = rows_fail symbols stored rest (λ k x e. ap not (passing is_mach_zero_fill sections k x e).passes) in
    ap (filter is_stored) (seen_append (mach_section symbols) [] stored rest) ∙ filter_append is_stored front back ∙ rw (filter_all is_stored front yes, filter_none is_stored back no) (append-nil front)

pub rows_order : (symbols : List SymbolData) (sections : List SectionData) → rows_of symbols (header_order sections) ≡ filter is_stored (rows_of symbols (header_order sections)) ++ filter is_unstored (rows_of symbols (header_order sections))
unfolding header_order moments
rows_order symbols sections =
    let stored = filter is_mach_stored sections in
    let rest = filter is_mach_zero_fill sections in
    let front = map (mach_section symbols) (moments_after [] stored) in
    let back = map (mach_section symbols) (moments_after stored rest) in
    let yes = rows_pass symbols [] stored (λ k x e. (passing is_mach_stored sections k x e).passes) in
    let no = rows_fail symbols stored rest (λ k x e. ap not (passing is_mach_zero_fill sections k x e).passes) in
    parts_by is_stored is_unstored front back (rows_of symbols (stored ++ rest)) (seen_append (mach_section symbols) [] stored rest) (filter_all is_stored front yes) (filter_none is_stored back no)
    (filter_none is_unstored front (λ k r e. ap not (yes k r e))) (filter_all is_unstored back (λ k r e. ap not (no k r e)))

-- -- their memory

over : (end align : ℕ) → 0 < align → next_multiple_of end align ≤ end + align
over end align h = omega (arith, h)

memory_from : (end : ℕ) (xs : List SectionData) → ((k : ℕ) (x : SectionData) → slice_get xs k ≡ Some x → 0 < x.align)
    → fold (λ end (e : Extent). next_multiple_of end e.align + e.size) end (map section_extent xs) ≤ end + sum_by (λ (x : SectionData). x.size) xs + sum_by (λ (x : SectionData). x.align) xs
memory_from end [] h = omega arith
memory_from end (x ∷ xs) h =
    omega (
      arith,
      memory_from (next_multiple_of end x.align + x.size) xs (λ k y e. h (suc k) y e),
      over end x.align (h 0 x refl),
      sum_by-cons (λ (y : SectionData). y.size) x xs,
      sum_by-cons (λ (y : SectionData). y.align) x xs,
    )

-- an ordered section is one of the object
pub ordered_from : (sections : List SectionData) (n : ℕ) (x : SectionData) → slice_get (header_order sections) n ≡ Some x → (k : ℕ) × (slice_get sections k ≡ Some x)
unfolding header_order
ordered_from sections n x e =
    elim (get_append (filter is_mach_stored sections) (filter is_mach_zero_fill sections) n x e) [
      | inl h ↦ (let p = passing is_mach_stored sections n x h in (p.place, p.at))
      | inr r ↦ (let p = passing is_mach_zero_fill sections r.0 x r.2 in (p.place, p.at))
    ]

pub sums_agree : (f : SectionData → ℕ) (sections : List SectionData) → sum_by f (header_order sections) ≡ sum_by f sections
unfolding header_order
sums_agree f sections = sum_by_append f (filter is_mach_stored sections) (filter is_mach_zero_fill sections) ∙ sum_by_parts f is_mach_zero_fill sections

pub memory_is : (sections : List SectionData) (sum : ℕ) → AreSections Macho sections sum → end_of (map section_extent (header_order sections)) ≤ sum + (sum + length sections)
unfolding end_of
memory_is sections sum h =
    let positive = λ (k : ℕ) (x : SectionData) (e : slice_get (header_order sections) k ≡ Some x). (let from = ordered_from sections k x e in (all_at (IsSection Macho) sections from.0 x h.each from.1).align) in
    omega (
      arith,
      memory_from 0 (header_order sections) positive,
      sums_agree (λ (x : SectionData). x.size) sections,
      sums_agree (λ (x : SectionData). x.align) sections,
      h.sizes,
      h.aligns,
    )
