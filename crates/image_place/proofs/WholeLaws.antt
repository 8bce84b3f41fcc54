-- The ranges of definitions lie in the bytes of their sections.
use Rattle.std.proofs.Common.{◌≡◌, ℕ, zero, suc, ◌+◌, ◌-◌, ◌<◌, ◌≤◌, List, [], ◌∷◌, length, map, take, drop, refl, ap, sym, ◌∙◌, arith, Some, None, Bool, true, false, slice_get, subst}
use Rattle.std.specs.Prelude.{Option, option_and_then, filter, flat_map, ◌||◌, nat_lt, nat_le, ◌^◌, if◌then◌else◌}
use Rattle.std.specs.List.{filter_map, cons_option, enumerate_from, range_with_len}
use Rattle.std.proofs.lemmas.Bool.{ltb-false, or_parts}
use Rattle.std.proofs.lemmas.List.{length-take, length-drop, length-replicate}
use Rattle.std.proofs.lemmas.List.Elements.{filter-append}
use Rattle.byte_core.specs.Number.{bytes_at}
use Rattle.byte_core.proofs.Lists.{get_map, get_map_from}
use Rattle.image_read.specs.ElfFile.{header_of, section_row, has_bytes}
use Rattle.image_read.specs.ElfImage.{ElfImageData, ElfSectionData, ElfReads, section_data, elf_image_of}
use Rattle.image_read.specs.MachFile.{mach_section_row, mach_has_bytes, section_count}
use Rattle.image_read.specs.MachImage.{MachImageData, MachSectionData, MachReads, mach_section_data, mach_image_of}
use Rattle.image_read.specs.Image.{Reads}
use Rattle.image_read.specs.declared.image.Image.{Image}
use Rattle.image_read.specs.declared.image.Image.TheVariants.{Elf, Mach, Fat}
use Rattle.image_view.specs.View.{View, ViewSymbol, ViewSection, filled, elf_view, elf_view_section, mach_view, mach_view_section, view_of}
use Rattle.image_place.specs.Placed.{AddressRow, At, Definition, definition_at, definitions_in, row_for, symbols_at, all_definitions, PlaceFault, first_fault, address_fault, is_homeless, leaves, section_of, is_definition, no_address, AreViewed}
use Rattle.image_view.specs.Viewed.{IsViewed}
use Rattle.image_place.specs.Applying.{HasRange, IsHome, AllHaveRanges, IsWhole, AreWhole}
use Rattle.image_place.proofs.DefinitionLaws.{map_append}
use Rattle.image_place.proofs.EntryLaws.{fault_left, fault_right, fault_map, enumerated, filtered, false_if}

-- -- sections have as many bytes as their size

filled_long : (n : ℕ) (xs : List ℕ) → length xs ≡ n → length (filled n xs) ≡ n
filled_long n [] h = length-replicate n 0
filled_long n (x ∷ xs) h = h

stored_long : (b : List ℕ) (o n : ℕ) (has : Bool) → (has ≡ true → o + n ≤ length b) → length (filled n (if has then bytes_at b o n else [])) ≡ n
unfolding bytes_at
stored_long b o n true h = let inside = h refl in filled_long n (take n (drop o b)) (omega (arith, length-take n (drop o b), length-drop o b, inside))
stored_long b o n false h = length-replicate n 0

-- a number of a range
record Numbered {A : Type 0} (f : ℕ → A) (n c : ℕ) (x : A) : Type 0 where
  number : ℕ
  is : f number ≡ x
  low : n ≤ number
  below : number < n + c

in_range : {A : Type 0} (f : ℕ → A) (n c k : ℕ) (x : A) → slice_get (map f (range_with_len n c)) k ≡ Some x → Numbered f n c x
in_range f n zero k x e = absurd (cc)
in_range f n (suc c) zero x e = let same : f n ≡ x = cc in record { number = n; is = same; low = omega arith; below = omega arith }
in_range f n (suc c) (suc k) x e =
    let far = in_range f (n + 1) c k x e in
    record { number = far.number; is = far.is; low = omega (arith, far.low); below = omega (arith, far.below) }

elf_whole : (b : List ℕ) (image : ElfImageData) → ElfReads b image → IsWhole (elf_view image)
unfolding elf_view elf_image_of
elf_whole b image r k s e =
    let section = get_map_from elf_view_section image.sections k s e in
    let rows = ap (λ (i : ElfImageData). i.sections) r.rows in
    let row = in_range (section_data b) 1 ((header_of b).shnum - 1) k section.0 (ap (λ (xs : List ElfSectionData). slice_get xs k) (sym rows) ∙ section.1) in
    let long = stored_long b (section_row b row.number).offset (section_row b row.number).size (has_bytes (section_row b row.number)) (r.file.sections row.number row.low (omega (arith, row.below, r.file.some))).inside in
    let same : elf_view_section (section_data b row.number) ≡ s = ap elf_view_section row.is ∙ section.2 in
    subst (λ (x : ViewSection). length x.bytes ≡ x.size) same long

mach_whole : (b : List ℕ) (image : MachImageData) → MachReads b image → IsWhole (mach_view image)
unfolding mach_view mach_image_of
mach_whole b image r k s e =
    let section = get_map_from mach_view_section image.sections k s e in
    let rows = ap (λ (i : MachImageData). i.sections) r.rows in
    let row = in_range (mach_section_data b) 0 (section_count b) k section.0 (ap (λ (xs : List MachSectionData). slice_get xs k) (sym rows) ∙ section.1) in
    let long = stored_long b (mach_section_row b row.number).offset (mach_section_row b row.number).size (mach_has_bytes (mach_section_row b row.number)) (r.file.sections row.number (omega (arith, row.below))).inside in
    let same : mach_view_section (mach_section_data b row.number) ≡ s = ap mach_view_section row.is ∙ section.2 in
    subst (λ (x : ViewSection). length x.bytes ≡ x.size) same long

whole_if : (b : Bool) (w v : View) → (if b then Some w else None) ≡ Some v → IsWhole w → IsWhole v
whole_if true w v e h = let same : w ≡ v = cc in subst IsWhole same h
whole_if false w v e h = absurd (cc)

whole_by : (b : List ℕ) (image : Image) (v : View) → Reads b image → view_of image ≡ Some v → IsWhole v
whole_by b (Elf image) v r e = whole_if _ (elf_view image) v e (elf_whole b image r)
whole_by b (Mach image) v r e = whole_if _ (mach_view image) v e (mach_whole b image r)
whole_by b (Fat image) v r e = absurd (cc)

pub viewed_whole : (b : List ℕ) (v : View) → IsViewed b v → IsWhole v
viewed_whole b v h = whole_by b h.image v h.read h.view

file_there : (files : List (List ℕ)) (views : List View) (q : ℕ) (v : View) → length views ≡ length files → slice_get views q ≡ Some v → (b : List ℕ) × (slice_get files q ≡ Some b)
file_there files [] q v n e = absurd (cc)
file_there [] (w ∷ views) q v n e = absurd (omega (arith, n))
file_there (b ∷ files) (w ∷ views) zero v n e = (b, refl)
file_there (b ∷ files) (w ∷ views) (suc q) v n e = file_there files views q v (omega (arith, n)) e

pub all_whole : (files : List (List ℕ)) (views : List View) → AreViewed files views → AreWhole views
all_whole files views h q v e =
    let file = file_there files views q v h.count e in
    viewed_whole file.0 v (h.each q file.0 v file.1 e)

-- -- definitions lie in their sections

-- the symbol and the address row of a definition
record FromSymbol (addresses : List AddressRow) (q n : ℕ) (symbols : List ViewSymbol) (d : Definition) : Type 0 where
  number : ℕ
  symbol : ViewSymbol
  here : slice_get symbols number ≡ Some symbol
  row : AddressRow
  given : row_for addresses q (n + number) ≡ Some row
  address : d.symbol.address ≡ symbol.address
  section : symbol.section ≡ Some d.section
  label : symbol.is_label ≡ false
  size : row.size ≡ d.size

symbol_if : (addresses : List AddressRow) (q n : ℕ) (s : ViewSymbol) (more : List ViewSymbol) (k : ℕ) (a : AddressRow) (d : Definition) (b : Bool) → s.section ≡ Some k → row_for addresses q n ≡ Some a → s.is_label ≡ b
    → (if b then None else Some (record { row = n; symbol = s; section = k; address = a.address; size = a.size })) ≡ Some d → FromSymbol addresses q n (s ∷ more) d
symbol_if addresses q n s more k a d true e f g h = absurd (cc)
symbol_if addresses q n s more k a d false e f g h =
    let same : record { row = n; symbol = s; section = k; address = a.address; size = a.size } ≡ d = cc in
    let start : n ≡ n + 0 = omega arith in
    record {
      number = 0;
      symbol = s;
      here = refl;
      row = a;
      given = ap (row_for addresses q) (sym start) ∙ f;
      address = ap (λ (x : Definition). x.symbol.address) (sym same);
      section = e ∙ ap (λ (x : Definition). Some x.section) same;
      label = g;
      size = ap (λ (x : Definition). x.size) same;
    }

symbol_by : (addresses : List AddressRow) (q n : ℕ) (s : ViewSymbol) (more : List ViewSymbol) (section : Option ℕ) (o : Option AddressRow) (d : Definition) → s.section ≡ section → row_for addresses q n ≡ o → definition_at n s section o ≡ Some d → FromSymbol addresses q n (s ∷ more) d
symbol_by addresses q n s more None o d e f h = absurd (cc)
symbol_by addresses q n s more (Some k) None d e f h = absurd (cc)
symbol_by addresses q n s more (Some k) (Some a) d e f h = symbol_if addresses q n s more k a d s.is_label e f refl h

symbol_later : (addresses : List AddressRow) (q n : ℕ) (s : ViewSymbol) (more : List ViewSymbol) (d : Definition) → FromSymbol addresses q (n + 1) more d → FromSymbol addresses q n (s ∷ more) d
symbol_later addresses q n s more d h =
    let next : n + 1 + h.number ≡ n + suc h.number = omega arith in
    record { number = suc h.number; symbol = h.symbol; here = h.here; row = h.row; given = ap (row_for addresses q) (sym next) ∙ h.given; address = h.address; section = h.section; label = h.label; size = h.size }

symbol_from : (addresses : List AddressRow) (q n : ℕ) (s : ViewSymbol) (more : List ViewSymbol) (j : ℕ) (d : Definition) (o : Option Definition) (ds : List Definition) → ((x : Definition) → o ≡ Some x → FromSymbol addresses q n (s ∷ more) x)
    → ((i : ℕ) (x : Definition) → slice_get ds i ≡ Some x → FromSymbol addresses q (n + 1) more x) → slice_get (cons_option o ds) j ≡ Some d → FromSymbol addresses q n (s ∷ more) d
symbol_from addresses q n s more j d None ds here rest e = symbol_later addresses q n s more d (rest j d e)
symbol_from addresses q n s more zero d (Some x) ds here rest e = here d e
symbol_from addresses q n s more (suc j) d (Some x) ds here rest e = symbol_later addresses q n s more d (rest j d e)

symbol_in : (addresses : List AddressRow) (q n : ℕ) (symbols : List ViewSymbol) (j : ℕ) (d : Definition)
    → slice_get (filter_map (λ (e : ℕ × ViewSymbol). definition_at e.0 e.1 e.1.section (row_for addresses q e.0)) (enumerate_from n symbols)) j ≡ Some d → FromSymbol addresses q n symbols d
symbol_in addresses q n [] j d e = absurd (cc)
symbol_in addresses q n (s ∷ symbols) j d e =
    symbol_from addresses q n s symbols j d (definition_at n s s.section (row_for addresses q n)) (filter_map (λ (x : ℕ × ViewSymbol). definition_at x.0 x.1 x.1.section (row_for addresses q x.0)) (enumerate_from (n + 1) symbols))
    (λ x h. symbol_by addresses q n s symbols s.section (row_for addresses q n) x refl refl h) (symbol_in addresses q (n + 1) symbols) e

definition_symbol : (addresses : List AddressRow) (q : ℕ) (v : View) (j : ℕ) (d : Definition) → slice_get (definitions_in addresses q v) j ≡ Some d → FromSymbol addresses q 0 v.symbols d
unfolding definitions_in
definition_symbol addresses q v j d e = symbol_in addresses q 0 v.symbols j d e

-- an element of a list of lists that passes has no fault
flat_filtered : {A B : Type 0} (f : B → Option PlaceFault) (p : B → Bool) (g : A → List B) (xs : List A) (k j : ℕ) (x : A) (y : B) → first_fault (map f (filter p (flat_map g xs))) ≡ None → slice_get xs k ≡ Some x → slice_get (g x) j ≡ Some y → p y ≡ true → f y ≡ None
flat_filtered f p g [] k j x y none at_k at_j passes = absurd (cc)
flat_filtered f p g (z ∷ xs) zero j x y none at_k at_j passes =
    let same : z ≡ x = cc in
    let parts = ap first_fault (sym (ap (map f) (filter-append p (g z) (flat_map g xs)) ∙ map_append f (filter p (g z)) (filter p (flat_map g xs)))) ∙ none in
    let among = filtered p (g z) j y (ap (λ w. slice_get (g w) j) same ∙ at_j) passes in
    fault_map f (filter p (g z)) among.number y (fault_left (map f (filter p (g z))) (map f (filter p (flat_map g xs))) parts) among.here
flat_filtered f p g (z ∷ xs) (suc k) j x y none at_k at_j passes =
    let parts = ap first_fault (sym (ap (map f) (filter-append p (g z) (flat_map g xs)) ∙ map_append f (filter p (g z)) (filter p (flat_map g xs)))) ∙ none in
    flat_filtered f p g xs k j x y (fault_right (map f (filter p (g z))) (map f (filter p (flat_map g xs))) parts) at_k at_j passes

home_fault : (views : List View) (addresses : List AddressRow) (q j : ℕ) (v : View) (s : ViewSymbol) → first_fault (map (address_fault views addresses) (all_definitions views)) ≡ None → slice_get views q ≡ Some v → slice_get v.symbols j ≡ Some s → is_definition s ≡ true
    → address_fault views addresses (record { image = 0 + q; row = 0 + j; symbol = s }) ≡ None
unfolding all_definitions
home_fault views addresses q j v s none at_q at_j is =
    flat_filtered (address_fault views addresses) (λ a. is_definition a.symbol) symbols_at (enumerate_from 0 views) q j (0 + q, v) (record { image = 0 + q; row = 0 + j; symbol = s }) none (enumerated 0 views q v at_q)
    (get_map (λ (e : ℕ × ViewSymbol). record { image = 0 + q; row = e.0; symbol = e.1 }) (enumerate_from 0 v.symbols) j (0 + j, s) (enumerated 0 v.symbols j s at_j)) is

-- what the test of a range tells
range_by : (s : ViewSection) (d : Definition) (at size : ℕ) → d.symbol.address ≡ at → size ≡ d.size → length s.bytes ≡ s.size → (nat_lt at s.start || nat_lt (s.start + s.size) (at + size)) ≡ false → HasRange s d
range_by s d at size e f long h =
    let both = or_parts (nat_lt at s.start) (nat_lt (s.start + s.size) (at + size)) h in
    record { low = omega (arith, e, ltb-false at s.start both.0); end = omega (arith, e, f, long, ltb-false (s.start + s.size) (at + size) both.1) }

is_definition_by : (s : ViewSymbol) (k : ℕ) → s.section ≡ Some k → s.is_label ≡ false → is_definition s ≡ true
is_definition_by s k e f = rw (e, f) refl

home_by : (v : View) (d : Definition) (at size : ℕ) (o : Option ViewSection) → IsWhole v → slice_get v.sections d.section ≡ o → d.symbol.address ≡ at → size ≡ d.size → leaves at size o ≡ false → IsHome v d
home_by v d at size None whole e f g h = let both : true ≡ false = h in absurd (cc)
home_by v d at size (Some s) whole e f g h = record { section = s; here = e; range = range_by s d at size f g (whole d.section s e) h }

pub all_ranges : (views : List View) (addresses : List AddressRow) → AreWhole views → first_fault (map (address_fault views addresses) (all_definitions views)) ≡ None → AllHaveRanges addresses views
all_ranges views addresses whole none q v at_q k d at_k =
    let from = definition_symbol addresses q v k d at_k in
    let start_q : 0 + q ≡ q = omega arith in
    let start_j : 0 + from.number ≡ from.number = omega arith in
    let fault = home_fault views addresses q from.number v from.symbol none at_q from.here (is_definition_by from.symbol d.section from.section from.label) in
    let a : At = record { image = 0 + q; row = 0 + from.number; symbol = from.symbol } in
    let home : is_homeless views a (row_for addresses (0 + q) (0 + from.number)) ≡ false = false_if _ (no_address (0 + q) (0 + from.number)) fault in
    let row : row_for addresses (0 + q) (0 + from.number) ≡ Some from.row = ap (λ n. row_for addresses n (0 + from.number)) start_q ∙ from.given in
    let passes : (leaves from.symbol.address from.row.size (section_of views a) || nat_le (2 ^ 64) (from.row.address + from.row.size)) ≡ false = ap (is_homeless views a) (sym row) ∙ home in
    let section : section_of views a ≡ slice_get v.sections d.section =
    ap (λ n. option_and_then (λ (w : View). option_and_then (λ k. slice_get w.sections k) from.symbol.section) (slice_get views n)) start_q ∙ ap (option_and_then (λ (w : View). option_and_then (λ k. slice_get w.sections k) from.symbol.section)) at_q ∙ ap (option_and_then (λ k. slice_get v.sections k)) from.section in
    let inside : leaves from.symbol.address from.row.size (slice_get v.sections d.section) ≡ false = ap (leaves from.symbol.address from.row.size) (sym section) ∙ (or_parts _ _ passes).0 in
    home_by v d from.symbol.address from.row.size (slice_get v.sections d.section) (whole q v at_q) refl from.address from.size inside

-- the bytes of a definition are as many as its size
pub range_long : (s : ViewSection) (d : Definition) → HasRange s d → length (bytes_at s.bytes (d.symbol.address - s.start) d.size) ≡ d.size
unfolding bytes_at
range_long s d h = omega (arith, length-take d.size (drop (d.symbol.address - s.start) s.bytes), length-drop (d.symbol.address - s.start) s.bytes, h.low, h.end)
