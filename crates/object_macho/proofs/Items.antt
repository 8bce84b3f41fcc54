-- What a loop reads of an object's sections and symbols, whose names stand elsewhere.
use Rattle.std.proofs.Common.{not, ◌≡◌, ℕ, ◌+◌, ◌<◌, ◌≤◌, List, length, get_or, take, map, arith, refl, ap, sym, ◌∙◌, slice_get, Some, true, false, ◌++◌, ◌∷◌, [], append-nil}
use Rattle.std.specs.Prelude.{filter, option_map}
use Rattle.std.specs.Int.{next_multiple_of}
use Rattle.std.proofs.lemmas.Option.{get_or_from_slice_get}
use Rattle.byte_core.proofs.Lists.{get_within, get_map_from, item_get, item_take, one_of_sum, filter_append}
use Rattle.object_core.specs.declared.relocation.Relocation.{Relocation}
use Rattle.object_core.specs.Appending.{IsSection, AreSections}
use Rattle.object_core.specs.declared.symbol.Symbol.{Symbol}
use Rattle.object_core.specs.WellFormed.{is_file}
use Rattle.object_core.specs.Object.{SymbolData, SectionData, SectionBody, ObjectData, body_of, plain_symbol}
use Rattle.object_core.specs.Places.{end_of}
use Rattle.object_core.specs.MachRows.{is_mach_stored, section_extent, mach_symbol_name_of}
use Rattle.object_macho.specs.PlainCounts.{stored_end, section_records, has_row, row_name_size}
use Rattle.object_macho.specs.Orders.{record_counts}
use Rattle.object_macho.proofs.Fit.{all_at, extent_end}

-- the element of a list, of which a loop reads this
pub record ItemOf {X Y : Type 0} (f : X → Y) (xs : List X) (i : ℕ) (y : Y) : Type 0 where
  pub whole : X
  pub found : slice_get xs i ≡ Some whole
  pub within : i < length xs
  pub here : whole ≡ get_or xs i whole
  pub same : f whole ≡ y

pub item_of : {X Y : Type 0} (f : X → Y) (xs : List X) (ys : List Y) (i : ℕ) (y : Y) → ys ≡ map f xs → i < length ys → y ≡ get_or ys i y → ItemOf f xs i y
item_of f xs ys i y e h is =
    let item = get_map_from f xs i y (ap (λ l. slice_get l i) (sym e) ∙ item_get ys i y h is) in
    record { whole = item.0; found = item.1; within = get_within xs i item.0 item.1; here = sym (get_or_from_slice_get xs i item.0 item.0 item.1); same = item.2 }

-- the name of an element that is there
pub name_of : {X : Type 0} (f : X → List ℕ) (xs : List X) (id other : ℕ) (name : List ℕ) (x : X) → slice_get xs id ≡ Some x → other ≡ id → option_map f (slice_get xs other) ≡ Some name → f x ≡ name
name_of f xs id other name x e same h = let there : slice_get xs other ≡ Some x = ap (slice_get xs) same ∙ e in let told : option_map f (Some x) ≡ Some name = ap (option_map f) (sym there) ∙ h in cc

-- the bounds of a section of an object
pub record IsBounded (o : ObjectData) (s : SectionData) : Type 0 where
  pub some : 0 < s.align
  pub align : s.align ≤ o.content_sum + length o.sections
  pub size : s.size ≤ o.content_sum

pub bounded : (o : ObjectData) (k : ℕ) (s : SectionData) → AreSections o.format o.sections o.content_sum → slice_get o.sections k ≡ Some s → IsBounded o s
bounded o k s sound e = record {
  some = (all_at (IsSection o.format) o.sections k s sound.each e).align;
  align = omega (arith, one_of_sum (λ (x : SectionData). x.align) o.sections k s e, sound.aligns);
  size = omega (arith, one_of_sum (λ (x : SectionData). x.size) o.sections k s e, sound.sizes);
}

pub none_stored : stored_end [] ≡ 0
unfolding end_of
none_stored = refl

one_stored : (ss : List SectionData) (i : ℕ) (s : SectionData) → i < length ss → s ≡ get_or ss i s → filter is_mach_stored (take (i + 1) ss) ≡ filter is_mach_stored (take i ss) ++ filter is_mach_stored (s ∷ [])
one_stored ss i s h e = ap (filter is_mach_stored) (item_take ss i s h e) ∙ filter_append is_mach_stored (take i ss) (s ∷ [])

-- where the first sections end that take bytes of the file
pub stored_more : (ss : List SectionData) (i : ℕ) (s : SectionData) → i < length ss → s ≡ get_or ss i s → is_mach_stored s ≡ true → stored_end (take (i + 1) ss) ≡ next_multiple_of (stored_end (take i ss)) s.align + s.size
stored_more ss i s h e t =
    let last : filter is_mach_stored (s ∷ []) ≡ s ∷ [] = rw t refl in
    ap (λ xs. end_of (map section_extent xs)) (one_stored ss i s h e ∙ ap (λ xs. filter is_mach_stored (take i ss) ++ xs) last) ∙ extent_end (filter is_mach_stored (take i ss)) s

pub stored_same : (ss : List SectionData) (i : ℕ) (s : SectionData) → i < length ss → s ≡ get_or ss i s → is_mach_stored s ≡ false → stored_end (take (i + 1) ss) ≡ stored_end (take i ss)
stored_same ss i s h e t =
    let last : filter is_mach_stored (s ∷ []) ≡ [] = rw t refl in
    ap (λ xs. end_of (map section_extent xs)) (one_stored ss i s h e ∙ ap (λ xs. filter is_mach_stored (take i ss) ++ xs) last ∙ append-nil (filter is_mach_stored (take i ss)))

pub records_same : (cputype : ℕ) (s : SectionData) (b : SectionBody) (rs : List Relocation) → body_of s ≡ b → rs ≡ b.relocations → record_counts cputype rs ≡ section_records cputype s
records_same cputype s b rs same e = ap (record_counts cputype) (e ∙ ap (λ (x : SectionBody). x.relocations) (sym same))

pub file_none : (s : SymbolData) (p : Symbol) → plain_symbol s ≡ p → not (is_file p.kind) ≡ false → row_name_size s ≡ 0
file_none s p same h = let kept : has_row s ≡ false = ap (λ (x : Symbol). not (is_file x.kind)) same ∙ h in rw kept refl

pub row_some : (s : SymbolData) (p : Symbol) (size : ℕ) → plain_symbol s ≡ p → not (is_file p.kind) ≡ true → size ≡ length (mach_symbol_name_of p.kind s.name) + 1 → row_name_size s ≡ size
row_some s p size same h e = let kept : has_row s ≡ true = ap (λ (x : Symbol). not (is_file x.kind)) same ∙ h in rw kept (sym (e ∙ ap (λ (x : Symbol). length (mach_symbol_name_of x.kind s.name) + 1) (sym same)))
