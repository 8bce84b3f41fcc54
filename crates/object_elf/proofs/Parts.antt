-- The parts of a file and their contents stand at the same places.
use Rattle.std.proofs.Common.{◌≡◌, ℕ, zero, suc, ◌+◌, ◌==◌, List, [], ◌∷◌, ◌++◌, length, take, map, refl, ap, sym, ◌∙◌, arith, Some, Bool, true, false, not, slice_get, inl, inr, cond}
use Rattle.std.specs.Prelude.{filter, fold}
use Rattle.std.specs.List.{enumerate_from}
use Rattle.std.specs.Int.{next_multiple_of}
use Rattle.byte_core.specs.LaidOut.{Aligned, end_behind, end_of_aligned}
use Rattle.byte_core.proofs.LaidOut.{next_multiple_of_one}
use Rattle.byte_core.proofs.StringTables.{length-string_bytes_of}
use Rattle.byte_core.proofs.Standing.{length-rows}
use Rattle.byte_core.specs.Strings.{strings_size}
use Rattle.object_core.specs.LinkTable.{ElfTable, ElfTableSection, ElfTableSymbol}
use Rattle.object_elf.specs.Layout.{Part, is_relocated, section_names, symbol_names, content_part, note_part, relocation_part, symbol_part, string_part, parts_of, is_stored, start_after, end_after}
use Rattle.object_elf.specs.ElfHolds.{null_symbol, record_for}
use Rattle.object_elf.specs.File.{section_contents, relocation_contents, relocation_row_bytes, symbol_row_bytes, symbol_rows_from, symbol_contents, string_contents, contents_of}
use Rattle.object_elf.specs.Fitting.{FitsElf, HasContents}
use Rattle.object_elf.proofs.Rows.{length-symbol_row_bytes, length-relocation_row_bytes}

-- contents stand where the layout puts their part
pub record FitsPart (p : Part) (c : Aligned) : Type 0 where
  pub start : (end : ℕ) → start_after end p ≡ next_multiple_of end c.align
  pub end : (end : ℕ) → end_after end p ≡ end_behind end c
  pub size : is_stored p ≡ true → p.size ≡ length c.bytes

abbrev pub FitParts : List Part → List Aligned → Type 0
FitParts [] [] = Unit {0}
FitParts [] (c ∷ cs) = ⊥
FitParts (p ∷ ps) [] = ⊥
FitParts (p ∷ ps) (c ∷ cs) = FitsPart p c × FitParts ps cs

pub fit_append : (ps : List Part) (cs : List Aligned) (qs : List Part) (ds : List Aligned) → FitParts ps cs → FitParts qs ds → FitParts (ps ++ qs) (cs ++ ds)
fit_append [] [] qs ds f g = g
fit_append [] (c ∷ cs) qs ds f g = absurd f
fit_append (p ∷ ps) [] qs ds f g = absurd f
fit_append (p ∷ ps) (c ∷ cs) qs ds f g = (f.0, fit_append ps cs qs ds f.1 g)

pub fit_map : {X : Type 0} (f : X → Part) (g : X → Aligned) (xs : List X) → ((k : ℕ) (x : X) → slice_get xs k ≡ Some x → FitsPart (f x) (g x)) → FitParts (map f xs) (map g xs)
fit_map f g [] h = tt
fit_map f g (x ∷ xs) h = (h 0 x refl, fit_map f g xs (λ k y e. h (suc k) y e))

pub fit_take : (ps : List Part) (cs : List Aligned) (k : ℕ) → FitParts ps cs → FitParts (take k ps) (take k cs)
fit_take ps cs zero f = tt
fit_take [] [] (suc k) f = tt
fit_take [] (c ∷ cs) (suc k) f = absurd f
fit_take (p ∷ ps) [] (suc k) f = absurd f
fit_take (p ∷ ps) (c ∷ cs) (suc k) f = (f.0, fit_take ps cs k f.1)

pub fit_end : (at : ℕ) (ps : List Part) (cs : List Aligned) → FitParts ps cs → fold end_after at ps ≡ end_of_aligned at cs
unfolding end_of_aligned
fit_end at [] [] f = refl
fit_end at [] (c ∷ cs) f = absurd f
fit_end at (p ∷ ps) [] f = absurd f
fit_end at (p ∷ ps) (c ∷ cs) f = ap (λ e. fold end_after e ps) (f.0.end at) ∙ fit_end (end_behind at c) ps cs f.1

pub fit_part : (ps : List Part) (cs : List Aligned) (k : ℕ) (c : Aligned) → FitParts ps cs → slice_get cs k ≡ Some c → (p : Part) × (slice_get ps k ≡ Some p) × FitsPart p c
fit_part [] [] zero c f e = absurd (cc)
fit_part [] [] (suc k) c f e = absurd (cc)
fit_part [] (d ∷ cs) k c f e = absurd f
fit_part (p ∷ ps) [] k c f e = absurd f
fit_part (p ∷ ps) (d ∷ cs) zero c f e = let same : d ≡ c = cc in (p, refl, rw (← same) f.0)
fit_part (p ∷ ps) (d ∷ cs) (suc k) c f e = fit_part ps cs k c f.1 e

pub fit_contents : (ps : List Part) (cs : List Aligned) (k : ℕ) (p : Part) → FitParts ps cs → slice_get ps k ≡ Some p → (c : Aligned) × (slice_get cs k ≡ Some c) × FitsPart p c
fit_contents [] [] zero p f e = absurd (cc)
fit_contents [] [] (suc k) p f e = absurd (cc)
fit_contents [] (d ∷ cs) k p f e = absurd f
fit_contents (q ∷ ps) [] k p f e = absurd f
fit_contents (q ∷ ps) (d ∷ cs) zero p f e = let same : q ≡ p = cc in (d, refl, rw (← same) f.0)
fit_contents (q ∷ ps) (d ∷ cs) (suc k) p f e = fit_contents ps cs k p f.1 e

-- ---- each part of a table

-- a part that is stored
pub fit_stored : (p : Part) (c : Aligned) → is_stored p ≡ true → p.align ≡ c.align → p.size ≡ length c.bytes → FitsPart p c
fit_stored p c s a n = record {
  start = λ end. rw s (ap (λ align. next_multiple_of end align) a);
  end = λ end. rw s (ap (λ align. next_multiple_of end align + p.size) a ∙ ap (λ size. next_multiple_of end c.align + size) n);
  size = λ _. n;
}

fit_zeros : (s : ElfTableSection) → s.sh_type ≡ 8 → length s.contents ≡ 0 → FitsPart (content_part s) (section_contents s)
fit_zeros s t n = record {
  start = λ end. rw t (sym (next_multiple_of_one end));
  end = λ end. rw t (omega (arith, next_multiple_of_one end, n));
  size = λ e. let never : not (s.sh_type == 8) ≡ false = rw t refl in absurd (cc);
}

fit_section : (s : ElfTableSection) → HasContents s → FitsPart (content_part s) (section_contents s)
fit_section s (inl h) =
    let stored : is_stored (content_part s) ≡ true = rw h.0 refl in
    let align : (content_part s).align ≡ (section_contents s).align = rw h.0 refl in
    fit_stored (content_part s) (section_contents s) stored align h.1
fit_section s (inr h) = fit_zeros s h.0 h.1

fit_relocations : (t : ElfTable) (n : ℕ) (s : ElfTableSection) → FitsPart (relocation_part t (n, s)) (relocation_contents s)
fit_relocations t n s =
    fit_stored (relocation_part t (n, s)) (relocation_contents s) refl refl
    (sym (length-rows (λ r. relocation_row_bytes (record_for r)) 24 (λ r. length-relocation_row_bytes (record_for r)) s.relocations))

fit_relocated_past : (t : ElfTable) (n : ℕ) (s : ElfTableSection) (ps : List (ℕ × ElfTableSection)) (ss : List ElfTableSection) (b : Bool)
    → FitParts (map (relocation_part t) ps) (map relocation_contents ss) → FitParts (map (relocation_part t) (cond b ((n, s) ∷ ps) ps)) (map relocation_contents (cond b (s ∷ ss) ss))
fit_relocated_past t n s ps ss true h = (fit_relocations t n s, h)
fit_relocated_past t n s ps ss false h = h

fit_relocated : (t : ElfTable) (n : ℕ) (ss : List ElfTableSection)
    → FitParts (map (relocation_part t) (filter (λ (s : ℕ × ElfTableSection). is_relocated s.1) (enumerate_from n ss))) (map relocation_contents (filter is_relocated ss))
fit_relocated t n [] = tt
fit_relocated t n (s ∷ ss) =
    fit_relocated_past t n s (filter (λ (x : ℕ × ElfTableSection). is_relocated x.1) (enumerate_from (n + 1) ss)) (filter is_relocated ss) (is_relocated s) (fit_relocated t (n + 1) ss)

pub length-symbol_rows_from : (place : ℕ) (ss : List ElfTableSymbol) → length (symbol_rows_from place ss) ≡ length ss
unfolding symbol_rows_from
length-symbol_rows_from place [] = refl
length-symbol_rows_from place (s ∷ ss) = ap suc (length-symbol_rows_from (place + (length s.name + 1)) ss)

fit_symbols : (t : ElfTable) → FitsPart (symbol_part t) (symbol_contents t.symbols)
fit_symbols t =
    fit_stored (symbol_part t) (symbol_contents t.symbols) refl refl
    (omega (arith, length-rows symbol_row_bytes 24 length-symbol_row_bytes (null_symbol ∷ symbol_rows_from 1 t.symbols), length-symbol_rows_from 1 t.symbols))

fit_strings : (name : List ℕ) (names : List (List ℕ)) → FitsPart (string_part name (strings_size names)) (string_contents names)
fit_strings name names = fit_stored (string_part name (strings_size names)) (string_contents names) refl refl (sym (length-string_bytes_of names))

fit_note : FitsPart note_part (record { align = 1; bytes = [] })
fit_note = fit_stored note_part (record { align = 1; bytes = [] }) refl refl refl

pub fit_by : (t : ElfTable) → ((k : ℕ) (s : ElfTableSection) → slice_get t.sections k ≡ Some s → HasContents s) → FitParts (parts_of t) (contents_of t)
unfolding parts_of contents_of
fit_by t h =
    fit_append _ _ _ _
    (fit_append _ _ _ _ (fit_map content_part section_contents t.sections (λ k s e. fit_section s (h k s e))) (fit_note, fit_relocated t 1 t.sections))
    (fit_symbols t, (fit_strings _ (symbol_names t), (fit_strings _ (section_names t), tt)))

pub fit_table : (t : ElfTable) → FitsElf t → FitParts (parts_of t) (contents_of t)
fit_table t f = fit_by t (λ k s e. (f.sections k s e).contents)
