-- The numbers of sections and the rows of symbols, counted in loops.
use Rattle.std.proofs.Common.{◌≡◌, ℕ, suc, ◌+◌, ◌<◌, ◌≤◌, List, ◌∷◌, length, take, drop, map, get_or, Bool, true, false, not, cond, ◌&&◌, slice_get, Some, refl, ap, ◌∙◌, arith}
use Rattle.std.specs.Prelude.{count_by}
use Rattle.std.specs.Int.{next_multiple_of}
use Rattle.std.proofs.lemmas.List.Sums.{sum_by-take-le}
use Rattle.byte_core.proofs.Lists.{count_yes}
use Rattle.object_core.specs.Object.{SymbolData, SectionData, plain_symbol, is_local, is_global}
use Rattle.object_core.specs.declared.symbol.Symbol.{Symbol}
use Rattle.object_core.specs.Places.{end_of}
use Rattle.object_core.specs.WellFormed.{is_file}
use Rattle.object_core.specs.MachRows.{is_mach_stored, is_mach_zero_fill, header_order, section_extent, section_address, section_number_in, addresses_in, is_mach_local, mach_row_in}
use Rattle.object_macho.specs.PlainCounts.{has_row}
use Rattle.object_macho.proofs.Behind.{take_next}
use Rattle.object_macho.proofs.Counting.{local_and_global}
use Rattle.object_macho.proofs.Fit.{extent_end}
use Rattle.object_macho.proofs.Moments.{moment_at}
use Rattle.object_macho.proofs.OrderLoops.{drop_get}

-- -- sections

pub stored_number : (ss : List SectionData) (k : ℕ) (s : SectionData) → slice_get ss k ≡ Some s → is_mach_stored s ≡ true → section_number_in ss k ≡ count_by is_mach_stored (take k ss)
unfolding section_number_in
stored_number ss k s e t = rw (e, t) refl

pub other_number : (ss : List SectionData) (k : ℕ) (s : SectionData) → slice_get ss k ≡ Some s → is_mach_stored s ≡ false → section_number_in ss k ≡ count_by is_mach_stored ss + count_by is_mach_zero_fill (take k ss)
unfolding section_number_in
other_number ss k s e t = rw (e, t) refl

not_true : (b : Bool) → not b ≡ true → b ≡ false
not_true true h = absurd (cc)
not_true false h = refl

not_false : (b : Bool) → not b ≡ false → b ≡ true
not_false true h = refl
not_false false h = absurd (cc)

pub filled_no : (s : SectionData) → is_mach_stored s ≡ true → is_mach_zero_fill s ≡ false
filled_no s h = not_true (is_mach_zero_fill s) h

pub filled_yes : (s : SectionData) → is_mach_stored s ≡ false → is_mach_zero_fill s ≡ true
filled_yes s h = not_false (is_mach_zero_fill s) h

-- the next address
pub address_next : (ss : List SectionData) (n : ℕ) (s : SectionData) → slice_get (header_order ss) n ≡ Some s → drop n (addresses_in ss) ≡ next_multiple_of (end_of (map section_extent (take n (header_order ss)))) s.align ∷ drop (n + 1) (addresses_in ss)
unfolding addresses_in
address_next ss n s e = drop_get (addresses_in ss) n (section_address (record { before = take n (header_order ss); here = s })) (moment_at section_address (header_order ss) n s e)

-- where one more section ends
pub end_next : (ss : List SectionData) (n : ℕ) (s : SectionData) → slice_get (header_order ss) n ≡ Some s
    → end_of (map section_extent (take (n + 1) (header_order ss))) ≡ next_multiple_of (end_of (map section_extent (take n (header_order ss)))) s.align + s.size
end_next ss n s e =
    let next : n + 1 ≡ suc n = omega arith in
    ap (λ k. end_of (map section_extent (take k (header_order ss)))) next ∙ ap (λ xs. end_of (map section_extent xs)) (take_next (header_order ss) n s e) ∙ extent_end (take n (header_order ss)) s

-- -- symbols

no_second : (a b : Bool) → b ≡ false → (a && b) ≡ false
no_second true b h = h
no_second false b h = refl

pub local_row : (ss : List SymbolData) (k : ℕ) (s : SymbolData) → slice_get ss k ≡ Some s → is_local s ≡ true → mach_row_in ss k ≡ count_by is_mach_local (take k ss)
unfolding mach_row_in
local_row ss k s e t = rw (e, t) refl

pub other_row : (ss : List SymbolData) (k : ℕ) (s : SymbolData) → slice_get ss k ≡ Some s → is_local s ≡ false → mach_row_in ss k ≡ count_by is_mach_local ss + count_by is_global (take k ss)
unfolding mach_row_in
other_row ss k s e t = rw (e, t) refl

-- a file is a local symbol without a row
pub file_local : (s : SymbolData) (p : Symbol) → plain_symbol s ≡ p → not (is_file p.kind) ≡ false → is_mach_local s ≡ false
file_local s p same h = let file = ap (λ (x : Symbol). not (is_file x.kind)) same ∙ h in no_second (is_local s) (not (is_file s.kind)) file

pub row_local : (s : SymbolData) (p : Symbol) → plain_symbol s ≡ p → is_local s ≡ true → not (is_file p.kind) ≡ true → is_mach_local s ≡ true
row_local s p same local h = let own : not (is_file s.kind) ≡ true = ap (λ (x : Symbol). not (is_file x.kind)) same ∙ h in rw (local, own) refl

pub not_local : (s : SymbolData) → is_local s ≡ false → is_mach_local s ≡ false
not_local s h = rw h refl

-- the next row is one of the table
pub other_room : (ss : List SymbolData) (k : ℕ) (s : SymbolData) → k < length ss → s ≡ get_or ss k s → is_local s ≡ false → count_by is_mach_local ss + count_by is_global (take k ss) + 1 ≤ count_by has_row ss
other_room ss k s h e t = omega (arith, local_and_global ss, count_yes is_global ss k s h e (ap not t), sum_by-take-le (λ (x : SymbolData). cond (is_global x) 1 0) ss (k + 1))

pub local_room : (ss : List SymbolData) (k : ℕ) → count_by is_mach_local (take k ss) ≤ count_by has_row ss
local_room ss k = omega (arith, local_and_global ss, sum_by-take-le (λ (x : SymbolData). cond (is_mach_local x) 1 0) ss k)
