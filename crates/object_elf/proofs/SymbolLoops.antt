-- Loops over the symbols of an object.
use Rattle.std.proofs.Common.{◌≡◌, ℕ, ◌+◌, ◌*◌, ◌<◌, ◌≤◌, List, [], ◌∷◌, ◌++◌, length, drop, get_or, refl, ap, sym, ◌∙◌, arith, append_assoc, append-nil, Bool, true, false}
use Rattle.std.specs.Prelude.{flat_map}
use Rattle.std.proofs.lemmas.List.{drop_all}
use Rattle.std.proofs.lemmas.List.Sums.{sum_by-cons}
use Rattle.object_core.specs.Object.{SymbolData}
use Rattle.object_core.specs.LinkTable.{ElfTableSymbol}
use Rattle.object_core.specs.ElfRows.{elf_symbol}
use Rattle.object_elf.specs.File.{symbol_row_with, symbol_row_bytes, symbol_rows_from}
use Rattle.object_elf.specs.Writing.{is_chosen, chosen, name_size, names_size}
use Rattle.byte_core.proofs.Lists.{item_drop}

chosen_cons : (local : Bool) (s : SymbolData) (ss : List SymbolData) → is_chosen local s ≡ true → chosen local (s ∷ ss) ≡ elf_symbol s ∷ chosen local ss
chosen_cons local s ss t = rw t refl

passed_cons : (local : Bool) (s : SymbolData) (ss : List SymbolData) → is_chosen local s ≡ false → chosen local (s ∷ ss) ≡ chosen local ss
passed_cons local s ss t = rw t refl

-- the row of the item is the next one
pub chosen_next : (local : Bool) (ss : List SymbolData) (i : ℕ) (s : SymbolData) → i < length ss → s ≡ get_or ss i s → is_chosen local s ≡ true → chosen local (drop i ss) ≡ elf_symbol s ∷ chosen local (drop (i + 1) ss)
chosen_next local ss i s h e t = ap (chosen local) (item_drop ss i s h e) ∙ chosen_cons local s (drop (i + 1) ss) t

-- the item has no row here
pub chosen_passed : (local : Bool) (ss : List SymbolData) (i : ℕ) (s : SymbolData) → i < length ss → s ≡ get_or ss i s → is_chosen local s ≡ false → chosen local (drop i ss) ≡ chosen local (drop (i + 1) ss)
chosen_passed local ss i s h e t = ap (chosen local) (item_drop ss i s h e) ∙ passed_cons local s (drop (i + 1) ss) t

pub chosen_none : (local : Bool) (ss : List SymbolData) (i : ℕ) → length ss ≤ i → chosen local (drop i ss) ≡ []
chosen_none local ss i h = ap (chosen local) (drop_all i ss h)

abbrev pub rows_bytes : ℕ → List ElfTableSymbol → List ℕ
rows_bytes place ss = flat_map symbol_row_bytes (symbol_rows_from place ss)

-- one more row is written
pub rows_more : (out new all : List ℕ) (place next : ℕ) (s : ElfTableSymbol) (left rest : List ElfTableSymbol) → left ≡ s ∷ rest → next ≡ place + (length s.name + 1) → new ≡ out ++ symbol_row_bytes (symbol_row_with place s)
    → out ++ rows_bytes place left ≡ all → new ++ rows_bytes next rest ≡ all
unfolding symbol_rows_from
rows_more out new all place next s left rest e n w a = rw (w, n, append_assoc) (rw e at a)

pub rows_all : (out all : List ℕ) (place : ℕ) (left : List ElfTableSymbol) → left ≡ [] → out ++ rows_bytes place left ≡ all → out ≡ all
unfolding symbol_rows_from
rows_all out all place left e a = sym (append-nil out) ∙ (rw e at a)

pub names_more : (place next total : ℕ) (s : ElfTableSymbol) (left rest : List ElfTableSymbol) → left ≡ s ∷ rest → next ≡ place + (length s.name + 1) → place + names_size left ≡ total → next + names_size rest ≡ total
names_more place next total s left rest e n a = omega (arith, n, rw e at a, sum_by-cons name_size s rest)

pub names_room : (place total : ℕ) (s : ElfTableSymbol) (left rest : List ElfTableSymbol) → left ≡ s ∷ rest → place + names_size left ≡ total → place + (length s.name + 1) ≤ total
names_room place total s left rest e a = omega (arith, rw e at a, sum_by-cons name_size s rest)

-- the item has no row here, so what is left is the same
pub passed_rows : (out all : List ℕ) (place : ℕ) (left rest : List ElfTableSymbol) → left ≡ rest → out ++ rows_bytes place left ≡ all → out ++ rows_bytes place rest ≡ all
passed_rows out all place left rest e a = rw e at a

pub passed_names : (place total : ℕ) (left rest : List ElfTableSymbol) → left ≡ rest → place + names_size left ≡ total → place + names_size rest ≡ total
passed_names place total left rest e a = rw e at a

-- each row takes 24 bytes
pub rows_end_more : (at next total : ℕ) (s : ElfTableSymbol) (left rest : List ElfTableSymbol) → left ≡ s ∷ rest → next ≡ at + 24 → at + 24 * length left ≡ total → next + 24 * length rest ≡ total
rows_end_more at next total s left rest e n a = omega (arith, n, rw e at a)

pub rows_room : (at total : ℕ) (s : ElfTableSymbol) (left rest : List ElfTableSymbol) → left ≡ s ∷ rest → at + 24 * length left ≡ total → at + 24 ≤ total
rows_room at total s left rest e a = omega (arith, rw e at a)

pub passed_ends : (at total : ℕ) (left rest : List ElfTableSymbol) → left ≡ rest → at + 24 * length left ≡ total → at + 24 * length rest ≡ total
passed_ends at total left rest e a = rw e at a

pub not_chosen : {P : Type 0} {b : Bool} → b ≡ false → b ≡ true → P
not_chosen fails passes = absurd (cc)
