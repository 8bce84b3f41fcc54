-- The rows of a table in the order of its symbols and sections, in loops.
use Rattle.std.proofs.Common.{◌≡◌, ℕ, ◌+◌, ◌<◌, ◌∷◌, List, length, drop, map, get_or, ap, sym, ◌∙◌}
use Rattle.std.specs.Prelude.{slice_get, Some, sum_by}
use Rattle.std.proofs.lemmas.Option.{slice_get-get_or, get_or_from_slice_get}
use Rattle.std.proofs.lemmas.List.{length-map}
use Rattle.std.proofs.lemmas.List.Sums.{sum_by-cons}
use Rattle.byte_core.proofs.Lists.{get_within, get_map, item_drop}
use Rattle.object_core.specs.Object.{SymbolData, ObjectData}
use Rattle.object_core.specs.MachRows.{mach_symbol_name_of, mach_symbol, header_order, macho_table_of}
use Rattle.object_core.specs.LinkTable.{MachTableSymbol}
use Rattle.object_macho.specs.Layout.{mach_names}
use Rattle.object_macho.specs.Plan.{section_order, symbol_order}
use Rattle.object_macho.proofs.Orders.{Ordered, symbol_rows, section_ordered, symbol_ordered, length-symbol_order}

pub drop_get : {A : Type 0} (xs : List A) (n : ℕ) (x : A) → slice_get xs n ≡ Some x → drop n xs ≡ x ∷ drop (n + 1) xs
drop_get xs n x e = item_drop xs n x (get_within xs n x e) (sym (get_or_from_slice_get xs n x x e))

pub sum_next : {A : Type 0} (f : A → ℕ) (left rest : List A) (x : A) → left ≡ x ∷ rest → sum_by f left ≡ f x + sum_by f rest
sum_next f left rest x e = ap (sum_by f) e ∙ sum_by-cons f x rest

-- the symbol of row n, by an order in hand
pub symbol_at : (o : ObjectData) (order : List ℕ) (n : ℕ) → order ≡ symbol_order o.symbols → n < length order → Ordered o.symbols (symbol_rows o.symbols) n (get_or order n 0)
symbol_at o order n e h = symbol_ordered o.symbols n (get_or order n 0) (ap (λ (xs : List ℕ). slice_get xs n) (sym e) ∙ slice_get-get_or order n 0 h)

pub name_of_row : (o : ObjectData) (n : ℕ) (s : SymbolData) → slice_get (symbol_rows o.symbols) n ≡ Some s → slice_get (mach_names (macho_table_of o)) n ≡ Some (mach_symbol_name_of s.kind s.name)
unfolding macho_table_of
name_of_row o n s e = get_map (λ (x : MachTableSymbol). x.name) (map (mach_symbol o.sections) (symbol_rows o.symbols)) n (mach_symbol o.sections s) (get_map (mach_symbol o.sections) (symbol_rows o.symbols) n s e)

-- the section of header n, by an order in hand
pub section_at : (o : ObjectData) (order : List ℕ) (n : ℕ) → order ≡ section_order o.sections → n < length order → Ordered o.sections (header_order o.sections) n (get_or order n 0)
section_at o order n e h = section_ordered o.sections n (get_or order n 0) (ap (λ (xs : List ℕ). slice_get xs n) (sym e) ∙ slice_get-get_or order n 0 h)

pub length-names : (o : ObjectData) → length (mach_names (macho_table_of o)) ≡ length (symbol_order o.symbols)
unfolding macho_table_of
length-names o = length-map (map (mach_symbol o.sections) (symbol_rows o.symbols)) (λ (x : MachTableSymbol). x.name) ∙ length-map (symbol_rows o.symbols) (mach_symbol o.sections) ∙ sym (length-symbol_order o.symbols)
