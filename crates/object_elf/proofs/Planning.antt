-- The numbers of a plan.
use Rattle.std.proofs.Common.{◌≡◌, ℕ, zero, suc, ◌+◌, ◌*◌, ◌<◌, ◌⊎◌, inl, inr, List, [], ◌∷◌, ◌++◌, length, take, drop, map, get_or, refl, ap, sym, ◌∙◌, arith, Some, slice_get}
use Rattle.std.specs.Prelude.{slice_index, fold}
use Rattle.std.specs.List.{enumerate_from}
use Rattle.std.specs.Int.{next_multiple_of}
use Rattle.std.proofs.lemmas.List.{length-map, ext_get_or}
use Rattle.std.proofs.lemmas.List.Sums.{fold-append}
use Rattle.std.proofs.lemmas.List.FromFn.{length-enumerate_from}
use Rattle.std.proofs.lemmas.Option.{get_or_from_slice_get, slice_get-get_or}
use Rattle.byte_core.proofs.Lists.{get_map, get_within, get_exists, below_or_here}
use Rattle.object_core.specs.Object.{SymbolData, ObjectData}
use Rattle.object_core.specs.ElfRows.{elf_table_of, row_in}
use Rattle.object_elf.specs.Layout.{Part, parts_of, start_after, end_after, end_of_parts, file_length}
use Rattle.object_elf.specs.Writing.{AreRowsOf}
use Rattle.object_elf.specs.PartView.{starts_from, PushesPlaces}
use Rattle.object_elf.specs.Plan.{PlanData, plan_of, row_of, rows_of, place_of, places_of}

-- ---- the members of a plan

pub plan_rows : (p : PlanData) (o : ObjectData) → p ≡ plan_of o → p.rows ≡ rows_of o.symbols
unfolding plan_of
plan_rows p o e = ap (λ (x : PlanData). x.rows) e

pub plan_places : (p : PlanData) (o : ObjectData) → p ≡ plan_of o → p.places ≡ places_of (parts_of (elf_table_of o))
unfolding plan_of
plan_places p o e = ap (λ (x : PlanData). x.places) e

pub plan_length : (p : PlanData) (o : ObjectData) → p ≡ plan_of o → p.length ≡ file_length (elf_table_of o)
unfolding plan_of
plan_length p o e = ap (λ (x : PlanData). x.length) e

-- a plan with these members
pub plan_is : (p : PlanData) (o : ObjectData) → p.rows ≡ rows_of o.symbols → p.places ≡ places_of (parts_of (elf_table_of o)) → p.length ≡ file_length (elf_table_of o) → p ≡ plan_of o
unfolding plan_of
plan_is p o r s l = ap (λ x. record { rows = x; places = p.places; length = p.length }) r ∙ ap (λ x. record { rows = rows_of o.symbols; places = x; length = p.length }) s ∙ ap (λ x. record { rows = rows_of o.symbols; places = places_of (parts_of (elf_table_of o)); length = x }) l

-- ---- numbered elements

get_numbered : {X : Type 0} (n : ℕ) (xs : List X) (k : ℕ) (x : X) → slice_get xs k ≡ Some x → slice_get (enumerate_from n xs) k ≡ Some (n + k, x)
get_numbered n [] zero x e = absurd (cc)
get_numbered n [] (suc k) x e = absurd (cc)
get_numbered n (y ∷ xs) zero x e = let place : n + 0 ≡ n = omega arith in let same : y ≡ x = cc in rw (place, same) refl
get_numbered n (y ∷ xs) (suc k) x e = let place : n + suc k ≡ n + 1 + k = omega arith in rw place (get_numbered (n + 1) xs k x e)

-- ---- a list and what is left of it from a place on

pub drop_next : {X : Type 0} (xs : List X) (k : ℕ) (x : X) (rest : List X) → drop k xs ≡ x ∷ rest → drop (k + 1) xs ≡ rest
drop_next [] zero x rest e = absurd (cc)
drop_next [] (suc k) x rest e = absurd (cc)
drop_next (y ∷ xs) zero x rest e = cc
drop_next (y ∷ xs) (suc k) x rest e = let n : suc k + 1 ≡ suc (k + 1) = omega arith in rw n (drop_next xs k x rest e)

pub take_next : {X : Type 0} (xs : List X) (k : ℕ) (x : X) (rest : List X) → drop k xs ≡ x ∷ rest → take (k + 1) xs ≡ take k xs ++ x ∷ []
take_next [] zero x rest e = absurd (cc)
take_next [] (suc k) x rest e = absurd (cc)
take_next (y ∷ xs) zero x rest e = let same : y ≡ x = cc in rw same refl
take_next (y ∷ xs) (suc k) x rest e = let n : suc k + 1 ≡ suc (k + 1) = omega arith in rw n (ap (λ l. y ∷ l) (take_next xs k x rest e))

pub first_get : {X : Type 0} (xs : List X) (k : ℕ) (x : X) (rest : List X) → drop k xs ≡ x ∷ rest → slice_get xs k ≡ Some x
first_get [] zero x rest e = absurd (cc)
first_get [] (suc k) x rest e = absurd (cc)
first_get (y ∷ xs) zero x rest e = let same : y ≡ x = cc in rw same refl
first_get (y ∷ xs) (suc k) x rest e = first_get xs k x rest e

pub index_first : (xs : List ℕ) (k x : ℕ) (rest : List ℕ) → drop k xs ≡ x ∷ rest → slice_index xs k ≡ x
index_first [] zero x rest e = absurd (cc)
index_first [] (suc k) x rest e = absurd (cc)
index_first (y ∷ xs) zero x rest e = cc
index_first (y ∷ xs) (suc k) x rest e = index_first xs k x rest e

-- ---- rows of symbols

pub length-rows_of : (ss : List SymbolData) → length (rows_of ss) ≡ length ss
length-rows_of ss = length-map (enumerate_from 0 ss) (row_of ss) ∙ length-enumerate_from 0 ss

row_is : (ss : List SymbolData) (k : ℕ) (s : SymbolData) → slice_get ss k ≡ Some s → slice_get (rows_of ss) k ≡ Some (row_in ss k)
row_is ss k s e = get_map (row_of ss) (enumerate_from 0 ss) k (k, s) (let z : 0 + k ≡ k = omega arith in rw z at (get_numbered {X = SymbolData} 0 ss k s e))

pub rows_are_rows : (ss : List SymbolData) → AreRowsOf (rows_of ss) ss
rows_are_rows ss k h = let s = get_exists ss k h in row_is ss k s.0 s.1

-- ---- places of parts

pub length-places_of : (ps : List Part) → length (places_of ps) ≡ length ps
length-places_of ps = length-map (enumerate_from 0 ps) (place_of ps) ∙ length-enumerate_from 0 ps

end_further : (all : List Part) (k end : ℕ) (p : Part) (ps : List Part) → drop k all ≡ p ∷ ps → end ≡ fold end_after 64 (take k all) → end_after end p ≡ fold end_after 64 (take (k + 1) all)
end_further all k end p ps e n = ap (λ x. end_after x p) n ∙ sym (ap (fold end_after 64) (take_next all k p ps e) ∙ fold-append end_after 64 (take k all) (p ∷ []))

starts_are : (all : List Part) (k end : ℕ) (ps : List Part) → drop k all ≡ ps → end ≡ fold end_after 64 (take k all) → map (place_of all) (enumerate_from k ps) ≡ starts_from end ps
unfolding starts_from end_of_parts
starts_are all k end [] e n = refl
starts_are all k end (p ∷ ps) e n =
    ap (λ x. start_after x p ∷ map (place_of all) (enumerate_from (k + 1) ps)) (sym n)
    ∙ ap (λ l. start_after end p ∷ l) (starts_are all (k + 1) (end_after end p) ps (drop_next all k p ps e) (end_further all k end p ps e n))

-- each part starts behind those before it
pub places_are : (ps : List Part) → places_of ps ≡ starts_from 64 ps
places_are ps = starts_are ps 0 64 ps refl refl

-- ---- a plan that was counted

row_read : (rows : List ℕ) (ss : List SymbolData) (k : ℕ) (s : SymbolData) → AreRowsOf rows ss → slice_get ss k ≡ Some s → get_or rows k 0 ≡ get_or (rows_of ss) k 0
row_read rows ss k s a e = get_or_from_slice_get rows k (row_in ss k) 0 (a k (get_within ss k s e)) ∙ sym (get_or_from_slice_get (rows_of ss) k (row_in ss k) 0 (row_is ss k s e))

pub rows_are : (rows : List ℕ) (ss : List SymbolData) → length rows ≡ length ss → AreRowsOf rows ss → rows ≡ rows_of ss
rows_are rows ss n a =
    ext_get_or 0 rows (rows_of ss) (n ∙ sym (length-rows_of ss)) (λ k h. let s = get_exists ss k (omega (arith, h, n)) in row_read rows ss k s.0 a s.1)

pushed_places : (places old : List ℕ) (end : ℕ) (ps : List Part) → old ≡ [] → PushesPlaces old places 64 end ps → places ≡ places_of ps
pushed_places places old end ps e p = p.places ∙ ap (λ l. l ++ starts_from 64 ps) e ∙ sym (places_are ps)

pub counted_places : (o : ObjectData) (places old : List ℕ) (end : ℕ) → old ≡ [] → PushesPlaces old places 64 end (parts_of (elf_table_of o)) → length places ≡ length (parts_of (elf_table_of o))
counted_places o places old end e p = ap length (pushed_places places old end (parts_of (elf_table_of o)) e p) ∙ length-places_of (parts_of (elf_table_of o))

pub counted : (o : ObjectData) (rows places old : List ℕ) (end size : ℕ) → length rows ≡ length o.symbols → AreRowsOf rows o.symbols → old ≡ [] → PushesPlaces old places 64 end (parts_of (elf_table_of o))
    → size ≡ next_multiple_of end 8 + 64 * (length places + 1) → ◌≡◌ {A = PlanData} (record { rows = rows; places = places; length = size }) (plan_of o)
unfolding plan_of end_of_parts
counted o rows places old end size n a e p s =
    let length_is : size ≡ file_length (elf_table_of o) = s ∙ ap (λ m. next_multiple_of end 8 + 64 * (m + 1)) (counted_places o places old end e p) ∙ ap (λ m. next_multiple_of m 8 + 64 * (length (parts_of (elf_table_of o)) + 1)) p.end in
    rw (rows_are rows o.symbols n a, pushed_places places old end (parts_of (elf_table_of o)) e p, length_is) refl

-- ---- rows that are compared

-- rows that are kept are read as those of the symbols
pub row_kept : (rows : List ℕ) (ss : List SymbolData) (k : ℕ) (s : SymbolData) → slice_get ss k ≡ Some s → rows ≡ rows_of ss → get_or rows k 0 ≡ row_in ss k
row_kept rows ss k s g e = ap (λ l. get_or l k 0) e ∙ get_or_from_slice_get (rows_of ss) k (row_in ss k) 0 (row_is ss k s g)

kept_to : (rows : List ℕ) (ss : List SymbolData) (i k : ℕ) → ((j : ℕ) → j < i → slice_get rows j ≡ Some (row_in ss j)) → slice_get rows i ≡ Some (row_in ss i) → (k < i) ⊎ (i ≡ k) → slice_get rows k ≡ Some (row_in ss k)
kept_to rows ss i k before here (inl h) = before k h
kept_to rows ss i k before here (inr same) = rw (← same) here

-- one more row is right
pub kept_more : (rows : List ℕ) (ss : List SymbolData) (i : ℕ) → i < length rows → ((j : ℕ) → j < i → slice_get rows j ≡ Some (row_in ss j)) → get_or rows i 0 ≡ row_in ss i → (k : ℕ) → k < i + 1 → slice_get rows k ≡ Some (row_in ss k)
kept_more rows ss i room before here k h = kept_to rows ss i k before (slice_get-get_or rows i 0 room ∙ ap (λ r. Some r) here) (below_or_here k i h)
