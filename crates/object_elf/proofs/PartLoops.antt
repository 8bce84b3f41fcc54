-- Loops over the parts of a file.
use Rattle.std.proofs.Common.{◌≡◌, ℕ, ◌+◌, ◌*◌, ◌<◌, ◌≤◌, ◌^◌, List, [], ◌∷◌, ◌++◌, length, take, drop, get_or, map, refl, ap, sym, ◌∙◌, arith, Bool, true, false, cond, Option, Some, None, slice_get, append_assoc, append-nil, length-append, length-take-le, take-append-drop, subst}
use Rattle.std.specs.Prelude.{fold, filter, flat_map, sum_by, slice_index, MatchOption}
use Rattle.std.specs.List.{enumerate_from}
use Rattle.std.specs.Int.{next_multiple_of}
use Rattle.std.proofs.lemmas.Grind.{flat_map-append}
use Rattle.std.proofs.lemmas.List.{take_more, drop_more, drop_all, map-append, length-map}
use Rattle.std.proofs.lemmas.List.Sums.{sum_by-cons, sum_by-append, fold-append}
use Rattle.byte_core.proofs.Lists.{item_take, get_within, filter_append}
use Rattle.std.proofs.lemmas.Option.{get_or_from_slice_get}
use Rattle.byte_core.specs.Strings.{strings_size}
use Rattle.object_core.specs.Object.{SectionData}
use Rattle.object_elf.specs.declared.layout.PartHeader.{PartHeader}
use Rattle.object_elf.specs.declared.next_row.NextRow.{NextRow}
use Rattle.object_elf.specs.Layout.{Part, is_stored, start_after, end_after, end_of_parts, section_names, parts_of, file_length}
use Rattle.object_elf.specs.ElfHolds.{null_section}
use Rattle.object_elf.specs.File.{section_row_bytes, section_row_with, section_rows, section_rows_from}
use Rattle.object_elf.specs.Plan.{HasPlaces, places_of}
use Rattle.object_elf.specs.Writing.{has_relocations}
use Rattle.object_elf.specs.PartView.{part_view, part_name, part_name_size, has_records, relocation_part_of, relocation_parts_from, starts_from, PushesPlaces, rows_at, PlacesRows, HasRoom, HasStarts, StandBehind, EndsAt}
use Rattle.object_elf.proofs.NameLoops.{get_drop}
use Rattle.object_elf.proofs.Planning.{drop_next, first_get, index_first, length-places_of, places_are}
use Rattle.object_elf.proofs.PartCases.{names_of_parts}
use Rattle.object_core.specs.LinkTable.{ElfTable}

-- ---- a list up to an element of it, and behind it

get_take : {X : Type 0} (xs : List X) (k : ℕ) (x : X) → slice_get xs k ≡ Some x → take (k + 1) xs ≡ take k xs ++ x ∷ []
get_take xs k x e = item_take xs k x (get_within xs k x e) (sym (get_or_from_slice_get xs k x x e))

pub map_next : {X Y : Type 0} (f : X → Y) (xs : List X) (k : ℕ) (x : X) → slice_get xs k ≡ Some x → map f (take (k + 1) xs) ≡ map f (take k xs) ++ f x ∷ []
map_next f xs k x e = ap (map f) (get_take xs k x e) ∙ map-append f (take k xs) (x ∷ [])

pub split_at : {X : Type 0} (xs : List X) (k : ℕ) (x : X) → slice_get xs k ≡ Some x → xs ≡ take k xs ++ x ∷ drop (k + 1) xs
split_at xs k x e = sym (take-append-drop k xs) ∙ ap (λ l. take k xs ++ l) (get_drop xs k x e)

pub map_split : {X Y : Type 0} (f : X → Y) (xs : List X) (k : ℕ) (x : X) → slice_get xs k ≡ Some x → map f xs ≡ map f (take k xs) ++ f x ∷ map f (drop (k + 1) xs)
map_split f xs k x e = ap (map f) (split_at xs k x e) ∙ map-append f (take k xs) (x ∷ drop (k + 1) xs)

pub length-map_take : {X Y : Type 0} (f : X → Y) (xs : List X) (k : ℕ) → k ≤ length xs → length (map f (take k xs)) ≡ k
length-map_take f xs k h = length-map (take k xs) f ∙ length-take-le k xs h

pub view_next : (parts : List PartHeader) (k : ℕ) (d : PartHeader) → k < length parts → map part_view (take (k + 1) parts) ≡ map part_view (take k parts) ++ part_view (get_or parts k d) ∷ []
view_next parts k d h = ap (map part_view) (take_more parts k d h) ∙ map-append part_view (take k parts) (get_or parts k d ∷ [])

pub view_split : (parts : List PartHeader) (k : ℕ) (d : PartHeader) → k < length parts → map part_view parts ≡ map part_view (take k parts) ++ part_view (get_or parts k d) ∷ map part_view (drop (k + 1) parts)
view_split parts k d h =
    ap (map part_view) (sym (take-append-drop k parts) ∙ ap (λ l. take k parts ++ l) (drop_more parts k d h)) ∙ map-append part_view (take k parts) (get_or parts k d ∷ drop (k + 1) parts)

-- ---- the parts of relocations

enumerate_append : {X : Type 0} (n : ℕ) (xs ys : List X) → enumerate_from n (xs ++ ys) ≡ enumerate_from n xs ++ enumerate_from (n + length xs) ys
enumerate_append n [] ys = let same : n + 0 ≡ n = omega arith in rw same refl
enumerate_append n (x ∷ xs) ys = let same : n + 1 + length xs ≡ n + length (x ∷ xs) = omega arith in rw (enumerate_append (n + 1) xs ys, same) refl

from_append : (link n : ℕ) (xs ys : List SectionData) → relocation_parts_from link n (xs ++ ys) ≡ relocation_parts_from link n xs ++ relocation_parts_from link (n + length xs) ys
from_append link n xs ys =
    ap (λ l. map (relocation_part_of link) (filter has_records l)) (enumerate_append n xs ys)
    ∙ ap (map (relocation_part_of link)) (filter_append has_records (enumerate_from n xs) (enumerate_from (n + length xs) ys))
    ∙ map-append (relocation_part_of link) (filter has_records (enumerate_from n xs)) (filter has_records (enumerate_from (n + length xs) ys))

from_some : (link n : ℕ) (s : SectionData) (xs : List SectionData) → has_relocations s ≡ true → relocation_parts_from link n (s ∷ xs) ≡ relocation_part_of link (n, s) ∷ relocation_parts_from link (n + 1) xs
from_some link n s xs t = rw t refl

from_none : (link n : ℕ) (s : SectionData) → has_relocations s ≡ false → relocation_parts_from link n (s ∷ []) ≡ []
from_none link n s t = rw t refl

row_of_section : (xs : List SectionData) (k : ℕ) (s : SectionData) → slice_get xs k ≡ Some s → 1 + length (take k xs) ≡ k + 1
row_of_section xs k s e = omega (arith, length-take-le k xs (omega (arith, get_within xs k s e)))

pub from_next : (link : ℕ) (xs : List SectionData) (k : ℕ) (s : SectionData) → slice_get xs k ≡ Some s → has_relocations s ≡ true
    → relocation_parts_from link 1 (take (k + 1) xs) ≡ relocation_parts_from link 1 (take k xs) ++ relocation_part_of link (k + 1, s) ∷ []
from_next link xs k s e t =
    ap (relocation_parts_from link 1) (get_take xs k s e)
    ∙ from_append link 1 (take k xs) (s ∷ [])
    ∙ ap (λ l. relocation_parts_from link 1 (take k xs) ++ l) (from_some link (1 + length (take k xs)) s [] t ∙ ap (λ n. relocation_part_of link (n, s) ∷ []) (row_of_section xs k s e))

pub from_passed : (link : ℕ) (xs : List SectionData) (k : ℕ) (s : SectionData) → slice_get xs k ≡ Some s → has_relocations s ≡ false → relocation_parts_from link 1 (take (k + 1) xs) ≡ relocation_parts_from link 1 (take k xs)
from_passed link xs k s e t =
    ap (relocation_parts_from link 1) (get_take xs k s e)
    ∙ from_append link 1 (take k xs) (s ∷ [])
    ∙ ap (λ l. relocation_parts_from link 1 (take k xs) ++ l) (from_none link (1 + length (take k xs)) s t)
    ∙ append-nil (relocation_parts_from link 1 (take k xs))

pub from_split : (link : ℕ) (xs : List SectionData) (k : ℕ) (s : SectionData) → slice_get xs k ≡ Some s → has_relocations s ≡ true
    → relocation_parts_from link 1 xs ≡ relocation_parts_from link 1 (take k xs) ++ relocation_part_of link (k + 1, s) ∷ relocation_parts_from link (k + 1 + 1) (drop (k + 1) xs)
from_split link xs k s e t =
    ap (relocation_parts_from link 1) (split_at xs k s e)
    ∙ from_append link 1 (take k xs) (s ∷ drop (k + 1) xs)
    ∙ ap (λ l. relocation_parts_from link 1 (take k xs) ++ l)
    (from_some link (1 + length (take k xs)) s (drop (k + 1) xs) t ∙ ap (λ n. relocation_part_of link (n, s) ∷ relocation_parts_from link (n + 1) (drop (k + 1) xs)) (row_of_section xs k s e))

length-cond-le : (f : ℕ × SectionData → Part) (x : ℕ × SectionData) (es : List (ℕ × SectionData)) (b : Bool) → length (map f (cond b (x ∷ es) es)) ≤ 1 + length (map f es)
length-cond-le f x es true = omega arith
length-cond-le f x es false = omega arith

-- there are at most as many parts as sections
pub length-from-le : (link n : ℕ) (xs : List SectionData) → length (relocation_parts_from link n xs) ≤ length xs
length-from-le link n [] = omega arith
length-from-le link n (x ∷ xs) = omega (arith, length-cond-le (relocation_part_of link) (n, x) (filter has_records (enumerate_from (n + 1) xs)) (has_relocations x), length-from-le link (n + 1) xs)

-- ---- places that are appended

stored_or_not : (b : Bool) (end : ℕ) (p : Part) → end ≤ cond b (next_multiple_of end p.align + p.size) end
stored_or_not true end p = omega arith
stored_or_not false end p = omega arith

end_after-le : (end : ℕ) (p : Part) → end ≤ end_after end p
end_after-le end p = stored_or_not (is_stored p) end p

ends-le : (end : ℕ) (ps : List Part) → end ≤ fold end_after end ps
ends-le end [] = omega arith
ends-le end (p ∷ ps) = omega (arith, end_after-le end p, ends-le (end_after end p) ps)

starts-append : (end : ℕ) (ps qs : List Part) → starts_from end (ps ++ qs) ≡ starts_from end ps ++ starts_from (fold end_after end ps) qs
unfolding starts_from
starts-append end [] qs = refl
starts-append end (p ∷ ps) qs = ap (λ l. start_after end p ∷ l) (starts-append (end_after end p) ps qs)

pub pushes_none : (old : List ℕ) (end : ℕ) → PushesPlaces old old end end []
unfolding starts_from
pushes_none old end = record { places = sym (append-nil old); end = refl }

pub pushes_one : (old new : List ℕ) (end start next : ℕ) (p : Part) → start ≡ start_after end p → next ≡ end_after end p → new ≡ old ++ start ∷ [] → PushesPlaces old new end next (p ∷ [])
unfolding starts_from
pushes_one old new end start next p s n w = record { places = w ∙ ap (λ x. old ++ x ∷ []) s; end = n }

pub pushes_more : (a b c : List ℕ) (x y z : ℕ) (ps qs all : List Part) → PushesPlaces a b x y ps → PushesPlaces b c y z qs → all ≡ ps ++ qs → PushesPlaces a c x z all
pushes_more a b c x y z ps qs all f g w =
    rw w
    (record {
      places =
          g.places
          ∙ ap (λ l. l ++ starts_from y qs) f.places
          ∙ append_assoc a (starts_from x ps) (starts_from y qs)
          ∙ ap (λ n. a ++ (starts_from x ps ++ starts_from n qs)) f.end
          ∙ ap (λ l. a ++ l) (sym (starts-append x ps qs));
      end = g.end ∙ ap (λ n. fold end_after n qs) f.end ∙ sym (fold-append end_after x ps qs);
    })

-- ---- headers that are written

rows_at-append : (places : List ℕ) (n name : ℕ) (ps qs : List Part) → rows_at places n name (ps ++ qs) ≡ rows_at places n name ps ++ rows_at places (n + length ps) (name + sum_by part_name_size ps) qs
unfolding rows_at
rows_at-append places n name [] qs =
    let number : n + 0 ≡ n = omega arith in
    let place : name + 0 ≡ name = omega arith in
    rw (number, place) refl
rows_at-append places n name (p ∷ ps) qs =
    let number : n + 1 + length ps ≡ n + length (p ∷ ps) = omega arith in
    let place : name + (length p.name + 1) + sum_by part_name_size ps ≡ name + sum_by part_name_size (p ∷ ps) = omega (arith, sum_by-cons part_name_size p ps) in
    rw (rows_at-append places (n + 1) (name + (length p.name + 1)) ps qs, number, place) refl

abbrev bytes_at : List ℕ → ℕ → ℕ → List Part → List ℕ
bytes_at places n name ps = flat_map section_row_bytes (rows_at places n name ps)

pub rows_none : (places : List ℕ) (n : ℕ) (out : List ℕ) (from : NextRow) → PlacesRows places n out out from from []
unfolding rows_at
rows_none places n out from = record { rows = sym (append-nil (take from.at out)); at = omega arith; name = omega arith; len = refl }

pub rows_one : (places : List ℕ) (n : ℕ) (out new : List ℕ) (at name next start : ℕ) (p : Part) → start ≡ slice_index places n → take next new ≡ take at out ++ section_row_bytes (section_row_with name start p) → next ≡ at + 64
    → length new ≡ length out → PlacesRows places n out new (record { at = at; name = name }) (record { at = next; name = name + (length p.name + 1) }) (p ∷ [])
unfolding rows_at
rows_one places n out new at name next start p s r e l = record {
  rows = r ∙ ap (λ l. take at out ++ l) (ap (λ x. section_row_bytes (section_row_with name x p)) s ∙ sym (append-nil (section_row_bytes (section_row_with name (slice_index places n) p))));
  at = omega (arith, e);
  name = omega (arith, sum_by-cons part_name_size p []);
  len = l;
}

pub rows_more : (places : List ℕ) (n m : ℕ) (a b c : List ℕ) (x y z : NextRow) (ps qs all : List Part) → PlacesRows places n a b x y ps → PlacesRows places m b c y z qs → m ≡ n + length ps → all ≡ ps ++ qs → PlacesRows places n a c x z all
rows_more places n m a b c x y z ps qs all f g e w =
    let joined : bytes_at places n x.name ps ++ bytes_at places m y.name qs ≡ bytes_at places n x.name (ps ++ qs) =
    ap (λ k. bytes_at places n x.name ps ++ bytes_at places k y.name qs) e
    ∙ ap (λ k. bytes_at places n x.name ps ++ bytes_at places (n + length ps) k qs) f.name
    ∙ sym (flat_map-append section_row_bytes (rows_at places n x.name ps) (rows_at places (n + length ps) (x.name + sum_by part_name_size ps) qs))
    ∙ ap (flat_map section_row_bytes) (sym (rows_at-append places n x.name ps qs)) in
    rw w
    (record {
      rows = g.rows ∙ ap (λ l. l ++ bytes_at places m y.name qs) f.rows ∙ append_assoc (take x.at a) (bytes_at places n x.name ps) (bytes_at places m y.name qs) ∙ ap (λ l. take x.at a ++ l) joined;
      at = omega (arith, f.at, g.at, length-append ps qs);
      name = omega (arith, f.name, g.name, sum_by-append part_name_size ps qs);
      len = g.len ∙ f.len;
    })

-- ---- the room for what is left

room_more : (places : List ℕ) (n m : ℕ) (a b : List ℕ) (x y : NextRow) (ps qs all : List Part) → HasRoom places n a x all → PlacesRows places n a b x y ps → m ≡ n + length ps → all ≡ ps ++ qs → HasRoom places m b y qs
room_more places n m a b x y ps qs all h f e w =
    let count : length all ≡ length ps + length qs = ap length w ∙ length-append ps qs in
    let names : sum_by part_name_size all ≡ sum_by part_name_size ps + sum_by part_name_size qs = ap (sum_by part_name_size) w ∙ sum_by-append part_name_size ps qs in
    record {
      at = omega (arith, h.at, f.at, f.len, count);
      name = omega (arith, h.name, f.name, names);
      each = omega (arith, h.each, e, count);
    }

room_front : (places : List ℕ) (n : ℕ) (a : List ℕ) (x : NextRow) (ps qs all : List Part) → HasRoom places n a x all → all ≡ ps ++ qs → HasRoom places n a x ps
room_front places n a x ps qs all h w =
    let count : length all ≡ length ps + length qs = ap length w ∙ length-append ps qs in
    let names : sum_by part_name_size all ≡ sum_by part_name_size ps + sum_by part_name_size qs = ap (sum_by part_name_size) w ∙ sum_by-append part_name_size ps qs in
    record { at = omega (arith, h.at, count); name = omega (arith, h.name, names); each = omega (arith, h.each, count) }

-- the next part has room
pub room_next : (places : List ℕ) (n m : ℕ) (a b : List ℕ) (x y : NextRow) (p : Part) (ps qs all : List Part) → HasRoom places n a x all → PlacesRows places n a b x y ps → m ≡ n + length ps → all ≡ ps ++ p ∷ qs → HasRoom places m b y (p ∷ [])
room_next places n m a b x y p ps qs all h f e w = room_front places m b y (p ∷ []) qs (p ∷ qs) (room_more places n m a b x y ps (p ∷ qs) all h f e w) refl

-- ---- all headers

rows_by_places : (places : List ℕ) (k name end : ℕ) (ps : List Part) → drop k places ≡ starts_from end ps → rows_at places k name ps ≡ section_rows_from name end ps
unfolding rows_at starts_from section_rows_from
rows_by_places places k name end [] e = refl
rows_by_places places k name end (p ∷ ps) e =
    ap (λ x. section_row_with name x p ∷ rows_at places (k + 1) (name + (length p.name + 1)) ps) (index_first places k (start_after end p) (starts_from (end_after end p) ps) e)
    ∙ ap (λ l. section_row_with name (start_after end p) p ∷ l) (rows_by_places places (k + 1) (name + (length p.name + 1)) (end_after end p) ps (drop_next places k (start_after end p) (starts_from (end_after end p) ps) e))

-- the null header and those of all parts
pub rows_whole : (places out mid new : List ℕ) (at : ℕ) (from to : NextRow) (ps : List Part) → places ≡ places_of ps → from.name ≡ 1 → take from.at mid ≡ take at out ++ section_row_bytes null_section → PlacesRows places 0 mid new from to ps
    → take to.at new ≡ take at out ++ flat_map section_row_bytes (section_rows ps)
rows_whole places out mid new at from to ps e n f r =
    r.rows
    ∙ ap (λ l. l ++ bytes_at places 0 from.name ps) f
    ∙ append_assoc (take at out) (section_row_bytes null_section) (bytes_at places 0 from.name ps)
    ∙ ap (λ k. take at out ++ (section_row_bytes null_section ++ bytes_at places 0 k ps)) n
    ∙ ap (λ l. take at out ++ (section_row_bytes null_section ++ flat_map section_row_bytes l)) (rows_by_places places 0 1 64 ps (e ∙ places_are ps))

-- the headers of contents, note, relocations and tables one after the other
pub rows_joined : (places : List ℕ) (n1 n2 n3 : ℕ) (o1 o2 o3 o4 o5 : List ℕ) (x1 x2 x3 x4 x5 : NextRow) (note : Part) (cs rs ts all : List Part) → PlacesRows places 0 o1 o2 x1 x2 cs → PlacesRows places n1 o2 o3 x2 x3 (note ∷ [])
    → PlacesRows places n2 o3 o4 x3 x4 rs → PlacesRows places n3 o4 o5 x4 x5 ts → n1 ≡ length cs → n2 ≡ n1 + 1 → n3 ≡ n2 + length rs → all ≡ cs ++ note ∷ rs ++ ts → PlacesRows places 0 o1 o5 x1 x5 all
rows_joined places n1 n2 n3 o1 o2 o3 o4 o5 x1 x2 x3 x4 x5 note cs rs ts all c n r t e1 e2 e3 w =
    let middle = rows_more places n1 n2 o2 o3 o4 x2 x3 x4 (note ∷ []) rs (note ∷ rs) n r e2 refl in
    let front = rows_more places 0 n1 o1 o2 o4 x1 x2 x4 cs (note ∷ rs) (cs ++ note ∷ rs) c middle (omega (arith, e1)) refl in
    rows_more places 0 n3 o1 o4 o5 x1 x4 x5 (cs ++ note ∷ rs) ts all front t (omega (arith, e1, e2, e3, length-append cs (note ∷ rs))) w

part_names_sum : (ps : List Part) → sum_by part_name_size ps ≡ sum_by (λ name. length name + 1) (map part_name ps)
part_names_sum [] = refl
part_names_sum (p ∷ ps) = omega (arith, sum_by-cons part_name_size p ps, sum_by-cons (λ (name : List ℕ). length name + 1) p.name (map part_name ps), part_names_sum ps)

part_names_are : (t : ElfTable) → 1 + sum_by part_name_size (parts_of t) ≡ strings_size (section_names t)
part_names_are t = ap (λ n. 1 + n) (part_names_sum (parts_of t)) ∙ ap strings_size (names_of_parts t)

-- ---- places below 2 ^ 64

pub place_is : (r : Option ℕ) (n x : ℕ) → MatchOption r (2 ^ 64 ≤ n) (λ y. y ≡ n) → r ≡ Some x → x ≡ n
place_is None n x m e = absurd (cc)
place_is (Some y) n x m e = let same : y ≡ x = cc in sym same ∙ m

-- ---- the rooms of contents, note, relocations and tables

pub room_whole : (places out : List ℕ) (at : ℕ) (t : ElfTable) → places ≡ places_of (parts_of t) → at + 64 * length (parts_of t) ≤ length out → strings_size (section_names t) < 2 ^ 32 → HasRoom places 0 out (record { at = at; name = 1 }) (parts_of t)
room_whole places out at t e room names = record { at = room; name = omega (arith, part_names_are t, names); each = omega (arith, ap length e ∙ length-places_of (parts_of t)) }

pub room_contents : (places out : List ℕ) (x : NextRow) (note : Part) (cs rs ts all : List Part) → HasRoom places 0 out x all → all ≡ cs ++ note ∷ rs ++ ts → HasRoom places 0 out x cs
room_contents places out x note cs rs ts all h w = room_front places 0 out x cs (note ∷ rs ++ ts) all h (w ∙ append_assoc cs (note ∷ rs) ts)

room_behind : (places : List ℕ) (n1 : ℕ) (o1 o2 : List ℕ) (x1 x2 : NextRow) (note : Part) (cs rs ts all : List Part) → HasRoom places 0 o1 x1 all → all ≡ cs ++ note ∷ rs ++ ts → PlacesRows places 0 o1 o2 x1 x2 cs → n1 ≡ length cs
    → HasRoom places n1 o2 x2 (note ∷ rs ++ ts)
room_behind places n1 o1 o2 x1 x2 note cs rs ts all h w c e = room_more places 0 n1 o1 o2 x1 x2 cs (note ∷ rs ++ ts) all h c (omega (arith, e)) (w ∙ append_assoc cs (note ∷ rs) ts)

pub room_note : (places : List ℕ) (n1 : ℕ) (o1 o2 : List ℕ) (x1 x2 : NextRow) (note : Part) (cs rs ts all : List Part) → HasRoom places 0 o1 x1 all → all ≡ cs ++ note ∷ rs ++ ts → PlacesRows places 0 o1 o2 x1 x2 cs → n1 ≡ length cs
    → HasRoom places n1 o2 x2 (note ∷ [])
room_note places n1 o1 o2 x1 x2 note cs rs ts all h w c e = room_front places n1 o2 x2 (note ∷ []) (rs ++ ts) (note ∷ rs ++ ts) (room_behind places n1 o1 o2 x1 x2 note cs rs ts all h w c e) refl

room_rest : (places : List ℕ) (n1 n2 : ℕ) (o1 o2 o3 : List ℕ) (x1 x2 x3 : NextRow) (note : Part) (cs rs ts all : List Part) → HasRoom places 0 o1 x1 all → all ≡ cs ++ note ∷ rs ++ ts → PlacesRows places 0 o1 o2 x1 x2 cs → n1 ≡ length cs
    → PlacesRows places n1 o2 o3 x2 x3 (note ∷ []) → n2 ≡ n1 + 1 → HasRoom places n2 o3 x3 (rs ++ ts)
room_rest places n1 n2 o1 o2 o3 x1 x2 x3 note cs rs ts all h w c e n g = room_more places n1 n2 o2 o3 x2 x3 (note ∷ []) (rs ++ ts) (note ∷ rs ++ ts) (room_behind places n1 o1 o2 x1 x2 note cs rs ts all h w c e) n g refl

pub room_relocations : (places : List ℕ) (n1 n2 : ℕ) (o1 o2 o3 : List ℕ) (x1 x2 x3 : NextRow) (note : Part) (cs rs ts all : List Part) → HasRoom places 0 o1 x1 all → all ≡ cs ++ note ∷ rs ++ ts → PlacesRows places 0 o1 o2 x1 x2 cs → n1 ≡ length cs
    → PlacesRows places n1 o2 o3 x2 x3 (note ∷ []) → n2 ≡ n1 + 1 → HasRoom places n2 o3 x3 rs
room_relocations places n1 n2 o1 o2 o3 x1 x2 x3 note cs rs ts all h w c e n g = room_front places n2 o3 x3 rs ts (rs ++ ts) (room_rest places n1 n2 o1 o2 o3 x1 x2 x3 note cs rs ts all h w c e n g) refl

pub room_tables : (places : List ℕ) (n1 n2 n3 : ℕ) (o1 o2 o3 o4 : List ℕ) (x1 x2 x3 x4 : NextRow) (note : Part) (cs rs ts all : List Part) → HasRoom places 0 o1 x1 all → all ≡ cs ++ note ∷ rs ++ ts → PlacesRows places 0 o1 o2 x1 x2 cs
    → n1 ≡ length cs → PlacesRows places n1 o2 o3 x2 x3 (note ∷ []) → n2 ≡ n1 + 1 → PlacesRows places n2 o3 o4 x3 x4 rs → n3 ≡ n2 + length rs → HasRoom places n3 o4 x4 ts
room_tables places n1 n2 n3 o1 o2 o3 o4 x1 x2 x3 x4 note cs rs ts all h w c e n g r k =
    room_more places n2 n3 o3 o4 x3 x4 rs ts (rs ++ ts) (room_rest places n1 n2 o1 o2 o3 x1 x2 x3 note cs rs ts all h w c e n g) r k refl

-- how many parts are there
pub parts_count : (note : Part) (cs rs ts all : List Part) → all ≡ cs ++ note ∷ rs ++ ts → length all ≡ length cs + (1 + length rs) + length ts
parts_count note cs rs ts all w = ap length w ∙ length-append (cs ++ note ∷ rs) ts ∙ ap (λ n. n + length ts) (length-append cs (note ∷ rs)) ∙ omega arith

-- the places of contents, note, relocations and tables one after the other
pub pushes_joined : (a b c d f : List ℕ) (e1 e2 e3 e4 e5 : ℕ) (note : Part) (cs rs ts all : List Part) → PushesPlaces a b e1 e2 cs → PushesPlaces b c e2 e3 (note ∷ []) → PushesPlaces c d e3 e4 rs → PushesPlaces d f e4 e5 ts → all ≡ cs ++ note ∷ rs ++ ts
    → PushesPlaces a f e1 e5 all
pushes_joined a b c d f e1 e2 e3 e4 e5 note cs rs ts all p n r t w =
    let middle = pushes_more b c d e2 e3 e4 (note ∷ []) rs (note ∷ rs) n r refl in
    pushes_more a d f e1 e4 e5 (cs ++ note ∷ rs) ts all (pushes_more a b d e1 e2 e4 cs (note ∷ rs) (cs ++ note ∷ rs) p middle refl) t w

-- ---- parts that start at the places that are kept

has_front : (places : List ℕ) (n end : ℕ) (ps qs : List Part) → HasStarts places n end (ps ++ qs) → HasStarts places n end ps
unfolding HasStarts
has_front places n end [] qs h = tt
has_front places n end (p ∷ ps) qs h = (h.0, has_front places (n + 1) (end_after end p) ps qs h.1)

has_back : (places : List ℕ) (n end : ℕ) (ps qs : List Part) → HasStarts places n end (ps ++ qs) → HasStarts places (n + length ps) (fold end_after end ps) qs
unfolding HasStarts
has_back places n end [] qs h = let same : n + 0 ≡ n = omega arith in rw same h
has_back places n end (p ∷ ps) qs h =
    let same : n + 1 + length ps ≡ n + length (p ∷ ps) = omega arith in
    subst (λ k. HasStarts places k (fold end_after (end_after end p) ps) qs) same (has_back places (n + 1) (end_after end p) ps qs h.1)

has_both : (places : List ℕ) (n end : ℕ) (ps qs : List Part) → HasStarts places n end ps → HasStarts places (n + length ps) (fold end_after end ps) qs → HasStarts places n end (ps ++ qs)
unfolding HasStarts
has_both places n end [] qs h g = let same : n + 0 ≡ n = omega arith in rw same at g
has_both places n end (p ∷ ps) qs h g =
    let same : n + length (p ∷ ps) ≡ n + 1 + length ps = omega arith in
    (h.0, has_both places (n + 1) (end_after end p) ps qs h.1 (subst (λ k. HasStarts places k (fold end_after (end_after end p) ps) qs) same g))

pub stand_none : (places : List ℕ) (n end : ℕ) → StandBehind places n end end []
unfolding HasStarts
stand_none places n end = record { starts = tt; end = refl }

pub stand_one : (places : List ℕ) (n end next : ℕ) (p : Part) → (slice_get places n ≡ Some (start_after end p)) × (next ≡ end_after end p) → StandBehind places n end next (p ∷ [])
unfolding HasStarts
stand_one places n end next p h = record { starts = (h.0, tt); end = h.1 }

pub stand_more : (places : List ℕ) (n m x y z : ℕ) (ps qs all : List Part) → StandBehind places n x y ps → StandBehind places m y z qs → m ≡ n + length ps → all ≡ ps ++ qs → StandBehind places n x z all
stand_more places n m x y z ps qs all f g e w =
    let behind = subst (λ k. HasStarts places (n + length ps) k qs) f.end (subst (λ k. HasStarts places k y qs) e g.starts) in
    rw w (record { starts = has_both places n x ps qs f.starts behind; end = g.end ∙ ap (λ k. fold end_after k qs) f.end ∙ sym (fold-append end_after x ps qs) })

-- what can't be among the parts can't be in front of them
pub stops : (places : List ℕ) (n m x y : ℕ) (ps part rest all : List Part) → StandBehind places n x y ps → m ≡ n + length ps → all ≡ ps ++ (part ++ rest) → (HasStarts places m y part → 2 ^ 64 ≤ fold end_after y part) → HasStarts places n x all → 2 ^ 64 ≤ fold end_after x all
stops places n m x y ps part rest all f e w over h =
    let behind = has_back places n x ps (part ++ rest) (subst (HasStarts places n x) w h) in
    let here = has_front places (n + length ps) (fold end_after x ps) part rest behind in
    let moved = subst (λ k. HasStarts places m k part) (sym f.end) (subst (λ k. HasStarts places k (fold end_after x ps) part) (sym e) here) in
    omega (
      arith,
      over moved,
      ap (λ k. fold end_after k part) f.end,
      ends-le (fold end_after (fold end_after x ps) part) rest,
      fold-append end_after (fold end_after x ps) part rest,
      fold-append end_after x ps (part ++ rest),
      ap (fold end_after x) w,
    )

pub one_stops : (places : List ℕ) (n end : ℕ) (p : Part) → (slice_get places n ≡ Some (start_after end p) → 2 ^ 64 ≤ end_after end p) → HasStarts places n end (p ∷ []) → 2 ^ 64 ≤ fold end_after end (p ∷ [])
unfolding HasStarts
one_stops places n end p over h = over h.0

-- a part that is told in other words
pub over_as : (places : List ℕ) (n end : ℕ) (p q : Part) → p ≡ q → (HasStarts places n end (p ∷ []) → 2 ^ 64 ≤ fold end_after end (p ∷ [])) → HasStarts places n end (q ∷ []) → 2 ^ 64 ≤ fold end_after end (q ∷ [])
over_as places n end p q e f = subst (λ x. HasStarts places n end (x ∷ []) → 2 ^ 64 ≤ fold end_after end (x ∷ [])) e f

-- relocations past the numbers of 64 bits
pub records_over : (end link n : ℕ) (s : SectionData) → 2 ^ 64 ≤ 24 * length s.relocations → 2 ^ 64 ≤ fold end_after end (relocation_part_of link (n, s) ∷ [])
records_over end link n s h = omega (arith, h)

-- ---- all places

starts_here : (places : List ℕ) (k end : ℕ) (ps : List Part) → HasStarts places k end ps → length places ≡ k + length ps → drop k places ≡ starts_from end ps
unfolding HasStarts starts_from
starts_here places k end [] h n = drop_all k places (omega (arith, n))
starts_here places k end (p ∷ ps) h n = get_drop places k (start_after end p) h.0 ∙ ap (λ l. start_after end p ∷ l) (starts_here places (k + 1) (end_after end p) ps h.1 (omega (arith, n)))

starts_held : (places : List ℕ) (k end : ℕ) (ps : List Part) → drop k places ≡ starts_from end ps → HasStarts places k end ps
unfolding HasStarts starts_from
starts_held places k end [] e = tt
starts_held places k end (p ∷ ps) e = (first_get places k (start_after end p) (starts_from (end_after end p) ps) e, starts_held places (k + 1) (end_after end p) ps (drop_next places k (start_after end p) (starts_from (end_after end p) ps) e))

places_stand : (places : List ℕ) (ps : List Part) → HasStarts places 0 64 ps → length places ≡ length ps → places ≡ places_of ps
places_stand places ps h n = starts_here places 0 64 ps h (omega (arith, n)) ∙ sym (places_are ps)

pub places_held : (places : List ℕ) (ps : List Part) → places ≡ places_of ps → HasStarts places 0 64 ps
places_held places ps e = starts_held places 0 64 ps (e ∙ places_are ps)

-- the last of the parts
pub last_part : (r : Option ℕ) (places : List ℕ) (m y : ℕ) (ps part all : List Part) → StandBehind places 0 64 y ps → m ≡ 0 + length ps → all ≡ ps ++ part → EndsAt r places m y part → EndsAt r places 0 64 all
last_part None places m y ps part all f e w r = stops places 0 m 64 y ps part [] all f e (w ∙ ap (λ l. ps ++ l) (sym (append-nil part))) r
last_part (Some z) places m y ps part all f e w r = stand_more places 0 m 64 y z ps part all f r e w

-- the parts up to the relocations, and those behind
pub note_split : (note : Part) (cs rs ts all : List Part) → all ≡ cs ++ note ∷ rs ++ ts → all ≡ cs ++ note ∷ [] ++ (rs ++ ts)
note_split note cs rs ts all w = w ∙ append_assoc cs (note ∷ rs) ts ∙ sym (append_assoc cs (note ∷ []) (rs ++ ts))

pub over_length : (t : ElfTable) → 2 ^ 64 ≤ fold end_after 64 (parts_of t) → 2 ^ 64 ≤ file_length t
unfolding end_of_parts
over_length t h = omega (arith, h)

length_is : (places : List ℕ) (end count : ℕ) (t : ElfTable) → StandBehind places 0 64 end (parts_of t) → count ≡ length (parts_of t) → next_multiple_of end 8 + 64 * (count + 1) ≡ file_length t
unfolding end_of_parts
length_is places end count t f n = ap (λ m. next_multiple_of end 8 + 64 * (m + 1)) n ∙ ap (λ m. next_multiple_of m 8 + 64 * (length (parts_of t) + 1)) f.end

-- the length that is counted is that of the file
pub length_found : (r : Option ℕ) (places : List ℕ) (end count : ℕ) (t : ElfTable) → StandBehind places 0 64 end (parts_of t) → count ≡ length places → length places ≡ length (parts_of t)
    → MatchOption r (2 ^ 64 ≤ next_multiple_of end 8 + 64 * (count + 1)) (λ l. l ≡ next_multiple_of end 8 + 64 * (count + 1)) → MatchOption r (places ≡ places_of (parts_of t) → 2 ^ 64 ≤ file_length t) (λ l. HasPlaces places l t)
length_found None places end count t f c n m = λ e. let same = length_is places end count t f (c ∙ n) in omega (arith, m, same)
length_found (Some l) places end count t f c n m = record { starts = places_stand places (parts_of t) f.starts n; end = m ∙ length_is places end count t f (c ∙ n) }
